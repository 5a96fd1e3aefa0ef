-- Whether a token is of a kind, in the words of the plain reading where it has one.
use Rattle.std.specs.Prelude.{Bool}
use Rattle.ec_ctypes.specs.declared.text.token.Punct.TheVariants as p
use Rattle.ec_grammar.specs.declared.kind.Kind.{Kind}
use Rattle.ec_grammar.specs.declared.kind.Kind.TheVariants as k
use Rattle.ec_grammar.specs.Kinds.{same_kind}
use Rattle.ec_grammar.specs.Starts.{is_star, is_comma, is_left_parenthesis, is_left_bracket, is_left_brace, is_assign, is_const, is_name, is_else}

abbrev pub sees : Kind → Kind → Bool
sees (k.Mark p.Star) j = is_star j
sees (k.Mark p.Comma) j = is_comma j
sees (k.Mark p.LeftParen) j = is_left_parenthesis j
sees (k.Mark p.LeftBracket) j = is_left_bracket j
sees (k.Mark p.LeftBrace) j = is_left_brace j
sees (k.Mark p.Assign) j = is_assign j
sees k.Const j = is_const j
sees k.Name j = is_name j
sees k.Else j = is_else j
sees i j = same_kind j i
