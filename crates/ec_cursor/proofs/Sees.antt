-- That the next token is of a kind.
use Rattle.std.proofs.Common.{◌≡◌, refl}
use Rattle.ec_ctypes.specs.declared.text.token.Punct.TheVariants as p
use Rattle.ec_grammar.specs.declared.kind.Kind.{Kind}
use Rattle.ec_grammar.specs.declared.kind.Kind.TheVariants as k
use Rattle.ec_grammar.specs.Kinds.{same_kind}
use Rattle.ec_grammar.specs.Starts.{is_star, is_comma, is_left_parenthesis, is_left_bracket, is_left_brace, is_assign, is_const, is_name, is_else}
use Rattle.ec_cursor.specs.Sees.{sees}

star : (j : Kind) → same_kind j (k.Mark p.Star) ≡ is_star j
star (k.Mark p.Star) = refl
star _ = refl

comma : (j : Kind) → same_kind j (k.Mark p.Comma) ≡ is_comma j
comma (k.Mark p.Comma) = refl
comma _ = refl

left_parenthesis : (j : Kind) → same_kind j (k.Mark p.LeftParen) ≡ is_left_parenthesis j
left_parenthesis (k.Mark p.LeftParen) = refl
left_parenthesis _ = refl

left_bracket : (j : Kind) → same_kind j (k.Mark p.LeftBracket) ≡ is_left_bracket j
left_bracket (k.Mark p.LeftBracket) = refl
left_bracket _ = refl

left_brace : (j : Kind) → same_kind j (k.Mark p.LeftBrace) ≡ is_left_brace j
left_brace (k.Mark p.LeftBrace) = refl
left_brace _ = refl

assign : (j : Kind) → same_kind j (k.Mark p.Assign) ≡ is_assign j
assign (k.Mark p.Assign) = refl
assign _ = refl

constant : (j : Kind) → same_kind j k.Const ≡ is_const j
constant k.Const = refl
constant _ = refl

named : (j : Kind) → same_kind j k.Name ≡ is_name j
named k.Name = refl
named _ = refl

else_word : (j : Kind) → same_kind j k.Else ≡ is_else j
else_word k.Else = refl
else_word _ = refl

pub same_is_sees : (i j : Kind) → same_kind j i ≡ sees i j
same_is_sees (k.Mark p.Star) j = star j
same_is_sees (k.Mark p.Comma) j = comma j
same_is_sees (k.Mark p.LeftParen) j = left_parenthesis j
same_is_sees (k.Mark p.LeftBracket) j = left_bracket j
same_is_sees (k.Mark p.LeftBrace) j = left_brace j
same_is_sees (k.Mark p.Assign) j = assign j
same_is_sees k.Const j = constant j
same_is_sees k.Name j = named j
same_is_sees k.Else j = else_word j
same_is_sees _ j = refl
