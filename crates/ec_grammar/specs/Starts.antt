-- What the parts of a program begin with.
use Rattle.std.specs.Prelude.{Bool, true, false}
use Rattle.ec_ctypes.specs.declared.text.token.Punct.TheVariants as p
use Rattle.ec_grammar.specs.declared.kind.Kind.{Kind}
use Rattle.ec_grammar.specs.declared.kind.Kind.TheVariants as k

abbrev pub is_star : Kind → Bool
is_star (k.Mark p.Star) = true
is_star _ = false

abbrev pub is_comma : Kind → Bool
is_comma (k.Mark p.Comma) = true
is_comma _ = false

abbrev pub is_left_parenthesis : Kind → Bool
is_left_parenthesis (k.Mark p.LeftParen) = true
is_left_parenthesis _ = false

abbrev pub is_left_bracket : Kind → Bool
is_left_bracket (k.Mark p.LeftBracket) = true
is_left_bracket _ = false

abbrev pub is_left_brace : Kind → Bool
is_left_brace (k.Mark p.LeftBrace) = true
is_left_brace _ = false

abbrev pub is_assign : Kind → Bool
is_assign (k.Mark p.Assign) = true
is_assign _ = false

abbrev pub is_const : Kind → Bool
is_const k.Const = true
is_const _ = false

abbrev pub is_name : Kind → Bool
is_name k.Name = true
is_name _ = false

abbrev pub is_else : Kind → Bool
is_else k.Else = true
is_else _ = false

abbrev pub begins_type : Kind → Bool
begins_type k.Const = true
begins_type k.TypeWord = true
begins_type k.Varchar = true
begins_type k.Struct = true
begins_type _ = false

abbrev pub begins_postfix_part : Kind → Bool
begins_postfix_part (k.Mark p.LeftBracket) = true
begins_postfix_part (k.Mark p.Dot) = true
begins_postfix_part (k.Mark p.Arrow) = true
begins_postfix_part (k.Mark p.PlusPlus) = true
begins_postfix_part (k.Mark p.MinusMinus) = true
begins_postfix_part (k.Mark p.LeftParen) = true
begins_postfix_part _ = false

abbrev pub begins_expression : Kind → Bool
begins_expression (k.Mark p.LeftParen) = true
begins_expression (k.Mark p.PlusPlus) = true
begins_expression (k.Mark p.MinusMinus) = true
begins_expression (k.Mark p.And) = true
begins_expression (k.Mark p.Star) = true
begins_expression (k.Mark p.Plus) = true
begins_expression (k.Mark p.Minus) = true
begins_expression (k.Mark p.Tilde) = true
begins_expression (k.Mark p.Not) = true
begins_expression k.Sizeof = true
begins_expression k.Name = true
begins_expression k.Integer = true
begins_expression k.Character = true
begins_expression k.Text = true
begins_expression _ = false

abbrev pub begins_initializer : Kind → Bool
begins_initializer (k.Mark p.LeftBrace) = true
begins_initializer j = begins_expression j

abbrev pub begins_declarator : Kind → Bool
begins_declarator (k.Mark p.Star) = true
begins_declarator k.Name = true
begins_declarator _ = false

abbrev pub begins_statement : Kind → Bool
begins_statement (k.Mark p.Semicolon) = true
begins_statement (k.Mark p.LeftBrace) = true
begins_statement k.Executable = true
begins_statement k.Directive = true
begins_statement k.If = true
begins_statement k.While = true
begins_statement k.Do = true
begins_statement k.For = true
begins_statement k.Break = true
begins_statement k.Continue = true
begins_statement k.Return = true
begins_statement k.Goto = true
begins_statement j = begins_expression j

abbrev pub begins_block_item : Kind → Bool
begins_block_item k.Const = true
begins_block_item k.TypeWord = true
begins_block_item k.Varchar = true
begins_block_item k.Struct = true
begins_block_item k.Opening = true
begins_block_item k.Closing = true
begins_block_item j = begins_statement j

abbrev pub begins_item : Kind → Bool
begins_item k.Include = true
begins_item k.Directive = true
begins_item k.Opening = true
begins_item k.Closing = true
begins_item k.Static = true
begins_item k.Const = true
begins_item k.TypeWord = true
begins_item k.Varchar = true
begins_item k.Struct = true
begins_item _ = false
