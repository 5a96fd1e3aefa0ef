-- What the readers of expressions do in one branch, in the words of the plain reading.
use Rattle.ec_ctypes.specs.trees.Exprs.{ExprData, cast, size_type, size_expr}
use Rattle.ec_language.specs.Grammar.{Limits}
use Rattle.std.specs.Prelude.{Bool}
use Rattle.ec_language.specs.Productions.{or_rank}
use Rattle.ec_grammar.specs.declared.kind.Kind.{Kind}
use Rattle.ec_grammar.specs.Input.{Parser, ◌>>=◌, pure}
use Rattle.ec_grammar.specs.Nested.{Nested}
use Rattle.ec_grammar.specs.ReadExpressions.{assignment, operators, cast_part, unary_part, size_operand, parenthesized, index_part}
use Rattle.ec_grammar.specs.Starts.{begins_expression, is_left_parenthesis, is_left_bracket}
use Rattle.ec_cursor.specs.declared.parts.Subexpression.{Subexpression}
use Rattle.ec_cursor.specs.declared.parts.Subexpression.TheVariants as sub

module _ (most : Limits) (inner : Nested) where
  -- a type in parentheses, and what is cast to it
  abbrev pub cast_by : Parser ExprData
  cast_by = do t ← inner.type_in_parentheses; e ← inner.cast_part; pure (cast t.0 t.1 e)

  abbrev pub size_by_type : Parser ExprData
  size_by_type = do t ← inner.type_in_parentheses; pure (size_type t.0 t.1)

  abbrev pub size_by_expression : Parser ExprData
  size_by_expression = do e ← unary_part most inner; pure (size_expr e)

  -- a subexpression, where it stands itself
  abbrev pub subexpression_at : Subexpression → Parser ExprData
  subexpression_at sub.Assignment = assignment most inner
  subexpression_at sub.Operators = operators most inner or_rank
  subexpression_at sub.Cast = cast_part most inner
  subexpression_at sub.Unary = unary_part most inner
  subexpression_at sub.SizeOperand = size_operand most inner
  subexpression_at sub.Parenthesized = parenthesized most inner
  subexpression_at sub.Index = index_part most inner

-- whether a token begins the subexpression
abbrev pub begins_subexpression : Subexpression → Kind → Bool
begins_subexpression sub.Parenthesized k = is_left_parenthesis k
begins_subexpression sub.Index k = is_left_bracket k
begins_subexpression _ k = begins_expression k
