-- Which expressions are read one level deeper, and what the code's trees stand for.
use Rattle.std.specs.Prelude.{ℕ, List, [], ◌∷◌, map, Option, option_map}
use Rattle.ec_ctypes.specs.declared.text.token.Punct.TheVariants as p
use Rattle.ec_ctypes.specs.declared.tree.decl.Base.{Base}
use Rattle.ec_ctypes.specs.declared.tree.decl.Decl.{Decl}
use Rattle.ec_ctypes.specs.declared.tree.decl.Declarator.{Declarator}
use Rattle.ec_ctypes.specs.declared.tree.decl.Init.{Init}
use Rattle.ec_ctypes.specs.declared.tree.expr.Expr.{Expr}
use Rattle.ec_ctypes.specs.declared.tree.unit.Param.{Param}
use Rattle.ec_ctypes.specs.trees.Exprs.{ExprData, BaseData, InitData, DeclaratorData, DeclData}
use Rattle.ec_ctypes.specs.trees.Units.{ParamData}
use Rattle.ec_ctypes.specs.views.Exprs.{expr_view, expr_option_view, base_view, init_view, declarator_view, decl_view}
use Rattle.ec_ctypes.specs.views.Units.{param_view}
use Rattle.ec_language.specs.Productions.{Start as StartData, ForStart as ForStartData, for_expression, for_declaration, ForHead as ForHeadData}
use Rattle.ec_language.specs.Grammar.{Limits}
use Rattle.ec_grammar.specs.declared.kind.Kind.TheVariants as k
use Rattle.ec_grammar.specs.Input.{Parser, ◌>>=◌, ◌>>◌, pure, expect, own}
use Rattle.ec_grammar.specs.Nested.{Nested}
use Rattle.ec_grammar.specs.ReadDeclarations.{declarator_part, more_declarators}
use Rattle.ec_grammar.specs.ReadExpressions.{expression_option}
use Rattle.ec_cursor.specs.declared.cursor.Start.{Start}
use Rattle.ec_cursor.specs.declared.parts.Subexpression.{Subexpression}
use Rattle.ec_cursor.specs.declared.parts.Subexpression.TheVariants as sub
use Rattle.ec_cursor.specs.declared.parts.ForHead.{ForHead}
use Rattle.ec_cursor.specs.declared.parts.ForStart.{ForStart}
use Rattle.ec_cursor.specs.declared.parts.ForStart.TheVariants as first

abbrev pub subexpression_of : Subexpression → Nested → Parser ExprData
subexpression_of sub.Assignment n = n.assignment
subexpression_of sub.Operators n = n.operators
subexpression_of sub.Cast n = n.cast_part
subexpression_of sub.Unary n = n.unary_part
subexpression_of sub.SizeOperand n = n.size_operand
subexpression_of sub.Parenthesized n = n.parenthesized
subexpression_of sub.Index n = n.index_part

-- ---- lists, as the plain reading has them

abbrev pub each_expr : List Expr → List ExprData
each_expr = map expr_view

abbrev pub each_length : List (Option Expr) → List (Option ExprData)
each_length = map expr_option_view

abbrev pub each_init : List Init → List InitData
each_init = map init_view

abbrev pub init_option : Option Init → Option InitData
init_option = option_map init_view

abbrev pub each_declarator : List Declarator → List DeclaratorData
each_declarator = map declarator_view

abbrev pub each_decl : List Decl → List DeclData
each_decl = map decl_view

abbrev pub decls_option : Option (List Decl) → Option (List DeclData)
decls_option = option_map each_decl

abbrev pub each_param : List Param → List ParamData
each_param = map param_view

abbrev pub type_view : Base × ℕ → BaseData × ℕ
type_view t = (base_view t.0, t.1)

abbrev pub start_view : Start → StartData
start_view s = record { line = s.line; section = s.section }

abbrev pub for_start_view : ForStart → ForStartData
for_start_view (first.Expression e) = for_expression (expr_option_view e)
for_start_view (first.Declaration d) = for_declaration (decl_view d)

abbrev pub for_head_view : ForHead → ForHeadData
for_head_view h = record {
  first = for_start_view h.first;
  condition = expr_option_view h.condition;
  step = expr_option_view h.step;
}

-- ---- one declarator, and further ones

abbrev pub some_declarators : Limits → Nested → Parser (List DeclaratorData)
some_declarators most inner = do
  x ← own (declarator_part most inner)
  more_declarators most inner (x ∷ [])

-- ---- the head of a `for`, behind its first part
abbrev pub for_step : Limits → Nested → ForStartData → Option ExprData → Parser ForHeadData
for_step most inner first condition = do
  step ← expression_option most inner
  expect (k.Mark p.RightParen)
  pure (record { first = first; condition = condition; step = step })

abbrev pub for_condition : Limits → Nested → ForStartData → Parser ForHeadData
for_condition most inner first = do
  condition ← expression_option most inner
  expect (k.Mark p.Semicolon)
  for_step most inner first condition
