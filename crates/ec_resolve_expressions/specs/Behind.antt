-- Expressions that lean to the left: what is found of the left part first, and then the expression behind it.
use Rattle.std.specs.Prelude.{true, false, List, [], ◌∷◌}
use Rattle.ec_ctypes.specs.declared.tree.expr.UnOp.TheVariants.{Addr}
use Rattle.ec_ctypes.specs.trees.Exprs.{ExprData, ExprList, integer, character, string, identifier, unary, binary, assign, bump, call, call_other, index, member, arrow, cast, size_type, size_expr}
use Rattle.ec_typing_defs.specs.Known.{ArgumentsData, all_expressions, is_no_expression}
use Rattle.ec_typing_defs.specs.Worlds.{Place}
use Rattle.ec_resolving_defs.specs.Expressions.{expr, args, library_literal}
use Rattle.ec_resolving_defs.specs.Operands.{Found, no_expression, value_rule, address_rule, unary_rule, binary_rule, index_rule, bump_rule, member_rule, arrow_rule, size_rule, is_library_literal}
use Rattle.ec_resolving_defs.specs.Storage.{Resolving, ◌>>=◌, ◌>>◌, pure}

-- a call of what is no name of a function is a fault
abbrev pub other_call : Place → ExprList → Resolving Found
other_call at es = do
  args at all_expressions es
  pure no_expression

-- an expression behind what is found of its left part
abbrev pub behind : Place → ExprData → Found → Resolving Found
behind at (integer n t) f = pure f
behind at (character c) f = pure f
behind at (string s) f = pure f
behind at (identifier x) f = pure f
behind at (unary Addr e) f = address_rule at f
behind at (unary op e) f = value_rule at f >>= unary_rule at op
behind at (binary op a b) f = do
  x ← value_rule at f
  y ← expr at b >>= value_rule at
  binary_rule at op x y
behind at (assign op a b) f = pure f
behind at (bump before up e) f = bump_rule at before up f
behind at (call g es) f = pure f
behind at (call_other g es) f = other_call at es
behind at (index a b) f = do
  x ← value_rule at f
  y ← expr at b >>= value_rule at
  index_rule at x y
behind at (member e m) f = member_rule at f m
behind at (arrow e m) f = do
  x ← value_rule at f
  arrow_rule at x m
behind at (cast b stars e) f = pure f
behind at (size_type b stars) f = pure f
behind at (size_expr e) f = size_rule at f.operand.type

-- these expressions one after the other, each behind the one before it
abbrev pub risen : Place → List ExprData → Found → Resolving Found
risen at [] f = pure f
risen at (e ∷ es) f = behind at e f >>= risen at es

-- an argument of a call
abbrev pub argument : Place → ArgumentsData → ExprData → Resolving Found
argument at forms e = elim (is_no_expression forms e) [
  | true ↦ pure no_expression
  | false ↦ elim (is_library_literal forms e) [
    | true ↦ library_literal at e
    | false ↦ expr at e >>= value_rule at
  ]
]
