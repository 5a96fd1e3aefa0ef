-- Expressions that lean to the left: what is left of an expression is looked at first, and then the expression behind it.
use Rattle.std.specs.Prelude.{Bool, true, false, not, List, [], ◌∷◌, map, reverse, Option, Some, None}
use Rattle.ec_base.specs.declared.fault.FaultKind.TheVariants.{F16}
use Rattle.ec_ctypes.specs.declared.tree.expr.UnOp.TheVariants.{Addr}
use Rattle.ec_ctypes.specs.trees.Exprs.{ExprData, integer, character, string, identifier, unary, binary, assign, bump, call, call_other, index, member, arrow, cast, size_type, size_expr}
use Rattle.ec_typing_defs.specs.Known.{ArgumentsData, all_expressions, is_identifier, is_no_expression}
use Rattle.ec_typing_defs.specs.Worlds.{Place, Rule, ◌>>=◌, ◌>>◌, pure, note}
use Rattle.ec_typing_defs.specs.Operands.{OperandData, unknown, value_rule, address_rule, unary_rule, binary_rule, index_rule, bump_rule, member_rule, arrow_rule, size_rule}
use Rattle.ec_typing_defs.specs.Expressions.{expr, args}

-- the function of a call, if it is looked at
abbrev pub function_left : Bool → ExprData → Option ExprData
function_left true f = None
function_left false f = Some f

-- the part that is looked at first, where all else stands behind it
abbrev pub left_of : ExprData → Option ExprData
left_of (integer n t) = None
left_of (character c) = None
left_of (string s) = None
left_of (identifier x) = None
left_of (unary op e) = Some e
left_of (binary op a b) = Some a
left_of (assign op a b) = None
left_of (bump before up e) = Some e
left_of (call f es) = None
left_of (call_other f es) = function_left (is_identifier f) f
left_of (index a b) = Some a
left_of (member e m) = Some e
left_of (arrow e m) = Some e
left_of (cast b stars e) = None
left_of (size_type b stars) = None
left_of (size_expr e) = Some e

-- an expression behind what is found out about its left part
abbrev pub behind : Place → ExprData → OperandData → Rule OperandData
behind at (integer n t) o = pure o
behind at (character c) o = pure o
behind at (string s) o = pure o
behind at (identifier x) o = pure o
behind at (unary Addr e) o = address_rule at o
behind at (unary op e) o = value_rule at o >>= unary_rule at op
behind at (binary op a b) o = do
  x ← value_rule at o
  y ← expr at b >>= value_rule at
  binary_rule at op x y
behind at (assign op a b) o = pure o
behind at (bump before up e) o = bump_rule at o
behind at (call f es) o = pure o
behind at (call_other f es) o = do
  args at all_expressions es
  note at F16
  pure unknown
behind at (index a b) o = do
  x ← value_rule at o
  y ← expr at b >>= value_rule at
  index_rule at x y
behind at (member e m) o = member_rule at o m
behind at (arrow e m) o = do
  x ← value_rule at o
  arrow_rule at x m
behind at (cast b stars e) o = pure o
behind at (size_type b stars) o = pure o
behind at (size_expr e) o = size_rule at o.type

-- these expressions one after the other, each behind the one before it
abbrev pub risen : Place → List ExprData → OperandData → Rule OperandData
risen at [] o = pure o
risen at (e ∷ es) o = behind at e o >>= risen at es

-- an argument of a call
abbrev pub argument : Place → ArgumentsData → ExprData → Rule OperandData
argument at forms e =
    elim (is_no_expression forms e) [ true ↦ pure unknown | false ↦ expr at e >>= value_rule at ]
