-- Whether functions are called for the arguments of a call.
use Rattle.std.specs.Prelude.{Bool, true, false, ◌||◌}
use Rattle.ec_ctypes.specs.trees.Exprs.{ExprData, identifier, unary, binary, assign, bump, call, call_other, index, member, arrow, cast, size_expr, ExprList, no_exprs, exprs}

-- whether a function is called in an expression, evaluated or not
abbrev pub calls_function : ExprData → Bool
calls_function (unary op a) = calls_function a
calls_function (binary op a b) = calls_function a || calls_function b
calls_function (assign op a b) = calls_function a || calls_function b
calls_function (bump before up a) = calls_function a
calls_function (call f es) = true
calls_function (call_other f es) = true
calls_function (index a b) = calls_function a || calls_function b
calls_function (member a m) = calls_function a
calls_function (arrow a m) = calls_function a
calls_function (cast b stars a) = calls_function a
calls_function (size_expr a) = calls_function a
calls_function _ = false

abbrev pub any_calls_function : ExprList → Bool
any_calls_function no_exprs = false
any_calls_function (exprs e es) = calls_function e || any_calls_function es
