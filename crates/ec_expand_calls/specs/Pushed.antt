-- Arguments that grow at their end.
use Rattle.std.specs.Prelude.{◌≡◌, ◌++◌, List, map}
use Rattle.ec_ctypes.specs.declared.tree.expr.Expr.{Expr}
use Rattle.ec_ctypes.specs.trees.Exprs.{ExprData}
use Rattle.ec_ctypes.specs.views.Exprs.{expr_view}
use Rattle.ec_arguments.specs.Arguments.{Arg}
use Rattle.ec_expansion_defs.specs.Calls.{argument_expr}

-- With any arguments behind them, the new ones are the old ones with what `f` puts before these.
pub record Pushes (old new : List Expr)
    (f : List (Arg ExprData) → List (Arg ExprData)) : Type 0 where
  pub is : (rest : List (Arg ExprData)) →
      map expr_view new ++ map argument_expr rest ≡ map expr_view old ++ map argument_expr (f rest)
