use Rattle.std.proofs.Common.{◌≡◌, ◌++◌, ◌+◌, drop, map, List}
use Rattle.ec_ctypes.specs.trees.Exprs.{ExprData}
use Rattle.ec_ctypes.specs.views.Checked.{place_view}
use Rattle.ec_ctypes.specs.views.Exprs.{expr_view}
use Rattle.ec_arguments.specs.Arguments.{Arg}
use Rattle.ec_arguments.specs.Writing.{items_arguments}
use Rattle.ec_expansion_defs.specs.Calls.{argument_expr, items_from}
use Rattle.ec_expand_calls.proofs.arguments.push_items.Given as goal

-- what is done and what is left are the whole
abbrev pub invariant-loop-at : goal.invariant-loop-at
invariant-loop-at l =
    (rest : List (Arg ExprData)) → map expr_view l.args ++ map argument_expr (items_arguments (items_from (l.first + l.at) (drop l.at l.kinds) (map place_view l.places)) rest)
    ≡ map expr_view l.initial.args ++ map argument_expr (items_arguments (items_from l.first l.kinds (map place_view l.places)) rest)
