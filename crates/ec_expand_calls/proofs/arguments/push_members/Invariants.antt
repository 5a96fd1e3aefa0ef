use Rattle.std.proofs.Common.{◌≡◌, ◌++◌, drop, map, List}
use Rattle.ec_ctypes.specs.trees.Exprs.{ExprData}
use Rattle.ec_ctypes.specs.views.Checked.{place_view}
use Rattle.ec_ctypes.specs.views.Exprs.{expr_view}
use Rattle.ec_arguments.specs.Arguments.{Arg}
use Rattle.ec_arguments.specs.Writing.{members_arguments}
use Rattle.ec_expansion_defs.specs.Calls.{argument_expr, member_of}
use Rattle.ec_expand_calls.proofs.arguments.push_members.Given as goal

-- what is done and what is left are the whole
abbrev pub invariant-loop-place : goal.invariant-loop-place
invariant-loop-place l =
    (rest : List (Arg ExprData)) → map expr_view l.args ++ map argument_expr (members_arguments (map member_of (map place_view (drop l.place-index l.place-items))) rest)
    ≡ map expr_view l.initial.args ++ map argument_expr (members_arguments (map member_of (map place_view l.places)) rest)
