use Rattle.std.proofs.Common.{◌≡◌, length}
use Rattle.ec_typing_defs.specs.Programs.{all_agree}
use Rattle.ec_check.specs.Functions.{types_view}
use Rattle.ec_check.proofs.functions.all_agree.Given as goal

abbrev pub invariant-loop-left : goal.invariant-loop-left
invariant-loop-left l = all_agree (types_view l.a) (types_view l.b) ≡ all_agree (types_view l.left) (types_view l.right)

abbrev pub decreases-loop-left : goal.decreases-loop-left
decreases-loop-left l = length l.left
