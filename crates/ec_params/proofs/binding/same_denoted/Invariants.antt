use Rattle.std.proofs.Common.{◌≡◌, length}
use Rattle.ec_host_defs.specs.Faults.{same_denoted}
use Rattle.ec_params.proofs.binding.same_denoted.Given as goal

abbrev pub invariant-loop-left : goal.invariant-loop-left
invariant-loop-left l = same_denoted l.left l.right ≡ same_denoted l.a l.b

abbrev pub decreases-loop-left : goal.decreases-loop-left
decreases-loop-left l = length l.left
