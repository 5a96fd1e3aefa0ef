use Rattle.std.proofs.Common.{◌≡◌, ◌++◌}
use Rattle.ec_params.specs.Sending.{more_parameters}
use Rattle.ec_params.proofs.sending.push_more.Given as goal

abbrev pub invariant-loop-left : goal.invariant-loop-left
invariant-loop-left l = l.text ++ more_parameters l.last l.left ≡ l.initial.text ++ more_parameters l.number l.count

abbrev pub decreases-loop-left : goal.decreases-loop-left
decreases-loop-left l = l.left
