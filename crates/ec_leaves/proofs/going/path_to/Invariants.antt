use Rattle.std.proofs.Common.{◌≡◌, ◌++◌, drop}
use Rattle.ec_leaves.specs.Going.{path_of}
use Rattle.ec_leaves.proofs.going.path_to.Given as goal

abbrev pub invariant-loop-step : goal.invariant-loop-step
invariant-loop-step l = l.path ++ path_of (drop l.step-index l.outer) ≡ path_of l.outer
