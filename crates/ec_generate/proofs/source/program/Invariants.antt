-- The questions so far stand behind the opening.
use Rattle.std.proofs.Common.{◌≡◌, ◌++◌, ◌≤◌, ◌-◌}
use Rattle.ec_generate.specs.Generated.{opening, questions}
use Rattle.ec_generate.proofs.source.program.Given as goal

abbrev pub invariant-loop-asked : goal.invariant-loop-asked
invariant-loop-asked l = (l.text ≡ opening ++ questions l.asked) × (l.asked ≤ l.number)

abbrev pub decreases-loop-asked : goal.decreases-loop-asked
decreases-loop-asked l = l.number - l.asked
