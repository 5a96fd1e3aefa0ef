-- What was read so far is a run.
use Rattle.std.proofs.Common.{◌-◌, ◌≤◌}
use Rattle.ec_bytes.proofs.Runs.{RunFrom}
use Rattle.ec_bytes.proofs.parts.run_by_cells.Given as goal

abbrev pub invariant-loop-count : goal.invariant-loop-count
invariant-loop-count l = record {
  within : l.count ≤ l.n;
  whole : RunFrom l.room l.memory l.at l.n l.count;
}

abbrev pub decreases-loop-count : goal.decreases-loop-count
decreases-loop-count l = l.n - l.count
