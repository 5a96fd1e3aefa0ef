-- None of the bytes that were read so far is 0.
use Rattle.std.proofs.Common.{◌≡◌, ◌==◌, ◌-◌, ◌≤◌, true, not}
use Rattle.std.specs.List.{list_all}
use Rattle.ec_memory_defs.specs.Cells.{part_of}
use Rattle.ec_bytes.proofs.parts.eights_before_zero.Given as goal

abbrev pub invariant-loop-count : goal.invariant-loop-count
invariant-loop-count l = record {
  within : l.count ≤ l.n;
  none : list_all (λ byte. not (byte == 0)) (part_of l.memory l.at l.count) ≡ true;
}

abbrev pub decreases-loop-count : goal.decreases-loop-count
decreases-loop-count l = l.n - l.count
