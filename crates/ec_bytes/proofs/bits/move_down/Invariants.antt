-- So many marks are moved.
use Rattle.std.proofs.Common.{◌≡◌, ◌-◌, ◌≤◌, take, drop, length}
use Rattle.ec_memory_defs.specs.Cells.{written}
use Rattle.ec_bytes.specs.Bits.{marks_of}
use Rattle.ec_bytes.proofs.bits.move_down.Given as goal

abbrev pub invariant-loop-done : goal.invariant-loop-done
invariant-loop-done l = record {
  within : l.done ≤ l.n;
  marks : marks_of l.room l.memory ≡ written (marks_of l.room l.fn.memory) l.to (take l.done (drop l.from (marks_of l.room l.fn.memory)));
  bytes : take l.room l.memory ≡ take l.room l.fn.memory;
  length : length l.memory ≡ length l.fn.memory;
}

abbrev pub decreases-loop-done : goal.decreases-loop-done
decreases-loop-done l = l.n - l.done
