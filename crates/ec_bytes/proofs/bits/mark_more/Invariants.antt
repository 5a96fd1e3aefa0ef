-- So many marks are written.
use Rattle.std.proofs.Common.{◌≡◌, ◌-◌, ◌<◌, take, length, replicate}
use Rattle.ec_memory_defs.specs.Cells.{written}
use Rattle.ec_bytes.specs.Bits.{mark_of, marks_of}
use Rattle.ec_bytes.proofs.bits.mark_more.Given as goal

abbrev pub invariant-loop-done : goal.invariant-loop-done
invariant-loop-done l = record {
  some : l.done < l.n;
  marks : marks_of l.room l.memory ≡ written (marks_of l.room l.fn.memory) l.at (replicate l.done (mark_of l.set));
  bytes : take l.room l.memory ≡ take l.room l.fn.memory;
  length : length l.memory ≡ length l.fn.memory;
}

abbrev pub decreases-loop-done : goal.decreases-loop-done
decreases-loop-done l = l.n - l.done
