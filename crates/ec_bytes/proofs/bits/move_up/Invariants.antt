-- All marks but so many are moved.
use Rattle.std.proofs.Common.{◌≡◌, ◌+◌, ◌-◌, ◌≤◌, take, drop, length}
use Rattle.ec_memory_defs.specs.Cells.{written}
use Rattle.ec_bytes.specs.Bits.{marks_of}
use Rattle.ec_bytes.proofs.bits.move_up.Given as goal

abbrev pub invariant-loop-left : goal.invariant-loop-left
invariant-loop-left l = record {
  within : l.left ≤ l.n;
  marks : marks_of l.room l.memory ≡ written (marks_of l.room l.fn.memory) (l.to + l.left) (take (l.n - l.left) (drop (l.from + l.left) (marks_of l.room l.fn.memory)));
  bytes : take l.room l.memory ≡ take l.room l.fn.memory;
  length : length l.memory ≡ length l.fn.memory;
}

abbrev pub decreases-loop-left : goal.decreases-loop-left
decreases-loop-left l = l.left
