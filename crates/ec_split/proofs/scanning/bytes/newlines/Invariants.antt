use Rattle.std.proofs.Common.{◌≡◌, ◌+◌, ◌-◌, ◌≤◌, length, drop}
use Rattle.ec_language.specs.Line as lines
use Rattle.ec_split.proofs.scanning.bytes.newlines.Given as goal

abbrev pub invariant-loop-at : goal.invariant-loop-at
invariant-loop-at l = record {
  so_far : l.count + lines.newlines (drop l.at l.bytes) ≡ lines.newlines l.bytes;
  few : l.count ≤ l.at;
  inside : l.at ≤ length l.bytes;
}

abbrev pub decreases-loop-at : goal.decreases-loop-at
decreases-loop-at l = length l.bytes - l.at
