use Rattle.std.proofs.Common.{◌≡◌, ◌-◌, ◌≤◌, length, drop}
use Rattle.ec_language.specs.ReadPieces as read
use Rattle.ec_split.proofs.scanning.ends.nested_end.Given as goal

abbrev pub invariant-loop-at : goal.invariant-loop-at
invariant-loop-at l = record { same : read.nested_end l.inner (drop l.at l.text) ≡ read.nested_end 0 (drop l.from l.text); order : l.from ≤ l.at; inside : l.at ≤ length l.text; few : l.inner ≤ l.at }

abbrev pub decreases-loop-at : goal.decreases-loop-at
decreases-loop-at l = length l.text - l.at
