use Rattle.std.proofs.Common.{◌≡◌, ◌-◌, ◌≤◌, length, drop}
use Rattle.ec_language.specs.ReadPieces as read
use Rattle.ec_split.specs.Places.{class_test}
use Rattle.ec_split.proofs.scanning.bytes.behind_each.Given as goal

abbrev pub invariant-loop-at : goal.invariant-loop-at
invariant-loop-at l = record { same : read.behind_all (class_test l.class) (drop l.at l.text) ≡ read.behind_all (class_test l.class) (drop l.from l.text); order : l.from ≤ l.at; inside : l.at ≤ length l.text }

abbrev pub decreases-loop-at : goal.decreases-loop-at
decreases-loop-at l = length l.text - l.at
