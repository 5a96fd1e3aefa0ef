use Rattle.std.proofs.Common.{◌≡◌, ◌+◌, ◌-◌, ◌≤◌, length, drop}
use Rattle.ec_language.specs.ReadPieces as read
use Rattle.ec_language.proofs.ReadLaws.{with_all}
use Rattle.ec_split.proofs.scan.all_parts.Given as goal

abbrev pub invariant-loop-at : goal.invariant-loop-at
invariant-loop-at l = record {
  same : with_all l.pieces (read.read_from l.line (drop l.at l.text)) ≡ read.read_pieces l.text;
  inside : l.at ≤ length l.text;
  early : l.line ≤ l.at + 1;
}

abbrev pub decreases-loop-at : goal.decreases-loop-at
decreases-loop-at l = length l.text - l.at
