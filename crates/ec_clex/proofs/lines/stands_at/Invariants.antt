use Rattle.std.proofs.Common.{◌≡◌, ◌+◌, ◌≤◌, length, drop}
use Rattle.ec_language.specs.Letters as letters
use Rattle.ec_clex.proofs.lines.stands_at.Given as goal

abbrev pub invariant-loop-i : goal.invariant-loop-i
invariant-loop-i l = record {
  same : letters.begins_with (drop l.i l.bytes) (drop (l.at + l.i) l.text) ≡ letters.begins_with l.bytes (drop l.at l.text);
  inside : l.at + l.i ≤ length l.text;
}
