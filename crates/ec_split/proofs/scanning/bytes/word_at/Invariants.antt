use Rattle.std.proofs.Common.{◌≡◌, ◌+◌, ◌-◌, ◌≤◌, length, drop, take}
use Rattle.ec_language.specs.Letters as letters
use Rattle.ec_split.proofs.scanning.bytes.word_at.Given as goal

abbrev pub invariant-loop-i : goal.invariant-loop-i
invariant-loop-i l = record {
  same : letters.same_word (take (length l.word - l.i) (drop (l.at + l.i) l.text)) (drop l.i l.word) ≡ letters.same_word (take (length l.word) (drop l.at l.text)) l.word;
  inside : l.at + l.i ≤ length l.text;
}
