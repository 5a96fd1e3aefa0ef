use Rattle.std.proofs.Common.{◌≡◌, drop}
use Rattle.ec_transcript.specs.Lines.{all_digits}
use Rattle.ec_transcript.proofs.count.all_digits.Given as goal

abbrev pub invariant-loop-byte : goal.invariant-loop-byte
invariant-loop-byte l = all_digits (drop l.byte-index l.word) ≡ all_digits l.word
