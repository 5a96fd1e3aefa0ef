use Rattle.std.proofs.Common.{◌≡◌, drop}
use Rattle.ec_transcript.specs.Lines.{value_on}
use Rattle.ec_transcript.proofs.numbers.value_of.Given as goal

abbrev pub invariant-loop-digit : goal.invariant-loop-digit
invariant-loop-digit l = value_on l.value (drop l.digit-index l.word) ≡ value_on 0 l.word
