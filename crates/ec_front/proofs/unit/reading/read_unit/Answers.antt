use Rattle.ec_language.specs.First.{Reads}
use Rattle.ec_front.proofs.unit.reading.read_unit.Goals as goal

pub returns-then-text-gt-MAX_TEXT-clause-answer : goal.returns-then-text-gt-MAX_TEXT-clause-answer
returns-then-text-gt-MAX_TEXT-clause-answer c = Reads.too_long c.if-text-gt-MAX_TEXT.true
