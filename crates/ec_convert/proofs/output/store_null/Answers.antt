-- The type of an indicator has -1.
use Rattle.ec_convert.proofs.FieldNumbers.{minus_one}
use Rattle.ec_convert.proofs.output.store_null.Goals as goal

pub set_indicator-requires-clause-number : goal.set_indicator-requires-clause-number
set_indicator-requires-clause-number c = minus_one c.in-Some.indicator.kind (rw c.in-Some.is at c.requires.told)
