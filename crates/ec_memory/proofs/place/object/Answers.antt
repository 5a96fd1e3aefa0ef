-- The place of an object, or why there is none.
use Rattle.ec_memory.proofs.Objects.{null_object, missing_object}
use Rattle.ec_memory.proofs.place.object.Goals as goal

pub returns-then-number-eq0 : goal.returns-then-number-eq0
returns-then-number-eq0 c = λ made cells kept. null_object _ _ c.number_of-number.result c.number_of-number.ensures c.if-number-eq0.true

pub returns-in-None : goal.returns-in-None
returns-in-None c = λ made cells kept. missing_object made cells _ _ _ c.number_of-number.ensures c.if-number-eq0.false c.in-None.ensures
