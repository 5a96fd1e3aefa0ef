-- The test is of the number.
use Rattle.std.proofs.Common.{arith}
use Rattle.std.proofs.lemmas.Bool.Decides.{nat_tests}
use Rattle.ec_memory.proofs.place.is_at.Goals as goal

pub returns-then-index-places : goal.returns-then-index-places
returns-then-index-places c = λ e. (c.if-index-places.true, grind (arith, nat_tests))
