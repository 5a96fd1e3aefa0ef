-- An access that doesn't fit its object.
use Rattle.std.proofs.Common.{arith}
use Rattle.ec_memory.proofs.Objects.{outside_object}
use Rattle.ec_memory.proofs.place.reach.Goals as goal

pub returns-else-within : goal.returns-else-within
returns-else-within c = λ made cells kept.
    outside_object made cells _ _ c.args.n c.in_ok-place.place kept c.in_ok-place.ensures (omega (arith, c.if-within.ensures, c.offset_in-offset.ensures))
