-- What is left of the object.
use Rattle.std.proofs.Common.{arith}
use Rattle.ec_memory.proofs.Calls.{rising_of, object_room}
use Rattle.ec_memory.proofs.Singles.{left_here}
use Rattle.ec_memory.proofs.store.Store.left.Goals as goal

pub object-requires : goal.object-requires
object-requires c = rising_of _ _ _ _ c.self.invariant c.deref.ensures.value

pub returns-clause-value : goal.returns-clause-value
returns-clause-value c = left_here _ _ _ _ _ c.args.ptr.0 _ _ _ c.self.view_is c.self.invariant c.deref.ensures.value c.in_ok-place.ensures c.offset_in-offset.ensures (omega arith)

pub returns-clause-bound : goal.returns-clause-bound
returns-clause-bound c = omega (arith, object_room _ _ _ _ _ _ c.self.invariant c.deref.ensures.value c.in_ok-place.ensures, c.self.invariant.few_bytes)
