-- The bytes of the access, or that one of them is unset.
use Rattle.ec_memory.proofs.Calls.{rising_of, room_of, spanned}
use Rattle.ec_memory.proofs.store.Store.span.Goals as goal

pub reach-requires : goal.reach-requires
reach-requires c = rising_of _ _ _ _ c.self.invariant c.deref.ensures.value

pub bytes-requires : goal.bytes-requires
bytes-requires c = room_of _ _ _ _ _ _ _ c.self.invariant c.deref.ensures.value c.in_ok-at.ensures

pub returns-in-Some : goal.returns-in-Some
returns-in-Some c = spanned _ _ _ _ _ c.args.ptr.0 c.args.n _ _ c.self.view_is c.self.invariant c.deref.ensures.value c.in_ok-at.ensures c.in-Some.ensures.cells

pub returns-in-None : goal.returns-in-None
returns-in-None c = spanned _ _ _ _ _ c.args.ptr.0 c.args.n _ _ c.self.view_is c.self.invariant c.deref.ensures.value c.in_ok-at.ensures c.in-None.ensures.cells
