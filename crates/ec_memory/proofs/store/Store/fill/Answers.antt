-- The memory behind the call.
use Rattle.std.proofs.Common.{replicate, Some}
use Rattle.std.proofs.lemmas.List.{length-replicate}
use Rattle.ec_memory.proofs.Calls.{rising_of, room_of, wrote}
use Rattle.ec_memory.proofs.store.Store.fill.Goals as goal

pub reach-requires : goal.reach-requires
reach-requires c = rising_of _ _ _ _ c.self.invariant c.deref.ensures.value

pub fill-requires : goal.fill-requires
fill-requires c = room_of _ _ _ _ _ _ _ c.self.invariant c.deref.ensures.value c.in_ok-at.ensures

pub returns-clause-outcome : goal.returns-clause-outcome
returns-clause-outcome c =
    wrote _ _ _ _ _ c.args.ptr.0 _ _ (replicate c.args.n (Some c.args.byte)) _ c.self.view_is c.self.invariant c.deref.ensures.value c.in_ok-at.ensures (length-replicate c.args.n (Some c.args.byte)) c.fill.ensures.cells
