-- The memory behind the call.
use Rattle.std.proofs.Common.{replicate, None}
use Rattle.std.proofs.lemmas.List.{length-replicate}
use Rattle.ec_memory.proofs.Calls.{rising_of, room_of, wrote}
use Rattle.ec_memory.proofs.store.Store.unset.Goals as goal

pub reach-requires : goal.reach-requires
reach-requires c = rising_of _ _ _ _ c.self.invariant c.deref.ensures.value

pub unset-requires : goal.unset-requires
unset-requires c = room_of _ _ _ _ _ _ _ c.self.invariant c.deref.ensures.value c.in_ok-at.ensures

pub returns-clause-outcome : goal.returns-clause-outcome
returns-clause-outcome c =
    wrote _ _ _ _ _ c.args.ptr.0 _ _ (replicate c.args.n None) _ c.self.view_is c.self.invariant c.deref.ensures.value c.in_ok-at.ensures (length-replicate c.args.n None) c.unset.ensures.cells
