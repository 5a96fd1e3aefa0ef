-- The memory behind the call.
use Rattle.std.proofs.Common.{map, Some}
use Rattle.std.proofs.lemmas.List.{length-map}
use Rattle.ec_memory.proofs.Calls.{rising_of, room_of, wrote}
use Rattle.ec_memory.proofs.store.Store.put.Goals as goal

pub reach-requires : goal.reach-requires
reach-requires c = rising_of _ _ _ _ c.self.invariant c.deref.ensures.value

pub write-requires : goal.write-requires
write-requires c = room_of _ _ _ _ _ _ _ c.self.invariant c.deref.ensures.value c.in_ok-at.ensures

pub returns-clause-outcome : goal.returns-clause-outcome
returns-clause-outcome c =
    wrote _ _ _ _ _ c.args.ptr.0 _ _ (map Some c.args.piece.now) _ c.self.view_is c.self.invariant c.deref.ensures.value c.in_ok-at.ensures (length-map c.args.piece.now Some) c.write.ensures.cells
