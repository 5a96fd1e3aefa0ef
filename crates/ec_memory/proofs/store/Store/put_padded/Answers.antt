-- The memory behind the call.
use Rattle.std.proofs.Common.{◌∙◌, ◌++◌, map, replicate, Some}
use Rattle.std.proofs.lemmas.List.{length-map}
use Rattle.ec_memory.proofs.Calls.{rising_of, room_of, wrote}
use Rattle.ec_memory.proofs.Joined.{parts_length}
use Rattle.ec_memory.proofs.store.Store.put_padded.Goals as goal

pub reach-requires : goal.reach-requires
reach-requires c = rising_of _ _ _ _ c.self.invariant c.deref.ensures.value

pub write_parts-requires : goal.write_parts-requires
write_parts-requires c = room_of _ _ _ _ _ _ _ c.self.invariant c.deref.ensures.value c.in_ok-at.ensures

pub returns-clause-outcome : goal.returns-clause-outcome
returns-clause-outcome c =
    let bytes = c.args.piece.now ++ replicate c.args.zeros 0 in
    wrote _ _ _ _ _ c.args.ptr.0 _ _ (map Some bytes) _ c.self.view_is c.self.invariant c.deref.ensures.value c.in_ok-at.ensures (length-map bytes Some ∙ parts_length c.args.piece.now c.args.zeros) c.write_parts.ensures.cells
