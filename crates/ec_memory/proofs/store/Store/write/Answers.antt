-- The memory behind the call.
use Rattle.std.proofs.Common.{◌∙◌, sym, ap, Some, arith}
use Rattle.std.proofs.lemmas.List.{length-map}
use Rattle.ec_memory_defs.specs.Cells.{set_cells, written}
use Rattle.ec_memory.proofs.Calls.{rising_of, room_of, wrote}
use Rattle.ec_memory.proofs.store.Store.write.Goals as goal

pub reach-requires : goal.reach-requires
reach-requires g c = rising_of _ _ _ _ c.self.invariant c.deref.ensures.value

pub view_mut-requires : goal.view_mut-requires
view_mut-requires g c = omega (arith, room_of _ _ _ _ _ _ _ c.self.invariant c.deref.ensures.value c.in_ok-at.ensures, c.SIZE.ensures)

pub returns-clause-outcome : goal.returns-clause-outcome
returns-clause-outcome g c =
    wrote c.args.self.now c.self.inside.made c.self.inside.cells c.self.inside.alive.items _ c.args.ptr.0 c.SIZE.result c.in_ok-at.at (set_cells (g.T.Scalar.encode c.args.value)) c.set.new.self.region.now c.self.view_is c.self.invariant c.deref.ensures.value c.in_ok-at.ensures
    (length-map (g.T.Scalar.encode c.args.value) Some ∙ g.met.T.Scalar.encode_length c.args.value ∙ sym c.SIZE.ensures)
    (c.set.ensures.cells
    ∙ ap (λ cells. written cells c.view_mut.result.at (set_cells (g.T.Scalar.encode c.args.value))) c.view_mut.ensures.cells
    ∙ ap (λ at. written c.self.inside.cells at (set_cells (g.T.Scalar.encode c.args.value))) c.view_mut.ensures.place)
