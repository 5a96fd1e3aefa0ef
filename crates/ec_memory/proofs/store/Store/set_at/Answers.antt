-- The memory behind the write.
use Rattle.std.proofs.Common.{◌∙◌, sym, refl, ap, length, Some, arith}
use Rattle.std.proofs.lemmas.List.{length-map}
use Rattle.ec_memory_defs.specs.Cells.{set_cells, written}
use Rattle.ec_memory.proofs.Calls.{wrote}
use Rattle.ec_memory.proofs.Lending.{all_bytes, keeps_places}
use Rattle.ec_memory.proofs.store.Store.set_at.Goals as goal

pub view_mut-requires : goal.view_mut-requires
view_mut-requires g c = omega (arith, c.requires, all_bytes _ _ _ _ c.self.view_is c.self.invariant)

pub returns-clause-memory : goal.returns-clause-memory
returns-clause-memory g c = λ p lies.
    sym (wrote c.args.self.now c.self.inside.made c.self.inside.cells c.self.inside.alive.items c.self.inside.alive.items p g.T.Scalar.SIZE c.args.at (set_cells (g.T.Scalar.encode c.args.value)) c.set.new.self.region.now c.self.view_is c.self.invariant refl (lies.placed c.self.inside.made c.self.inside.cells c.self.inside.alive.items c.self.invariant c.self.view_is)
    (length-map (g.T.Scalar.encode c.args.value) Some ∙ g.met.T.Scalar.encode_length c.args.value)
    (c.set.ensures.cells
    ∙ ap (λ cells. written cells c.view_mut.result.at (set_cells (g.T.Scalar.encode c.args.value))) c.view_mut.ensures.cells
    ∙ ap (λ at. written c.self.inside.cells at (set_cells (g.T.Scalar.encode c.args.value))) c.view_mut.ensures.place))

pub returns-clause-kept : goal.returns-clause-kept
returns-clause-kept g c = keeps_places c.args.self.now _ c.self.inside.made c.self.inside.cells c.set.new.self.region.now c.self.inside.alive.items c.self.view_is refl c.self.invariant (c.set.ensures.length ∙ ap length c.view_mut.ensures.cells)
