-- The memory behind the write.
use Rattle.std.proofs.Common.{sym, refl, replicate, Some, arith}
use Rattle.std.proofs.lemmas.List.{length-replicate}
use Rattle.ec_memory.proofs.Calls.{wrote}
use Rattle.ec_memory.proofs.Lending.{all_bytes, keeps_places}
use Rattle.ec_memory.proofs.store.Store.fill_at.Goals as goal

pub fill-requires : goal.fill-requires
fill-requires c = omega (arith, c.requires, all_bytes _ _ _ _ c.self.view_is c.self.invariant)

pub returns-clause-memory : goal.returns-clause-memory
returns-clause-memory c = λ p lies.
    sym (wrote c.args.self.now c.self.inside.made c.self.inside.cells c.self.inside.alive.items c.self.inside.alive.items p c.args.count c.args.at (replicate c.args.count (Some c.args.byte)) c.fill.new.self c.self.view_is c.self.invariant refl (lies.placed c.self.inside.made c.self.inside.cells c.self.inside.alive.items c.self.invariant c.self.view_is) (length-replicate c.args.count (Some c.args.byte)) c.fill.ensures.cells)

pub returns-clause-kept : goal.returns-clause-kept
returns-clause-kept c = keeps_places c.args.self.now _ c.self.inside.made c.self.inside.cells c.fill.new.self c.self.inside.alive.items c.self.view_is refl c.self.invariant c.fill.ensures.length
