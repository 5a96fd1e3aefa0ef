-- The source is read before anything is written.
use Rattle.std.proofs.Common.{◌∙◌, sym, ap}
use Rattle.std.proofs.lemmas.Result.{err_from_is_err_and}
use Rattle.ec_memory.proofs.Calls.{rising_of, room_of, found_at, wrote, trapped_of, copy_trapped}
use Rattle.ec_memory.proofs.Reading.{part_length}
use Rattle.ec_memory_defs.specs.Cells.{part_of}
use Rattle.ec_memory_defs.specs.Memory.{and_then, with_cells}
use Rattle.ec_memory.proofs.store.Store.copy.Goals as goal

pub reach-requires : goal.reach-requires
reach-requires c = rising_of _ _ _ _ c.self.invariant c.deref.ensures.value

pub reach-requires-2 : goal.reach-requires-2
reach-requires-2 c = rising_of _ _ _ _ c.self.invariant c.deref-2.ensures.value

pub copy-requires-clause-source : goal.copy-requires-clause-source
copy-requires-clause-source c = room_of _ _ _ _ _ _ _ c.self.invariant c.deref.ensures.value c.in_ok-source.ensures

pub copy-requires-clause-target : goal.copy-requires-clause-target
copy-requires-clause-target c = room_of _ _ _ _ _ _ _ c.self.invariant c.deref-2.ensures.value c.in_ok-target.ensures

pub returns-in_err-target-clause-outcome : goal.returns-in_err-target-clause-outcome
returns-in_err-target-clause-outcome c =
    let p = err_from_is_err_and c.from_residual-in_err-target.result c.from_residual-in_err-target.ensures.1 in
    let room = room_of _ _ _ _ _ _ _ c.self.invariant c.deref.ensures.value c.in_ok-source.ensures in
    rw (p.1, p.2) (copy_trapped c.args.self.now c.args.to.0 c.args.from.0 c.args.n (part_of c.self.inside.cells c.in_ok-source.source c.args.n) _
    (found_at _ _ _ _ _ _ c.args.n _ c.self.view_is c.self.invariant c.deref.ensures.value c.in_ok-source.ensures)
    (part_length c.self.inside.cells c.in_ok-source.source c.args.n room)
    (trapped_of _ _ _ _ _ c.args.to.0 c.args.n _ c.self.view_is c.self.invariant c.deref-2.ensures.value c.in_err-target.ensures))

pub returns-clause-outcome : goal.returns-clause-outcome
returns-clause-outcome c =
    let from = c.in_ok-source.source in
    let cells = c.self.inside.cells in
    let room = room_of _ _ _ _ _ _ _ c.self.invariant c.deref.ensures.value c.in_ok-source.ensures in
    wrote _ _ _ _ _ c.args.to.0 c.args.n _ (part_of cells from c.args.n) _ c.self.view_is c.self.invariant c.deref-2.ensures.value c.in_ok-target.ensures (part_length cells from c.args.n room) c.copy.ensures.cells
    ∙ sym (ap (λ r. and_then r (λ cells. with_cells c.args.self.now c.args.to.0 cells)) (found_at _ _ _ _ _ _ c.args.n _ c.self.view_is c.self.invariant c.deref.ensures.value c.in_ok-source.ensures))
