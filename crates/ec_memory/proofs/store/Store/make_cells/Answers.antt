-- An object is made exactly where neither objects nor bytes are too many.
use Rattle.std.proofs.Common.{refl, sym, arith}
use Rattle.ec_memory.specs.Store.{first_cells}
use Rattle.ec_memory.proofs.Calls.{first_length, spent_objects, spent_bytes, not_spent, kept_next, object_next}
use Rattle.ec_memory.proofs.store.Store.make_cells.Goals.{then-self-via-then-self, then-self-via-else-self+then-start-size}
use Rattle.ec_memory.proofs.store.Store.make_cells.Goals as goal

pub returns-then-self-clause-spent : goal.returns-then-self-clause-spent
returns-then-self-clause-spent c =
    (λ _. elim c.then-self.branch [ then-self-via-then-self w ↦ spent_objects c.args.self.now c.self.inside.made c.self.inside.cells (first_cells c.args.zeroed c.args.size) c.self.inside.alive.items c.self.view_is (omega (arith, w.if-self.true)) | then-self-via-else-self+then-start-size w ↦ spent_bytes c.args.self.now c.self.inside.made c.self.inside.cells (first_cells c.args.zeroed c.args.size) c.self.inside.alive.items c.self.view_is c.self.invariant (omega (arith, w.if-start-size.true, c.len-start.ensures, first_length c.args.zeroed c.args.size)) ], λ _. refl)

pub returns-in-Err-clause-spent : goal.returns-in-Err-clause-spent
returns-in-Err-clause-spent c =
    (λ e. cc, λ e. absurd (not_spent c.args.self.now c.self.inside.made c.self.inside.cells (first_cells c.args.zeroed c.args.size) c.self.inside.alive.items c.self.view_is c.self.invariant (omega (arith, c.if-self.false, c.self.invariant.few_objects)) (omega (arith, c.if-start-size.false, c.len-start.ensures, first_length c.args.zeroed c.args.size)) e))

pub returns-in-Ok-clause-spent : goal.returns-in-Ok-clause-spent
returns-in-Ok-clause-spent c =
    (λ e. cc, λ e. absurd (not_spent c.args.self.now c.self.inside.made c.self.inside.cells (first_cells c.args.zeroed c.args.size) c.self.inside.alive.items c.self.view_is c.self.invariant (omega (arith, c.if-self.false, c.self.invariant.few_objects)) (omega (arith, c.if-start-size.false, c.len-start.ensures, first_length c.args.zeroed c.args.size)) e))

pub invariant_of-self : goal.invariant_of-self
invariant_of-self c =
    kept_next c.self.inside.made c.self.inside.cells (first_cells c.args.zeroed c.args.size) c.add.new.cells c.self.inside.alive.items c.add.new.alive.items _ c.self.invariant (omega (arith, c.if-self.false, c.self.invariant.few_objects)) (omega (arith, c.if-start-size.false, c.len-start.ensures, first_length c.args.zeroed c.args.size)) c.in-Ok.ensures.cells c.in-Ok.ensures.places refl c.len-start.ensures (sym (first_length c.args.zeroed c.args.size))

pub returns-in-Ok-clause-ok : goal.returns-in-Ok-clause-ok
returns-in-Ok-clause-ok c =
    object_next c.args.self.now c.self.inside.made c.self.inside.cells (first_cells c.args.zeroed c.args.size) c.add.new.cells c.self.inside.alive.items c.add.new.alive.items _ c.pointer.result.0 c.self.view_is c.self.invariant (omega (arith, c.if-self.false, c.self.invariant.few_objects)) (omega (arith, c.if-start-size.false, c.len-start.ensures, first_length c.args.zeroed c.args.size)) c.in-Ok.ensures.cells c.in-Ok.ensures.places refl (sym (first_length c.args.zeroed c.args.size)) c.pointer.ensures
