-- An int is made exactly where neither objects nor bytes are too many.
use Rattle.std.proofs.Common.{◌≡◌, ◌∙◌, ◌++◌, ap, refl, rules, sym, arith}
use Rattle.std.specs.Int.{w32}
use mir.Val.{of_z, to_z}
use Rattle.ec_memory.specs.Room.{int_cells}
use Rattle.ec_memory.proofs.Calls.{int_length, spent_objects, spent_bytes, not_spent, kept_next, object_next}
use Rattle.ec_memory.proofs.store.Store.make_int.Goals.{then-self-via-then-self, then-self-via-else-self+then-start}
use Rattle.ec_memory.proofs.store.Store.make_int.Goals as goal

pub returns-then-self-clause-spent : goal.returns-then-self-clause-spent
returns-then-self-clause-spent c =
    (λ _. elim c.then-self.branch [ then-self-via-then-self w ↦ spent_objects c.args.self.now c.self.inside.made c.self.inside.cells (int_cells c.args.value) c.self.inside.alive.items c.self.view_is (omega (arith, w.if-self.true)) | then-self-via-else-self+then-start w ↦ spent_bytes c.args.self.now c.self.inside.made c.self.inside.cells (int_cells c.args.value) c.self.inside.alive.items c.self.view_is c.self.invariant (omega (arith, w.if-start.true, c.len-start.ensures, int_length c.args.value)) ], λ _. refl)

pub returns-in-Err-clause-spent : goal.returns-in-Err-clause-spent
returns-in-Err-clause-spent c =
    (λ e. cc, λ e. absurd (not_spent c.args.self.now c.self.inside.made c.self.inside.cells (int_cells c.args.value) c.self.inside.alive.items c.self.view_is c.self.invariant (omega (arith, c.if-self.false, c.self.invariant.few_objects)) (omega (arith, c.if-start.false, c.len-start.ensures, int_length c.args.value)) e))

pub returns-in-Ok-clause-spent : goal.returns-in-Ok-clause-spent
returns-in-Ok-clause-spent c =
    (λ e. cc, λ e. absurd (not_spent c.args.self.now c.self.inside.made c.self.inside.cells (int_cells c.args.value) c.self.inside.alive.items c.self.view_is c.self.invariant (omega (arith, c.if-self.false, c.self.invariant.few_objects)) (omega (arith, c.if-start.false, c.len-start.ensures, int_length c.args.value)) e))

pub invariant_of-self : goal.invariant_of-self
invariant_of-self c =
    let range = c.ranges.value in
    let back : to_z w32 (of_z w32 c.args.value) ≡ c.args.value = search rules in
    kept_next c.self.inside.made c.self.inside.cells (int_cells c.args.value) c.append.new.cells c.self.inside.alive.items c.append.new.alive.items _ c.self.invariant (omega (arith, c.if-self.false, c.self.invariant.few_objects)) (omega (arith, c.if-start.false, c.len-start.ensures, int_length c.args.value)) (c.in-Ok.ensures.cells ∙ ap (λ z. c.self.inside.cells ++ int_cells z) back) c.in-Ok.ensures.places refl c.len-start.ensures (sym (int_length c.args.value))

pub returns-in-Ok-clause-ok : goal.returns-in-Ok-clause-ok
returns-in-Ok-clause-ok c =
    let range = c.ranges.value in
    let back : to_z w32 (of_z w32 c.args.value) ≡ c.args.value = search rules in
    object_next c.args.self.now c.self.inside.made c.self.inside.cells (int_cells c.args.value) c.append.new.cells c.self.inside.alive.items c.append.new.alive.items _ c.pointer.result.0 c.self.view_is c.self.invariant (omega (arith, c.if-self.false, c.self.invariant.few_objects)) (omega (arith, c.if-start.false, c.len-start.ensures, int_length c.args.value)) (c.in-Ok.ensures.cells ∙ ap (λ z. c.self.inside.cells ++ int_cells z) back) c.in-Ok.ensures.places refl (sym (int_length c.args.value)) c.pointer.ensures
