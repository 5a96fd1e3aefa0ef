-- Where the scope has no memory, the object is there all the same.
use Rattle.std.proofs.Common.{◌≡◌, ◌∙◌, ap, inr, rules, sym}
use Rattle.std.proofs.lemmas.Result.{err_from_is_err_and}
use Rattle.std.specs.Int.{w32}
use mir.Val.{of_z, to_z}
use Rattle.ec_memory.specs.Room.{int_cells}
use Rattle.ec_memory_defs.specs.Memory.{with_object}
use Rattle.ec_machine.proofs.making.make_int.Goals as goal

pub returns-in_err-push-in-Ok-clause-left : goal.returns-in_err-push-in-Ok-clause-left
returns-in_err-push-in-Ok-clause-left c =
    let p = err_from_is_err_and c.from_residual.result c.from_residual.ensures.1 in
    let z = c.args.value in
    let back : to_z w32 (of_z w32 z) ≡ z = search rules in
    rw p.1 (inr (c.in-Ok.ptr.0, ap (λ y. with_object c.args.store.now (int_cells y)) (sym back) ∙ c.in-Ok.ensures.ok))
