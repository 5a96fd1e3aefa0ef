use Rattle.std.proofs.Common.{◌∙◌, ◌&&◌, sym, ap}
use Rattle.ec_ctypes.specs.views.Types.{ty_view}
use Rattle.ec_scopes.specs.Structs.{infos, arrays_within_in}
use Rattle.ec_scopes.proofs.Sizes.{arrays-step}
use Rattle.ec_scopes.proofs.structs.StructTable.+arrays_within.Goals as goal

pub returns-then-is_small : goal.returns-then-is_small
returns-then-is_small t c =
    let is = infos c.args.self.now.0 c.args.self.now.1 in
    c.arrays_within.ensures ∙ ap (λ of. arrays_within_in is (ty_view of)) c.get.ensures
    ∙ ap (λ b. b && arrays_within_in is (ty_view c.in-Array.of)) (sym c.if-is_small.true)
    ∙ sym (arrays-step is c.args.ty.now c.in-Array.of c.in-Array.field-1 c.is_small.result c.measure.result c.in-Array.is c.measure.ensures.measure c.is_small.ensures)

pub returns-else-is_small : goal.returns-else-is_small
returns-else-is_small t c =
    let is = infos c.args.self.now.0 c.args.self.now.1 in
    c.if-is_small.false
    ∙ ap (λ b. b && arrays_within_in is (ty_view c.in-Array.of)) (sym c.if-is_small.false)
    ∙ sym (arrays-step is c.args.ty.now c.in-Array.of c.in-Array.field-1 c.is_small.result c.measure.result c.in-Array.is c.measure.ensures.measure c.is_small.ensures)
