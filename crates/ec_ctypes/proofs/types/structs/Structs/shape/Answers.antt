use Rattle.std.proofs.Common.{IfSome, Option, sym, ap, subst, ◌∙◌, option_and_then, slice_get}
use Rattle.ec_ctypes.specs.declared.types.sizes.Shape.{Shape}
use Rattle.ec_ctypes.specs.Layout.{IsSmall}
use Rattle.ec_ctypes.proofs.Kept.{kept-shape, small-kept}
use Rattle.ec_ctypes.proofs.types.structs.Structs.shape.Goals as goal

pub returns-clause-small : goal.returns-clause-small
returns-clause-small c =
    let e = c.shape_at.ensures ∙ ap (λ shapes. option_and_then (λ shape. shape) (slice_get shapes c.args.id)) c.as_slice.ensures ∙ kept-shape c.self.inside.shapes c.self.inside.definitions c.args.id c.self.invariant in
    subst (λ (o : Option Shape). IfSome o IsSmall) (sym e) (small-kept c.self.inside.definitions c.args.id)
