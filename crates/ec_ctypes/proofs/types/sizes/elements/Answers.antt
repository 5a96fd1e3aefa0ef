use Rattle.std.proofs.Common.{ℕ, ◌*◌, ◌<◌, option_map, sym, ap, ◌∙◌, arith}
use Rattle.ec_ctypes.specs.views.Types.{ty_view}
use Rattle.ec_ctypes.specs.Layout.{repeated, shape_of}
use Rattle.ec_ctypes.proofs.Shapes.{no_room, rows, left-Array, too_large}
use Rattle.ec_ctypes.proofs.types.sizes.elements.Goals as goal
use Rattle.ec_ctypes.proofs.types.sizes.elements.Goals.{then-more-eq0-via-then-more-eq0, then-more-eq0-via-else-more-eq0+then-more-gt-LIMIT}

pub returns-then-more-eq0 : goal.returns-then-more-eq0
returns-then-more-eq0 c ds =
    let loop = c.loop-element in
    let is = left-Array ds (shape_of ds (ty_view c.args.ty.now)) loop.count c.in-Array.more loop.element.now c.in-Array.inner (loop.invariant.shape ds) c.in-Array.is in
    no_room ds _ (ty_view c.in-Array.inner) loop.count c.in-Array.more is
    (elim c.then-more-eq0.branch [ then-more-eq0-via-then-more-eq0 w ↦ λ h. absurd (omega (arith, h)) | then-more-eq0-via-else-more-eq0+then-more-gt-LIMIT w ↦ λ h. too_large loop.count c.in-Array.more loop.invariant.positive w.if-more-gt-LIMIT.true ])

pub returns-then-count-gt-LIMIT : goal.returns-then-count-gt-LIMIT
returns-then-count-gt-LIMIT c ds =
    let loop = c.loop-element in
    let is = left-Array ds (shape_of ds (ty_view c.args.ty.now)) loop.count c.in-Array.more loop.element.now c.in-Array.inner (loop.invariant.shape ds) c.in-Array.is in
    no_room ds _ (ty_view c.in-Array.inner) loop.count c.in-Array.more is (λ h. c.if-count-gt-LIMIT.true)

pub loop-element-preserved : goal.loop-element-preserved
loop-element-preserved c = record {
  positive = positive c.loop-element.count c.in-Array.more c.loop-element.invariant.positive (omega (arith, c.if-more-eq0.false));
  small = c.if-count-gt-LIMIT.false;
  shape = λ ds.
      let loop = c.loop-element in
      let is = left-Array ds (shape_of ds (ty_view c.args.ty.now)) loop.count c.in-Array.more loop.element.now c.in-Array.inner (loop.invariant.shape ds) c.in-Array.is in
      rows ds _ (ty_view c.in-Array.inner) loop.count c.in-Array.more is (omega (arith, c.if-more-eq0.false))
      ∙ ap (λ t. option_map (repeated (loop.count * c.in-Array.more)) (shape_of ds (ty_view t))) (sym c.get-element.ensures);
}
  where
    positive : (n m : ℕ) → 0 < n → 0 < m → 0 < n * m
    positive n m h k = grind (arith, h, k)
