-- No exit before the end is taken, since the members end within the limit.
use Rattle.std.proofs.Common.{Some, map, drop, option_and_then, ap, sym, ◌∙◌}
use Rattle.ec_ctypes.specs.views.Types.{ty_view, member_view, structs_view}
use Rattle.ec_ctypes.specs.Layout.{with_member, with_members, shapes_of, shape_of, limited}
use Rattle.ec_ctypes.proofs.Shapes.{members-fail, member-stop, within-back, no_value}
use Rattle.ec_ctypes.proofs.types.sizes.find_member.Goals as goal

pub returns-in_err-shape : goal.returns-in_err-shape
returns-in_err-shape c =
    let ds = structs_view c.args.structs.now in
    let loop = c.loop-title in
    let item = c.loop-title-item.result in
    let stop = member-stop loop.before (shape_of ds (ty_view item.1)) (sym c.in_err-shape.ensures.shape) in
    absurd (no_value (limited (with_members (shapes_of ds) loop.before (map member_view (drop loop.title-index c.args.members.now)))) loop.invariant.fits
    (members-fail ds c.args.members.now loop.title-index item loop.before c.loop-title-test.true c.loop-title-item.is loop.invariant.small.positive loop.invariant.small.align stop))

pub returns-in_err-before : goal.returns-in_err-before
returns-in_err-before c =
    let ds = structs_view c.args.structs.now in
    let loop = c.loop-title in
    let item = c.loop-title-item.result in
    let stop = ap (λ o. limited (option_and_then (λ member. Some (with_member loop.before member)) o)) (within-back (shape_of ds (ty_view item.1)) c.in_ok-shape.shape c.in_ok-shape.ensures.shape) ∙ sym c.in_err-before.ensures.shape in
    absurd (no_value (limited (with_members (shapes_of ds) loop.before (map member_view (drop loop.title-index c.args.members.now)))) loop.invariant.fits
    (members-fail ds c.args.members.now loop.title-index item loop.before c.loop-title-test.true c.loop-title-item.is loop.invariant.small.positive loop.invariant.small.align stop))
