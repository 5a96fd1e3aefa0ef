use Rattle.std.proofs.Common.{Some, option_and_then, ap, sym, ◌∙◌}
use Rattle.ec_ctypes.specs.views.Types.{ty_view, structs_view}
use Rattle.ec_ctypes.specs.Layout.{with_member, shape_of, limited}
use Rattle.ec_ctypes.proofs.Shapes.{members-fail, member-stop, within-back}
use Rattle.ec_ctypes.proofs.types.sizes.members_shape.Goals as goal

pub returns-in_err-member-clause-shape : goal.returns-in_err-member-clause-shape
returns-in_err-member-clause-shape c =
    let ds = structs_view c.args.structs.now in
    let loop = c.loop-ty in
    let item = c.loop-ty-item.result in
    let stop = member-stop loop.all (shape_of ds (ty_view item.1)) (sym c.in_err-member.ensures.shape) in
    c.from_residual.ensures
    ∙ sym (ap limited loop.invariant.whole ∙ members-fail ds c.args.members.now loop.ty-index item loop.all c.loop-ty-test.true c.loop-ty-item.is loop.invariant.small.positive loop.invariant.small.align stop)

pub returns-in_err-all-clause-shape : goal.returns-in_err-all-clause-shape
returns-in_err-all-clause-shape c =
    let ds = structs_view c.args.structs.now in
    let loop = c.loop-ty in
    let item = c.loop-ty-item.result in
    let stop = ap (λ o. limited (option_and_then (λ member. Some (with_member loop.all member)) o)) (within-back (shape_of ds (ty_view item.1)) c.in_ok-member.member c.in_ok-member.ensures.shape) ∙ sym c.in_err-all.ensures.shape in
    c.from_residual-in_err-all.ensures
    ∙ sym (ap limited loop.invariant.whole ∙ members-fail ds c.args.members.now loop.ty-index item loop.all c.loop-ty-test.true c.loop-ty-item.is loop.invariant.small.positive loop.invariant.small.align stop)
