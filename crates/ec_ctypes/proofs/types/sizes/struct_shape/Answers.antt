use Rattle.std.proofs.Common.{◌≡◌, ◌≢◌, Some, map, length, option_map, ap, sym, ◌∙◌, arith}
use Rattle.std.proofs.lemmas.Bool.Decides.{nat_tests}
use Rattle.ec_ctypes.specs.views.Types.{member_view, structs_view}
use Rattle.ec_ctypes.specs.Layout.{no_members, with_members, shapes_of, limited}
use Rattle.ec_ctypes.proofs.Shapes.{struct-bare, struct-rounded, round, round-stop, within-back}
use Rattle.ec_ctypes.proofs.types.sizes.struct_shape.Goals as goal

pub returns-then-is_empty : goal.returns-then-is_empty
returns-then-is_empty c =
    let members = c.args.members.now in
    let h : length members ≡ 0 = grind (arith, nat_tests, c.is_empty.ensures, c.if-is_empty.true) in
    sym (ap limited (struct-bare _ members h))

pub returns-in_err-all : goal.returns-in_err-all
returns-in_err-all c =
    let members = c.args.members.now in
    let h : length members ≢ 0 = grind (arith, nat_tests, c.is_empty.ensures, c.if-is_empty.false) in
    c.from_residual.ensures
    ∙ sym (ap limited (struct-rounded _ members h) ∙ round-stop (with_members (shapes_of (structs_view c.args.structs.now)) no_members (map member_view members)) (sym c.in_err-all.ensures.shape))

pub returns : goal.returns
returns c =
    let members = c.args.members.now in
    let h : length members ≢ 0 = grind (arith, nat_tests, c.is_empty.ensures, c.if-is_empty.false) in
    let e = struct-rounded _ members h ∙ ap (option_map round) (within-back _ c.in_ok-all.all c.in_ok-all.ensures.shape) in
    c.within.ensures.shape ∙ ap (λ n. limited (Some (record { size = n; align = c.in_ok-all.all.align }))) c.start.ensures.start ∙ sym (ap limited e)
