use Rattle.std.proofs.Common.{◌≤◌, IsSome, IfSome, Option, map, take, subst, ap, sym, ◌∙◌}
use Rattle.ec_ctypes.specs.declared.types.sizes.Shape.{Shape}
use Rattle.ec_ctypes.specs.trees.Types.{structure}
use Rattle.ec_ctypes.specs.views.Types.{member_view, structs_view}
use Rattle.ec_ctypes.specs.Layout.{no_members, with_members, shapes_of, shape_of, member_behind, member_of, limited}
use Rattle.ec_ctypes.proofs.Shapes.{struct-at, fits-members, member-at}
use Rattle.ec_ctypes.proofs.Kept.{whole-fits, whole-found}
use Rattle.ec_ctypes.proofs.types.sizes.member.Goals as goal

pub find_member-requires : goal.find_member-requires
find_member-requires c =
    let found = c.in_ok-get.ensures.lookup in
    let structs = c.as_slice.result.now in
    let members = c.as_slice-members.result.now in
    let e = ap (λ l. shape_of (structs_view l) (structure c.args.id)) (sym c.as_slice.ensures) ∙ struct-at structs c.args.id c.in_ok-get.field-0.now members found.3.0 found.1 c.as_slice-members.ensures in
    let low = fits-members (shapes_of (structs_view (take c.args.id structs))) members
    (subst (λ (o : Option Shape). IsSome o) e c.requires.complete)
    (subst (λ (o : Option Shape). IfSome o (λ shape. shape.size ≤ 16777216)) e c.requires.small) in
    subst (λ l. IsSome (limited (with_members (shapes_of (structs_view l)) no_members (map member_view members)))) c.as_slice.ensures (whole-fits structs c.args.id (map member_view members) low)

pub returns : goal.returns
returns c =
    let found = c.in_ok-get.ensures.lookup in
    let structs = c.as_slice.result.now in
    let members = c.as_slice-members.result.now in
    let e = ap (λ l. shape_of (structs_view l) (structure c.args.id)) (sym c.as_slice.ensures) ∙ struct-at structs c.args.id c.in_ok-get.field-0.now members found.3.0 found.1 c.as_slice-members.ensures in
    let low = fits-members (shapes_of (structs_view (take c.args.id structs))) members
    (subst (λ (o : Option Shape). IsSome o) e c.requires.complete)
    (subst (λ (o : Option Shape). IfSome o (λ shape. shape.size ≤ 16777216)) e c.requires.small) in
    c.find_member.ensures
    ∙ ap (λ l. member_behind (shapes_of (structs_view l)) no_members c.args.name.now (map member_view members)) (sym c.as_slice.ensures)
    ∙ whole-found structs c.args.id c.args.name.now (map member_view members) low
    ∙ sym (ap (λ l. member_of (structs_view l) c.args.id c.args.name.now) (sym c.as_slice.ensures) ∙ member-at structs c.args.id c.args.name.now c.in_ok-get.field-0.now members found.3.0 found.1 c.as_slice-members.ensures)
