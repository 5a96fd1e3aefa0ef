use Rattle.std.proofs.Common.{◌∙◌, ◌+◌, ◌∷◌, ap, sym, map, drop, List}
use Rattle.ec_ctypes.specs.trees.Types.{MemberData}
use Rattle.ec_ctypes.specs.views.Types.{member_view, structs_view}
use Rattle.ec_leaves.specs.Going.{members_of}
use Rattle.ec_leaves.specs.Seen.{leaf_view}
use Rattle.ec_leaves.proofs.Turning.{one_left, total, turn_none}
use Rattle.ec_leaves.proofs.going.pass.Goals as goal

pub add_leaf-requires-clause-left : goal.add_leaf-requires-clause-left
add_leaf-requires-clause-left c =
    let members = members_of (structs_view c.args.structs.now) c.args.walk.now.id in
    one_left members c.args.walk.now.next (member_view c.args.member.now) c.requires.there
    ∙ sym (ap (λ n. member_view c.args.member.now ∷ drop n members) c.in_ok-next.ensures)

pub enter-requires-clause-left : goal.enter-requires-clause-left
enter-requires-clause-left c =
    let members = members_of (structs_view c.args.structs.now) c.args.walk.now.id in
    one_left members c.args.walk.now.next (member_view c.args.member.now) c.requires.there
    ∙ sym (ap (λ n. member_view c.args.member.now ∷ drop n members) c.in_ok-next.ensures)

pub returns-in-None-clause-turned : goal.returns-in-None-clause-turned
returns-in-None-clause-turned c =
    let structs = structs_view c.args.structs.now in
    let old = c.args.walk.now in
    let members = members_of structs old.id in
    let ls = map leaf_view old.leaves in
    let m = member_view c.args.member.now in
    ap (λ (l : List MemberData). total structs c.args.frame old.outer old.id l ls) (one_left members old.next m c.requires.there)
    ∙ turn_none structs c.args.frame old.outer old.id m (drop (old.next + 1) members) ls (sym c.is_element.ensures ∙ c.if-is_element.false) (sym c.in-None.ensures)
