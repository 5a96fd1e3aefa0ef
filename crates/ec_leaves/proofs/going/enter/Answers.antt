use Rattle.std.proofs.Common.{◌∙◌, ap, sym, map, drop, List}
use Rattle.ec_ctypes.specs.trees.Types.{MemberData}
use Rattle.ec_ctypes.specs.views.Types.{member_view, structs_view}
use Rattle.ec_leaves.specs.declared.parts.Step.{Step}
use Rattle.ec_leaves.specs.Going.{members_of}
use Rattle.ec_leaves.specs.Seen.{leaf_view}
use Rattle.ec_leaves.proofs.Turning.{total, turn_deep, turn_entered}
use Rattle.ec_leaves.proofs.going.enter.Goals as goal

pub returns-then-is_deepest-clause-turned : goal.returns-then-is_deepest-clause-turned
returns-then-is_deepest-clause-turned c =
    let structs = structs_view c.args.structs.now in
    let old = c.args.walk.now in
    let ls = map leaf_view old.leaves in
    let ms = drop c.args.next (members_of structs old.id) in
    ap (λ (l : List MemberData). total structs c.args.frame old.outer old.id l ls) c.requires.left
    ∙ turn_deep structs c.args.frame old.outer old.id c.args.inner (member_view c.args.member.now) ms ls c.requires.other c.requires.inner (sym c.is_deepest.ensures ∙ c.if-is_deepest.true)

pub returns-clause-turned : goal.returns-clause-turned
returns-clause-turned c =
    let structs = structs_view c.args.structs.now in
    let old = c.args.walk.now in
    let ls = map leaf_view old.leaves in
    let step : Step = record { id = old.id; name = c.in_ok-name.name; next = c.args.next } in
    ap (λ (o : List Step). total structs c.args.frame o c.args.inner (members_of structs c.args.inner) ls) c.in_ok-push.ensures.ok
    ∙ turn_entered structs c.args.frame old.outer step (member_view c.args.member.now) c.args.inner ls c.in_ok-name.ensures.cases c.requires.other c.requires.inner (sym c.is_deepest.ensures ∙ c.if-is_deepest.false)
    ∙ sym (ap (λ (l : List MemberData). total structs c.args.frame old.outer old.id l ls) c.requires.left)
