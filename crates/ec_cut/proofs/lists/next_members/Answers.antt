use Rattle.std.proofs.Common.{map, sym, ap, ◌∙◌, ◌-◌, ◌+◌, ◌∷◌, []}
use Rattle.std.proofs.lemmas.List.{map-append}
use Rattle.ec_arguments.specs.Reading.{next_members}
use Rattle.ec_cut.specs.Cases.{ends_by, with_front}
use Rattle.ec_cut.specs.Views.{left_view, members_view, member_view}
use Rattle.ec_cut.proofs.Found.{one_more, members_ended, members_stuck, members_more}
use Rattle.ec_cut.proofs.lists.next_members.Goals as goal

pub returns-then-at_end : goal.returns-then-at_end
returns-then-at_end g c =
    let e = one_more (λ n. with_front (members_view g.B.Literal.bytes g.A.Pointer.view c.loop-turn.found) (next_members (ends_by c.args.end) n (left_view g.B.Literal.bytes g.A.Pointer.view c.loop-turn.front))) c.args.most c.loop-turn._turn c.loop-turn-test.true c.loop-turn.invariant in
    members_ended (ends_by c.args.end) (c.args.most - (c.loop-turn._turn + 1)) (left_view g.B.Literal.bytes g.A.Pointer.view c.loop-turn.front) _ (members_view g.B.Literal.bytes g.A.Pointer.view c.loop-turn.found) _ e c.if-at_end.ensures c.pass.ensures

pub returns-in-None : goal.returns-in-None
returns-in-None g c =
    let e = one_more (λ n. with_front (members_view g.B.Literal.bytes g.A.Pointer.view c.loop-turn.found) (next_members (ends_by c.args.end) n (left_view g.B.Literal.bytes g.A.Pointer.view c.loop-turn.front))) c.args.most c.loop-turn._turn c.loop-turn-test.true c.loop-turn.invariant in
    e ∙ ap (with_front (members_view g.B.Literal.bytes g.A.Pointer.view c.loop-turn.found)) (members_stuck (ends_by c.args.end) (c.args.most - (c.loop-turn._turn + 1)) (left_view g.B.Literal.bytes g.A.Pointer.view c.loop-turn.front) (sym c.if-at_end.ensures) c.in-None.ensures)

pub loop-turn-preserved : goal.loop-turn-preserved
loop-turn-preserved g c =
    let e = one_more (λ n. with_front (members_view g.B.Literal.bytes g.A.Pointer.view c.loop-turn.found) (next_members (ends_by c.args.end) n (left_view g.B.Literal.bytes g.A.Pointer.view c.loop-turn.front))) c.args.most c.loop-turn._turn c.loop-turn-test.true c.loop-turn.invariant in
    let view = member_view g.B.Literal.bytes g.A.Pointer.view in
    let pushed = ap (map view) c.in_ok-push-in-Some.ensures.ok ∙ map-append view c.loop-turn.found (c.in-Some.member ∷ []) in
    e ∙ members_more (ends_by c.args.end) (c.args.most - (c.loop-turn._turn + 1)) (left_view g.B.Literal.bytes g.A.Pointer.view c.loop-turn.front) _ (view c.in-Some.member) (members_view g.B.Literal.bytes g.A.Pointer.view c.loop-turn.found) (sym c.if-at_end.ensures) c.in-Some.ensures
    ∙ ap (λ found. with_front found (next_members (ends_by c.args.end) (c.args.most - (c.loop-turn._turn + 1)) (left_view g.B.Literal.bytes g.A.Pointer.view c.next_member.new.front))) (sym pushed)
