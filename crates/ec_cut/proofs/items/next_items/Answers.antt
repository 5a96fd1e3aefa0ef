use Rattle.std.proofs.Common.{map, sym, ap, ◌∙◌, ◌-◌, ◌+◌, ◌∷◌, []}
use Rattle.std.proofs.lemmas.List.{map-append}
use Rattle.ec_arguments.specs.Reading.{next_items}
use Rattle.ec_cut.specs.Cases.{with_front}
use Rattle.ec_cut.specs.Views.{left_view, items_view, item_view}
use Rattle.ec_cut.proofs.Found.{one_more, items_ended, items_stuck, items_more}
use Rattle.ec_cut.proofs.items.next_items.Goals as goal

pub returns-then-at_end : goal.returns-then-at_end
returns-then-at_end g c =
    let e = one_more (λ n. with_front (items_view g.B.Literal.bytes g.A.Pointer.view c.loop-turn.found) (next_items n (left_view g.B.Literal.bytes g.A.Pointer.view c.loop-turn.front))) c.args.most c.loop-turn._turn c.loop-turn-test.true c.loop-turn.invariant in
    items_ended (c.args.most - (c.loop-turn._turn + 1)) (left_view g.B.Literal.bytes g.A.Pointer.view c.loop-turn.front) _ (items_view g.B.Literal.bytes g.A.Pointer.view c.loop-turn.found) _ e c.if-at_end.ensures c.pass.ensures

pub returns-in-None : goal.returns-in-None
returns-in-None g c =
    let e = one_more (λ n. with_front (items_view g.B.Literal.bytes g.A.Pointer.view c.loop-turn.found) (next_items n (left_view g.B.Literal.bytes g.A.Pointer.view c.loop-turn.front))) c.args.most c.loop-turn._turn c.loop-turn-test.true c.loop-turn.invariant in
    e ∙ ap (with_front (items_view g.B.Literal.bytes g.A.Pointer.view c.loop-turn.found)) (items_stuck (c.args.most - (c.loop-turn._turn + 1)) (left_view g.B.Literal.bytes g.A.Pointer.view c.loop-turn.front) (sym c.if-at_end.ensures) c.in-None.ensures)

pub loop-turn-preserved : goal.loop-turn-preserved
loop-turn-preserved g c =
    let e = one_more (λ n. with_front (items_view g.B.Literal.bytes g.A.Pointer.view c.loop-turn.found) (next_items n (left_view g.B.Literal.bytes g.A.Pointer.view c.loop-turn.front))) c.args.most c.loop-turn._turn c.loop-turn-test.true c.loop-turn.invariant in
    let view = item_view g.B.Literal.bytes g.A.Pointer.view in
    let pushed = ap (map view) c.in_ok-push-in-Some.ensures.ok ∙ map-append view c.loop-turn.found (c.in-Some.item ∷ []) in
    e ∙ items_more (c.args.most - (c.loop-turn._turn + 1)) (left_view g.B.Literal.bytes g.A.Pointer.view c.loop-turn.front) _ (view c.in-Some.item) (items_view g.B.Literal.bytes g.A.Pointer.view c.loop-turn.found) (sym c.if-at_end.ensures) c.in-Some.ensures
    ∙ ap (λ found. with_front found (next_items (c.args.most - (c.loop-turn._turn + 1)) (left_view g.B.Literal.bytes g.A.Pointer.view c.next_item.new.front))) (sym pushed)
