use Rattle.std.proofs.Common.{rules, arith, map, Ok, sym, ap, ◌∙◌}
use Rattle.std.proofs.lemmas.Grind.{common_steps}
use Rattle.std.proofs.lemmas.Result.{err_from_is_err_and}
use Rattle.ec_grammar.specs.Lists.{separated, separated_from}
use Rattle.ec_cursor.specs.States.{seen}
use Rattle.ec_cursor.proofs.ListTurns.{no_comma, no_item, one_item}
use Rattle.ec_cursor.proofs.Turns.{one_more, no_more}
use Rattle.ec_cursor.proofs.lists.separated.Goals as goal

pub loop-turn-init : goal.loop-turn-init
unfolding separated
loop-turn-init g c item reads = first_of (search rules, grind (arith, common_steps))

pub returns-then-not-eat : goal.returns-then-not-eat
returns-then-not-eat g c item reads =
    let e = one_more (λ n. separated_from item n (map g.T.Item.view c.loop-turn.found) (seen c.loop-turn.cursor)) _ c.loop-turn._turn c.loop-turn-test.true (c.loop-turn.invariant item reads) in
    let stop = c.if-not-eat.ensures in
    e ∙ no_comma item _ _ _ stop.0 ∙ ap (λ s. Ok (map g.T.Item.view c.loop-turn.found, s)) (sym stop.1)

pub returns-in_err-next : goal.returns-in_err-next
returns-in_err-next g c item reads =
    let e = one_more (λ n. separated_from item n (map g.T.Item.view c.loop-turn.found) (seen c.loop-turn.cursor)) _ c.loop-turn._turn c.loop-turn-test.true (c.loop-turn.invariant item reads) in
    let comma = c.if-not-eat.ensures in
    let read = reads.reads _ _ _ c.in_err-next.ensures in
    let p = err_from_is_err_and c.from_residual.result c.from_residual.ensures.1 in
    rw (p.1, p.2) (λ not_memory. e ∙ no_item item _ _ _ comma.1 _ _ comma.0 comma.2 (read not_memory))

pub loop-turn-preserved : goal.loop-turn-preserved
loop-turn-preserved g c item reads =
    let e = one_more (λ n. separated_from item n (map g.T.Item.view c.loop-turn.found) (seen c.loop-turn.cursor)) _ c.loop-turn._turn c.loop-turn-test.true (c.loop-turn.invariant item reads) in
    let comma = c.if-not-eat.ensures in
    let read = reads.reads _ _ _ c.in_ok-next.ensures in
    let done = e ∙ one_item item _ _ _ comma.1 _ _ _ comma.0 comma.2 read in
    first_of (search rules, grind (arith, common_steps))

pub returns : goal.returns
unfolding separated_from
returns g c item reads =
    no_more (λ n. separated_from item n (map g.T.Item.view c.loop-turn.found) (seen c.loop-turn.cursor)) _ c.loop-turn._turn c.loop-turn-test.false (c.loop-turn.invariant item reads)
