use Rattle.std.proofs.Common.{rules, arith}
use Rattle.std.proofs.lemmas.Grind.{common_steps}
use Rattle.ec_language.specs.Syntax.{limits}
use Rattle.ec_csyntax.specs.Tops.{top_inner, top_deeper}
use Rattle.ec_grammar.specs.ReadStatements.{items, items_from}
use Rattle.ec_cursor.specs.States.{seen}
use Rattle.ec_csyntax.specs.Views.{each_top}
use Rattle.ec_cursor.proofs.Turns.{one_more, no_more}
use Rattle.ec_csyntax.proofs.units.items.Goals as goal

pub loop-turn-init : goal.loop-turn-init
unfolding items
loop-turn-init c = first_of (search rules, grind (arith, common_steps))

pub returns-then-not-begins_item : goal.returns-then-not-begins_item
unfolding items_from
returns-then-not-begins_item c =
    let e = one_more (λ n. items_from limits top_inner top_deeper n (each_top c.loop-turn.found) (seen c.loop-turn.cursor)) _ c.loop-turn._turn c.loop-turn-test.true c.loop-turn.invariant in
    first_of (search rules, grind (arith, common_steps))

pub returns-in_err-item : goal.returns-in_err-item
unfolding items_from
returns-in_err-item c =
    let e = one_more (λ n. items_from limits top_inner top_deeper n (each_top c.loop-turn.found) (seen c.loop-turn.cursor)) _ c.loop-turn._turn c.loop-turn-test.true c.loop-turn.invariant in
    first_of (search rules, grind (arith, common_steps))

pub loop-turn-preserved : goal.loop-turn-preserved
unfolding items_from
loop-turn-preserved c =
    let e = one_more (λ n. items_from limits top_inner top_deeper n (each_top c.loop-turn.found) (seen c.loop-turn.cursor)) _ c.loop-turn._turn c.loop-turn-test.true c.loop-turn.invariant in
    first_of (search rules, grind (arith, common_steps))

pub returns : goal.returns
unfolding items_from
returns c =
    let e = no_more (λ n. items_from limits top_inner top_deeper n (each_top c.loop-turn.found) (seen c.loop-turn.cursor)) _ c.loop-turn._turn c.loop-turn-test.false c.loop-turn.invariant in
    first_of (search rules, grind (arith, common_steps))
