use Rattle.std.proofs.Common.{ap, rules, arith}
use Rattle.std.proofs.lemmas.Grind.{common_steps}
use Rattle.ec_grammar.specs.ReadDeclarations.{stars, stars_from}
use Rattle.ec_language.specs.Syntax.{limits}
use Rattle.ec_cursor.specs.States.{seen}
use Rattle.ec_cursor.proofs.Turns.{one_more, no_more}
use Rattle.ec_cdeclare.proofs.StarCounts.{same_counts, star_counted}
use Rattle.ec_cdeclare.proofs.types.stars.Goals as goal

pub loop-turn-init : goal.loop-turn-init
unfolding stars
loop-turn-init c = first_of (search rules, grind (arith, common_steps))

pub returns-then-not-sees : goal.returns-then-not-sees
unfolding stars_from
returns-then-not-sees c =
    let e = one_more (λ n. stars_from limits n c.loop-turn.found (seen c.loop-turn.cursor)) _ c.loop-turn._turn c.loop-turn-test.true c.loop-turn.invariant.0 in
    first_of (search rules, grind (arith, common_steps))

pub returns-in_err-expect_counted : goal.returns-in_err-expect_counted
unfolding stars_from
returns-in_err-expect_counted c =
    let e = one_more (λ n. stars_from limits n c.loop-turn.found (seen c.loop-turn.cursor)) _ c.loop-turn._turn c.loop-turn-test.true c.loop-turn.invariant.0 in
    first_of (search rules, grind (arith, common_steps))

pub returns-in_err-constants : goal.returns-in_err-constants
unfolding stars_from
returns-in_err-constants c =
    let e = one_more (λ n. stars_from limits n c.loop-turn.found (seen c.loop-turn.cursor)) _ c.loop-turn._turn c.loop-turn-test.true c.loop-turn.invariant.0 in
    first_of (search rules, grind (arith, common_steps))

pub overflow_add-found : goal.overflow_add-found
overflow_add-found c =
    let counted = star_counted _ _ _ _ c.in_ok-expect_counted.ensures.1 in
    omega (arith, counted.more, counted.few, c.loop-turn.invariant.1)

pub loop-turn-preserved : goal.loop-turn-preserved
unfolding stars_from
loop-turn-preserved c =
    let e = one_more (λ n. stars_from limits n c.loop-turn.found (seen c.loop-turn.cursor)) _ c.loop-turn._turn c.loop-turn-test.true c.loop-turn.invariant.0 in
    let counted = star_counted _ _ _ _ c.in_ok-expect_counted.ensures.1 in
    let same = same_counts _ _ _ c.in_ok-constants.ensures in
    (first_of (search rules, grind (arith, common_steps)), omega (arith, counted.more, ap (λ n. n.derivations) same, c.loop-turn.invariant.1))

pub returns : goal.returns
unfolding stars_from
returns c =
    let e = no_more (λ n. stars_from limits n c.loop-turn.found (seen c.loop-turn.cursor)) _ c.loop-turn._turn c.loop-turn-test.false c.loop-turn.invariant.0 in
    first_of (search rules, grind (arith, common_steps))
