use Rattle.std.proofs.Common.{rules, arith}
use Rattle.std.proofs.lemmas.Grind.{common_steps}
use Rattle.ec_grammar.specs.ReadDeclarations.{constants, constants_from}
use Rattle.ec_cursor.specs.States.{seen}
use Rattle.ec_cursor.proofs.Turns.{one_more, no_more}
use Rattle.ec_cdeclare.proofs.types.constants.Goals as goal

pub loop-turn-init : goal.loop-turn-init
unfolding constants
loop-turn-init c = first_of (search rules, grind (arith, common_steps))

pub returns-then-not-eat : goal.returns-then-not-eat
unfolding constants_from
returns-then-not-eat c =
    let e = one_more (λ n. constants_from n (seen c.loop-turn.cursor)) _ c.loop-turn._turn c.loop-turn-test.true c.loop-turn.invariant in
    first_of (search rules, grind (arith, common_steps))

pub loop-turn-preserved : goal.loop-turn-preserved
unfolding constants_from
loop-turn-preserved c =
    let e = one_more (λ n. constants_from n (seen c.loop-turn.cursor)) _ c.loop-turn._turn c.loop-turn-test.true c.loop-turn.invariant in
    first_of (search rules, grind (arith, common_steps))

pub returns : goal.returns
unfolding constants_from
returns c =
    let e = no_more (λ n. constants_from n (seen c.loop-turn.cursor)) _ c.loop-turn._turn c.loop-turn-test.false c.loop-turn.invariant in
    first_of (search rules, grind (arith, common_steps))
