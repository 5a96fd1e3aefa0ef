use Rattle.std.proofs.Common.{rules, arith}
use Rattle.std.proofs.lemmas.Grind.{common_steps}
use Rattle.ec_grammar.specs.ReadDeclarations.{more_words, more_words_from}
use Rattle.ec_cursor.specs.States.{seen}
use Rattle.ec_cursor.proofs.Turns.{one_more, no_more}
use Rattle.ec_cdeclare.proofs.types.more_words.Goals as goal

pub loop-turn-init : goal.loop-turn-init
unfolding more_words
loop-turn-init c = first_of (search rules, grind (arith, common_steps))

pub returns-in_err-expect-in-Const : goal.returns-in_err-expect-in-Const
unfolding more_words_from
returns-in_err-expect-in-Const c =
    let e = one_more (λ n. more_words_from n c.loop-turn.found (seen c.loop-turn.cursor)) _ c.loop-turn._turn c.loop-turn-test.true c.loop-turn.invariant in
    first_of (search rules, grind (arith, common_steps))

pub returns-in_err-word-in-TypeWord : goal.returns-in_err-word-in-TypeWord
unfolding more_words_from
returns-in_err-word-in-TypeWord c =
    let e = one_more (λ n. more_words_from n c.loop-turn.found (seen c.loop-turn.cursor)) _ c.loop-turn._turn c.loop-turn-test.true c.loop-turn.invariant in
    first_of (search rules, grind (arith, common_steps))

pub returns-in_default : goal.returns-in_default
unfolding more_words_from
returns-in_default c =
    let e = one_more (λ n. more_words_from n c.loop-turn.found (seen c.loop-turn.cursor)) _ c.loop-turn._turn c.loop-turn-test.true c.loop-turn.invariant in
    first_of (search rules, grind (arith, common_steps))

pub loop-turn-preserved : goal.loop-turn-preserved
unfolding more_words_from
loop-turn-preserved c =
    let e = one_more (λ n. more_words_from n c.loop-turn.found (seen c.loop-turn.cursor)) _ c.loop-turn._turn c.loop-turn-test.true c.loop-turn.invariant in
    first_of (search rules, grind (arith, common_steps))

pub returns : goal.returns
unfolding more_words_from
returns c =
    let e = no_more (λ n. more_words_from n c.loop-turn.found (seen c.loop-turn.cursor)) _ c.loop-turn._turn c.loop-turn-test.false c.loop-turn.invariant in
    first_of (search rules, grind (arith, common_steps))
