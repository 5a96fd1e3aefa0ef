use Rattle.std.proofs.Common.{rules, arith}
use Rattle.std.proofs.lemmas.Grind.{common_steps}
use Rattle.ec_grammar.specs.ReadDeclarations.{more_initializers, more_initializers_from, nested}
use Rattle.ec_language.specs.Syntax.{limits}
use Rattle.ec_cursor.specs.Parts.{each_init}
use Rattle.ec_cursor.specs.States.{seen}
use Rattle.ec_cursor.proofs.Turns.{one_more, no_more}
use Rattle.ec_cdeclare.proofs.declarators.Declarators.more_initializers.Goals as goal

pub loop-turn-init : goal.loop-turn-init
unfolding more_initializers
loop-turn-init g c = first_of (search rules, grind (arith, common_steps))

pub returns-then-not-sees : goal.returns-then-not-sees
unfolding more_initializers_from
returns-then-not-sees g c =
    let e = one_more (λ n. more_initializers_from limits (nested limits c.args.self.now.expressions.levels) n (each_init c.loop-turn.found) (seen c.loop-turn.cursor)) _ c.loop-turn._turn c.loop-turn-test.true c.loop-turn.invariant in
    first_of (search rules, grind (arith, common_steps))

pub returns-in_err-expect : goal.returns-in_err-expect
unfolding more_initializers_from
returns-in_err-expect g c =
    let e = one_more (λ n. more_initializers_from limits (nested limits c.args.self.now.expressions.levels) n (each_init c.loop-turn.found) (seen c.loop-turn.cursor)) _ c.loop-turn._turn c.loop-turn-test.true c.loop-turn.invariant in
    first_of (search rules, grind (arith, common_steps))

pub returns-then-not-goes_on : goal.returns-then-not-goes_on
unfolding more_initializers_from
returns-then-not-goes_on g c =
    let e = one_more (λ n. more_initializers_from limits (nested limits c.args.self.now.expressions.levels) n (each_init c.loop-turn.found) (seen c.loop-turn.cursor)) _ c.loop-turn._turn c.loop-turn-test.true c.loop-turn.invariant in
    first_of (search rules, grind (arith, common_steps))

pub returns-in_err-initializer : goal.returns-in_err-initializer
unfolding more_initializers_from
returns-in_err-initializer g c =
    let e = one_more (λ n. more_initializers_from limits (nested limits c.args.self.now.expressions.levels) n (each_init c.loop-turn.found) (seen c.loop-turn.cursor)) _ c.loop-turn._turn c.loop-turn-test.true c.loop-turn.invariant in
    first_of (search rules, grind (arith, common_steps))

pub loop-turn-preserved : goal.loop-turn-preserved
unfolding more_initializers_from
loop-turn-preserved g c =
    let e = one_more (λ n. more_initializers_from limits (nested limits c.args.self.now.expressions.levels) n (each_init c.loop-turn.found) (seen c.loop-turn.cursor)) _ c.loop-turn._turn c.loop-turn-test.true c.loop-turn.invariant in
    first_of (search rules, grind (arith, common_steps))

pub returns : goal.returns
unfolding more_initializers_from
returns g c =
    let e = no_more (λ n. more_initializers_from limits (nested limits c.args.self.now.expressions.levels) n (each_init c.loop-turn.found) (seen c.loop-turn.cursor)) _ c.loop-turn._turn c.loop-turn-test.false c.loop-turn.invariant in
    first_of (search rules, grind (arith, common_steps))
