use Rattle.std.proofs.Common.{rules, arith}
use Rattle.std.proofs.lemmas.Grind.{common_steps}
use Rattle.ec_grammar.specs.ReadDeclarations.{lengths, lengths_from, nested}
use Rattle.ec_language.specs.Syntax.{limits}
use Rattle.ec_cursor.specs.Parts.{each_length}
use Rattle.ec_cursor.specs.States.{seen}
use Rattle.ec_cursor.proofs.Turns.{one_more, no_more}
use Rattle.ec_cdeclare.proofs.declarators.Declarators.lengths.Goals as goal

pub loop-turn-init : goal.loop-turn-init
unfolding lengths
loop-turn-init g c = first_of (search rules, grind (arith, common_steps))

pub returns-then-not-sees : goal.returns-then-not-sees
unfolding lengths_from
returns-then-not-sees g c =
    let e = one_more (λ n. lengths_from limits (nested limits c.args.self.now.expressions.levels) n (each_length c.loop-turn.found) (seen c.loop-turn.cursor)) _ c.loop-turn._turn c.loop-turn-test.true c.loop-turn.invariant in
    first_of (search rules, grind (arith, common_steps))

pub returns-in_err-length : goal.returns-in_err-length
unfolding lengths_from
returns-in_err-length g c =
    let e = one_more (λ n. lengths_from limits (nested limits c.args.self.now.expressions.levels) n (each_length c.loop-turn.found) (seen c.loop-turn.cursor)) _ c.loop-turn._turn c.loop-turn-test.true c.loop-turn.invariant in
    first_of (search rules, grind (arith, common_steps))

pub loop-turn-preserved : goal.loop-turn-preserved
unfolding lengths_from
loop-turn-preserved g c =
    let e = one_more (λ n. lengths_from limits (nested limits c.args.self.now.expressions.levels) n (each_length c.loop-turn.found) (seen c.loop-turn.cursor)) _ c.loop-turn._turn c.loop-turn-test.true c.loop-turn.invariant in
    first_of (search rules, grind (arith, common_steps))

pub returns : goal.returns
unfolding lengths_from
returns g c =
    let e = no_more (λ n. lengths_from limits (nested limits c.args.self.now.expressions.levels) n (each_length c.loop-turn.found) (seen c.loop-turn.cursor)) _ c.loop-turn._turn c.loop-turn-test.false c.loop-turn.invariant in
    first_of (search rules, grind (arith, common_steps))
