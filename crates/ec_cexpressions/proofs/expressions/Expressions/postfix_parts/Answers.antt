use Rattle.std.proofs.Common.{rules, arith}
use Rattle.std.proofs.lemmas.Grind.{common_steps}
use Rattle.ec_grammar.specs.ReadDeclarations.{nested}
use Rattle.ec_grammar.specs.ReadExpressions.{postfix_parts, postfix_parts_from}
use Rattle.ec_language.specs.Syntax.{limits}
use Rattle.ec_cexpressions.specs.Primaries.{primary_view}
use Rattle.ec_cursor.specs.States.{seen}
use Rattle.ec_cursor.proofs.Turns.{one_more, no_more}
use Rattle.ec_cexpressions.proofs.expressions.Expressions.postfix_parts.Goals as goal

pub loop-turn-init : goal.loop-turn-init
unfolding postfix_parts
loop-turn-init g c = first_of (search rules, grind (arith, common_steps))

pub returns-then-not-begins_postfix_part : goal.returns-then-not-begins_postfix_part
unfolding postfix_parts_from
returns-then-not-begins_postfix_part g c =
    let e = one_more (λ n. postfix_parts_from limits (nested limits c.args.self.now.levels) n (primary_view c.loop-turn.left) (seen c.loop-turn.cursor)) _ c.loop-turn._turn c.loop-turn-test.true c.loop-turn.invariant in
    first_of (search rules, grind (arith, common_steps))

pub returns-in_err-left : goal.returns-in_err-left
unfolding postfix_parts_from
returns-in_err-left g c =
    let e = one_more (λ n. postfix_parts_from limits (nested limits c.args.self.now.levels) n (primary_view c.loop-turn.left) (seen c.loop-turn.cursor)) _ c.loop-turn._turn c.loop-turn-test.true c.loop-turn.invariant in
    first_of (search rules, grind (arith, common_steps))

pub loop-turn-preserved : goal.loop-turn-preserved
unfolding postfix_parts_from
loop-turn-preserved g c =
    let e = one_more (λ n. postfix_parts_from limits (nested limits c.args.self.now.levels) n (primary_view c.loop-turn.left) (seen c.loop-turn.cursor)) _ c.loop-turn._turn c.loop-turn-test.true c.loop-turn.invariant in
    first_of (search rules, grind (arith, common_steps))

pub returns : goal.returns
unfolding postfix_parts_from
returns g c =
    let e = no_more (λ n. postfix_parts_from limits (nested limits c.args.self.now.levels) n (primary_view c.loop-turn.left) (seen c.loop-turn.cursor)) _ c.loop-turn._turn c.loop-turn-test.false c.loop-turn.invariant in
    first_of (search rules, grind (arith, common_steps))
