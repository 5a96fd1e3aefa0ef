use Rattle.std.proofs.Common.{rules, arith}
use Rattle.std.proofs.lemmas.Grind.{common_steps}
use Rattle.ec_language.specs.Syntax.{limits}
use Rattle.ec_grammar.specs.ReadDeclarations.{nested}
use Rattle.ec_grammar.specs.ReadStatements.{block_items, block_items_from, nested_statements}
use Rattle.ec_cursor.specs.States.{seen}
use Rattle.ec_csyntax.specs.Views.{each_stmt}
use Rattle.ec_cursor.proofs.Turns.{one_more, no_more}
use Rattle.ec_csyntax.proofs.statements.Statements.block_items.Goals as goal

pub loop-turn-init : goal.loop-turn-init
unfolding block_items
loop-turn-init g c = first_of (search rules, grind (arith, common_steps))

pub returns-then-not-begins_block_item : goal.returns-then-not-begins_block_item
unfolding block_items_from
returns-then-not-begins_block_item g c =
    let e = one_more (λ n. block_items_from limits (nested limits c.args.self.now.levels) (nested_statements limits c.args.self.now.levels) n (each_stmt c.loop-turn.found) (seen c.loop-turn.cursor)) _ c.loop-turn._turn c.loop-turn-test.true c.loop-turn.invariant in
    first_of (search rules, grind (arith, common_steps))

pub returns-in_err-block_item : goal.returns-in_err-block_item
unfolding block_items_from
returns-in_err-block_item g c =
    let e = one_more (λ n. block_items_from limits (nested limits c.args.self.now.levels) (nested_statements limits c.args.self.now.levels) n (each_stmt c.loop-turn.found) (seen c.loop-turn.cursor)) _ c.loop-turn._turn c.loop-turn-test.true c.loop-turn.invariant in
    first_of (search rules, grind (arith, common_steps))

pub loop-turn-preserved : goal.loop-turn-preserved
unfolding block_items_from
loop-turn-preserved g c =
    let e = one_more (λ n. block_items_from limits (nested limits c.args.self.now.levels) (nested_statements limits c.args.self.now.levels) n (each_stmt c.loop-turn.found) (seen c.loop-turn.cursor)) _ c.loop-turn._turn c.loop-turn-test.true c.loop-turn.invariant in
    first_of (search rules, grind (arith, common_steps))

pub returns : goal.returns
unfolding block_items_from
returns g c =
    let e = no_more (λ n. block_items_from limits (nested limits c.args.self.now.levels) (nested_statements limits c.args.self.now.levels) n (each_stmt c.loop-turn.found) (seen c.loop-turn.cursor)) _ c.loop-turn._turn c.loop-turn-test.false c.loop-turn.invariant in
    first_of (search rules, grind (arith, common_steps))
