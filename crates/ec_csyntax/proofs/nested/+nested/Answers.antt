use Rattle.std.proofs.Common.{arith, refl}
use Rattle.ec_cursor.specs.States.{seen}
use Rattle.ec_csyntax.proofs.Levels.{one_statement, one_block, statement_fails, block_fails}
use Rattle.ec_csyntax.proofs.nested.+nested.Goals as goal

pub nested_statement-returns-then-levels-eq0 : goal.nested_statement-returns-then-levels-eq0
nested_statement-returns-then-levels-eq0 t c = λ _. statement_fails _ _ _ _ _ c.if-levels-eq0.true c.peek.ensures c.begins_statement.ensures c.no_level.ensures

pub nested_statement-returns : goal.nested_statement-returns
nested_statement-returns t c = rw (one_statement c.args.levels (seen c.args.cursor.now) (omega arith)) c.statement.ensures

pub nested_block-returns-then-levels-eq0 : goal.nested_block-returns-then-levels-eq0
nested_block-returns-then-levels-eq0 t c = λ _. block_fails _ _ _ _ _ c.if-levels-eq0.true refl c.sees.ensures c.no_level.ensures

pub nested_block-returns : goal.nested_block-returns
nested_block-returns t c = rw (one_block c.args.levels (seen c.args.cursor.now) (omega arith)) c.block.ensures
