use Rattle.ec_known.proofs.Tables.{row_found, row_passed}
use Rattle.ec_known.proofs.functions.signature_in.Goals as goal

pub returns-then-is_word : goal.returns-then-is_word
returns-then-is_word c =
    row_found c.args.rows.now c.loop-function.function-index _ c.args.name.now _ c.loop-function-test.true c.loop-function.invariant c.if-is_word.ensures

pub loop-function-preserved : goal.loop-function-preserved
loop-function-preserved c =
    row_passed c.args.rows.now c.loop-function.function-index _ c.args.name.now _ c.loop-function-test.true c.loop-function.invariant c.if-is_word.ensures
