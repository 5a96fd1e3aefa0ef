-- One byte more, or the end.
use Rattle.std.proofs.Common.{arith}
use Rattle.ec_bytes.proofs.Kept.{run_one, run_unset, run_zero}
use Rattle.ec_bytes.proofs.parts.run_by_cells.Goals as goal

pub loop-count-preserved : goal.loop-count-preserved
loop-count-preserved c = record {
  within = omega (arith, c.loop-count-test.true);
  whole = run_one c.args.room c.args.memory.now c.args.at c.args.n c.requires (omega (arith, c.requires.0, c.requires.1)) c.loop-count.count c.loop-count-test.true c.loop-count.invariant.whole c.if-few_set.ensures c.if-memory-at-ne0.true;
}

pub returns-else-memory-at-ne0-clause-run : goal.returns-else-memory-at-ne0-clause-run
returns-else-memory-at-ne0-clause-run c =
    run_zero c.args.room c.args.memory.now c.args.at c.args.n c.requires (omega (arith, c.requires.0, c.requires.1)) c.loop-count.count c.loop-count-test.true c.loop-count.invariant.whole c.if-memory-at-ne0.false

pub returns-else-few_set-clause-run : goal.returns-else-few_set-clause-run
returns-else-few_set-clause-run c =
    run_unset c.args.room c.args.memory.now c.args.at c.args.n c.requires (omega (arith, c.requires.0, c.requires.1)) c.loop-count.count c.loop-count-test.true c.loop-count.invariant.whole c.if-few_set.ensures
