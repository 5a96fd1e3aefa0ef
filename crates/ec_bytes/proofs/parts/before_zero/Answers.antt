-- One byte more.
use Rattle.std.proofs.Common.{arith}
use Rattle.ec_bytes.proofs.Runs.{none_one}
use Rattle.ec_bytes.proofs.parts.before_zero.Goals as goal

pub loop-count-preserved : goal.loop-count-preserved
loop-count-preserved c = record {
  within = omega (arith, c.loop-count-test.true);
  none = none_one c.args.memory.now c.args.at c.loop-count.count (omega (arith, c.requires, c.loop-count-test.true)) c.loop-count.invariant.none c.if-memory-at-ne0.true;
}
