use Rattle.ec_call_defs.specs.Outcomes.{with_memory}
use Rattle.ec_runtime.proofs.Telling.{values_on, values_stop}
use Rattle.ec_runtime.proofs.describing.read_values.Goals as goal

pub returns-in-Err : goal.returns-in-Err
returns-in-Err c = λ s.
    values_stop c.args.given.now c.loop-one.one-index c.one-item.result c.loop-one-test.true c.one-item.is c.loop-one.values _ (with_memory c.args.store.now s) c.in-Err.stop (c.loop-one.invariant s) (c.in-Err.ensures s)

pub loop-one-preserved : goal.loop-one-preserved
loop-one-preserved c = λ s.
    values_on c.args.given.now c.loop-one.one-index c.one-item.result c.loop-one-test.true c.one-item.is c.loop-one.values _ (with_memory c.args.store.now s) c.in-Ok.text _ (c.loop-one.invariant s) (c.in-Ok.ensures s) c.in-Ok-push.ensures.ok
