use Rattle.std.proofs.Common.{◌∙◌}
use Rattle.ec_runtime.specs.Describing.{value_put}
use Rattle.ec_runtime.specs.Says.{holding}
use Rattle.ec_runtime.proofs.Telling.{others_set, set_on, set_step, stops_at, wide}
use Rattle.ec_runtime.proofs.describing.put_values.Goals as goal

pub returns-in-Err-clause-changed : goal.returns-in-Err-clause-changed
returns-in-Err-clause-changed c = λ n here s.
    stops_at _ (value_put c.args.line.0 c.args.called.now n c.value-item.result (holding c.loop-value.store c.loop-value.areas s))
    (others_set c.args.line.0 c.args.called.now n c.args.values.now c.loop-value.value-index c.value-item.result c.loop-value-test.true c.value-item.is) _ c.in-Err.stop
    (c.loop-value.invariant.goes_on n (wide c.args.index n c.ranges.index here) s ∙ set_step c.args.line.0 c.args.called.now n c.args.values.now c.loop-value.value-index c.value-item.result c.loop-value-test.true c.value-item.is (holding c.loop-value.store c.loop-value.areas s))
    (c.in-Err.ensures.changed n (wide c.args.index n c.ranges.index here) s)

pub loop-value-preserved : goal.loop-value-preserved
loop-value-preserved c = record {
  goes_on = λ n here s.
      set_on c.args.line.0 c.args.called.now n c.args.values.now c.loop-value.value-index c.value-item.result c.loop-value-test.true c.value-item.is _ (holding c.loop-value.store c.loop-value.areas s) _
      (c.loop-value.invariant.goes_on n here s) (c.in-Ok.ensures.changed n here s);
  area = c.put_value.ensures.kept;
}
