use Rattle.std.proofs.Common.{◌∙◌}
use Rattle.ec_call_defs.specs.Outcomes.{with_memory}
use Rattle.ec_descriptors.specs.Views.{item_view}
use Rattle.ec_runtime.proofs.Telling.{one_stored, others_stored, stops_at, stored_step}
use Rattle.ec_runtime.proofs.describing.keep_items.Goals as goal

pub returns-in-Err-clause-quiet : goal.returns-in-Err-clause-quiet
returns-in-Err-clause-quiet c = λ s.
    stops_at _ (one_stored c.args.line.0 c.args.asked (item_view c.args.item.now) c.args.wanted.now c.loop-one.one-index c.one-item.result c.loop-one-test.true c.one-item.is (with_memory c.loop-one.store s))
    (others_stored c.args.line.0 c.args.asked (item_view c.args.item.now) c.args.wanted.now c.loop-one.one-index c.one-item.result c.loop-one-test.true c.one-item.is) _ c.in-Err.stop
    (c.loop-one.invariant.goes_on s ∙ stored_step c.args.line.0 c.args.asked (item_view c.args.item.now) c.args.wanted.now c.loop-one.one-index c.one-item.result c.loop-one-test.true c.one-item.is (with_memory c.loop-one.store s))
    (c.in-Err.ensures.quiet s)
