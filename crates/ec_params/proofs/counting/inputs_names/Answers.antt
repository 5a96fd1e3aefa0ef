use Rattle.std.proofs.Common.{arith}
use Rattle.ec_params.proofs.Gotten.{drop_item, drop_end}
use Rattle.ec_params.proofs.NamesIn.{counted_input, counted_all}
use Rattle.ec_params.proofs.counting.inputs_names.Goals as goal

pub loop-input-preserved : goal.loop-input-preserved
loop-input-preserved c = counted_input c.args.inputs.now c.loop-input.input-index c.loop-input.count c.in_ok-more.more c.in_ok-count.count _ c.input-item.result
    (drop_item c.args.inputs.now c.loop-input.input-index c.input-item.result c.loop-input-test.true c.input-item.is)
    c.in_ok-more.ensures c.in_ok-count.ensures c.loop-input.invariant

pub returns : goal.returns
returns c = counted_all c.args.inputs.now c.loop-input.input-index c.loop-input.count _ (drop_end c.args.inputs.now c.loop-input.input-index (omega (arith, c.loop-input-test.false))) c.loop-input.invariant
