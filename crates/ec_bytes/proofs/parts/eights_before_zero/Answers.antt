-- Eight bytes more.
use Rattle.std.proofs.Common.{◌==◌, ◌∙◌, sym, ap, not, arith}
use Rattle.std.specs.List.{list_all}
use Rattle.ec_bytes.proofs.Runs.{none_more}
use Rattle.ec_bytes.proofs.parts.eights_before_zero.Goals as goal

pub loop-count-preserved : goal.loop-count-preserved
loop-count-preserved c = record {
  within = omega (arith, c.loop-count-test.true, c.loop-count.invariant.within);
  none = none_more c.args.memory.now c.args.at c.loop-count.count 8 c.loop-count.invariant.none (ap (list_all (λ byte. not (byte == 0))) (sym c.part.ensures.items) ∙ sym c.if-none_zero.ensures);
}
