use Rattle.std.proofs.Common.{◌≡◌, ◌∙◌, ◌+◌, subst, sym, List, ℕ}
use Rattle.ec_check.proofs.typed_lemmas.Places.{Opens, opens_step, opens_end, opens}
use Rattle.ec_check.proofs.typed.order.order_of.Goals as goal

pub loop-open-preserved : goal.loop-open-preserved
loop-open-preserved c = record {
  opens = subst (λ ns. Opens c.args.closed.now c.args.count ns (c.loop-open.open + 1)) (sym c.in_ok-add_open.ensures.numbers)
      (opens_step c.args.closed.now c.args.count c.loop-open.order.numbers c.loop-open.open c.loop-open-test.true c.loop-open.invariant.opens);
  counted = c.in_ok-add_open.ensures.count ∙ c.loop-open.invariant.counted;
  placed = c.in_ok-add_open.ensures.placed;
}
