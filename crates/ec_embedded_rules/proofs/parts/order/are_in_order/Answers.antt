use Rattle.std.proofs.Common.{◌≡◌, nat_lt, true, arith}
use Rattle.std.proofs.lemmas.Bool.Decides.{nat_tests}
use Rattle.ec_embedded_rules.proofs.parts_lemmas.Ordered.{one_on, few_in_order}
use Rattle.ec_embedded_rules.proofs.parts.order.are_in_order.Goals as goal

pub loop-left-preserved : goal.loop-left-preserved
loop-left-preserved c =
    let before : nat_lt c.first-item.result.place c.second-item.result.place ≡ true = grind (arith, nat_tests, c.if-first-second.false) in
    one_on c.loop-left.left.now c.args.embs.now c.first-item.result c.second-item.result c.in-len2-up.len_at_least c.first-item.is c.second-item.is before c.loop-left.invariant

pub returns : goal.returns
returns c = few_in_order c.loop-left.left.now c.args.embs.now c.in_default.len_below c.loop-left.invariant
