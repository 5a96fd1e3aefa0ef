use Rattle.std.proofs.Common.{◌-◌, ◌∙◌, sym, arith}
use Rattle.ec_clex.proofs.Digits.{digits_next, digits_off, digits_stop}
use Rattle.ec_clex.proofs.numbers.digits_end.Goals as goal

pub returns-then-not-is_digit_of-clause-is : goal.returns-then-not-is_digit_of-clause-is
returns-then-not-is_digit_of-clause-is c =
    let none = digits_off c.args.base (c.args.most - (c.loop-at.at - c.args.from)) c.loop-at.at c.args.text.now c.loop-at-test.true (sym c.is_digit_of.ensures ∙ c.if-not-is_digit_of.true) in
    omega (arith, c.loop-at.invariant.same, none)

pub loop-at-preserved : goal.loop-at-preserved
loop-at-preserved c = record {
  same = digits_next c.args.base c.args.most c.args.from c.loop-at.at c.args.text.now c.loop-at-test.true c.loop-at.invariant.order (omega arith) (sym c.is_digit_of.ensures ∙ c.if-not-is_digit_of.false)
      ∙ c.loop-at.invariant.same;
  order = omega arith;
  few = omega arith;
  inside = omega arith;
}

pub returns-clause-is : goal.returns-clause-is
returns-clause-is c =
    let none = digits_stop c.args.base (c.args.most - (c.loop-at.at - c.args.from)) c.loop-at.at c.args.text.now c.loop-at-test.false in
    omega (arith, c.loop-at.invariant.same, none)
