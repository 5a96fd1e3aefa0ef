use Rattle.std.proofs.Common.{◌∙◌, ap, sym, arith}
use Rattle.ec_params.specs.Numbers.{mark}
use Rattle.ec_params.proofs.Marking.{padded, set_there}
use Rattle.ec_params.proofs.numbers.mark.Goals as goal

pub loop-flags-preserved : goal.loop-flags-preserved
loop-flags-preserved c =
    ap (mark c.args.number) c.in_ok-push.ensures.ok
    ∙ padded c.args.number c.loop-flags.flags (let h = c.len.ensures in let t = c.loop-flags-test.true in omega (arith, h, t))
    ∙ c.loop-flags.invariant

pub returns : goal.returns
returns c =
    c.set.ensures
    ∙ sym (set_there c.args.number c.loop-flags.flags (let h = c.len.ensures in let t = c.loop-flags-test.false in omega (arith, h, t)))
    ∙ c.loop-flags.invariant
