use Rattle.std.proofs.Common.{arith, drop}
use Rattle.std.proofs.lemmas.List.{drop_all}
use Rattle.ec_resolve.proofs.Loops.{tops_end, tops_step}
use Rattle.ec_resolve.proofs.programs.tops_rule.Goals as goal

pub loop-top-preserved : goal.loop-top-preserved
loop-top-preserved c =
    tops_step c.loop-top.resolver c.args.tops.now c.loop-top.top-index c.top-item.result c.loop-top-test.true c.top-item.is c.loop-top.invariant c.in_ok-top_rule.ensures

pub returns : goal.returns
returns c = tops_end (drop c.loop-top.top-index c.args.tops.now) (drop_all c.loop-top.top-index c.args.tops.now (omega (arith, c.loop-top-test.false))) c.loop-top.invariant
