use Rattle.std.proofs.Common.{map}
use Rattle.ec_ctypes.specs.views.Embedded.{emb_view}
use Rattle.ec_check.proofs.Loops.{tops_step}
use Rattle.ec_check.proofs.programs.tops_rule.Goals as goal

pub loop-top-preserved : goal.loop-top-preserved
loop-top-preserved c =
    tops_step (map emb_view c.args.embedded.now) c.args.tops.now c.loop-top.top-index c.top-item.result c.loop-top-test.true c.top-item.is c.loop-top.invariant c.in_ok-top_rule.ensures
