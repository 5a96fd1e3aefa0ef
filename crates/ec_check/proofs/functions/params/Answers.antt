use Rattle.ec_scopes.specs.Entries.{place_view}
use Rattle.ec_check.proofs.Loops.{params_step}
use Rattle.ec_check.proofs.functions.params.Goals as goal

pub loop-p-preserved : goal.loop-p-preserved
loop-p-preserved c =
    params_step (place_view c.args.at) c.args.is_defined c.args.ps.now c.loop-p.p-index c.p-item.result c.loop-p.types c.push.new.self c.in_ok-ty.ty c.loop-p-test.true c.p-item.is c.in_ok-push.ensures.ok c.loop-p.invariant c.in_ok-ty.ensures
