use Rattle.std.proofs.Common.{arith, drop}
use Rattle.std.proofs.lemmas.List.{drop_all}
use Rattle.ec_scopes.specs.Entries.{place_view}
use Rattle.ec_resolve.proofs.Loops.{params_end, params_step}
use Rattle.ec_resolve.proofs.params.params.Goals as goal

pub loop-p-preserved : goal.loop-p-preserved
loop-p-preserved c =
    params_step c.loop-p.resolver (place_view c.args.at) c.args.is_defined c.args.ps.now c.loop-p.p-index c.p-item.result c.loop-p.types c.push.new.self c.in_ok-ty.ty c.loop-p-test.true c.p-item.is c.in_ok-push.ensures.ok c.loop-p.invariant c.in_ok-ty.ensures

pub returns : goal.returns
returns c =
    params_end (place_view c.args.at) c.args.is_defined (drop c.loop-p.p-index c.args.ps.now) c.loop-p.types (drop_all c.loop-p.p-index c.args.ps.now (omega (arith, c.loop-p-test.false))) c.loop-p.invariant
