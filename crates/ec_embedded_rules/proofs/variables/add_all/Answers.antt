use Rattle.ec_scopes.specs.Seen.{world_of}
use Rattle.ec_embedded_rules.proofs.Loops.{names_step}
use Rattle.ec_embedded_rules.proofs.variables.add_all.Goals as goal

pub loop-one-preserved : goal.loop-one-preserved
loop-one-preserved c =
    names_step (world_of c.args.checker.now) c.args.all.now c.loop-one.one-index c.one-item.result c.loop-one.numbers c.add_in.new.numbers _ c.loop-one-test.true c.one-item.is c.in_ok-add_in.ensures c.loop-one.invariant
