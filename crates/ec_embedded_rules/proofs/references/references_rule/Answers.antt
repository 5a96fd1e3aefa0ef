use Rattle.ec_rules.specs.Seen.{operand_view}
use Rattle.ec_scopes.specs.Entries.{place_view}
use Rattle.ec_embedded_rules.proofs.Loops.{references_step}
use Rattle.ec_embedded_rules.proofs.references.references_rule.Goals as goal

pub loop-one-preserved : goal.loop-one-preserved
loop-one-preserved c =
    references_step (place_view c.args.at) c.args.all.now c.loop-one.one-index c.one-item.result (operand_view c.in_ok-o.o) c.loop-one-test.true c.one-item.is c.loop-one.invariant c.in_ok-o.ensures c.members_rule.ensures
