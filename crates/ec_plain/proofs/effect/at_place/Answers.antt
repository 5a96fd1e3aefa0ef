-- The step at its target.
use Rattle.ec_code.specs.Views.{plain_step_view, plain_view}
use Rattle.ec_plain.proofs.Numbers.{targeted}
use Rattle.ec_plain.proofs.effect.at_place.Goals as goal

pub returns-in-Some-clause-some : goal.returns-in-Some-clause-some
returns-in-Some-clause-some c =
    targeted c.args.scope.now (plain_view c.args.expression.now) c.args.store.now c.assign.new.store c.in-Some.found.place.0 (plain_step_view c.in-Some.found.step.now) c.assign.result c.in-Some.ensures c.assign.ensures.some
