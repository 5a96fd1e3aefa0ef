use Rattle.std.proofs.Common.{◌∙◌, sym}
use Rattle.ec_plain.specs.Outcomes.{outcome_view}
use Rattle.ec_machine.proofs.Quickly.{has_none, has_value}
use Rattle.ec_machine.proofs.quick.compute.Goals as goal

pub returns-in-Ok : goal.returns-in-Ok
returns-in-Ok c = λ knowing w first s.
    has_value c.args.plain.now c.objects.result.now c.args.scope.now c.args.store.now c.evaluate.new.store (outcome_view c.evaluate.result) c.objects.ensures c.evaluate.ensures knowing w c.args.line.0 first s c.in-Ok.value (sym c.get.ensures ∙ c.in-Ok.is)

pub returns-in-Err : goal.returns-in-Err
returns-in-Err c = λ knowing w first s.
    has_none c.args.plain.now c.objects.result.now c.args.scope.now c.args.store.now c.evaluate.new.store (outcome_view c.evaluate.result) c.objects.ensures c.evaluate.ensures knowing w c.args.line.0 first s c.in-Err.why c.stopped.result (sym c.get.ensures ∙ c.in-Err.is) c.stopped.ensures
