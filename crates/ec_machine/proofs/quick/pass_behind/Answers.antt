use Rattle.std.proofs.Common.{◌∙◌, ap, sym}
use Rattle.ec_meaning_defs.specs.evaluation.Results.{on_value}
use Rattle.ec_plain.specs.Answered.{at, context}
use Rattle.ec_plain.specs.Outcomes.{outcome_view}
use Rattle.ec_machine.specs.Frames.{objects_of}
use Rattle.ec_machine.proofs.Evaluating.{to_Plain}
use Rattle.ec_machine.proofs.Quickly.{has_none, has_value, stops_as, stops_value}
use Rattle.ec_machine.proofs.quick.pass_behind.Goals as goal

pub returns-in-Ok : goal.returns-in-Ok
returns-in-Ok c = λ knowing w first s go.
    let d = context c.args.line.0 (objects_of c.args.scope.now) first in
    let st = c.evaluate_change.new.store in
    ap (λ o. on_value o (λ v u. go u))
    (to_Plain knowing w d (at s c.args.store.now) c.args.expression.now c.in-Plain.plain c.in-Plain.is
    ∙ has_value c.in-Plain.plain c.objects.result.now c.args.scope.now c.args.store.now st (outcome_view c.evaluate_change.result) c.objects.ensures c.evaluate_change.ensures knowing w c.args.line.0 first s c.in-Ok.field-0 (sym c.get.ensures ∙ c.in-Ok.is))

pub returns-in-Err : goal.returns-in-Err
returns-in-Err c = λ knowing w first s go.
    let d = context c.args.line.0 (objects_of c.args.scope.now) first in
    let st = c.evaluate_change.new.store in
    stops_value c.stopped.result (at s st) _ (λ v u. go u)
    (stops_as c.stopped.result (at s st) _ _ (to_Plain knowing w d (at s c.args.store.now) c.args.expression.now c.in-Plain.plain c.in-Plain.is)
    (has_none c.in-Plain.plain c.objects.result.now c.args.scope.now c.args.store.now st (outcome_view c.evaluate_change.result) c.objects.ensures c.evaluate_change.ensures knowing w c.args.line.0 first s c.in-Err.why c.stopped.result (sym c.get.ensures ∙ c.in-Err.is) c.stopped.ensures))
