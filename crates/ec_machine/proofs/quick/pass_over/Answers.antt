use Rattle.std.proofs.Common.{◌∙◌, ap}
use Rattle.ec_meaning_defs.specs.evaluation.Results.{on_value}
use Rattle.ec_plain.specs.Answered.{at, context}
use Rattle.ec_machine.specs.Frames.{objects_of}
use Rattle.ec_machine.proofs.Evaluating.{to_Plain}
use Rattle.ec_machine.proofs.Quickly.{stops_as, stops_value}
use Rattle.ec_machine.proofs.quick.pass_over.Goals as goal

pub returns-in-Ok : goal.returns-in-Ok
returns-in-Ok c = λ knowing w first s go.
    let d = context c.args.line.0 (objects_of c.args.scope.now) first in
    ap (λ o. on_value o (λ v u. go u)) (to_Plain knowing w d (at s c.args.store.now) c.args.expression.now c.in-Plain.plain c.in-Plain.is ∙ c.in-Ok.ensures knowing w first s)

pub returns-in-Err : goal.returns-in-Err
returns-in-Err c = λ knowing w first s go.
    let d = context c.args.line.0 (objects_of c.args.scope.now) first in
    stops_value c.in-Err.stop (at s c.compute.new.store) _ (λ v u. go u)
    (stops_as c.in-Err.stop (at s c.compute.new.store) _ _ (to_Plain knowing w d (at s c.args.store.now) c.args.expression.now c.in-Plain.plain c.in-Plain.is) (c.in-Err.ensures knowing w first s))
