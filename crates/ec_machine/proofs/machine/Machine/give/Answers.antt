use Rattle.std.proofs.Common.{◌∙◌, ap, arith, Some}
use Rattle.ec_code.specs.Views.{full_view, plain_view}
use Rattle.ec_meaning_defs.specs.evaluation.Evaluate.{eval}
use Rattle.ec_meaning_defs.specs.evaluation.Results.{on_value, returned}
use Rattle.ec_machine.specs.Frames.{here}
use Rattle.ec_machine.specs.Goes.{env_of}
use Rattle.ec_machine.specs.Weights.{expression_weight}
use Rattle.ec_machine.proofs.Evaluating.{to_Full, to_Plain}
use Rattle.ec_machine.proofs.Moves.{goes_as}
use Rattle.ec_machine.proofs.Weighing.{weight-Full, weight-Plain}
use Rattle.ec_machine.proofs.machine.Machine.give.Goals as goal

pub returns-in-Plain-clause-goes : goal.returns-in-Plain-clause-goes
returns-in-Plain-clause-goes c =
    let fs = c.args.functions.now in
    let m = c.args.self.now in
    let d = here (env_of m) m.line in
    goes_as fs m c.give_at_once.new.self (env_of m) c.give_at_once.result _
    (λ knowing w t. on_value (eval knowing w d (plain_view c.in-Plain.plain) t) (λ v u. returned m.first (Some v) u))
    (λ knowing w t. ap (λ o. on_value o (λ v u. returned m.first (Some v) u)) (to_Plain knowing w d t c.args.value.now c.in-Plain.plain c.in-Plain.is))
    (c.give_at_once.ensures.goes fs)

pub returns-in-Full-clause-goes : goal.returns-in-Full-clause-goes
returns-in-Full-clause-goes c =
    let fs = c.args.functions.now in
    let m = c.args.self.now in
    let d = here (env_of m) m.line in
    goes_as fs m c.give_full.new.self (env_of m) c.give_full.result _
    (λ knowing w t. on_value (eval knowing w d (full_view c.in-Full.full) t) (λ v u. returned m.first (Some v) u))
    (λ knowing w t. ap (λ o. on_value o (λ v u. returned m.first (Some v) u)) (to_Full knowing w d t c.args.value.now c.in-Full.full c.in-Full.is))
    c.give_full.ensures.goes

pub returns-in-Plain-clause-nears : goal.returns-in-Plain-clause-nears
returns-in-Plain-clause-nears c = omega (arith, c.give_at_once.ensures.nears, ap expression_weight c.in-Plain.is ∙ weight-Plain _)

pub returns-in-Full-clause-nears : goal.returns-in-Full-clause-nears
returns-in-Full-clause-nears c = omega (arith, c.give_full.ensures.nears, ap expression_weight c.in-Full.is ∙ weight-Full _)
