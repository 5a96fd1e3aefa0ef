use Rattle.std.proofs.Common.{◌∙◌, ap, arith}
use Rattle.ec_code.specs.Views.{expression_view, plain_view, statement_view}
use Rattle.ec_meaning_defs.specs.evaluation.Evaluate.{eval}
use Rattle.ec_meaning_defs.specs.evaluation.Results.{on_number, on_value}
use Rattle.ec_meaning_defs.specs.resolved.Resolved.{case}
use Rattle.ec_machine.specs.Frames.{here, selected}
use Rattle.ec_machine.specs.Goes.{at, env_of, tasks}
use Rattle.ec_machine.specs.declared.frame.Frame.TheVariants as frame
use Rattle.ec_machine.specs.Weights.{expression_weight}
use Rattle.ec_machine.proofs.Evaluating.{to_Plain}
use Rattle.ec_machine.proofs.Moves.{goes_as, pushed}
use Rattle.ec_machine.proofs.Weighing.{err_exit, pushes, weight-Plain}
use Rattle.ec_machine.proofs.machine.Machine.switch.Goals as goal

pub returns-in-Plain-clause-goes : goal.returns-in-Plain-clause-goes
returns-in-Plain-clause-goes c = λ fs.
    let m = c.args.self.now in
    let d = here (env_of m) m.line in
    goes_as fs m c.switch_at_once.new.self (env_of m) c.switch_at_once.result _
    (λ knowing w t. on_value (eval knowing w d (plain_view c.in-Plain.plain) t) (λ v u. on_number v u (λ z. selected knowing w (here (env_of m) m.line) (statement_view c.args.body.now) (case z) u)))
    (λ knowing w t. ap (λ o. on_value o (λ v u. on_number v u (λ z. selected knowing w (here (env_of m) m.line) (statement_view c.args.body.now) (case z) u))) (to_Plain knowing w d t c.args.operand.now c.in-Plain.plain c.in-Plain.is))
    (c.switch_at_once.ensures.goes fs)

pub returns-in_ok-push-in-Full-clause-goes : goal.returns-in_ok-push-in-Full-clause-goes
returns-in_ok-push-in-Full-clause-goes c = λ fs knowing fits k s l.
    let m = c.args.self.now in
    pushed knowing (tasks knowing fs k) (env_of m) m.frames c.push.new.self (frame.Select m.line c.args.body) (eval knowing (tasks knowing fs k) (here (env_of m) m.line) (expression_view c.args.operand.now) (at s m)) c.in_ok-push-in-Full.ensures.ok

pub returns-in-Plain-clause-nears : goal.returns-in-Plain-clause-nears
returns-in-Plain-clause-nears c = omega (arith, c.switch_at_once.ensures.nears, ap expression_weight c.in-Plain.is ∙ weight-Plain _)

pub returns-in_ok-push-in-Full-clause-nears : goal.returns-in_ok-push-in-Full-clause-nears
returns-in_ok-push-in-Full-clause-nears c = pushes _ _ _ _ _ _ c.in_ok-push-in-Full.ensures.ok (omega arith)

pub returns-in_err-push-in-Full-clause-nears : goal.returns-in_err-push-in-Full-clause-nears
returns-in_err-push-in-Full-clause-nears c = err_exit _ _ _ _ _ c.from_residual.ensures.1
