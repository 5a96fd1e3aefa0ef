use Rattle.std.proofs.Common.{◌∙◌, ap, arith}
use Rattle.ec_code.specs.Views.{expression_view}
use Rattle.ec_meaning_defs.specs.evaluation.Evaluate.{eval}
use Rattle.ec_meaning_defs.specs.resolved.Resolved.{choice}
use Rattle.ec_machine.specs.declared.frame.Frame.TheVariants as frame
use Rattle.ec_machine.specs.Frames.{here}
use Rattle.ec_machine.specs.Goes.{at, env_of, tasks}
use Rattle.ec_machine.specs.Weights.{frames_weight}
use Rattle.ec_machine.proofs.Moves.{pushed}
use Rattle.ec_machine.proofs.Weighing.{err_exit, pushed_weight, pushes}
use Rattle.ec_machine.proofs.machine.Machine.ask_first.Goals as goal

pub returns-clause-goes : goal.returns-clause-goes
returns-clause-goes c = λ fs knowing fits k s l.
    let w = tasks knowing fs k in
    let m = c.args.self.now in
    let d = here (env_of m) m.line in
    pushed knowing w (env_of m) m.frames c.push.new.self (frame.Steps m.line c.args.steps) (eval knowing w d (choice (expression_view c.args.test.now) (expression_view c.args.first.now) (expression_view c.args.second.now)) (at s m)) c.in_ok-push.ensures.ok
    ∙ pushed knowing w (env_of m) c.push.new.self c.push-2.new.self (frame.Choice m.line c.args.first c.args.second) (eval knowing w d (expression_view c.args.test.now) (at s m)) c.in_ok-push-2.ensures.ok

pub returns-clause-nears : goal.returns-clause-nears
returns-clause-nears c = pushes _ _ _ _ _ _ c.in_ok-push-2.ensures.ok (omega (arith, ap frames_weight c.in_ok-push.ensures.ok, pushed_weight c.args.self.now.frames (frame.Steps c.args.self.now.line c.args.steps)))

pub returns-in_err-push-clause-nears : goal.returns-in_err-push-clause-nears
returns-in_err-push-clause-nears c = err_exit _ _ _ _ _ c.from_residual.ensures.1

pub returns-in_err-push-2-clause-nears : goal.returns-in_err-push-2-clause-nears
returns-in_err-push-2-clause-nears c = err_exit _ _ _ _ _ c.from_residual-in_err-push-2.ensures.1
