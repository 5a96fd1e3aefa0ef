use Rattle.std.proofs.Common.{arith}
use Rattle.ec_code.specs.Views.{expression_view}
use Rattle.ec_meaning_defs.specs.evaluation.Evaluate.{eval}
use Rattle.ec_machine.specs.declared.frame.Frame.TheVariants as frame
use Rattle.ec_machine.specs.Frames.{here}
use Rattle.ec_machine.specs.Goes.{at, env_of, tasks}
use Rattle.ec_machine.proofs.Moves.{pushed}
use Rattle.ec_machine.proofs.Weighing.{err_exit, pushes}
use Rattle.ec_machine.proofs.machine.Machine.wait_for.Goals as goal

pub returns-clause-goes : goal.returns-clause-goes
returns-clause-goes c = λ fs knowing fits k s l.
    let w = tasks knowing fs k in
    let m = c.args.self.now in
    pushed knowing w (env_of m) m.frames c.push.new.self (frame.Steps m.line c.args.steps) (eval knowing w (here (env_of m) m.line) (expression_view c.args.expression.now) (at s m)) c.in_ok-push.ensures.ok

pub returns-clause-nears : goal.returns-clause-nears
returns-clause-nears c = pushes _ _ _ _ _ _ c.in_ok-push.ensures.ok (omega arith)

pub returns-in_err-push-clause-nears : goal.returns-in_err-push-clause-nears
returns-in_err-push-clause-nears c = err_exit _ _ _ _ _ c.from_residual.ensures.1
