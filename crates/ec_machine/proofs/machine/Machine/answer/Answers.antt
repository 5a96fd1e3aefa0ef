use Rattle.ec_code.specs.Views.{statements_view}
use Rattle.ec_meaning_defs.specs.evaluation.Execute.{look_all}
use Rattle.ec_meaning_defs.specs.resolved.Resolved.{named}
use Rattle.ec_machine.specs.declared.frame.Frame.TheVariants as frame
use Rattle.ec_machine.specs.Frames.{here}
use Rattle.ec_machine.specs.Goes.{at, env_of, tasks}
use Rattle.ec_machine.proofs.Moves.{pushed, stands_by}
use Rattle.std.proofs.Common.{arith, ap}
use Rattle.ec_machine.specs.Weights.{frames_weight}
use Rattle.ec_machine.proofs.Weighing.{err_exit, pushed_weight}
use Rattle.ec_machine.proofs.machine.Machine.answer.Goals as goal

pub returns-clause-goes : goal.returns-clause-goes
returns-clause-goes c = λ fs knowing fits k s l.
    let w = tasks knowing fs k in
    let m = c.args.self.now in
    stands_by knowing w s c.look_list.new.self c.look_list.result _ _
    (pushed knowing w (env_of m) m.frames c.push.new.self (frame.Settle m.line c.args.statements) (look_all knowing w (named c.args.label) (here (env_of m) m.line) (statements_view c.args.statements.now) (at s m)) c.in_ok-push.ensures.ok)
    (c.look_list.ensures.goes fs knowing fits k s l)

pub returns-in_err-push-clause-nears : goal.returns-in_err-push-clause-nears
returns-in_err-push-clause-nears c = err_exit _ _ _ _ _ c.from_residual.ensures.1

pub returns-clause-nears : goal.returns-clause-nears
returns-clause-nears c = omega (arith, c.look_list.ensures.nears, ap frames_weight c.in_ok-push.ensures.ok, pushed_weight c.args.self.now.frames (frame.Settle c.args.self.now.line c.args.statements))
