use Rattle.std.proofs.Common.{◌∙◌, ap, arith}
use Rattle.std.specs.Prelude.{reverse}
use Rattle.ec_code.specs.Marks.{mark_view}
use Rattle.ec_code.specs.Views.{statement_view}
use Rattle.ec_meaning_defs.specs.evaluation.Execute.{look}
use Rattle.ec_machine.specs.declared.frame.Frame.TheVariants as frame
use Rattle.ec_machine.specs.Frames.{here, resume}
use Rattle.ec_machine.specs.Goes.{at, env_of, tasks}
use Rattle.ec_machine.proofs.Moves.{pushed}
use Rattle.ec_machine.proofs.Weighing.{nearer, pushes, err_exit}
use Rattle.ec_machine.proofs.machine.Machine.look_list.Goals as goal

pub returns-in_ok-push-in-Some-clause-goes : goal.returns-in_ok-push-in-Some-clause-goes
returns-in_ok-push-in-Some-clause-goes c = λ fs knowing fits k s l.
    let w = tasks knowing fs k in
    let m = c.args.self.now in
    let d = here (env_of m) m.line in
    let x = c.in-Some.found in
    ap (resume knowing w (env_of m) (reverse m.frames)) (c.in-Some.ensures.found knowing w d (at s m))
    ∙ pushed knowing w (env_of m) m.frames c.push.new.self (frame.Rest m.line x.rest) (look knowing w (mark_view c.args.label) d (statement_view x.first.now) (at s m)) c.in_ok-push-in-Some.ensures.ok

pub returns-in-None-clause-goes : goal.returns-in-None-clause-goes
returns-in-None-clause-goes c = λ fs knowing fits k s l.
    let w = tasks knowing fs k in
    let m = c.args.self.now in
    ap (resume knowing w (env_of m) (reverse m.frames)) (c.in-None.ensures.found knowing w (here (env_of m) m.line) (at s m))

pub returns-in_ok-push-in-Some-clause-nears : goal.returns-in_ok-push-in-Some-clause-nears
returns-in_ok-push-in-Some-clause-nears c = pushes _ _ _ _ _ _ c.in_ok-push-in-Some.ensures.ok (omega (arith, c.in-Some.ensures.smaller))

pub returns-in-None-clause-nears : goal.returns-in-None-clause-nears
returns-in-None-clause-nears c = nearer _ _ _ _ (omega arith)

pub returns-in_err-push-in-Some-clause-nears : goal.returns-in_err-push-in-Some-clause-nears
returns-in_err-push-in-Some-clause-nears c = err_exit _ _ _ _ _ c.from_residual.ensures.1
