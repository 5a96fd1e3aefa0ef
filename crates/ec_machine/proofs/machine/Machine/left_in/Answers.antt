use Rattle.std.proofs.Common.{◌∙◌, ap, arith}
use Rattle.ec_code.specs.Views.{statement_view, statements_view}
use Rattle.ec_meaning_defs.specs.evaluation.Execute.{run, run_all}
use Rattle.ec_meaning_defs.specs.evaluation.Results.{on_done}
use Rattle.ec_machine.specs.declared.frame.Frame.TheVariants as frame
use Rattle.ec_machine.specs.Frames.{here}
use Rattle.ec_machine.specs.Goes.{at, env_of, tasks}
use Rattle.ec_machine.specs.Weights.{frames_weight}
use Rattle.ec_machine.proofs.Moves.{goes_as, pushed, stands_by}
use Rattle.ec_machine.proofs.Parts.{none_left}
use Rattle.ec_machine.proofs.Running.{done_on}
use Rattle.ec_machine.proofs.Weighing.{err_exit, pushed_weight}
use Rattle.ec_machine.proofs.machine.Machine.left_in.Goals as goal

pub returns-in-empty-clause-goes : goal.returns-in-empty-clause-goes
returns-in-empty-clause-goes c =
    let fs = c.args.functions.now in
    let m = c.args.self.now in
    let d = here (env_of m) m.line in
    goes_as fs m c.left.new.self (env_of m) c.left.result _ (λ knowing w t. run knowing w d (statement_view c.args.first.now) t)
    (λ knowing w t. ap (λ xs. on_done (run knowing w d (statement_view c.args.first.now) t) (λ u. run_all knowing w (here (env_of m) c.args.line) (statements_view xs) u)) (none_left c.args.rest.now c.in-empty.len_below) ∙ done_on (run knowing w d (statement_view c.args.first.now) t))
    c.left.ensures.goes

pub returns-in_ok-push-in_default-clause-goes : goal.returns-in_ok-push-in_default-clause-goes
returns-in_ok-push-in_default-clause-goes c = λ knowing fits k s l.
    let fs = c.args.functions.now in
    let w = tasks knowing fs k in
    let m = c.args.self.now in
    stands_by knowing w s c.left-in_default.new.self c.left-in_default.result _ _
    (pushed knowing w (env_of m) m.frames c.push.new.self (frame.Rest c.args.line c.args.rest) (run knowing w (here (env_of m) m.line) (statement_view c.args.first.now) (at s m)) c.in_ok-push-in_default.ensures.ok)
    (c.left-in_default.ensures.goes knowing fits k s l)

pub returns-in-empty-clause-nears : goal.returns-in-empty-clause-nears
returns-in-empty-clause-nears c = omega (arith, c.left.ensures.nears)

pub returns-in_ok-push-in_default-clause-nears : goal.returns-in_ok-push-in_default-clause-nears
returns-in_ok-push-in_default-clause-nears c =
    omega (arith, c.left-in_default.ensures.nears, ap frames_weight c.in_ok-push-in_default.ensures.ok, pushed_weight c.args.self.now.frames (frame.Rest c.args.line c.args.rest))

pub returns-in_err-push-in_default-clause-nears : goal.returns-in_err-push-in_default-clause-nears
returns-in_err-push-in_default-clause-nears c = err_exit _ _ _ _ _ c.from_residual.ensures.1
