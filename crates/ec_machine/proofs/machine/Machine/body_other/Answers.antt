-- A block that declares nothing, or any other statement.
use Rattle.std.proofs.Common.{ap, arith, refl, []}
use Rattle.ec_code.specs.Views.{statement_view, statements_view}
use Rattle.ec_meaning_defs.specs.evaluation.Execute.{again, enter, run, run_all}
use Rattle.ec_meaning_defs.specs.evaluation.Results.{after_body}
use Rattle.ec_machine.specs.declared.frame.Focus.TheVariants as focus
use Rattle.ec_machine.specs.declared.frame.Frame.TheVariants as frame
use Rattle.ec_machine.specs.Frames.{behind_of, body_of, here, test_of}
use Rattle.ec_machine.specs.Goes.{at, env_of, tasks}
use Rattle.ec_machine.specs.Quick.{behind_body}
use Rattle.ec_machine.proofs.Quickly.{onward_came, waits}
use Rattle.ec_machine.proofs.machine.Machine.body_other.Goals as goal

pub returns-in-Some-clause-goes : goal.returns-in-Some-clause-goes
returns-in-Some-clause-goes c = λ fs.
    let m = c.args.self.now in
    let i = c.args.inner.now in
    let b = statements_view c.in-Some.body.now in
    onward_came fs m m (λ p knowing w t. after_body (run knowing w (here (env_of p) p.line) (statement_view c.args.left.now) t) (λ u. again knowing w (here (env_of p) c.args.line) (test_of i) (behind_of i) (body_of i) u))
    (λ p knowing w t. after_body (enter w (here (env_of p) p.line) [] b (λ d u. run_all knowing w d b u) t) (λ u. again knowing w (here (env_of p) c.args.line) (test_of i) (behind_of i) (body_of i) u)) (behind_body i) refl refl (omega arith)
    (λ knowing fits k s l. let w = tasks knowing fs k in
    ap (λ z. after_body (run knowing w (here (env_of m) m.line) z (at s m)) (λ u. again knowing w (here (env_of m) c.args.line) (test_of i) (behind_of i) (body_of i) u)) c.in-Some.ensures)
    c.body_block.result c.body_block.new.self (c.body_block.ensures.goes fs)

pub returns-in_ok-push-in-None-clause-goes : goal.returns-in_ok-push-in-None-clause-goes
returns-in_ok-push-in-None-clause-goes c = λ fs.
    let m = c.args.self.now in
    let i = c.args.inner.now in
    waits fs m (record m { frames = c.push.new.self }) (λ knowing w t. after_body (run knowing w (here (env_of m) m.line) (statement_view c.args.left.now) t) (λ u. again knowing w (here (env_of m) c.args.line) (test_of i) (behind_of i) (body_of i) u)) (frame.Body c.args.line c.args.inner) (focus.Runs c.args.left) c.in_ok-push-in-None.ensures.ok
    (λ knowing fits k s l. refl)
