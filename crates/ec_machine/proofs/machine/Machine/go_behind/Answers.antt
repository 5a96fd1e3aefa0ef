use Rattle.std.proofs.Common.{ap, arith, refl, sym}
use Rattle.ec_code.specs.Views.{expression_view}
use Rattle.ec_meaning_defs.specs.evaluation.Evaluate.{eval}
use Rattle.ec_meaning_defs.specs.evaluation.Execute.{tested}
use Rattle.ec_meaning_defs.specs.evaluation.Results.{on_value}
use Rattle.ec_plain.specs.Answered.{at as over_memory}
use Rattle.ec_machine.specs.declared.frame.Focus.TheVariants as focus
use Rattle.ec_machine.specs.declared.frame.Frame.TheVariants as frame
use Rattle.ec_machine.specs.Frames.{behind_of, body_of, evaluated_for, here, test_of}
use Rattle.ec_machine.specs.Goes.{at, env_of, tasks}
use Rattle.ec_machine.specs.Quick.{testing}
use Rattle.ec_machine.proofs.Quickly.{came, halted, near_err, passes_all, passes_nothing, passes_stops, waits}
use Rattle.ec_machine.proofs.Weighing.{pushes}
use Rattle.ec_machine.proofs.machine.Machine.go_behind.Goals as goal

pub returns-in-Ok-All-clause-goes : goal.returns-in-Ok-All-clause-goes
returns-in-Ok-All-clause-goes c = λ fs.
    let m = c.args.self.now in
    let n = record m { store = c.pass_behind.new.store } in
    let d = here (env_of m) m.line in
    let i = c.args.inner.now in
    let y = expression_view c.args.behind.now in (
      came fs m (env_of m) (evaluated_for (env_of m) m.line y (frame.Behind m.line c.args.inner)) n (testing i n) refl (omega arith)
          (λ knowing fits k s l. let w = tasks knowing fs k in passes_all c.pass_behind.result m.store n.store (on_value (eval knowing w d y (at s m)) (λ v u. tested knowing w d (test_of i) (behind_of i) (body_of i) u)) (λ u. tested knowing w d (test_of i) (behind_of i) (body_of i) u) (at s n) (c.pass_behind.ensures knowing w m.first (at s m) (λ u. tested knowing w d (test_of i) (behind_of i) (body_of i) u)) (cc (c.in-Ok-All.is, c.in-Ok-All.field-0-is))),
      refl,
    )

pub returns-in_ok-push-in-Ok-Nothing-clause-goes : goal.returns-in_ok-push-in-Ok-Nothing-clause-goes
returns-in_ok-push-in-Ok-Nothing-clause-goes c = λ fs.
    let m = c.args.self.now in
    let n = record m { store = c.pass_behind.new.store } in
    let d = here (env_of m) m.line in
    let i = c.args.inner.now in
    let y = expression_view c.args.behind.now in
    waits fs m (record n { frames = c.push.new.self }) (evaluated_for (env_of m) m.line y (frame.Behind m.line c.args.inner)) (frame.Behind m.line c.args.inner) (focus.Evaluates c.args.behind) c.in_ok-push-in-Ok-Nothing.ensures.ok
    (λ knowing fits k s l. let w = tasks knowing fs k in
    ap (λ st. on_value (eval knowing w d y (over_memory (at s m) st)) (λ v u. tested knowing w d (test_of i) (behind_of i) (body_of i) u)) (sym (passes_nothing c.pass_behind.result m.store n.store (on_value (eval knowing w d y (at s m)) (λ v u. tested knowing w d (test_of i) (behind_of i) (body_of i) u)) (λ u. tested knowing w d (test_of i) (behind_of i) (body_of i) u) (at s n) (c.pass_behind.ensures knowing w m.first (at s m) (λ u. tested knowing w d (test_of i) (behind_of i) (body_of i) u)) (cc (c.in-Ok-Nothing.is, c.in-Ok-Nothing.field-0-is)))))

pub returns-in-Err-clause-goes : goal.returns-in-Err-clause-goes
returns-in-Err-clause-goes c = λ fs.
    let m = c.args.self.now in
    let n = record m { store = c.pass_behind.new.store } in
    let d = here (env_of m) m.line in
    let i = c.args.inner.now in
    let y = expression_view c.args.behind.now in
    halted fs m (env_of m) (evaluated_for (env_of m) m.line y (frame.Behind m.line c.args.inner)) n c.in-Err.stop
    (λ knowing fits k s l. let w = tasks knowing fs k in passes_stops c.pass_behind.result m.store n.store (on_value (eval knowing w d y (at s m)) (λ v u. tested knowing w d (test_of i) (behind_of i) (body_of i) u)) (λ u. tested knowing w d (test_of i) (behind_of i) (body_of i) u) (at s n) (c.pass_behind.ensures knowing w m.first (at s m) (λ u. tested knowing w d (test_of i) (behind_of i) (body_of i) u)) c.in-Err.stop c.in-Err.is)

pub returns-in_ok-push-in-Ok-Nothing-clause-nears : goal.returns-in_ok-push-in-Ok-Nothing-clause-nears
returns-in_ok-push-in-Ok-Nothing-clause-nears c = pushes _ _ _ _ _ _ c.in_ok-push-in-Ok-Nothing.ensures.ok (omega arith)

pub returns-in_err-push-in-Ok-Nothing-clause-nears : goal.returns-in_err-push-in-Ok-Nothing-clause-nears
returns-in_err-push-in-Ok-Nothing-clause-nears c = near_err _ _ _ _ _ c.from_residual.ensures.1
