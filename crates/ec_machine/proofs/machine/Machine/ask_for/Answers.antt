use Rattle.std.proofs.Common.{ap, arith, refl, sym, true, false}
use Rattle.std.specs.Prelude.{reverse}
use Rattle.ec_code.specs.Views.{expression_view}
use Rattle.ec_meaning_defs.specs.evaluation.Evaluate.{eval, turn_of}
use Rattle.ec_meaning_defs.specs.evaluation.Results.{on, on_value}
use Rattle.ec_plain.specs.Answered.{at as over_memory}
use Rattle.ec_meaning_defs.specs.resolved.Operations.{is_true}
use Rattle.ec_machine.specs.declared.frame.Focus.TheVariants as focus
use Rattle.ec_machine.specs.declared.frame.Frame.TheVariants as frame
use Rattle.ec_machine.specs.Frames.{behind_of, body_of, evaluated_for, here, resume, test_of}
use Rattle.ec_machine.specs.Goes.{at, env_of, tasks}
use Rattle.ec_machine.specs.Quick.{turning}
use Rattle.ec_machine.proofs.Quickly.{asks_fails, asks_holds, asks_stops, asks_waits, came, halted, near_err, waits}
use Rattle.ec_machine.proofs.Weighing.{nearer, pushes}
use Rattle.ec_machine.proofs.machine.Machine.ask_for.Goals as goal

pub returns-in-Ok-Holds-clause-goes : goal.returns-in-Ok-Holds-clause-goes
returns-in-Ok-Holds-clause-goes c = λ fs.
    let m = c.args.self.now in
    let n = record m { store = c.ask.new.store } in
    let d = here (env_of m) m.line in
    let i = c.args.inner.now in
    let y = expression_view c.args.test.now in (
      came fs m (env_of m) (evaluated_for (env_of m) m.line y (frame.Test m.line c.args.inner)) n (turning i n) refl (omega arith)
          (λ knowing fits k s l. let w = tasks knowing fs k in asks_holds c.ask.result m.store n.store (on_value (eval knowing w d y (at s m)) (λ v u. elim (is_true v) [ true ↦ w (turn_of d (test_of i) (behind_of i) (body_of i)) u | false ↦ on u ])) (λ u. w (turn_of d (test_of i) (behind_of i) (body_of i)) u) (λ u. on u) (at s n) (c.ask.ensures knowing w m.first (at s m) (λ u. w (turn_of d (test_of i) (behind_of i) (body_of i)) u) (λ u. on u)) (cc (c.in-Ok-Holds.is, c.in-Ok-Holds.field-0-is))),
      refl,
    )

pub returns-in-Ok-Fails-clause-goes : goal.returns-in-Ok-Fails-clause-goes
returns-in-Ok-Fails-clause-goes c = λ fs knowing fits k s l.
    let w = tasks knowing fs k in
    let m = c.args.self.now in
    let n = record m { store = c.ask.new.store } in
    let d = here (env_of m) m.line in
    let i = c.args.inner.now in
    let y = expression_view c.args.test.now in
    ap (resume knowing w (env_of m) (reverse m.frames)) (asks_fails c.ask.result m.store n.store (on_value (eval knowing w d y (at s m)) (λ v u. elim (is_true v) [ true ↦ w (turn_of d (test_of i) (behind_of i) (body_of i)) u | false ↦ on u ])) (λ u. w (turn_of d (test_of i) (behind_of i) (body_of i)) u) (λ u. on u) (at s n) (c.ask.ensures knowing w m.first (at s m) (λ u. w (turn_of d (test_of i) (behind_of i) (body_of i)) u) (λ u. on u)) (cc (c.in-Ok-Fails.is, c.in-Ok-Fails.field-0-is)))

pub returns-in_ok-push-in-Ok-Waits-clause-goes : goal.returns-in_ok-push-in-Ok-Waits-clause-goes
returns-in_ok-push-in-Ok-Waits-clause-goes c = λ fs.
    let m = c.args.self.now in
    let n = record m { store = c.ask.new.store } in
    let new = record n { frames = c.push.new.self } in
    let d = here (env_of m) m.line in
    let i = c.args.inner.now in
    let y = expression_view c.args.test.now in
    waits fs m new (evaluated_for (env_of m) m.line y (frame.Test m.line c.args.inner)) (frame.Test m.line c.args.inner) (focus.Evaluates c.args.test) c.in_ok-push-in-Ok-Waits.ensures.ok
    (λ knowing fits k s l. let w = tasks knowing fs k in
    ap (λ st. on_value (eval knowing w d y (over_memory (at s m) st)) (λ v u. elim (is_true v) [ true ↦ w (turn_of d (test_of i) (behind_of i) (body_of i)) u | false ↦ on u ])) (sym (asks_waits c.ask.result m.store n.store (on_value (eval knowing w d y (at s m)) (λ v u. elim (is_true v) [ true ↦ w (turn_of d (test_of i) (behind_of i) (body_of i)) u | false ↦ on u ])) (λ u. w (turn_of d (test_of i) (behind_of i) (body_of i)) u) (λ u. on u) (at s n) (c.ask.ensures knowing w m.first (at s m) (λ u. w (turn_of d (test_of i) (behind_of i) (body_of i)) u) (λ u. on u)) (cc (c.in-Ok-Waits.is, c.in-Ok-Waits.field-0-is)))))

pub returns-in-Err-clause-goes : goal.returns-in-Err-clause-goes
returns-in-Err-clause-goes c = λ fs.
    let m = c.args.self.now in
    let n = record m { store = c.ask.new.store } in
    let d = here (env_of m) m.line in
    let i = c.args.inner.now in
    let y = expression_view c.args.test.now in
    halted fs m (env_of m) (evaluated_for (env_of m) m.line y (frame.Test m.line c.args.inner)) n c.in-Err.stop
    (λ knowing fits k s l. let w = tasks knowing fs k in asks_stops c.ask.result m.store n.store (on_value (eval knowing w d y (at s m)) (λ v u. elim (is_true v) [ true ↦ w (turn_of d (test_of i) (behind_of i) (body_of i)) u | false ↦ on u ])) (λ u. w (turn_of d (test_of i) (behind_of i) (body_of i)) u) (λ u. on u) (at s n) (c.ask.ensures knowing w m.first (at s m) (λ u. w (turn_of d (test_of i) (behind_of i) (body_of i)) u) (λ u. on u)) c.in-Err.stop c.in-Err.is)

pub returns-in-Ok-Fails-clause-nears : goal.returns-in-Ok-Fails-clause-nears
returns-in-Ok-Fails-clause-nears c = nearer _ _ _ _ (omega arith)

pub returns-in_ok-push-in-Ok-Waits-clause-nears : goal.returns-in_ok-push-in-Ok-Waits-clause-nears
returns-in_ok-push-in-Ok-Waits-clause-nears c = pushes _ _ _ _ _ _ c.in_ok-push-in-Ok-Waits.ensures.ok (omega arith)

pub returns-in_err-push-in-Ok-Waits-clause-nears : goal.returns-in_err-push-in-Ok-Waits-clause-nears
returns-in_err-push-in-Ok-Waits-clause-nears c = near_err _ _ _ _ _ c.from_residual.ensures.1
