use Rattle.std.proofs.Common.{◌∙◌, ap, arith, sym}
use Rattle.std.specs.Prelude.{reverse}
use Rattle.ec_code.specs.Views.{statements_view}
use Rattle.ec_meaning_defs.specs.evaluation.Execute.{look_all, settle}
use Rattle.ec_meaning_defs.specs.evaluation.Results.{went}
use Rattle.ec_meaning_defs.specs.resolved.Resolved.{named}
use Rattle.ec_machine.specs.declared.frame.Frame.TheVariants as frame
use Rattle.ec_machine.specs.Frames.{behind_by, here, left_by, outside, resume}
use Rattle.ec_machine.specs.Goes.{at, env_of, tasks}
use Rattle.ec_machine.specs.Weights.{frames_weight, statements_weight}
use Rattle.ec_machine.proofs.Finding.{astray_goes}
use Rattle.ec_machine.proofs.Moves.{pushed, stands_by}
use Rattle.ec_machine.proofs.Turns.{found, passed}
use Rattle.ec_machine.proofs.Weighing.{err_exit, err_is_near, pushed_weight}
use Rattle.ec_machine.proofs.machine.Machine.go_in.Goals as goal

pub returns-in_ok-push-clause-goes : goal.returns-in_ok-push-clause-goes
returns-in_ok-push-clause-goes c = λ fs knowing fits k s l.
    let w = tasks knowing fs k in
    let m = c.args.self.now in
    let x = c.args.way in
    let e = env_of m in
    let d = here e x.line in
    let b = c.as_slice-body.result.now in
    stands_by knowing w s c.look_list.new.self c.look_list.result _ _
    (ap (λ z. resume knowing w (outside x e) (reverse m.frames) (behind_by (here (outside x e) x.line) x.steps.now knowing w (left_by x (settle w d (statements_view z) (went c.args.label (at s m)))))) (sym c.as_slice-body.ensures)
    ∙ ap (λ o. resume knowing w (outside x e) (reverse m.frames) (behind_by (here (outside x e) x.line) x.steps.now knowing w (left_by x o))) (found knowing fits fs k s m d c.args.label b l (sym c.holds_any.ensures ∙ c.if-holds_any.true))
    ∙ ap (λ z. resume knowing w (outside x e) (reverse m.frames) (behind_by (here (outside x e) x.line) x.steps.now knowing w (left_by x (settle w d (statements_view z) (look_all knowing w (named c.args.label) d (statements_view b) (at s m)))))) c.as_slice-body.ensures
    ∙ pushed knowing w e m.frames c.push.new.self (frame.Call x) (look_all knowing w (named c.args.label) d (statements_view b) (at s m)) c.in_ok-push.ensures.ok)
    (c.look_list.ensures.goes fs knowing fits k s l)

pub returns-else-holds_any-clause-goes : goal.returns-else-holds_any-clause-goes
returns-else-holds_any-clause-goes c = λ fs.
    let m = c.args.self.now in
    let x = c.args.way in
    let d = here (env_of m) x.line in
    let b = c.as_slice-body.result.now in
    astray_goes fs m c.go_astray.new.self c.go_astray.result x (λ knowing w t. settle w d (statements_view x.function.now.body) (went c.args.label t)) c.go_astray.ensures.stops c.go_astray.ensures.ended
    (λ knowing fits k s l. let w = tasks knowing fs k in
    ap (λ z. left_by x (settle w d (statements_view z) (went c.args.label (at s m)))) (sym c.as_slice-body.ensures)
    ∙ ap (left_by x) (passed w d c.args.label b (at s m) (sym c.holds_any.ensures ∙ c.if-holds_any.false)))

pub returns-in_ok-push-clause-nears : goal.returns-in_ok-push-clause-nears
returns-in_ok-push-clause-nears c = omega (arith, c.look_list.ensures.nears, ap frames_weight c.in_ok-push.ensures.ok, pushed_weight c.args.self.now.frames (frame.Call c.args.way), ap statements_weight c.as_slice-body.ensures)

pub returns-else-holds_any-clause-nears : goal.returns-else-holds_any-clause-nears
returns-else-holds_any-clause-nears c = err_is_near _ _ c.go_astray.result c.go_astray.new.self _ c.go_astray.ensures.stops

pub returns-in_err-push-clause-nears : goal.returns-in_err-push-clause-nears
returns-in_err-push-clause-nears c = err_exit _ _ _ _ _ c.from_residual.ensures.1
