-- The frames of the block are pushed.
use Rattle.std.proofs.Common.{◌∙◌, ap, arith, [], ◌∷◌, ◌++◌}
use Rattle.ec_code.specs.Views.{statement_view, statements_view}
use Rattle.ec_meaning_defs.specs.evaluation.Execute.{run, run_all}
use Rattle.ec_meaning_defs.specs.evaluation.Results.{on_done}
use Rattle.ec_machine.specs.declared.frame.Frame.TheVariants as frame
use Rattle.ec_machine.specs.Frames.{here}
use Rattle.ec_machine.specs.Goes.{at, env_of, tasks}
use Rattle.ec_machine.specs.Weights.{frames_weight}
use Rattle.ec_machine.proofs.Moves.{entered, pushed, same_pointers}
use Rattle.ec_machine.proofs.Weighing.{err_exit, nearer, pushed_weight}
use Rattle.ec_machine.proofs.machine.Machine.go_inside.Goals as goal

pub returns-clause-goes : goal.returns-clause-goes
returns-clause-goes c = λ fs knowing fits k s l.
    let w = tasks knowing fs k in
    let m = c.args.self.now in
    let e = env_of m in
    let o = run knowing w (here e m.line) (statement_view c.args.first.now) (at s m) in
    entered knowing w e e.scope m.frames c.push.new.self c.push-2.new.self c.args.mark c.args.start c.args.body
    (on_done o (λ u. run_all knowing w (here e c.args.start) (statements_view c.args.rest.now) u))
    (same_pointers e.scope.pointers)
    (c.in_ok-push.ensures.ok ∙ ap (λ h. m.frames ++ frame.Close c.args.mark h e.scope.count ∷ []) c.len-height.ensures)
    c.in_ok-push-2.ensures.ok
    ∙ pushed knowing w e c.push-2.new.self c.push-3.new.self (frame.Rest c.args.start c.args.rest) o c.in_ok-push-3.ensures.ok

pub returns-clause-nears : goal.returns-clause-nears
returns-clause-nears c =
    nearer _ _ _ _ (omega (arith, ap frames_weight c.in_ok-push-3.ensures.ok, pushed_weight c.push-2.new.self (frame.Rest c.args.start c.args.rest), ap frames_weight c.in_ok-push-2.ensures.ok, pushed_weight c.push.new.self (frame.Settle c.args.start c.args.body), ap frames_weight c.in_ok-push.ensures.ok, pushed_weight c.args.self.now.frames (frame.Close c.args.mark c.len-height.result c.args.self.now.scope.count)))

pub returns-in_err-push-clause-nears : goal.returns-in_err-push-clause-nears
returns-in_err-push-clause-nears c = err_exit _ _ _ _ _ c.from_residual.ensures.1

pub returns-in_err-push-2-clause-nears : goal.returns-in_err-push-2-clause-nears
returns-in_err-push-2-clause-nears c = err_exit _ _ _ _ _ c.from_residual-in_err-push-2.ensures.1

pub returns-in_err-push-3-clause-nears : goal.returns-in_err-push-3-clause-nears
returns-in_err-push-3-clause-nears c = err_exit _ _ _ _ _ c.from_residual-in_err-push-3.ensures.1
