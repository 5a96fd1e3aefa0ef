use Rattle.std.proofs.Common.{◌∙◌, sym, subst, Ok}
use Rattle.std.specs.Prelude.{reverse}
use Rattle.ec_code.specs.Views.{statement_view, statements_view}
use Rattle.ec_meaning_defs.specs.evaluation.Execute.{run, run_all, settle}
use Rattle.ec_meaning_defs.specs.evaluation.Results.{on_done}
use Rattle.ec_machine.specs.declared.frame.Focus.TheVariants as focus
use Rattle.ec_machine.specs.Frames.{behind_by, here, left_by, outside, resume}
use Rattle.ec_machine.specs.Goes.{Goes, at, env_of, tasks}
use Rattle.ec_machine.proofs.machine.Machine.stay.Goals as goal

pub returns-clause-goes : goal.returns-clause-goes
returns-clause-goes c = λ fs.
    let m = c.args.self.now in
    let x = c.args.way in
    let e = env_of m in
    let q = c.wait_outside.new.self in
    subst (λ n. Goes fs m (outside x e) (λ knowing w t. behind_by (here (outside x e) x.line) x.steps.now knowing w (left_by x (settle w (here e x.line) (statements_view x.function.now.body) (on_done (run knowing w (here e m.line) (statement_view c.args.first.now) t) (λ u. run_all knowing w (here e x.line) (statements_view c.args.rest.now) u))))) (Ok (focus.Runs c.args.first)) n) (sym c.wait_outside.ensures.kept)
    (λ knowing fits k s l. let w = tasks knowing fs k in
    let o = run knowing w (here e m.line) (statement_view c.args.first.now) (at s m) in
    sym (c.in_ok-wait_outside.ensures.waits.resumes knowing w o)
    ∙ (λ i. resume knowing w (env_of (c.wait_outside.ensures.kept i)) (reverse q.frames) o))
