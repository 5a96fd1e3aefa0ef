use Rattle.std.proofs.Common.{◌∙◌, ap, arith}
use Rattle.std.specs.Prelude.{reverse}
use Rattle.ec_code.specs.Marks.{mark_view}
use Rattle.ec_code.specs.Views.{statement_view}
use Rattle.ec_meaning_defs.specs.evaluation.State.{stuck}
use Rattle.ec_meaning_defs.specs.resolved.Resolved.{case}
use Rattle.ec_values.specs.Words.{word_view}
use Rattle.ec_machine.specs.Frames.{here, resume, selected}
use Rattle.ec_machine.specs.Goes.{at, env_of, tasks}
use Rattle.ec_machine.proofs.Moves.{goes_as, resume_over}
use Rattle.ec_machine.proofs.Switching.{is_case, no_case}
use Rattle.ec_machine.proofs.Weighing.{err_near}
use Rattle.ec_machine.proofs.machine.Machine.select.Goals as goal

pub returns-in-Some-clause-goes : goal.returns-in-Some-clause-goes
returns-in-Some-clause-goes c = λ fs.
    let m = c.args.self.now in
    let d = here (env_of m) m.line in
    let x = statement_view c.args.body.now in
    goes_as fs m c.go_from.new.self (env_of m) c.go_from.result _ (λ knowing w t. selected knowing w d x (mark_view c.in-Some.case) t)
    (λ knowing w t. is_case (word_view c.args.value) c.in-Some.case c.in-Some.ensures t (λ l. selected knowing w d x l t))
    (c.go_from.ensures.goes fs)

pub returns-in-None-clause-goes : goal.returns-in-None-clause-goes
returns-in-None-clause-goes c = λ fs knowing fits k s l.
    let w = tasks knowing fs k in
    let m = c.args.self.now in
    let d = here (env_of m) m.line in
    let x = statement_view c.args.body.now in
    ap (resume knowing w (env_of m) (reverse m.frames)) (no_case (word_view c.args.value) c.in-None.ensures (at s m) (λ z. selected knowing w d x (case z) (at s m)))
    ∙ resume_over knowing w (env_of m) (reverse m.frames) stuck (at s m)

pub returns-in-Some-clause-nears : goal.returns-in-Some-clause-nears
returns-in-Some-clause-nears c = omega (arith, c.go_from.ensures.nears)

pub returns-in-None-clause-nears : goal.returns-in-None-clause-nears
returns-in-None-clause-nears c = err_near _ _ _ _
