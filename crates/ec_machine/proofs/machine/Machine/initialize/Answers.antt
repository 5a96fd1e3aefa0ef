use Rattle.std.proofs.Common.{◌∙◌, ap, sym, [], arith}
use Rattle.std.specs.Prelude.{reverse}
use Rattle.ec_code.specs.Views.{expressions_view}
use Rattle.ec_meaning_defs.specs.evaluation.Evaluate.{collect}
use Rattle.ec_meaning_defs.specs.evaluation.Results.{over, on, present, changed}
use Rattle.ec_meaning_defs.specs.evaluation.State.{stuck, trapped}
use Rattle.ec_memory_defs.specs.Memory.{fill}
use Rattle.ec_machine.specs.Frames.{here, resume}
use Rattle.ec_machine.specs.Goes.{at, env_of, tasks}
use Rattle.ec_machine.proofs.Moves.{resume_over, stands_by}
use Rattle.ec_machine.proofs.Weighing.{err_near}
use Rattle.ec_machine.proofs.machine.Machine.initialize.Goals as goal

pub returns-in-Ok-clause-goes : goal.returns-in-Ok-clause-goes
returns-in-Ok-clause-goes c = λ knowing fits k s l.
    let w = tasks knowing c.args.functions.now k in
    let m = c.args.self.now in
    let d = here (env_of m) m.line in
    let es = expressions_view c.args.values.now in
    stands_by knowing w s c.pass_all.new.self c.pass_all.result _ _
    (ap (λ o. resume knowing w (env_of m) (reverse m.frames) (present o (at s m) (λ p. changed m.line.0 (fill m.store p c.args.size 0) (at s m) (λ t. collect knowing w d [] es t (λ vs u. on u))))) (sym c.in-Some.ensures)
    ∙ ap (λ r. resume knowing w (env_of m) (reverse m.frames) (changed m.line.0 r (at s m) (λ t. collect knowing w d [] es t (λ vs u. on u)))) (sym c.in-Ok.ensures.outcome))
    (c.pass_all.ensures.goes knowing fits k s l)

pub returns-in-Err-clause-goes : goal.returns-in-Err-clause-goes
returns-in-Err-clause-goes c = λ knowing fits k s l.
    let w = tasks knowing c.args.functions.now k in
    let m = c.args.self.now in
    let d = here (env_of m) m.line in
    let es = expressions_view c.args.values.now in
    ap (λ o. resume knowing w (env_of m) (reverse m.frames) (present o (at s m) (λ p. changed m.line.0 (fill m.store p c.args.size 0) (at s m) (λ t. collect knowing w d [] es t (λ vs u. on u))))) (sym c.in-Some.ensures)
    ∙ ap (λ r. resume knowing w (env_of m) (reverse m.frames) (changed m.line.0 r (at s m) (λ t. collect knowing w d [] es t (λ vs u. on u)))) (sym c.in-Err.ensures.outcome)
    ∙ resume_over knowing w (env_of m) (reverse m.frames) (trapped c.in-Err.trap m.line.0) (at s m)
    ∙ ap (λ x. over (trapped c.in-Err.trap m.line.0) (at s (record m { store = x }))) (sym c.in-Err.ensures.unchanged)

pub returns-in-None-clause-goes : goal.returns-in-None-clause-goes
returns-in-None-clause-goes c = λ knowing fits k s l.
    let w = tasks knowing c.args.functions.now k in
    let m = c.args.self.now in
    let d = here (env_of m) m.line in
    let es = expressions_view c.args.values.now in
    ap (λ o. resume knowing w (env_of m) (reverse m.frames) (present o (at s m) (λ p. changed m.line.0 (fill m.store p c.args.size 0) (at s m) (λ t. collect knowing w d [] es t (λ vs u. on u))))) (sym c.in-None.ensures)
    ∙ resume_over knowing w (env_of m) (reverse m.frames) stuck (at s m)

pub returns-in-Ok-clause-nears : goal.returns-in-Ok-clause-nears
returns-in-Ok-clause-nears c = omega (arith, c.pass_all.ensures.nears)

pub returns-in-Err-clause-nears : goal.returns-in-Err-clause-nears
returns-in-Err-clause-nears c = err_near _ _ _ _

pub returns-in-None-clause-nears : goal.returns-in-None-clause-nears
returns-in-None-clause-nears c = err_near _ _ _ _
