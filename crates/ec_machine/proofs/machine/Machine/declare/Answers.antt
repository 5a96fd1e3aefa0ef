use Rattle.std.proofs.Common.{◌∙◌, ap, sym, arith}
use Rattle.std.specs.Prelude.{reverse}
use Rattle.ec_meaning_defs.specs.evaluation.Results.{over, on, present, changed}
use Rattle.ec_memory_defs.specs.Memory.{unset}
use Rattle.ec_machine.specs.Frames.{resume}
use Rattle.ec_machine.specs.Goes.{at, env_of, tasks}
use Rattle.ec_machine.proofs.Moves.{resume_over}
use Rattle.ec_meaning_defs.specs.evaluation.State.{stuck, trapped}
use Rattle.ec_machine.proofs.Weighing.{err_near, nearer}
use Rattle.ec_machine.proofs.machine.Machine.declare.Goals as goal

pub returns-in-Err-clause-goes : goal.returns-in-Err-clause-goes
returns-in-Err-clause-goes c = λ fs knowing fits k s l.
    let w = tasks knowing fs k in
    let m = c.args.self.now in
    ap (λ o. resume knowing w (env_of m) (reverse m.frames) (present o (at s m) (λ p. changed m.line.0 (unset m.store p c.args.size) (at s m) (λ t. on t)))) (sym c.in-Some.ensures)
    ∙ ap (λ r. resume knowing w (env_of m) (reverse m.frames) (changed m.line.0 r (at s m) (λ t. on t))) (sym c.in-Err.ensures.outcome)
    ∙ resume_over knowing w (env_of m) (reverse m.frames) (trapped c.in-Err.trap m.line.0) (at s m)
    ∙ ap (λ x. over (trapped c.in-Err.trap m.line.0) (at s (record m { store = x }))) (sym c.in-Err.ensures.unchanged)

pub returns-in-None-clause-goes : goal.returns-in-None-clause-goes
returns-in-None-clause-goes c = λ fs knowing fits k s l.
    let w = tasks knowing fs k in
    let m = c.args.self.now in
    ap (λ o. resume knowing w (env_of m) (reverse m.frames) (present o (at s m) (λ p. changed m.line.0 (unset m.store p c.args.size) (at s m) (λ t. on t)))) (sym c.in-None.ensures)
    ∙ resume_over knowing w (env_of m) (reverse m.frames) stuck (at s m)

pub returns-in-Ok-clause-nears : goal.returns-in-Ok-clause-nears
returns-in-Ok-clause-nears c = nearer _ _ _ _ (omega arith)

pub returns-in-Err-clause-nears : goal.returns-in-Err-clause-nears
returns-in-Err-clause-nears c = err_near _ _ _ _

pub returns-in-None-clause-nears : goal.returns-in-None-clause-nears
returns-in-None-clause-nears c = err_near _ _ _ _
