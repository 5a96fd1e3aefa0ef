use Rattle.std.proofs.Common.{◌∙◌, ap, sym, arith}
use Rattle.std.specs.Prelude.{reverse}
use Rattle.ec_code.specs.Views.{plain_view}
use Rattle.ec_meaning_defs.specs.evaluation.Evaluate.{eval}
use Rattle.ec_plain.specs.Answered.{answered, context, ending_of}
use Rattle.ec_machine.specs.Frames.{here, resume}
use Rattle.ec_machine.specs.Goes.{at, env_of, tasks}
use Rattle.ec_machine.proofs.Moves.{over_stops}
use Rattle.ec_machine.proofs.Weighing.{err_near, nearer}
use Rattle.ec_machine.proofs.machine.Machine.plain.Goals as goal

pub returns-in-Ok-clause-goes : goal.returns-in-Ok-clause-goes
returns-in-Ok-clause-goes c = λ fs knowing fits k s l.
    let w = tasks knowing fs k in
    let m = c.args.self.now in
    ap (resume knowing w (env_of m) (reverse m.frames))
    (ap (λ xs. eval knowing w (context m.line.0 xs m.first) (plain_view c.args.plain.now) (at s m)) (sym c.objects.ensures)
    ∙ c.evaluate.ensures knowing w m.line.0 m.first (at s m)
    ∙ ap (λ r. answered m.line.0 r (at s (record m { store = c.evaluate.new.store }))) (sym c.get.ensures ∙ c.in-Ok.is))

pub returns-in-Err-clause-goes : goal.returns-in-Err-clause-goes
returns-in-Err-clause-goes c = λ fs knowing fits k s l.
    let w = tasks knowing fs k in
    let m = c.args.self.now in
    over_stops knowing w (env_of m) (reverse m.frames) (at s (record m { store = c.evaluate.new.store })) c.stopped.result (ending_of m.line.0 c.in-Err.why) (eval knowing w (here (env_of m) m.line) (plain_view c.args.plain.now) (at s m)) c.stopped.ensures
    (ap (λ xs. eval knowing w (context m.line.0 xs m.first) (plain_view c.args.plain.now) (at s m)) (sym c.objects.ensures)
    ∙ c.evaluate.ensures knowing w m.line.0 m.first (at s m)
    ∙ ap (λ r. answered m.line.0 r (at s (record m { store = c.evaluate.new.store }))) (sym c.get.ensures ∙ c.in-Err.is))

pub returns-in-Ok-clause-nears : goal.returns-in-Ok-clause-nears
returns-in-Ok-clause-nears c = nearer _ _ _ _ (omega arith)

pub returns-in-Err-clause-nears : goal.returns-in-Err-clause-nears
returns-in-Err-clause-nears c = err_near _ _ _ _
