use Rattle.std.proofs.Common.{◌∙◌, ap, sym, arith, ◌+◌}
use Rattle.std.specs.Prelude.{reverse}
use Rattle.ec_code.specs.Views.{statements_view}
use Rattle.ec_meaning_defs.specs.evaluation.Execute.{settle}
use Rattle.ec_machine.specs.Frames.{here, led, resume}
use Rattle.ec_machine.specs.Goes.{at, env_of, tasks}
use Rattle.ec_machine.proofs.Moves.{stands_by}
use Rattle.ec_machine.proofs.Turns.{found, passed}
use Rattle.ec_machine.specs.Weights.{flow_weight, frames_answer, statements_weight}
use Rattle.ec_machine.proofs.Weighing.{flow_more, nearer}
use Rattle.ec_machine.proofs.machine.Machine.settle.Goals as goal

pub returns-then-holds_any-clause-goes : goal.returns-then-holds_any-clause-goes
returns-then-holds_any-clause-goes c = λ fs knowing fits k s l.
    let w = tasks knowing fs k in
    let m = c.args.self.now in
    let d = here (env_of m) m.line in
    stands_by knowing w s c.answer.new.self c.answer.result _ _
    (ap (λ f. resume knowing w (env_of m) (reverse m.frames) (settle w d (statements_view c.args.statements.now) (led f (at s m)))) c.in-Went.is
    ∙ ap (resume knowing w (env_of m) (reverse m.frames)) (found knowing fits fs k s m d c.in-Went.label c.args.statements.now l (sym c.holds_any.ensures ∙ c.if-holds_any.true)))
    (c.answer.ensures.goes fs knowing fits k s l)

pub returns-else-holds_any-clause-goes : goal.returns-else-holds_any-clause-goes
returns-else-holds_any-clause-goes c = λ fs knowing fits k s l.
    let w = tasks knowing fs k in
    let m = c.args.self.now in
    let d = here (env_of m) m.line in
    ap (λ f. resume knowing w (env_of m) (reverse m.frames) (settle w d (statements_view c.args.statements.now) (led f (at s m)))) c.in-Went.is
    ∙ ap (resume knowing w (env_of m) (reverse m.frames)) (passed w d c.in-Went.label c.args.statements.now (at s m) (sym c.holds_any.ensures ∙ c.if-holds_any.false))

pub returns-then-holds_any-clause-nears : goal.returns-then-holds_any-clause-nears
returns-then-holds_any-clause-nears c = omega (arith, c.answer.ensures.nears, ap (λ f. flow_weight f (1 + statements_weight c.args.statements.now + frames_answer c.args.self.now.frames)) c.in-Went.is)

pub returns-else-holds_any-clause-nears : goal.returns-else-holds_any-clause-nears
returns-else-holds_any-clause-nears c = nearer _ _ _ _ (omega (arith, ap (λ f. flow_weight f (1 + statements_weight c.args.statements.now + frames_answer c.args.self.now.frames)) c.in-Went.is))

pub returns-in-On-clause-nears : goal.returns-in-On-clause-nears
returns-in-On-clause-nears c = nearer _ _ _ _ (omega (arith, flow_more c.args.flow (frames_answer c.args.self.now.frames) (1 + statements_weight c.args.statements.now + frames_answer c.args.self.now.frames) (omega arith)))

pub returns-in-Broke-clause-nears : goal.returns-in-Broke-clause-nears
returns-in-Broke-clause-nears c = nearer _ _ _ _ (omega (arith, flow_more c.args.flow (frames_answer c.args.self.now.frames) (1 + statements_weight c.args.statements.now + frames_answer c.args.self.now.frames) (omega arith)))

pub returns-in-Continued-clause-nears : goal.returns-in-Continued-clause-nears
returns-in-Continued-clause-nears c = nearer _ _ _ _ (omega (arith, flow_more c.args.flow (frames_answer c.args.self.now.frames) (1 + statements_weight c.args.statements.now + frames_answer c.args.self.now.frames) (omega arith)))

pub returns-in-Back-clause-nears : goal.returns-in-Back-clause-nears
returns-in-Back-clause-nears c = nearer _ _ _ _ (omega (arith, flow_more c.args.flow (frames_answer c.args.self.now.frames) (1 + statements_weight c.args.statements.now + frames_answer c.args.self.now.frames) (omega arith)))
