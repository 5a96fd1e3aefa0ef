use Rattle.std.proofs.Common.{◌∙◌, ap, sym, map, [], ◌∷◌, ◌++◌, arith, ◌+◌}
use Rattle.std.specs.Prelude.{reverse}
use Rattle.ec_code.specs.Views.{expressions_view, full_step_view}
use Rattle.ec_meaning_defs.specs.evaluation.Evaluate.{collect}
use Rattle.ec_plain.specs.Steps.{both_on}
use Rattle.ec_values.specs.Words.{word_view}
use Rattle.ec_machine.specs.declared.frame.Frame.TheVariants as frame
use Rattle.ec_machine.specs.Frames.{below, cut, here, led, plug, received, resume, waiting, without_last}
use Rattle.ec_machine.specs.Goes.{at, env_of, tasks}
use Rattle.ec_machine.proofs.Moves.{closing_led, followed_led, led_passes, right_led}
use Rattle.ec_machine.proofs.Parts.{given_as}
use Rattle.ec_machine.specs.Weights.{frames_answer}
use Rattle.ec_machine.proofs.Weighing.{flow_given, nearer, passes_on, flow_more}
use Rattle.ec_machine.proofs.machine.Machine.give_flow.Goals as goal

pub returns-in-Arguments-clause-goes : goal.returns-in-Arguments-clause-goes
returns-in-Arguments-clause-goes c = λ knowing fits k s l.
    let fs = c.args.functions.now in
    let w = tasks knowing fs k in
    let m = c.args.self.now in
    ap (λ f. resume knowing w (below (env_of m) f) (reverse m.frames) (plug knowing w (env_of m) f (led c.args.flow (at s m)))) c.in-Arguments.is
    ∙ ap (resume knowing w (record (env_of m) { values = without_last c.in-Arguments.count m.values }) (reverse m.frames)) (right_led knowing w (here (env_of m) c.in-Arguments.field-0) (map full_step_view c.in-Arguments.field-4.now) (λ v t. collect knowing w (here (env_of m) c.in-Arguments.field-0) (waiting c.in-Arguments.count (env_of m) ++ v ∷ []) (expressions_view c.in-Arguments.field-3.now) t (received knowing w (here (env_of m) c.in-Arguments.field-0) c.in-Arguments.field-1)) c.args.flow (at s m))
    ∙ ap (λ v. resume knowing w (record (env_of m) { values = v }) (reverse m.frames) (led c.args.flow (at s m))) (sym c.drop_last.ensures)

pub returns-in-Called-clause-goes : goal.returns-in-Called-clause-goes
returns-in-Called-clause-goes c = λ knowing fits k s l.
    let fs = c.args.functions.now in
    let w = tasks knowing fs k in
    let m = c.args.self.now in
    ap (λ f. resume knowing w (below (env_of m) f) (reverse m.frames) (plug knowing w (env_of m) f (led c.args.flow (at s m)))) c.in-Called.is
    ∙ ap (resume knowing w (record (env_of m) { values = without_last c.in-Called.count m.values }) (reverse m.frames)) (followed_led knowing w (here (env_of m) c.in-Called.field-0) (map full_step_view c.in-Called.field-2.now) c.args.flow (at s m))
    ∙ ap (λ v. resume knowing w (record (env_of m) { values = v }) (reverse m.frames) (led c.args.flow (at s m))) (sym c.drop_last-in-Called.ensures)

pub returns-in-Call-clause-goes : goal.returns-in-Call-clause-goes
returns-in-Call-clause-goes c =
    let fs = c.args.functions.now in
    let m = c.args.self.now in
    given_as fs m c.leave_by.new.self (env_of m) c.args.frame (frame.Call c.in-Call.way) c.leave_by.result (λ t. led c.args.flow t) c.in-Call.is
    c.leave_by.ensures.goes

pub returns-in-Body-clause-goes : goal.returns-in-Body-clause-goes
returns-in-Body-clause-goes c =
    let fs = c.args.functions.now in
    let m = c.args.self.now in
    given_as fs m c.after_body.new.self (env_of m) c.args.frame (frame.Body c.in-Body.line c.in-Body.inner) c.after_body.result (λ t. led c.args.flow t) c.in-Body.is
    c.after_body.ensures.goes

pub returns-in-Rest-clause-goes : goal.returns-in-Rest-clause-goes
returns-in-Rest-clause-goes c =
    let fs = c.args.functions.now in
    let m = c.args.self.now in
    given_as fs m c.rest.new.self (env_of m) c.args.frame (frame.Rest c.in-Rest.line c.in-Rest.statements) c.rest.result (λ t. led c.args.flow t) c.in-Rest.is
    c.rest.ensures.goes

pub returns-in-Settle-clause-goes : goal.returns-in-Settle-clause-goes
returns-in-Settle-clause-goes c =
    let fs = c.args.functions.now in
    let m = c.args.self.now in
    given_as fs m c.settle.new.self (env_of m) c.args.frame (frame.Settle c.in-Settle.line c.in-Settle.statements) c.settle.result (λ t. led c.args.flow t) c.in-Settle.is
    (c.settle.ensures.goes fs)

pub returns-in-Close-clause-goes : goal.returns-in-Close-clause-goes
returns-in-Close-clause-goes c = λ knowing fits k s l.
    let fs = c.args.functions.now in
    let w = tasks knowing fs k in
    let m = c.args.self.now in
    ap (λ f. resume knowing w (below (env_of m) f) (reverse m.frames) (plug knowing w (env_of m) f (led c.args.flow (at s m)))) c.in-Close.is
    ∙ ap (resume knowing w (record (env_of m) { scope = cut c.in-Close.height c.in-Close.count m.scope }) (reverse m.frames)) (closing_led c.in-Close.mark c.args.flow (at s m))
    ∙ (λ i. resume knowing w (record (env_of m) { scope = sym c.cut.ensures i }) (reverse m.frames) (led c.args.flow (at s (record m { store = sym c.end_to.ensures i }))))

pub returns-in-Steps-clause-goes : goal.returns-in-Steps-clause-goes
returns-in-Steps-clause-goes c = λ knowing fits k s l.
    let fs = c.args.functions.now in
    let w = tasks knowing fs k in
    let m = c.args.self.now in
    ap (λ f. resume knowing w (below (env_of m) f) (reverse m.frames) (plug knowing w (env_of m) f (led c.args.flow (at s m)))) c.in-Steps.is
    ∙ ap (resume knowing w (env_of m) (reverse m.frames)) (followed_led knowing w (here (env_of m) c.in-Steps.field-0) (map full_step_view c.in-Steps.field-1.now) c.args.flow (at s m))

pub returns-in-Right-clause-goes : goal.returns-in-Right-clause-goes
returns-in-Right-clause-goes c = λ knowing fits k s l.
    let fs = c.args.functions.now in
    let w = tasks knowing fs k in
    let m = c.args.self.now in
    ap (λ f. resume knowing w (below (env_of m) f) (reverse m.frames) (plug knowing w (env_of m) f (led c.args.flow (at s m)))) c.in-Right.is
    ∙ ap (resume knowing w (env_of m) (reverse m.frames)) (right_led knowing w (here (env_of m) c.in-Right.field-0) (map full_step_view c.in-Right.field-4.now) (both_on c.in-Right.field-0.0 c.in-Right.field-1.now (word_view c.in-Right.field-2) (word_view c.in-Right.field-3)) c.args.flow (at s m))

pub returns-in-Do-clause-goes : goal.returns-in-Do-clause-goes
returns-in-Do-clause-goes c = λ knowing fits k s l.
    let fs = c.args.functions.now in
    let w = tasks knowing fs k in
    let m = c.args.self.now in
    ap (λ f. resume knowing w (below (env_of m) f) (reverse m.frames) (plug knowing w (env_of m) f (led c.args.flow (at s m)))) c.in-Do.is
    ∙ ap (resume knowing w (env_of m) (reverse m.frames)) (led_passes c.args.flow (at s m) _)

pub returns-in-Give-clause-goes : goal.returns-in-Give-clause-goes
returns-in-Give-clause-goes c = λ knowing fits k s l.
    let fs = c.args.functions.now in
    let w = tasks knowing fs k in
    let m = c.args.self.now in
    ap (λ f. resume knowing w (below (env_of m) f) (reverse m.frames) (plug knowing w (env_of m) f (led c.args.flow (at s m)))) c.in-Give.is
    ∙ ap (resume knowing w (env_of m) (reverse m.frames)) (led_passes c.args.flow (at s m) _)

pub returns-in-Choose-clause-goes : goal.returns-in-Choose-clause-goes
returns-in-Choose-clause-goes c = λ knowing fits k s l.
    let fs = c.args.functions.now in
    let w = tasks knowing fs k in
    let m = c.args.self.now in
    ap (λ f. resume knowing w (below (env_of m) f) (reverse m.frames) (plug knowing w (env_of m) f (led c.args.flow (at s m)))) c.in-Choose.is
    ∙ ap (resume knowing w (env_of m) (reverse m.frames)) (led_passes c.args.flow (at s m) _)

pub returns-in-Choice-clause-goes : goal.returns-in-Choice-clause-goes
returns-in-Choice-clause-goes c = λ knowing fits k s l.
    let fs = c.args.functions.now in
    let w = tasks knowing fs k in
    let m = c.args.self.now in
    ap (λ f. resume knowing w (below (env_of m) f) (reverse m.frames) (plug knowing w (env_of m) f (led c.args.flow (at s m)))) c.in-Choice.is
    ∙ ap (resume knowing w (env_of m) (reverse m.frames)) (led_passes c.args.flow (at s m) _)

pub returns-in-Select-clause-goes : goal.returns-in-Select-clause-goes
returns-in-Select-clause-goes c = λ knowing fits k s l.
    let fs = c.args.functions.now in
    let w = tasks knowing fs k in
    let m = c.args.self.now in
    ap (λ f. resume knowing w (below (env_of m) f) (reverse m.frames) (plug knowing w (env_of m) f (led c.args.flow (at s m)))) c.in-Select.is
    ∙ ap (resume knowing w (env_of m) (reverse m.frames)) (led_passes c.args.flow (at s m) _)

pub returns-in-Switch-clause-goes : goal.returns-in-Switch-clause-goes
returns-in-Switch-clause-goes c = λ knowing fits k s l.
    let fs = c.args.functions.now in
    let w = tasks knowing fs k in
    let m = c.args.self.now in
    ap (λ f. resume knowing w (below (env_of m) f) (reverse m.frames) (plug knowing w (env_of m) f (led c.args.flow (at s m)))) c.in-Switch.is
    ∙ ap (resume knowing w (env_of m) (reverse m.frames)) (sym (c.after_switch.ensures.leads (at s m)))

pub returns-in-Test-clause-goes : goal.returns-in-Test-clause-goes
returns-in-Test-clause-goes c = λ knowing fits k s l.
    let fs = c.args.functions.now in
    let w = tasks knowing fs k in
    let m = c.args.self.now in
    ap (λ f. resume knowing w (below (env_of m) f) (reverse m.frames) (plug knowing w (env_of m) f (led c.args.flow (at s m)))) c.in-Test.is
    ∙ ap (resume knowing w (env_of m) (reverse m.frames)) (led_passes c.args.flow (at s m) _)

pub returns-in-Behind-clause-goes : goal.returns-in-Behind-clause-goes
returns-in-Behind-clause-goes c = λ knowing fits k s l.
    let fs = c.args.functions.now in
    let w = tasks knowing fs k in
    let m = c.args.self.now in
    ap (λ f. resume knowing w (below (env_of m) f) (reverse m.frames) (plug knowing w (env_of m) f (led c.args.flow (at s m)))) c.in-Behind.is
    ∙ ap (resume knowing w (env_of m) (reverse m.frames)) (led_passes c.args.flow (at s m) _)

pub returns-in-Arguments-clause-nears : goal.returns-in-Arguments-clause-nears
returns-in-Arguments-clause-nears c = passes_on _ _ _ _

pub returns-in-Called-clause-nears : goal.returns-in-Called-clause-nears
returns-in-Called-clause-nears c = passes_on _ _ _ _

pub returns-in-Call-clause-nears : goal.returns-in-Call-clause-nears
returns-in-Call-clause-nears c = flow_given c.args.self.now.frames c.args.flow c.args.frame _ _ c.in-Call.is (omega (arith, c.leave_by.ensures.nears))

pub returns-in-Body-clause-nears : goal.returns-in-Body-clause-nears
returns-in-Body-clause-nears c = flow_given c.args.self.now.frames c.args.flow c.args.frame _ _ c.in-Body.is (omega (arith, c.after_body.ensures.nears, flow_more c.args.flow (frames_answer c.args.self.now.frames) (0 + frames_answer c.args.self.now.frames) (omega arith)))

pub returns-in-Rest-clause-nears : goal.returns-in-Rest-clause-nears
returns-in-Rest-clause-nears c = flow_given c.args.self.now.frames c.args.flow c.args.frame _ _ c.in-Rest.is (omega (arith, c.rest.ensures.nears, flow_more c.args.flow (frames_answer c.args.self.now.frames) (0 + frames_answer c.args.self.now.frames) (omega arith)))

pub returns-in-Settle-clause-nears : goal.returns-in-Settle-clause-nears
returns-in-Settle-clause-nears c = flow_given c.args.self.now.frames c.args.flow c.args.frame _ _ c.in-Settle.is (omega (arith, c.settle.ensures.nears))

pub returns-in-Close-clause-nears : goal.returns-in-Close-clause-nears
returns-in-Close-clause-nears c = passes_on _ _ _ _

pub returns-in-Steps-clause-nears : goal.returns-in-Steps-clause-nears
returns-in-Steps-clause-nears c = passes_on _ _ _ _

pub returns-in-Right-clause-nears : goal.returns-in-Right-clause-nears
returns-in-Right-clause-nears c = passes_on _ _ _ _

pub returns-in-Do-clause-nears : goal.returns-in-Do-clause-nears
returns-in-Do-clause-nears c = passes_on _ _ _ _

pub returns-in-Give-clause-nears : goal.returns-in-Give-clause-nears
returns-in-Give-clause-nears c = passes_on _ _ _ _

pub returns-in-Choose-clause-nears : goal.returns-in-Choose-clause-nears
returns-in-Choose-clause-nears c = passes_on _ _ _ _

pub returns-in-Choice-clause-nears : goal.returns-in-Choice-clause-nears
returns-in-Choice-clause-nears c = passes_on _ _ _ _

pub returns-in-Select-clause-nears : goal.returns-in-Select-clause-nears
returns-in-Select-clause-nears c = passes_on _ _ _ _

pub returns-in-Switch-clause-nears : goal.returns-in-Switch-clause-nears
returns-in-Switch-clause-nears c =
    let m = c.args.self.now in
    flow_given m.frames c.args.flow c.args.frame frame.Switch _ c.in-Switch.is (nearer _ _ _ _ (omega (arith, c.after_switch.ensures.weighs (frames_answer m.frames), flow_more c.args.flow (frames_answer m.frames) (0 + frames_answer m.frames) (omega arith))))

pub returns-in-Test-clause-nears : goal.returns-in-Test-clause-nears
returns-in-Test-clause-nears c = passes_on _ _ _ _

pub returns-in-Behind-clause-nears : goal.returns-in-Behind-clause-nears
returns-in-Behind-clause-nears c = passes_on _ _ _ _
