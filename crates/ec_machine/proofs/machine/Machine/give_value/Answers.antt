use Rattle.std.proofs.Common.{◌∙◌, ap, sym, subst, map, Some, arith}
use Rattle.std.specs.Prelude.{reverse}
use Rattle.ec_code.specs.Views.{full_step_view}
use Rattle.ec_meaning_defs.specs.evaluation.Results.{returned, value}
use Rattle.ec_meaning_defs.specs.evaluation.State.{stuck}
use Rattle.ec_plain.specs.Steps.{followed}
use Rattle.ec_plain.proofs.Walks.{followed_over}
use Rattle.ec_values.specs.Words.{word_view}
use Rattle.ec_machine.specs.declared.frame.Frame.TheVariants as frame
use Rattle.ec_machine.specs.Frames.{below, here, outside, plug, resume}
use Rattle.ec_machine.specs.Goes.{Goes, at, env_of, tasks}
use Rattle.ec_machine.proofs.Moves.{resume_over, returns_stand, stands_by}
use Rattle.ec_machine.proofs.Parts.{given_as}
use Rattle.ec_machine.proofs.Weighing.{err_near, nearer, value_given}
use Rattle.ec_machine.proofs.machine.Machine.give_value.Goals as goal

pub returns-in-Steps-clause-goes : goal.returns-in-Steps-clause-goes
returns-in-Steps-clause-goes c =
    let fs = c.args.functions.now in
    let m = c.args.self.now in
    given_as fs m c.go_on.new.self (env_of m) c.args.frame (frame.Steps c.in-Steps.line c.in-Steps.steps) c.go_on.result (λ t. value (word_view c.args.value) t) c.in-Steps.is
    c.go_on.ensures.goes

pub returns-in-Right-clause-goes : goal.returns-in-Right-clause-goes
returns-in-Right-clause-goes c =
    let fs = c.args.functions.now in
    let m = c.args.self.now in
    given_as fs m c.go_right.new.self (env_of m) c.args.frame (frame.Right c.in-Right.line c.in-Right.step c.in-Right.left c.in-Right.old c.in-Right.steps) c.go_right.result (λ t. value (word_view c.args.value) t) c.in-Right.is
    c.go_right.ensures.goes

pub returns-in-Arguments-clause-goes : goal.returns-in-Arguments-clause-goes
returns-in-Arguments-clause-goes c =
    let fs = c.args.functions.now in
    let m = c.args.self.now in
    given_as fs m c.pass_on.new.self (env_of m) c.args.frame (frame.Arguments c.in-Arguments.line c.in-Arguments.callee c.in-Arguments.count c.in-Arguments.rest c.in-Arguments.steps) c.pass_on.result (λ t. value (word_view c.args.value) t) c.in-Arguments.is
    c.pass_on.ensures.goes

pub returns-in-Call-clause-goes : goal.returns-in-Call-clause-goes
returns-in-Call-clause-goes c = λ knowing fits k s l.
    let w = tasks knowing c.args.functions.now k in
    let m = c.args.self.now in
    let x = c.in-Call.field-0 in
    let e = outside x (env_of m) in
    ap (λ f. resume knowing w (below (env_of m) f) (reverse m.frames) (plug knowing w (env_of m) f (value (word_view c.args.value) (at s m)))) c.in-Call.is
    ∙ ap (resume knowing w e (reverse m.frames)) (followed_over knowing w (here e x.line) (map full_step_view x.steps.now) stuck (at s m))
    ∙ resume_over knowing w e (reverse m.frames) stuck (at s m)

pub returns-in-Called-clause-goes : goal.returns-in-Called-clause-goes
returns-in-Called-clause-goes c =
    let fs = c.args.functions.now in
    let m = c.args.self.now in
    let l = c.in-Called.line in
    given_as fs m c.go_on-in-Called.new.self (env_of m) c.args.frame (frame.Called l c.in-Called.count c.in-Called.steps) c.go_on-in-Called.result (λ t. value (word_view c.args.value) t) c.in-Called.is
    (subst (λ vs. Goes fs m (record (env_of m) { values = vs }) (λ knowing w t. followed knowing w (here (env_of m) l) (map full_step_view c.in-Called.steps.now) (value (word_view c.args.value) t)) c.go_on-in-Called.result c.go_on-in-Called.new.self)
    c.drop_last.ensures c.go_on-in-Called.ensures.goes)

pub returns-in-Do-clause-goes : goal.returns-in-Do-clause-goes
returns-in-Do-clause-goes c = λ knowing fits k s l.
    let w = tasks knowing c.args.functions.now k in
    let m = c.args.self.now in
    ap (λ f. resume knowing w (below (env_of m) f) (reverse m.frames) (plug knowing w (env_of m) f (value (word_view c.args.value) (at s m)))) c.in-Do.is

pub returns-in-Give-clause-goes : goal.returns-in-Give-clause-goes
returns-in-Give-clause-goes c = λ knowing fits k s l.
    let w = tasks knowing c.args.functions.now k in
    let m = c.args.self.now in
    stands_by knowing w s m c.gives.result _ _
    (ap (λ f. resume knowing w (below (env_of m) f) (reverse m.frames) (plug knowing w (env_of m) f (value (word_view c.args.value) (at s m)))) c.in-Give.is)
    (returns_stand knowing w s m c.gives.result (λ t. returned m.first (Some (word_view c.args.value)) t) c.gives.ensures.gives)

pub returns-in-Choose-clause-goes : goal.returns-in-Choose-clause-goes
returns-in-Choose-clause-goes c =
    let fs = c.args.functions.now in
    let m = c.args.self.now in
    given_as fs m (record m { line = c.in-Choose.line }) (env_of m) c.args.frame (frame.Choose c.in-Choose.line c.in-Choose.first c.in-Choose.second) c.choose.result (λ t. value (word_view c.args.value) t) c.in-Choose.is
    (c.choose.ensures.goes fs)

pub returns-in-Choice-clause-goes : goal.returns-in-Choice-clause-goes
returns-in-Choice-clause-goes c =
    let fs = c.args.functions.now in
    let m = c.args.self.now in
    given_as fs m (record m { line = c.in-Choice.line }) (env_of m) c.args.frame (frame.Choice c.in-Choice.line c.in-Choice.first c.in-Choice.second) c.pick.result (λ t. value (word_view c.args.value) t) c.in-Choice.is
    (c.pick.ensures.goes fs)

pub returns-in-Select-clause-goes : goal.returns-in-Select-clause-goes
returns-in-Select-clause-goes c =
    let fs = c.args.functions.now in
    let m = c.args.self.now in
    given_as fs m c.select.new.self (env_of m) c.args.frame (frame.Select c.in-Select.line c.in-Select.body) c.select.result (λ t. value (word_view c.args.value) t) c.in-Select.is
    (c.select.ensures.goes fs)

pub returns-in-Switch-clause-goes : goal.returns-in-Switch-clause-goes
returns-in-Switch-clause-goes c = λ knowing fits k s l.
    let w = tasks knowing c.args.functions.now k in
    let m = c.args.self.now in
    ap (λ f. resume knowing w (below (env_of m) f) (reverse m.frames) (plug knowing w (env_of m) f (value (word_view c.args.value) (at s m)))) c.in-Switch.is

pub returns-in-Test-clause-goes : goal.returns-in-Test-clause-goes
returns-in-Test-clause-goes c =
    let fs = c.args.functions.now in
    let m = c.args.self.now in
    given_as fs m c.tested.new.self (env_of m) c.args.frame (frame.Test c.in-Test.line c.in-Test.inner) c.tested.result (λ t. value (word_view c.args.value) t) c.in-Test.is
    c.tested.ensures.goes

pub returns-in-Behind-clause-goes : goal.returns-in-Behind-clause-goes
returns-in-Behind-clause-goes c =
    let fs = c.args.functions.now in
    let m = c.args.self.now in
    given_as fs m c.test.new.self (env_of m) c.args.frame (frame.Behind c.in-Behind.line c.in-Behind.inner) c.test.result (λ t. value (word_view c.args.value) t) c.in-Behind.is
    c.test.ensures.goes

pub returns-in-Body-clause-goes : goal.returns-in-Body-clause-goes
returns-in-Body-clause-goes c = λ knowing fits k s l.
    let w = tasks knowing c.args.functions.now k in
    let m = c.args.self.now in
    ap (λ f. resume knowing w (below (env_of m) f) (reverse m.frames) (plug knowing w (env_of m) f (value (word_view c.args.value) (at s m)))) c.in-Body.is

pub returns-in-Rest-clause-goes : goal.returns-in-Rest-clause-goes
returns-in-Rest-clause-goes c = λ knowing fits k s l.
    let w = tasks knowing c.args.functions.now k in
    let m = c.args.self.now in
    ap (λ f. resume knowing w (below (env_of m) f) (reverse m.frames) (plug knowing w (env_of m) f (value (word_view c.args.value) (at s m)))) c.in-Rest.is

pub returns-in-Settle-clause-goes : goal.returns-in-Settle-clause-goes
returns-in-Settle-clause-goes c = λ knowing fits k s l.
    let w = tasks knowing c.args.functions.now k in
    let m = c.args.self.now in
    ap (λ f. resume knowing w (below (env_of m) f) (reverse m.frames) (plug knowing w (env_of m) f (value (word_view c.args.value) (at s m)))) c.in-Settle.is

pub returns-in-Close-clause-goes : goal.returns-in-Close-clause-goes
returns-in-Close-clause-goes c = λ knowing fits k s l.
    let w = tasks knowing c.args.functions.now k in
    let m = c.args.self.now in
    ap (λ f. resume knowing w (below (env_of m) f) (reverse m.frames) (plug knowing w (env_of m) f (value (word_view c.args.value) (at s m)))) c.in-Close.is
    ∙ ap (λ sc. resume knowing w (record (env_of m) { scope = sc }) (reverse m.frames) (value (word_view c.args.value) (at s m))) (sym c.cut.ensures)

pub returns-in-Steps-clause-nears : goal.returns-in-Steps-clause-nears
returns-in-Steps-clause-nears c = value_given c.args.self.now.frames c.args.frame _ _ c.in-Steps.is (omega (arith, c.go_on.ensures.nears))

pub returns-in-Right-clause-nears : goal.returns-in-Right-clause-nears
returns-in-Right-clause-nears c = value_given c.args.self.now.frames c.args.frame _ _ c.in-Right.is (omega (arith, c.go_right.ensures.nears))

pub returns-in-Arguments-clause-nears : goal.returns-in-Arguments-clause-nears
returns-in-Arguments-clause-nears c = value_given c.args.self.now.frames c.args.frame _ _ c.in-Arguments.is (omega (arith, c.pass_on.ensures.nears))

pub returns-in-Call-clause-nears : goal.returns-in-Call-clause-nears
returns-in-Call-clause-nears c = err_near _ _ _ _

pub returns-in-Called-clause-nears : goal.returns-in-Called-clause-nears
returns-in-Called-clause-nears c = value_given c.args.self.now.frames c.args.frame _ _ c.in-Called.is (omega (arith, c.go_on-in-Called.ensures.nears))

pub returns-in-Do-clause-nears : goal.returns-in-Do-clause-nears
returns-in-Do-clause-nears c = value_given c.args.self.now.frames c.args.frame _ _ c.in-Do.is (nearer _ _ _ _ (omega arith))

pub returns-in-Give-clause-nears : goal.returns-in-Give-clause-nears
returns-in-Give-clause-nears c = value_given c.args.self.now.frames c.args.frame _ _ c.in-Give.is (omega (arith, c.gives.ensures.nears c.args.self.now.turns c.args.self.now))

pub returns-in-Choose-clause-nears : goal.returns-in-Choose-clause-nears
returns-in-Choose-clause-nears c = value_given c.args.self.now.frames c.args.frame _ _ c.in-Choose.is (omega (arith, c.choose.ensures.nears))

pub returns-in-Choice-clause-nears : goal.returns-in-Choice-clause-nears
returns-in-Choice-clause-nears c = value_given c.args.self.now.frames c.args.frame _ _ c.in-Choice.is (omega (arith, c.pick.ensures.nears))

pub returns-in-Select-clause-nears : goal.returns-in-Select-clause-nears
returns-in-Select-clause-nears c = value_given c.args.self.now.frames c.args.frame _ _ c.in-Select.is (omega (arith, c.select.ensures.nears))

pub returns-in-Switch-clause-nears : goal.returns-in-Switch-clause-nears
returns-in-Switch-clause-nears c = value_given c.args.self.now.frames c.args.frame _ _ c.in-Switch.is (nearer _ _ _ _ (omega arith))

pub returns-in-Test-clause-nears : goal.returns-in-Test-clause-nears
returns-in-Test-clause-nears c = value_given c.args.self.now.frames c.args.frame _ _ c.in-Test.is (omega (arith, c.tested.ensures.nears))

pub returns-in-Behind-clause-nears : goal.returns-in-Behind-clause-nears
returns-in-Behind-clause-nears c = value_given c.args.self.now.frames c.args.frame _ _ c.in-Behind.is (omega (arith, c.test.ensures.nears))

pub returns-in-Body-clause-nears : goal.returns-in-Body-clause-nears
returns-in-Body-clause-nears c = value_given c.args.self.now.frames c.args.frame _ _ c.in-Body.is (nearer _ _ _ _ (omega arith))

pub returns-in-Rest-clause-nears : goal.returns-in-Rest-clause-nears
returns-in-Rest-clause-nears c = value_given c.args.self.now.frames c.args.frame _ _ c.in-Rest.is (nearer _ _ _ _ (omega arith))

pub returns-in-Settle-clause-nears : goal.returns-in-Settle-clause-nears
returns-in-Settle-clause-nears c = value_given c.args.self.now.frames c.args.frame _ _ c.in-Settle.is (nearer _ _ _ _ (omega arith))

pub returns-in-Close-clause-nears : goal.returns-in-Close-clause-nears
returns-in-Close-clause-nears c = value_given c.args.self.now.frames c.args.frame _ _ c.in-Close.is (nearer _ _ _ _ (omega arith))
