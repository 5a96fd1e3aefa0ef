use Rattle.std.proofs.Common.{◌≡◌, ◌∙◌, ◌<◌, ap, refl, subst, sym, arith, inr, Option, Some, Ok}
use Rattle.std.specs.Prelude.{IfOk}
use Rattle.ec_machine.specs.declared.frame.Focus.TheVariants as focus
use Rattle.ec_machine.specs.Goes.{tasks}
use Rattle.ec_interp.specs.declared.running.library.Progress.TheVariants as progress
use Rattle.ec_interp.specs.running.LibraryRuns.{AsksWith, Idle, HaltsOnce, HaltsWith, Nears}
use Rattle.ec_interp.specs.running.Runs.{answer_going, answer_with}
use Rattle.ec_interp.specs.running.Sessions.{AsksOnce, Going, OneMore}
use Rattle.ec_interp.proofs.running_lemmas.Leading.{asks_called, comes_called, done_asks, halts_idle, never_asks, part_idle, halts_called, halts_on, nears_turn, never_nears, once_stopped, once_then}
use Rattle.ec_interp.proofs.running.driving.resume_with.Goals as goal

pub returns-in-Ok-Asks-clause-halts : goal.returns-in-Ok-Asks-clause-halts
returns-in-Ok-Asks-clause-halts g c = λ was is.
    let fs = c.args.functions.now in
    let m = c.args.machine.now in
    let knowing = g.L.Library.knowing c.args.library.now in
    let r = c.resume.ensures.resumed was is in
    asks_called g.O.Sink.held g.O.Sink.faults g.E.Sink.held g.E.Sink.faults c.args.out.now c.args.err.now knowing fs (g.L.Library.session c.args.library.now) (g.L.Library.session c.resume.new.self) m
    (λ w first s. was m.line.0 s) c.resume.new.store m.turns (g.L.Library.going c.resume.new.self) r.growth c.resume.result (r.carried m.turns) (c.in-Ok-Asks.is ∙ ap Ok c.in-Ok-Asks.field-0-is) (omega arith)

pub returns-in-Ok-Asks-clause-one : goal.returns-in-Ok-Asks-clause-one
returns-in-Ok-Asks-clause-one g c = subst (λ r. AsksOnce r (g.L.Library.session c.args.library.now) (g.L.Library.session c.resume.new.self)) (c.in-Ok-Asks.is ∙ ap Ok c.in-Ok-Asks.field-0-is) c.resume.ensures.one

pub returns-in-Ok-Done-clause-halts : goal.returns-in-Ok-Done-clause-halts
returns-in-Ok-Done-clause-halts g c = λ was is.
    let fs = c.args.functions.now in
    let m = c.args.machine.now in
    let knowing = g.L.Library.knowing c.args.library.now in
    let r = c.resume.ensures.resumed was is in
    halts_on g.O.Sink.held g.O.Sink.faults g.E.Sink.held g.E.Sink.faults c.args.out.now c.args.err.now knowing fs m.turns (λ k s. answer_going knowing fs k m was s)
    (g.L.Library.session c.args.library.now) (g.L.Library.session c.resume.new.self) (g.L.Library.session c.run_on.new.library)
    c.args.out.now c.run_on.new.out c.args.err.now c.run_on.new.err (record m { store = c.resume.new.store }) c.run_on.new.machine (focus.Value c.value_of.result) (g.L.Library.going c.run_on.new.library) c.run_on.result
    (comes_called g.O.Sink.held g.O.Sink.faults g.E.Sink.held g.E.Sink.faults c.args.out.now c.args.err.now knowing fs (g.L.Library.session c.args.library.now) (g.L.Library.session c.resume.new.self) m
    (λ w first s. was m.line.0 s) c.resume.new.store m.turns (g.L.Library.going c.resume.new.self) r.growth c.resume.result (r.carried m.turns) (c.in-Ok-Done.is ∙ ap Ok c.in-Ok-Done.field-0-is) (omega arith) c.value_of.result c.value_of.ensures)
    (subst (λ n. HaltsWith g.O.Sink.held g.O.Sink.faults g.E.Sink.held g.E.Sink.faults m.turns (λ k s. answer_with n fs k (record m { store = c.resume.new.store }) (focus.Value c.value_of.result) s) (g.L.Library.session c.resume.new.self) (g.L.Library.session c.run_on.new.library) c.args.out.now c.run_on.new.out c.args.err.now c.run_on.new.err c.run_on.new.machine n fs (g.L.Library.going c.run_on.new.library) c.run_on.result) c.resume.ensures.same c.run_on.ensures.halts)

pub returns-in-Ok-Done-clause-one : goal.returns-in-Ok-Done-clause-one
returns-in-Ok-Done-clause-one g c =
    once_then c.run_on.result (g.L.Library.session c.args.library.now) (g.L.Library.session c.resume.new.self) (g.L.Library.session c.run_on.new.library)
    (subst (λ r. AsksOnce r (g.L.Library.session c.args.library.now) (g.L.Library.session c.resume.new.self)) (c.in-Ok-Done.is ∙ ap Ok c.in-Ok-Done.field-0-is) c.resume.ensures.one)
    c.run_on.ensures.quiet

pub returns-in-Err-clause-halts : goal.returns-in-Err-clause-halts
returns-in-Err-clause-halts g c = λ was is.
    let fs = c.args.functions.now in
    let m = c.args.machine.now in
    let knowing = g.L.Library.knowing c.args.library.now in
    let suits = g.met.L.Library.suits c.args.library.now in
    let r = c.resume.ensures.resumed was is in
    subst (λ h. HaltsWith g.O.Sink.held g.O.Sink.faults g.E.Sink.held g.E.Sink.faults m.turns (λ k s. answer_going knowing fs k m was s) (g.L.Library.session c.args.library.now) (g.L.Library.session c.resume.new.self) c.args.out.now c.args.out.now c.args.err.now c.args.err.now (record m { store = c.resume.new.store }) knowing fs (g.L.Library.going c.resume.new.self) h) (sym c.halt_for.ensures)
    (halts_called g.O.Sink.held g.O.Sink.faults g.E.Sink.held g.E.Sink.faults c.args.out.now c.args.err.now knowing fs (g.L.Library.session c.args.library.now) (g.L.Library.session c.resume.new.self) m
    (λ w first s. was m.line.0 s) c.resume.new.store m.turns (g.L.Library.going c.resume.new.self) r.growth c.resume.result (r.carried m.turns) suits.adds (λ k s. g.met.L.Library.adds c.args.library.now was is m.line.0 s) c.in-Err.stop c.in-Err.is)

pub returns-in-Err-clause-one : goal.returns-in-Err-clause-one
returns-in-Err-clause-one g c =
    subst (λ h. HaltsOnce h (g.L.Library.session c.args.library.now) (g.L.Library.session c.resume.new.self)) (sym c.halt_for.ensures)
    (once_stopped c.resume.result c.in-Err.stop (g.L.Library.session c.args.library.now) (g.L.Library.session c.resume.new.self) c.in-Err.is c.resume.ensures.one)

pub returns-in-Ok-Asks-clause-nears : goal.returns-in-Ok-Asks-clause-nears
returns-in-Ok-Asks-clause-nears g c =
    inr (refl, subst (λ r. IfOk r (λ p. p ≡ progress.Asks → g.L.Library.left c.resume.new.self < g.L.Library.left c.args.library.now)) (c.in-Ok-Asks.is ∙ ap Ok c.in-Ok-Asks.field-0-is) c.resume.ensures.nears refl)

pub returns-in-Ok-Done-clause-nears : goal.returns-in-Ok-Done-clause-nears
returns-in-Ok-Done-clause-nears g c =
    nears_turn c.run_on.result c.args.machine.now.turns c.run_on.new.machine.turns (g.L.Library.left c.args.library.now) (g.L.Library.left c.run_on.new.library) c.run_on.ensures.turned

pub returns-in-Err-clause-nears : goal.returns-in-Err-clause-nears
returns-in-Err-clause-nears g c =
    subst (λ l. Nears l c.args.machine.now.turns c.args.machine.now.turns (g.L.Library.left c.args.library.now) (g.L.Library.left c.resume.new.self)) (sym c.halt_for.ensures)
    (never_nears c.in-Err.stop c.args.machine.now.turns c.args.machine.now.turns (g.L.Library.left c.args.library.now) (g.L.Library.left c.resume.new.self))

pub returns-in-Ok-Done-clause-idle : goal.returns-in-Ok-Done-clause-idle
returns-in-Ok-Done-clause-idle g c = λ was is.
    let m = c.args.machine.now in
    let r = c.resume.ensures.resumed was is in
    c.run_on.ensures.idle
    (part_idle (λ w first s. was m.line.0 s) m.line.0 m.store m.turns (g.L.Library.session c.args.library.now) c.resume.new.store m.turns (g.L.Library.session c.resume.new.self) (g.L.Library.going c.resume.new.self) c.resume.result r.growth (r.carried m.turns)
    (done_asks c.resume.result (c.in-Ok-Done.is ∙ ap Ok c.in-Ok-Done.field-0-is)) (tasks (g.L.Library.knowing c.args.library.now) c.args.functions.now 0))

pub returns-in-Err-clause-idle : goal.returns-in-Err-clause-idle
returns-in-Err-clause-idle g c = λ was is.
    let m = c.args.machine.now in
    let r = c.resume.ensures.resumed was is in
    subst (λ l. Idle l (g.L.Library.going c.resume.new.self)) (sym c.halt_for.ensures) (halts_idle c.in-Err.stop (g.L.Library.going c.resume.new.self)
    (part_idle (λ w first s. was m.line.0 s) m.line.0 m.store m.turns (g.L.Library.session c.args.library.now) c.resume.new.store m.turns (g.L.Library.session c.resume.new.self) (g.L.Library.going c.resume.new.self) c.resume.result r.growth (r.carried m.turns)
    (never_asks c.resume.result c.in-Err.stop c.in-Err.is) (tasks (g.L.Library.knowing c.args.library.now) c.args.functions.now 0)))
