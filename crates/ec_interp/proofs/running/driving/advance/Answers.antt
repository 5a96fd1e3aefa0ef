use Rattle.std.proofs.Common.{◌≡◌, ◌∙◌, ap, sym, subst, refl, arith, ◌≤◌, ◌<◌, ◌^◌, Ok, []}
use Rattle.std.specs.Prelude.{IfOk, IfErr}
use Rattle.ec_machine.specs.declared.frame.Focus.TheVariants as focus
use Rattle.ec_machine.specs.Weights.{remaining, weight}
use Rattle.ec_machine.proofs.Weighing.{nearer}
use Rattle.ec_interp.specs.running.LibraryRuns.{AsksWith, ComesWith, Idle, HaltsWith, TakesTurn}
use Rattle.ec_interp.specs.declared.running.library.Progress.TheVariants as progress
use Rattle.ec_interp.specs.running.Runs.{answer_with}
use Rattle.ec_plain.specs.Answered.{context}
use Rattle.ec_meaning_defs.specs.resolved.Resolved.{library}
use Rattle.ec_machine.specs.Frames.{objects_of, waiting}
use Rattle.ec_machine.specs.Goes.{env_of, tasks}
use Rattle.ec_interp.proofs.running_lemmas.Growing.{calls_grow}
use Rattle.ec_interp.proofs.running_lemmas.Leading.{asks_called, done_asks, halts_idle, never_asks, part_idle, begins_none, comes_called, comes_step, halts_called, halts_step, never_turns, not_outside, same_log, started_with}
use Rattle.ec_interp.proofs.running.driving.advance.Goals as goal

pub returns-in-Puts-clause-goes : goal.returns-in-Puts-clause-goes
returns-in-Puts-clause-goes g c =
    let fs = c.args.functions.now in
    let m = c.args.machine.now in
    let knowing = g.L.Library.knowing c.args.library.now in
    let x = g.L.Library.session c.args.library.now in
    subst (λ f. IfOk c.print.result (λ next. ComesWith g.O.Sink.held g.O.Sink.faults g.E.Sink.held g.E.Sink.faults m.turns (λ k s. answer_with knowing fs k m f s) x x c.args.out.now c.print.new.out c.args.err.now c.print.new.err m knowing fs next)) (sym c.in-Puts.is)
    (c.print.ensures.goes fs knowing x)

pub returns-in-Puts-clause-halts : goal.returns-in-Puts-clause-halts
returns-in-Puts-clause-halts g c =
    let fs = c.args.functions.now in
    let m = c.args.machine.now in
    let knowing = g.L.Library.knowing c.args.library.now in
    let x = g.L.Library.session c.args.library.now in
    subst (λ f. IfErr c.print.result (λ halt. HaltsWith g.O.Sink.held g.O.Sink.faults g.E.Sink.held g.E.Sink.faults m.turns (λ k s. answer_with knowing fs k m f s) x x c.args.out.now c.print.new.out c.args.err.now c.print.new.err m knowing fs (g.L.Library.going c.args.library.now) halt)) (sym c.in-Puts.is)
    (c.print.ensures.halts fs knowing (g.met.L.Library.suits c.args.library.now) x (g.L.Library.going c.args.library.now))

pub returns-in-Puts-clause-nears : goal.returns-in-Puts-clause-nears
returns-in-Puts-clause-nears g c =
    let m = c.args.machine.now in
    subst (λ f. IfOk c.print.result (λ next. remaining m.turns (Ok next) m ≤ weight m.frames f)) (sym c.in-Puts.is) c.print.ensures.nears

pub returns-in-Ok-clause-goes : goal.returns-in-Ok-clause-goes
returns-in-Ok-clause-goes g c =
    let fs = c.args.functions.now in
    let m = c.args.machine.now in
    let knowing = g.L.Library.knowing c.args.library.now in
    let x = g.L.Library.session c.args.library.now in
    comes_step g.O.Sink.held g.O.Sink.faults g.E.Sink.held g.E.Sink.faults c.args.out.now c.args.err.now knowing fs m.turns (λ k s. answer_with knowing fs k m c.args.focus s) x c.step.result c.step.new.self c.in-Ok.next c.in-Ok.is c.step.ensures.turns (c.step.ensures.goes knowing (g.met.L.Library.suits c.args.library.now).fits)

pub returns-in-Ok-clause-nears : goal.returns-in-Ok-clause-nears
returns-in-Ok-clause-nears g c =
    let m = c.args.machine.now in
    subst (λ r. remaining m.turns r c.step.new.self ≤ weight m.frames c.args.focus) c.in-Ok.is (c.step.ensures.nears (not_outside c.args.focus c.in_default.not-Puts c.in_default.not-Calls))

pub returns-in-Err-step-clause-halts : goal.returns-in-Err-step-clause-halts
returns-in-Err-step-clause-halts g c =
    let fs = c.args.functions.now in
    let m = c.args.machine.now in
    let knowing = g.L.Library.knowing c.args.library.now in
    let x = g.L.Library.session c.args.library.now in
    let suits = g.met.L.Library.suits c.args.library.now in
    subst (λ h. HaltsWith g.O.Sink.held g.O.Sink.faults g.E.Sink.held g.E.Sink.faults m.turns (λ k s. answer_with knowing fs k m c.args.focus s) x x c.args.out.now c.args.out.now c.args.err.now c.args.err.now c.step.new.self knowing fs (g.L.Library.going c.args.library.now) h) (sym c.halt_for-in-Err-step.ensures)
    (halts_step g.O.Sink.held g.O.Sink.faults g.E.Sink.held g.E.Sink.faults c.args.out.now c.args.err.now knowing fs m.turns (λ k s. answer_with knowing fs k m c.args.focus s) x c.step.result c.step.new.self (g.L.Library.going c.args.library.now) c.in-Err-step.stop c.in-Err-step.is (begins_none knowing suits.adds fs x x m c.args.focus) (c.step.ensures.goes knowing suits.fits))

pub returns-in-Ok-Done-clause-goes : goal.returns-in-Ok-Done-clause-goes
returns-in-Ok-Done-clause-goes g c =
    let fs = c.args.functions.now in
    let m = c.args.machine.now in
    let knowing = g.L.Library.knowing c.args.library.now in
    let x = g.L.Library.session c.args.library.now in
    let y = g.L.Library.session c.start.new.self in
    subst (λ f. ComesWith g.O.Sink.held g.O.Sink.faults g.E.Sink.held g.E.Sink.faults m.turns (λ k s. answer_with knowing fs k m f s) x y c.args.out.now c.args.out.now c.args.err.now c.args.err.now (record m { store = c.start.new.store; turns = c.start.new.turns }) knowing fs (focus.Value c.value_of.result)) (sym c.in-Calls.is)
    (comes_called g.O.Sink.held g.O.Sink.faults g.E.Sink.held g.E.Sink.faults c.args.out.now c.args.err.now knowing fs x y m
    (λ w first s. knowing w (context m.line.0 (objects_of m.scope) first) (library c.in-Calls.number (waiting c.in-Calls.count (env_of m))) s)
    c.start.new.store c.start.new.turns (g.L.Library.going c.start.new.self) [] c.start.result
    (started_with knowing c.in-Calls.number c.objects.ensures c.last.ensures c.start.ensures.started)
    (c.in-Ok-Done.is ∙ ap Ok c.in-Ok-Done.field-0-is) c.start.ensures.fewer c.value_of.result c.value_of.ensures)

pub returns-in-Ok-Done-clause-nears : goal.returns-in-Ok-Done-clause-nears
returns-in-Ok-Done-clause-nears g c =
    let m = c.args.machine.now in
    subst (λ f. remaining m.turns (Ok (focus.Value c.value_of.result)) (record m { store = c.start.new.store; turns = c.start.new.turns }) ≤ weight m.frames f) (sym c.in-Calls.is) (nearer _ _ _ _ (omega arith))

pub returns-in-Ok-Asks-clause-halts : goal.returns-in-Ok-Asks-clause-halts
returns-in-Ok-Asks-clause-halts g c =
    let fs = c.args.functions.now in
    let m = c.args.machine.now in
    let knowing = g.L.Library.knowing c.args.library.now in
    let x = g.L.Library.session c.args.library.now in
    let y = g.L.Library.session c.start.new.self in
    subst (λ f. AsksWith g.O.Sink.held g.O.Sink.faults g.E.Sink.held g.E.Sink.faults m.turns (λ k s. answer_with knowing fs k m f s) x y c.args.out.now c.args.out.now c.args.err.now c.args.err.now (record m { store = c.start.new.store; turns = c.start.new.turns }) knowing fs (g.L.Library.going c.start.new.self)) (sym c.in-Calls.is)
    (asks_called g.O.Sink.held g.O.Sink.faults g.E.Sink.held g.E.Sink.faults c.args.out.now c.args.err.now knowing fs x y m
    (λ w first s. knowing w (context m.line.0 (objects_of m.scope) first) (library c.in-Calls.number (waiting c.in-Calls.count (env_of m))) s)
    c.start.new.store c.start.new.turns (g.L.Library.going c.start.new.self) [] c.start.result
    (started_with knowing c.in-Calls.number c.objects.ensures c.last.ensures c.start.ensures.started)
    (c.in-Ok-Asks.is ∙ ap Ok c.in-Ok-Asks.field-0-is) c.start.ensures.fewer)

pub returns-in-Err-clause-halts : goal.returns-in-Err-clause-halts
returns-in-Err-clause-halts g c =
    let fs = c.args.functions.now in
    let m = c.args.machine.now in
    let knowing = g.L.Library.knowing c.args.library.now in
    let x = g.L.Library.session c.args.library.now in
    let y = g.L.Library.session c.start.new.self in
    let suits = g.met.L.Library.suits c.args.library.now in
    subst (λ f. HaltsWith g.O.Sink.held g.O.Sink.faults g.E.Sink.held g.E.Sink.faults m.turns (λ k s. answer_with knowing fs k m f s) x y c.args.out.now c.args.out.now c.args.err.now c.args.err.now (record m { store = c.start.new.store; turns = c.start.new.turns }) knowing fs (g.L.Library.going c.start.new.self) c.halt_for.result) (sym c.in-Calls.is)
    (subst (λ h. HaltsWith g.O.Sink.held g.O.Sink.faults g.E.Sink.held g.E.Sink.faults m.turns (λ k s. answer_with knowing fs k m (focus.Calls c.in-Calls.number c.in-Calls.count) s) x y c.args.out.now c.args.out.now c.args.err.now c.args.err.now (record m { store = c.start.new.store; turns = c.start.new.turns }) knowing fs (g.L.Library.going c.start.new.self) h) (sym c.halt_for.ensures)
    (halts_called g.O.Sink.held g.O.Sink.faults g.E.Sink.held g.E.Sink.faults c.args.out.now c.args.err.now knowing fs x y m
    (λ w first s. knowing w (context m.line.0 (objects_of m.scope) first) (library c.in-Calls.number (waiting c.in-Calls.count (env_of m))) s)
    c.start.new.store c.start.new.turns (g.L.Library.going c.start.new.self) [] c.start.result
    (started_with knowing c.in-Calls.number c.objects.ensures c.last.ensures c.start.ensures.started)
    suits.adds (λ k s. calls_grow knowing suits.adds fs k (context m.line.0 (objects_of m.scope) m.first) c.in-Calls.number (waiting c.in-Calls.count (env_of m)) s) c.in-Err.stop c.in-Err.is))

pub returns-in-Puts-clause-quiet : goal.returns-in-Puts-clause-quiet
returns-in-Puts-clause-quiet g c = same_log (g.L.Library.session c.args.library.now)

pub returns-in-Ok-clause-quiet : goal.returns-in-Ok-clause-quiet
returns-in-Ok-clause-quiet g c = same_log (g.L.Library.session c.args.library.now)

pub returns-in-Err-step-clause-quiet : goal.returns-in-Err-step-clause-quiet
returns-in-Err-step-clause-quiet g c = same_log (g.L.Library.session c.args.library.now)

pub returns-in-Puts-clause-turned : goal.returns-in-Puts-clause-turned
returns-in-Puts-clause-turned g c = c.print.ensures.turned (g.L.Library.left c.args.library.now)

pub returns-in-Ok-Asks-clause-turned : goal.returns-in-Ok-Asks-clause-turned
returns-in-Ok-Asks-clause-turned g c =
    subst (λ r. IfOk r (λ p. p ≡ progress.Asks → (c.start.new.turns < c.args.machine.now.turns) × (g.L.Library.left c.start.new.self < 2 ^ 64))) (c.in-Ok-Asks.is ∙ ap Ok c.in-Ok-Asks.field-0-is) c.start.ensures.turned refl

pub returns-in-Err-clause-turned : goal.returns-in-Err-clause-turned
returns-in-Err-clause-turned g c = subst (λ l. TakesTurn l c.args.machine.now.turns c.start.new.turns (g.L.Library.left c.start.new.self)) (sym c.halt_for.ensures) (never_turns c.in-Err.stop c.args.machine.now.turns c.start.new.turns (g.L.Library.left c.start.new.self))

pub returns-in-Err-step-clause-turned : goal.returns-in-Err-step-clause-turned
returns-in-Err-step-clause-turned g c = subst (λ l. TakesTurn l c.args.machine.now.turns c.step.new.self.turns (g.L.Library.left c.args.library.now)) (sym c.halt_for-in-Err-step.ensures) (never_turns c.in-Err-step.stop c.args.machine.now.turns c.step.new.self.turns (g.L.Library.left c.args.library.now))

pub returns-in-Ok-Done-clause-idle_on : goal.returns-in-Ok-Done-clause-idle_on
returns-in-Ok-Done-clause-idle_on g c = λ was.
    part_idle _ c.args.machine.now.line.0 c.args.machine.now.store c.args.machine.now.turns (g.L.Library.session c.args.library.now) c.start.new.store c.start.new.turns (g.L.Library.session c.start.new.self) (g.L.Library.going c.start.new.self) c.start.result [] c.start.ensures.started
    (done_asks c.start.result (c.in-Ok-Done.is ∙ ap Ok c.in-Ok-Done.field-0-is)) (tasks (g.L.Library.knowing c.args.library.now) c.args.functions.now 0)

pub returns-in-Err-clause-idle : goal.returns-in-Err-clause-idle
returns-in-Err-clause-idle g c = λ was.
    subst (λ l. Idle l (g.L.Library.going c.start.new.self)) (sym c.halt_for.ensures) (halts_idle c.in-Err.stop (g.L.Library.going c.start.new.self)
    (part_idle _ c.args.machine.now.line.0 c.args.machine.now.store c.args.machine.now.turns (g.L.Library.session c.args.library.now) c.start.new.store c.start.new.turns (g.L.Library.session c.start.new.self) (g.L.Library.going c.start.new.self) c.start.result [] c.start.ensures.started
    (never_asks c.start.result c.in-Err.stop c.in-Err.is) (tasks (g.L.Library.knowing c.args.library.now) c.args.functions.now 0)))

pub returns-in-Err-step-clause-idle : goal.returns-in-Err-step-clause-idle
returns-in-Err-step-clause-idle g c = λ was. subst (λ l. Idle l (g.L.Library.going c.args.library.now)) (sym c.halt_for-in-Err-step.ensures) (halts_idle c.in-Err-step.stop (g.L.Library.going c.args.library.now) was)

pub returns-in-Puts-clause-idle : goal.returns-in-Puts-clause-idle
returns-in-Puts-clause-idle g c = c.print.ensures.idle (g.L.Library.going c.args.library.now)
