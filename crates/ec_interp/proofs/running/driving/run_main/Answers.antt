use Rattle.std.proofs.Common.{subst, sym, Some}
use Rattle.ec_code.specs.Views.{function_view}
use Rattle.ec_meaning_defs.specs.evaluation.Whole.{main_run}
use Rattle.ec_machine.specs.Goes.{at, tasks}
use Rattle.ec_interp.specs.running.LibraryRuns.{Idle, HaltsWith, TakesTurn}
use Rattle.ec_interp.specs.running.Runs.{Run}
use Rattle.ec_interp.proofs.running_lemmas.Leading.{comes_step, halts_idle, halts_step, halts_on, main_begins, never_turns, same_log, turn_before}
use Rattle.ec_interp.proofs.running.driving.run_main.Goals as goal

pub returns-in-Ok-clause-halts : goal.returns-in-Ok-clause-halts
returns-in-Ok-clause-halts g c =
    let fs = c.args.functions.now in
    let m = c.args.machine.now in
    let knowing = g.L.Library.knowing c.args.library.now in
    let x = g.L.Library.session c.args.library.now in
    let suits = g.met.L.Library.suits c.args.library.now in
    let run : Run = λ k s. main_run knowing (tasks knowing fs k) (Some (function_view c.args.main.now)) (at s m) in
    halts_on g.O.Sink.held g.O.Sink.faults g.E.Sink.held g.E.Sink.faults c.args.out.now c.args.err.now knowing fs m.turns run
    x x (g.L.Library.session c.run_on.new.library)
    c.args.out.now c.run_on.new.out c.args.err.now c.run_on.new.err c.enter_main.new.self c.run_on.new.machine c.in-Ok.focus (g.L.Library.going c.run_on.new.library) c.run_on.result
    (comes_step g.O.Sink.held g.O.Sink.faults g.E.Sink.held g.E.Sink.faults c.args.out.now c.args.err.now knowing fs m.turns run x c.enter_main.result c.enter_main.new.self c.in-Ok.focus c.in-Ok.is c.enter_main.ensures.turns (c.enter_main.ensures.stands fs knowing suits.fits))
    c.run_on.ensures.halts

pub returns-in-Err-clause-halts : goal.returns-in-Err-clause-halts
returns-in-Err-clause-halts g c =
    let fs = c.args.functions.now in
    let m = c.args.machine.now in
    let knowing = g.L.Library.knowing c.args.library.now in
    let x = g.L.Library.session c.args.library.now in
    let suits = g.met.L.Library.suits c.args.library.now in
    let run : Run = λ k s. main_run knowing (tasks knowing fs k) (Some (function_view c.args.main.now)) (at s m) in
    subst (λ h. HaltsWith g.O.Sink.held g.O.Sink.faults g.E.Sink.held g.E.Sink.faults m.turns run x x c.args.out.now c.args.out.now c.args.err.now c.args.err.now c.enter_main.new.self knowing fs (g.L.Library.going c.args.library.now) h) (sym c.halt_for.ensures)
    (halts_step g.O.Sink.held g.O.Sink.faults g.E.Sink.held g.E.Sink.faults c.args.out.now c.args.err.now knowing fs m.turns run x c.enter_main.result c.enter_main.new.self (g.L.Library.going c.args.library.now) c.in-Err.stop c.in-Err.is (main_begins knowing suits.adds fs x x m c.args.main.now) (c.enter_main.ensures.stands fs knowing suits.fits))

pub returns-in-Err-clause-quiet : goal.returns-in-Err-clause-quiet
returns-in-Err-clause-quiet g c = same_log (g.L.Library.session c.args.library.now)

pub returns-in-Ok-clause-turned : goal.returns-in-Ok-clause-turned
returns-in-Ok-clause-turned g c = turn_before c.run_on.result c.args.machine.now.turns c.enter_main.new.self.turns c.run_on.new.machine.turns (g.L.Library.left c.run_on.new.library) c.enter_main.ensures.turns c.run_on.ensures.turned

pub returns-in-Err-clause-turned : goal.returns-in-Err-clause-turned
returns-in-Err-clause-turned g c = subst (λ l. TakesTurn l c.args.machine.now.turns c.enter_main.new.self.turns (g.L.Library.left c.args.library.now)) (sym c.halt_for.ensures) (never_turns c.in-Err.stop c.args.machine.now.turns c.enter_main.new.self.turns (g.L.Library.left c.args.library.now))

pub returns-in-Err-clause-idle : goal.returns-in-Err-clause-idle
returns-in-Err-clause-idle g c = λ was. subst (λ l. Idle l (g.L.Library.going c.args.library.now)) (sym c.halt_for.ensures) (halts_idle c.in-Err.stop (g.L.Library.going c.args.library.now) was)
