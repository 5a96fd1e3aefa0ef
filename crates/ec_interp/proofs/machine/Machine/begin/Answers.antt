use Rattle.std.proofs.Common.{◌≡◌, subst, sym, refl, [], Some, Ok, Err}
use Rattle.std.specs.Prelude.{slice_get}
use Rattle.ec_code.specs.Views.{program_view}
use Rattle.ec_meaning_defs.specs.evaluation.Whole.{main_run}
use Rattle.ec_machine.specs.declared.machine.Machine.{Machine}
use Rattle.ec_machine.specs.Goes.{at, tasks}
use Rattle.ec_interp.specs.opening.Opens.{Opens}
use Rattle.ec_meaning_defs.specs.resolved.Programs.{opening_objects}
use Rattle.ec_interp.specs.running.LibraryRuns.{Idle, HaltsWith, TakesTurn}
use Rattle.ec_interp.proofs.running_lemmas.Leading.{same_log}
use Rattle.ec_interp.specs.declared.end.Step.TheVariants as step
use Rattle.ec_interp.specs.Stepping.{Steps}
use Rattle.ec_interp.proofs.Stepping.{halts_same, made_so, run, stands_first, unopened_made}
use Rattle.ec_interp.proofs.Whole.{opened_run, whole_run}
use Rattle.ec_interp.proofs.machine.Machine.begin.Goals as goal

pub returns-in-Ok-clause-steps : goal.returns-in-Ok-clause-steps
returns-in-Ok-clause-steps g c = λ x known.
    let p = c.args.self.now.program.now in
    let turns = c.args.turns in
    let knowing = g.L.Library.knowing c.args.library.now in
    let z = g.L.Library.session c.run_opened.new.library in
    let going = g.L.Library.going c.run_opened.new.library in
    let suits = g.met.L.Library.suits c.args.library.now in
    let m : Machine = record c.args.self.now.frames { store = c.open_program.new.store; turns = turns } in
    let o = subst (λ old. Opens (opening_objects (program_view p)) (Ok tt) old c.open_program.new.store) c.requires.new.store c.in-Ok.ensures.opens in
    let halts = subst (λ w. HaltsWith g.O.Sink.held g.O.Sink.faults g.E.Sink.held g.E.Sink.faults turns (λ k s. main_run knowing (tasks knowing p.functions k) (slice_get (program_view p).functions p.main) (at s m)) w z c.args.out.now c.run_opened.new.out c.args.err.now c.run_opened.new.err c.run_opened.new.frames knowing p.functions going c.run_opened.result) known c.run_opened.ensures.halts in
    made_so knowing suits.fits.counts p turns g.O.Sink.held g.O.Sink.faults g.E.Sink.held g.E.Sink.faults c.args.out.now c.run_opened.new.out c.args.err.now c.run_opened.new.err x (Some x) z [] [] [] turns (run knowing suits.fits.counts p turns) (stands_first knowing suits.fits.counts p turns x)
    (λ ready. []) (λ ready. []) (λ ready begins. (refl, refl)) c.run_opened.new.frames going (g.L.Library.asking c.run_opened.new.library) (g.met.L.Library.waits c.run_opened.new.library) c.step_of.result
    (subst (λ l. HaltsWith g.O.Sink.held g.O.Sink.faults g.E.Sink.held g.E.Sink.faults turns (run knowing suits.fits.counts p turns) (Some x) z c.args.out.now c.run_opened.new.out c.args.err.now c.run_opened.new.err c.run_opened.new.frames knowing p.functions going l) (sym c.step_of.ensures)
    (halts_same g.O.Sink.held g.O.Sink.faults g.E.Sink.held g.E.Sink.faults turns (whole_run knowing p turns)
    (λ k s. main_run knowing (tasks knowing p.functions k) (slice_get (program_view p).functions p.main) (at s m)) (opened_run knowing p m o) (Some x) z
    c.args.out.now c.run_opened.new.out c.args.err.now c.run_opened.new.err c.run_opened.new.frames knowing p going c.run_opened.result halts))

pub returns-in-Err-clause-steps : goal.returns-in-Err-clause-steps
returns-in-Err-clause-steps g c = λ x known.
    let p = c.args.self.now.program.now in
    let turns = c.args.turns in
    let knowing = g.L.Library.knowing c.args.library.now in
    let z = g.L.Library.session c.args.library.now in
    let going = g.L.Library.going c.args.library.now in
    let asking = g.L.Library.asking c.args.library.now in
    let suits = g.met.L.Library.suits c.args.library.now in
    let m : Machine = record c.args.self.now.frames { store = c.open_program.new.store; turns = turns } in
    let o = subst (λ old. Opens (opening_objects (program_view p)) (Err c.in-Err.why) old c.open_program.new.store) c.requires.new.store c.in-Err.ensures.opens in
    subst (λ w. Steps g.O.Sink.held g.O.Sink.faults g.E.Sink.held g.E.Sink.faults knowing p turns x [] (λ ready. []) (λ ready. []) w going asking c.args.out.now c.args.out.now c.args.err.now c.args.err.now m (step.Ended c.unopened.result)) (sym known)
    (unopened_made knowing suits.fits.counts p turns g.O.Sink.held g.O.Sink.faults g.E.Sink.held g.E.Sink.faults x c.args.out.now c.args.err.now m going asking (g.met.L.Library.waits c.args.library.now) c.in-Err.why c.unopened.result refl c.unopened.ensures o)

pub returns-in-Err-clause-quiet : goal.returns-in-Err-clause-quiet
returns-in-Err-clause-quiet g c = same_log (g.L.Library.session c.args.library.now)

pub returns-in-Err-clause-led : goal.returns-in-Err-clause-led
returns-in-Err-clause-led g c = g.met.L.Library.stays c.args.library.now

pub returns-in-Ok-clause-turned : goal.returns-in-Ok-clause-turned
returns-in-Ok-clause-turned g c = subst (λ l. TakesTurn l c.args.turns c.run_opened.new.frames.turns (g.L.Library.left c.run_opened.new.library)) (sym c.step_of.ensures) c.run_opened.ensures.turned

pub returns-in-Ok-clause-idle : goal.returns-in-Ok-clause-idle
returns-in-Ok-clause-idle g c = λ was. subst (λ l. Idle l (g.L.Library.going c.run_opened.new.library)) (sym c.step_of.ensures) (c.run_opened.ensures.idle was)
