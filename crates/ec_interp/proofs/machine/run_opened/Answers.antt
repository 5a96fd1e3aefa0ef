use Rattle.std.proofs.Common.{◌≡◌, ◌∙◌, ap, List, map, subst, sym, Some, None}
use Rattle.std.specs.Prelude.{slice_get}
use Rattle.ec_code.specs.declared.program.Function.{Function}
use Rattle.ec_code.specs.Views.{function_view, program_view}
use Rattle.ec_meaning_defs.specs.evaluation.Whole.{main_run}
use Rattle.ec_machine.specs.Goes.{at, tasks}
use Rattle.ec_interp.specs.running.LibraryRuns.{HaltsWith}
use Rattle.ec_interp.specs.running.Runs.{Run}
use Rattle.ec_interp.proofs.running_lemmas.Leading.{same_log}
use Rattle.ec_interp.proofs.Stepping.{halts_same, without_main}
use Rattle.ec_interp.proofs.machine.run_opened.Goals as goal

pub returns-in-Some-clause-halts : goal.returns-in-Some-clause-halts
returns-in-Some-clause-halts g c =
    let p = c.args.program.now in
    let m = c.args.frames.now in
    let first = c.in-Some.main.now in
    let knowing = g.L.Library.knowing c.args.library.now in
    let x = g.L.Library.session c.args.library.now in
    let y = g.L.Library.session c.run_main.new.library in
    let going = g.L.Library.going c.run_main.new.library in
    let there : slice_get (program_view p).functions p.main ≡ Some (function_view first) =
    sym (c.in-Some.ensures ∙ (λ i. slice_get (map function_view (c.as_slice-functions.ensures i)) p.main)) in
    let run : Run = λ k s. main_run knowing (tasks knowing p.functions k) (slice_get (program_view p).functions p.main) (at s m) in
    let main : Run = λ k s. main_run knowing (tasks knowing p.functions k) (Some (function_view first)) (at s m) in
    halts_same g.O.Sink.held g.O.Sink.faults g.E.Sink.held g.E.Sink.faults m.turns run main
    (λ k s. ap (λ f. main_run knowing (tasks knowing p.functions k) f (at s m)) there) x y c.args.out.now c.run_main.new.out c.args.err.now c.run_main.new.err c.run_main.new.machine knowing p going c.run_main.result
    (subst (λ (fs : List Function). HaltsWith g.O.Sink.held g.O.Sink.faults g.E.Sink.held g.E.Sink.faults m.turns (λ k s. main_run knowing (tasks knowing fs k) (Some (function_view first)) (at s m)) x y c.args.out.now c.run_main.new.out c.args.err.now c.run_main.new.err c.run_main.new.machine knowing fs going c.run_main.result)
    c.as_slice-functions.ensures c.run_main.ensures.halts)

pub returns-in-None-clause-halts : goal.returns-in-None-clause-halts
returns-in-None-clause-halts g c =
    let p = c.args.program.now in
    let there : slice_get (program_view p).functions p.main ≡ None =
    sym (c.in-None.ensures ∙ (λ i. slice_get (map function_view (c.as_slice-functions.ensures i)) p.main)) in
    without_main g.O.Sink.held g.O.Sink.faults g.E.Sink.held g.E.Sink.faults (g.L.Library.session c.args.library.now) c.args.out.now c.args.err.now (g.L.Library.knowing c.args.library.now) p c.args.frames.now there

pub returns-in-None-clause-quiet : goal.returns-in-None-clause-quiet
returns-in-None-clause-quiet g c = same_log (g.L.Library.session c.args.library.now)

pub returns-in-None-clause-led : goal.returns-in-None-clause-led
returns-in-None-clause-led g c = g.met.L.Library.stays c.args.library.now
