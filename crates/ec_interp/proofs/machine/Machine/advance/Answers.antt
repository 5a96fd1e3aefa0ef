use Rattle.std.proofs.Common.{◌≡◌, subst, sym}
use Rattle.ec_code.specs.declared.program.Function.{Function}
use Rattle.std.specs.Prelude.{List}
use Rattle.ec_code.specs.Views.{program_view}
use Rattle.ec_meaning_defs.specs.evaluation.Whole.{program_meaning}
use Rattle.ec_meaning_defs.specs.observed.Observed.{answers_in}
use Rattle.ec_interp.specs.running.LibraryRuns.{Idle, HaltsOnce, HaltsWith, Nears}
use Rattle.ec_interp.specs.running.Runs.{answer_going}
use Rattle.ec_interp.proofs.Stepping.{made_so, shown, stands_there}
use Rattle.ec_interp.proofs.machine.Machine.advance.Goals as goal

pub returns-clause-steps : goal.returns-clause-steps
returns-clause-steps g c = λ turns x said r.
    let p = c.args.self.now.program.now in
    let m = c.args.self.now.frames in
    let knowing = g.L.Library.knowing c.args.library.now in
    let y = g.L.Library.session c.args.library.now in
    let z = g.L.Library.session c.resume_with.new.library in
    let going = g.L.Library.going c.resume_with.new.library in
    let suits = g.met.L.Library.suits c.args.library.now in
    let halts = subst (λ (fs : List Function). HaltsWith g.O.Sink.held g.O.Sink.faults g.E.Sink.held g.E.Sink.faults m.turns (λ k s. answer_going knowing fs k m r.asks s) y z c.args.out.now c.resume_with.new.out c.args.err.now c.resume_with.new.err c.resume_with.new.machine knowing fs going c.resume_with.result) c.as_slice-functions.ensures (c.resume_with.ensures.halts r.asks r.is) in
    made_so knowing suits.fits.counts p turns g.O.Sink.held g.O.Sink.faults g.E.Sink.held g.E.Sink.faults c.args.out.now c.resume_with.new.out c.args.err.now c.resume_with.new.err x y z said r.printed r.complained m.turns (λ k s. answer_going knowing p.functions k m r.asks s)
    (stands_there knowing suits.fits.counts p turns x y said (g.L.Library.going c.args.library.now) m r)
    (λ ready. (program_meaning knowing (program_view p) turns ready (answers_in said)).output) (λ ready. (program_meaning knowing (program_view p) turns ready (answers_in said)).errors)
    (λ ready begins. shown knowing suits.fits.counts p turns x y said (g.L.Library.going c.args.library.now) m r ready begins (g.L.Library.asking c.args.library.now) (g.met.L.Library.waits c.args.library.now))
    c.resume_with.new.machine going (g.L.Library.asking c.resume_with.new.library) (g.met.L.Library.waits c.resume_with.new.library) c.step_of.result
    (subst (λ l. HaltsWith g.O.Sink.held g.O.Sink.faults g.E.Sink.held g.E.Sink.faults m.turns (λ k s. answer_going knowing p.functions k m r.asks s) y z c.args.out.now c.resume_with.new.out c.args.err.now c.resume_with.new.err c.resume_with.new.machine knowing p.functions going l) (sym c.step_of.ensures) halts)

pub returns-clause-one : goal.returns-clause-one
returns-clause-one g c = subst (λ l. HaltsOnce l (g.L.Library.session c.args.library.now) (g.L.Library.session c.resume_with.new.library)) (sym c.step_of.ensures) c.resume_with.ensures.one

pub returns-clause-nears : goal.returns-clause-nears
returns-clause-nears g c = subst (λ l. Nears l c.args.self.now.frames.turns c.resume_with.new.machine.turns (g.L.Library.left c.args.library.now) (g.L.Library.left c.resume_with.new.library)) (sym c.step_of.ensures) c.resume_with.ensures.nears

pub returns-clause-idle : goal.returns-clause-idle
returns-clause-idle g c = λ was is. subst (λ l. Idle l (g.L.Library.going c.resume_with.new.library)) (sym c.step_of.ensures) (c.resume_with.ensures.idle was is)
