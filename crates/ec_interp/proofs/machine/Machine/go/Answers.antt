use Rattle.std.proofs.Common.{◌≡◌, ◌∙◌, ◌+◌, ◌*◌, ◌^◌, ◌<◌, refl, sym, subst, suc, [], List, ℕ}
use Rattle.ec_code.specs.declared.program.Program.{Program}
use Rattle.ec_code.specs.Views.{program_view}
use Rattle.ec_meaning_defs.specs.evaluation.Evaluate.{Step as Knowing}
use Rattle.ec_meaning_defs.specs.evaluation.Whole.{program_meaning}
use Rattle.ec_meaning_defs.specs.observed.Observed.{answers_in}
use Rattle.ec_link.specs.declared.logged.Logged.{Logged}
use Rattle.ec_interp.specs.Ends.{halt_of}
use Rattle.ec_interp.specs.running.LibraryRuns.{Idle}
use Rattle.ec_interp.specs.Stepping.{IsAsking, Steps}
use Rattle.ec_interp.proofs.Stepping.{ended_idle, few_first, few_left, fewer_left, nothing, steps_left, steps_then}
use Rattle.ec_interp.proofs.machine.Machine.go.Goals as goal

pub asks-init : goal.asks-init
asks-init g c = record {
  steps = λ x known. c.begin-step.ensures.steps x known;
  same = c.begin-step.ensures.same;
  led = c.begin-step.ensures.led;
  idle = λ x known was. c.begin-step.ensures.idle was;
  few = λ e. few_first c.begin-step.result c.args.turns c.begin-step.new.self.frames.turns (g.L.Library.left c.begin-step.new.library) c.begin-step.ensures.turned e;
  program = c.begin-step.ensures.program;
}

pub asks-preserved : goal.asks-preserved
asks-preserved g c =
    let p = c.args.self.now.program.now in
    let turns = c.args.turns in
    let knowing = g.L.Library.knowing c.args.library.now in
    let session = g.L.Library.session in
    let going = g.L.Library.going in
    let asking = g.L.Library.asking in
    let z = c.advance-step.new.library in
    record {
      steps = λ x known.
          let Further : Knowing → Program → Type 0 = λ k q.
          (said : List Logged) → IsAsking k q turns x said (session c.asks.library) (going c.asks.library) c.asks.self.frames
          → Steps g.O.Sink.held g.O.Sink.faults g.E.Sink.held g.E.Sink.faults k q turns x said
          (λ ready. (program_meaning k (program_view q) turns ready (answers_in said)).output) (λ ready. (program_meaning k (program_view q) turns ready (answers_in said)).errors)
          (session z) (going z) (asking z) c.asks.out c.advance-step.new.out c.asks.err c.advance-step.new.err c.advance-step.new.self.frames c.advance-step.result in
          steps_then g.O.Sink.held g.O.Sink.faults g.E.Sink.held g.E.Sink.faults knowing p turns x (session c.asks.library) (session z) (going c.asks.library) (going z) (asking c.asks.library) (asking z)
          c.args.out.now c.asks.out c.advance-step.new.out c.args.err.now c.asks.err c.advance-step.new.err c.asks.self.frames c.advance-step.new.self.frames c.advance-step.result
          (subst (λ s. Steps g.O.Sink.held g.O.Sink.faults g.E.Sink.held g.E.Sink.faults knowing p turns x [] nothing nothing (session c.asks.library) (going c.asks.library) (asking c.asks.library) c.args.out.now c.asks.out c.args.err.now c.asks.err c.asks.self.frames s) c.in-Asks.is (c.asks.invariant.steps x known))
          (subst (λ k. Further k p) c.asks.invariant.same (subst (λ q. Further (g.L.Library.knowing c.asks.library) q) c.asks.invariant.program (λ said r. c.advance-step.ensures.steps turns x said r)));
      same = c.advance-step.ensures.same ∙ c.asks.invariant.same;
      led = g.met.L.Library.goes_on c.args.library.now c.asks.library z c.asks.invariant.led c.advance-step.ensures.led;
      idle = λ x known was.
          let there = subst (λ s. Steps g.O.Sink.held g.O.Sink.faults g.E.Sink.held g.E.Sink.faults knowing p turns x [] nothing nothing (session c.asks.library) (going c.asks.library) (asking c.asks.library) c.args.out.now c.asks.out c.args.err.now c.asks.err c.asks.self.frames s) c.in-Asks.is (c.asks.invariant.steps x known) in
          let stood = there.stands refl in
          c.advance-step.ensures.idle stood.asks stood.is;
      few = λ e. few_left c.advance-step.result c.asks.self.frames.turns c.advance-step.new.self.frames.turns (g.L.Library.left c.asks.library) (g.L.Library.left z) (c.asks.invariant.few c.in-Asks.is) c.advance-step.ensures.nears e;
      program = c.advance-step.ensures.program ∙ c.asks.invariant.program;
    }

pub asks-smaller : goal.asks-smaller
asks-smaller g c =
    let z = c.advance-step.new.library in
    subst (λ s. steps_left c.advance-step.result (c.advance-step.new.self.frames.turns * 2 ^ 64 + g.L.Library.left z) < steps_left s (c.asks.self.frames.turns * 2 ^ 64 + g.L.Library.left c.asks.library)) (sym c.in-Asks.is)
    (fewer_left c.advance-step.result c.asks.self.frames.turns c.advance-step.new.self.frames.turns (g.L.Library.left c.asks.library) (g.L.Library.left z) (c.asks.invariant.few c.in-Asks.is) c.advance-step.ensures.nears)

pub returns-in-Ended-clause-steps : goal.returns-in-Ended-clause-steps
returns-in-Ended-clause-steps g c = λ x known.
    subst (λ s. Steps g.O.Sink.held g.O.Sink.faults g.E.Sink.held g.E.Sink.faults (g.L.Library.knowing c.args.library.now) c.args.self.now.program.now c.args.turns x [] nothing nothing (g.L.Library.session c.asks.library) (g.L.Library.going c.asks.library) (g.L.Library.asking c.asks.library) c.args.out.now c.asks.out c.args.err.now c.asks.err c.asks.self.frames s) c.in-Ended.is (c.asks.invariant.steps x known)

pub returns-in-Ended-clause-idle : goal.returns-in-Ended-clause-idle
returns-in-Ended-clause-idle g c = λ x known was.
    ended_idle c.in-Ended.end (g.L.Library.going c.asks.library) (subst (λ s. Idle (halt_of s) (g.L.Library.going c.asks.library)) c.in-Ended.is (c.asks.invariant.idle x known was))
