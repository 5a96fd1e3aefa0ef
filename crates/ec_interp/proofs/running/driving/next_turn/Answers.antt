use Rattle.std.proofs.Common.{◌∙◌, ap, arith, refl, subst, Ok}
use Rattle.ec_machine.specs.Weights.{remaining}
use Rattle.ec_machine.proofs.Weighing.{remaining_all}
use Rattle.ec_interp.specs.running.LibraryRuns.{ComesWith, HaltsWith}
use Rattle.ec_interp.specs.running.Runs.{answer_with}
use Rattle.ec_interp.proofs.running_lemmas.Leading.{comes_on, comes_there, halts_on, same_log, same_logs, turn_before}
use Rattle.ec_interp.proofs.running.driving.next_turn.Goals as goal

pub loop-machine-init : goal.loop-machine-init
loop-machine-init g c = record {
  comes = comes_there g.O.Sink.held g.O.Sink.faults g.E.Sink.held g.E.Sink.faults c.args.out.now c.args.err.now (g.L.Library.knowing c.args.library.now) c.args.functions.now (g.L.Library.session c.args.library.now) c.args.machine.now c.args.focus;
  same = refl;
  idle = λ was. was;
  quiet = same_log (g.L.Library.session c.args.library.now);
  led = g.met.L.Library.stays c.args.library.now;
}

pub loop-machine-preserved : goal.loop-machine-preserved
loop-machine-preserved g c =
    let fs = c.args.functions.now in
    let m = c.args.machine.now in
    let knowing = g.L.Library.knowing c.args.library.now in
    let session = g.L.Library.session in
    record {
      comes = comes_on g.O.Sink.held g.O.Sink.faults g.E.Sink.held g.E.Sink.faults c.args.out.now c.args.err.now knowing fs m.turns (λ k s. answer_with knowing fs k m c.args.focus s)
          (session c.args.library.now) (session c.loop-machine.library) (session c.advance.new.library)
          c.loop-machine.out c.advance.new.out c.loop-machine.err c.advance.new.err c.loop-machine.machine c.advance.new.machine c.loop-machine.focus c.in-Ok.next c.loop-machine.invariant.comes
          (subst (λ n. ComesWith g.O.Sink.held g.O.Sink.faults g.E.Sink.held g.E.Sink.faults c.loop-machine.machine.turns (λ k s. answer_with n fs k c.loop-machine.machine c.loop-machine.focus s) (session c.loop-machine.library) (session c.advance.new.library) c.loop-machine.out c.advance.new.out c.loop-machine.err c.advance.new.err c.advance.new.machine n fs c.in-Ok.next) c.loop-machine.invariant.same c.in-Ok.ensures.goes);
      same = c.advance.ensures.same ∙ c.loop-machine.invariant.same;
      idle = λ was. c.in-Ok.ensures.idle_on (c.loop-machine.invariant.idle was);
      quiet = same_logs (session c.args.library.now) (session c.loop-machine.library) (session c.advance.new.library) c.loop-machine.invariant.quiet c.advance.ensures.quiet;
      led = g.met.L.Library.goes_on c.args.library.now c.loop-machine.library c.advance.new.library c.loop-machine.invariant.led c.advance.ensures.led;
    }

pub returns-in-Err-clause-halts : goal.returns-in-Err-clause-halts
returns-in-Err-clause-halts g c =
    let fs = c.args.functions.now in
    let m = c.args.machine.now in
    let knowing = g.L.Library.knowing c.args.library.now in
    let session = g.L.Library.session in
    halts_on g.O.Sink.held g.O.Sink.faults g.E.Sink.held g.E.Sink.faults c.args.out.now c.args.err.now knowing fs m.turns (λ k s. answer_with knowing fs k m c.args.focus s)
    (session c.args.library.now) (session c.loop-machine.library) (session c.advance.new.library)
    c.loop-machine.out c.advance.new.out c.loop-machine.err c.advance.new.err c.loop-machine.machine c.advance.new.machine c.loop-machine.focus (g.L.Library.going c.advance.new.library) c.in-Err.halt c.loop-machine.invariant.comes
    (subst (λ n. HaltsWith g.O.Sink.held g.O.Sink.faults g.E.Sink.held g.E.Sink.faults c.loop-machine.machine.turns (λ k s. answer_with n fs k c.loop-machine.machine c.loop-machine.focus s) (session c.loop-machine.library) (session c.advance.new.library) c.loop-machine.out c.advance.new.out c.loop-machine.err c.advance.new.err c.advance.new.machine n fs (g.L.Library.going c.advance.new.library) c.in-Err.halt) c.loop-machine.invariant.same c.in-Err.ensures.halts)

pub returns-in-Err-clause-same : goal.returns-in-Err-clause-same
returns-in-Err-clause-same g c = c.advance.ensures.same ∙ c.loop-machine.invariant.same

pub returns-in-Err-clause-led : goal.returns-in-Err-clause-led
returns-in-Err-clause-led g c = g.met.L.Library.goes_on c.args.library.now c.loop-machine.library c.advance.new.library c.loop-machine.invariant.led c.advance.ensures.led

pub loop-machine-smaller : goal.loop-machine-smaller
loop-machine-smaller g c =
    omega (arith, remaining_all c.args.machine.now.turns c.loop-machine.focus c.loop-machine.machine (omega (arith, c.loop-machine-test.true)), c.in-Ok.ensures.nears, ap (λ t. remaining t (Ok c.in-Ok.next) c.advance.new.machine) c.loop-machine-test.true)

pub returns-clause-goes : goal.returns-clause-goes
returns-clause-goes g c = c.loop-machine.invariant.comes

pub returns-clause-same : goal.returns-clause-same
returns-clause-same g c = c.loop-machine.invariant.same

pub returns-clause-led : goal.returns-clause-led
returns-clause-led g c = c.loop-machine.invariant.led

pub returns-clause-fewer : goal.returns-clause-fewer
returns-clause-fewer g c = omega (arith, c.loop-machine.invariant.comes.fewer, c.loop-machine-test.false)

pub returns-in-Err-clause-quiet : goal.returns-in-Err-clause-quiet
returns-in-Err-clause-quiet g c = same_logs (g.L.Library.session c.args.library.now) (g.L.Library.session c.loop-machine.library) (g.L.Library.session c.advance.new.library) c.loop-machine.invariant.quiet c.advance.ensures.quiet

pub returns-clause-quiet : goal.returns-clause-quiet
returns-clause-quiet g c = c.loop-machine.invariant.quiet

pub returns-in-Err-clause-turned : goal.returns-in-Err-clause-turned
returns-in-Err-clause-turned g c = turn_before c.in-Err.halt c.args.machine.now.turns c.loop-machine.machine.turns c.advance.new.machine.turns (g.L.Library.left c.advance.new.library) c.loop-machine.invariant.comes.fewer c.in-Err.ensures.turned

pub returns-in-Err-clause-idle : goal.returns-in-Err-clause-idle
returns-in-Err-clause-idle g c = λ was. c.in-Err.ensures.idle (c.loop-machine.invariant.idle was)

pub returns-clause-idle_on : goal.returns-clause-idle_on
returns-clause-idle_on g c = c.loop-machine.invariant.idle
