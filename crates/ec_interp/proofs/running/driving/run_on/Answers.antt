use Rattle.std.proofs.Common.{◌∙◌, arith, refl, subst}
use Rattle.ec_interp.specs.running.LibraryRuns.{ComesWith, HaltsWith}
use Rattle.ec_interp.specs.running.Runs.{answer_with}
use Rattle.ec_interp.proofs.running_lemmas.Leading.{comes_on, comes_there, halts_on, same_log, same_logs, turn_before}
use Rattle.ec_interp.proofs.running.driving.run_on.Goals as goal

pub loop-next-init : goal.loop-next-init
loop-next-init g c = record {
  comes = comes_there g.O.Sink.held g.O.Sink.faults g.E.Sink.held g.E.Sink.faults c.args.out.now c.args.err.now (g.L.Library.knowing c.args.library.now) c.args.functions.now (g.L.Library.session c.args.library.now) c.args.machine.now c.args.focus;
  same = refl;
  idle = λ was. was;
  quiet = same_log (g.L.Library.session c.args.library.now);
  led = g.met.L.Library.stays c.args.library.now;
}

pub loop-next-preserved : goal.loop-next-preserved
loop-next-preserved g c =
    let fs = c.args.functions.now in
    let m = c.args.machine.now in
    let knowing = g.L.Library.knowing c.args.library.now in
    let session = g.L.Library.session in
    record {
      comes = comes_on g.O.Sink.held g.O.Sink.faults g.E.Sink.held g.E.Sink.faults c.args.out.now c.args.err.now knowing fs m.turns (λ k s. answer_with knowing fs k m c.args.focus s)
          (session c.args.library.now) (session c.loop-next.library) (session c.next_turn.new.library)
          c.loop-next.out c.next_turn.new.out c.loop-next.err c.next_turn.new.err c.loop-next.machine c.next_turn.new.machine c.loop-next.focus c.in-Ok.next c.loop-next.invariant.comes
          (subst (λ n. ComesWith g.O.Sink.held g.O.Sink.faults g.E.Sink.held g.E.Sink.faults c.loop-next.machine.turns (λ k s. answer_with n fs k c.loop-next.machine c.loop-next.focus s) (session c.loop-next.library) (session c.next_turn.new.library) c.loop-next.out c.next_turn.new.out c.loop-next.err c.next_turn.new.err c.next_turn.new.machine n fs c.in-Ok.next) c.loop-next.invariant.same c.in-Ok.ensures.goes);
      same = c.next_turn.ensures.same ∙ c.loop-next.invariant.same;
      idle = λ was. c.in-Ok.ensures.idle_on (c.loop-next.invariant.idle was);
      quiet = same_logs (session c.args.library.now) (session c.loop-next.library) (session c.next_turn.new.library) c.loop-next.invariant.quiet c.next_turn.ensures.quiet;
      led = g.met.L.Library.goes_on c.args.library.now c.loop-next.library c.next_turn.new.library c.loop-next.invariant.led c.next_turn.ensures.led;
    }

pub returns-in-Err-clause-halts : goal.returns-in-Err-clause-halts
returns-in-Err-clause-halts g c =
    let fs = c.args.functions.now in
    let m = c.args.machine.now in
    let knowing = g.L.Library.knowing c.args.library.now in
    let session = g.L.Library.session in
    halts_on g.O.Sink.held g.O.Sink.faults g.E.Sink.held g.E.Sink.faults c.args.out.now c.args.err.now knowing fs m.turns (λ k s. answer_with knowing fs k m c.args.focus s)
    (session c.args.library.now) (session c.loop-next.library) (session c.next_turn.new.library)
    c.loop-next.out c.next_turn.new.out c.loop-next.err c.next_turn.new.err c.loop-next.machine c.next_turn.new.machine c.loop-next.focus (g.L.Library.going c.next_turn.new.library) c.in-Err.halt c.loop-next.invariant.comes
    (subst (λ n. HaltsWith g.O.Sink.held g.O.Sink.faults g.E.Sink.held g.E.Sink.faults c.loop-next.machine.turns (λ k s. answer_with n fs k c.loop-next.machine c.loop-next.focus s) (session c.loop-next.library) (session c.next_turn.new.library) c.loop-next.out c.next_turn.new.out c.loop-next.err c.next_turn.new.err c.next_turn.new.machine n fs (g.L.Library.going c.next_turn.new.library) c.in-Err.halt) c.loop-next.invariant.same c.in-Err.ensures.halts)

pub returns-in-Err-clause-same : goal.returns-in-Err-clause-same
returns-in-Err-clause-same g c = c.next_turn.ensures.same ∙ c.loop-next.invariant.same

pub returns-in-Err-clause-led : goal.returns-in-Err-clause-led
returns-in-Err-clause-led g c = g.met.L.Library.goes_on c.args.library.now c.loop-next.library c.next_turn.new.library c.loop-next.invariant.led c.next_turn.ensures.led

pub loop-next-smaller : goal.loop-next-smaller
loop-next-smaller g c = omega (arith, c.in-Ok.ensures.fewer)

pub returns-in-Err-clause-quiet : goal.returns-in-Err-clause-quiet
returns-in-Err-clause-quiet g c = same_logs (g.L.Library.session c.args.library.now) (g.L.Library.session c.loop-next.library) (g.L.Library.session c.next_turn.new.library) c.loop-next.invariant.quiet c.next_turn.ensures.quiet

pub returns-in-Err-clause-turned : goal.returns-in-Err-clause-turned
returns-in-Err-clause-turned g c = turn_before c.in-Err.halt c.args.machine.now.turns c.loop-next.machine.turns c.next_turn.new.machine.turns (g.L.Library.left c.next_turn.new.library) c.loop-next.invariant.comes.fewer c.in-Err.ensures.turned

pub returns-in-Err-clause-idle : goal.returns-in-Err-clause-idle
returns-in-Err-clause-idle g c = λ was. c.in-Err.ensures.idle (c.loop-next.invariant.idle was)
