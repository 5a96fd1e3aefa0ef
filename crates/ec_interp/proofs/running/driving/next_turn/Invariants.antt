use Rattle.std.proofs.Common.{◌≡◌, None, Ok}
use Rattle.ec_machine.specs.Weights.{remaining}
use Rattle.ec_interp.specs.running.LibraryRuns.{ComesWith}
use Rattle.ec_interp.specs.running.Runs.{answer_with}
use Rattle.ec_interp.specs.running.Sessions.{SameLog}
use Rattle.ec_interp.proofs.running.driving.next_turn.Given as goal

abbrev pub invariant-loop-machine : goal.invariant-loop-machine
invariant-loop-machine g l = record {
  comes : ComesWith g.O.Sink.held g.O.Sink.faults g.E.Sink.held g.E.Sink.faults l.fn.machine.turns (λ k s. answer_with (g.L.Library.knowing l.fn.library) l.functions k l.fn.machine l.fn.focus s)
      (g.L.Library.session l.fn.library) (g.L.Library.session l.library) l.fn.out l.out l.fn.err l.err l.machine (g.L.Library.knowing l.fn.library) l.functions l.focus;
  same : g.L.Library.knowing l.library ≡ g.L.Library.knowing l.fn.library;
  idle : g.L.Library.going l.fn.library ≡ None → g.L.Library.going l.library ≡ None;
  quiet : SameLog (g.L.Library.session l.fn.library) (g.L.Library.session l.library);
  led : g.L.Library.leads l.fn.library l.library;
}

abbrev pub decreases-loop-machine : goal.decreases-loop-machine
decreases-loop-machine g l = remaining l.turns (Ok l.focus) l.machine
