use Rattle.std.proofs.Common.{◌≡◌, None}
use Rattle.ec_interp.specs.running.LibraryRuns.{ComesWith}
use Rattle.ec_interp.specs.running.Runs.{answer_with}
use Rattle.ec_interp.specs.running.Sessions.{SameLog}
use Rattle.ec_interp.proofs.running.driving.run_on.Given as goal

abbrev pub invariant-loop-next : goal.invariant-loop-next
invariant-loop-next g l = record {
  comes : ComesWith g.O.Sink.held g.O.Sink.faults g.E.Sink.held g.E.Sink.faults l.fn.machine.turns (λ k s. answer_with (g.L.Library.knowing l.fn.library) l.functions k l.fn.machine l.fn.focus s)
      (g.L.Library.session l.fn.library) (g.L.Library.session l.library) l.fn.out l.out l.fn.err l.err l.machine (g.L.Library.knowing l.fn.library) l.functions l.focus;
  same : g.L.Library.knowing l.library ≡ g.L.Library.knowing l.fn.library;
  idle : g.L.Library.going l.fn.library ≡ None → g.L.Library.going l.library ≡ None;
  quiet : SameLog (g.L.Library.session l.fn.library) (g.L.Library.session l.library);
  led : g.L.Library.leads l.fn.library l.library;
}

abbrev pub decreases-loop-next : goal.decreases-loop-next
decreases-loop-next g l = l.machine.turns
