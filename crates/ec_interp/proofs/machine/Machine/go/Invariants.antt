use Rattle.std.proofs.Common.{◌≡◌, ◌+◌, ◌*◌, ◌^◌, ◌<◌, [], None, Some}
use Rattle.ec_interp.specs.declared.end.Step.TheVariants as step
use Rattle.ec_interp.proofs.Stepping.{nothing, steps_left}
use Rattle.ec_interp.specs.Stepping.{Steps}
use Rattle.ec_interp.specs.Ends.{halt_of}
use Rattle.ec_interp.specs.running.LibraryRuns.{Idle}
use Rattle.ec_interp.specs.running.Sessions.{Session}
use Rattle.ec_interp.proofs.machine.Machine.go.Given as goal

abbrev pub invariant-asks : goal.invariant-asks
invariant-asks g l = record {
  steps : (x : Session) → g.L.Library.session l.fn.library ≡ Some x
      → Steps g.O.Sink.held g.O.Sink.faults g.E.Sink.held g.E.Sink.faults (g.L.Library.knowing l.fn.library) l.fn.self.program.now l.fn.turns x [] nothing nothing
      (g.L.Library.session l.library) (g.L.Library.going l.library) (g.L.Library.asking l.library) l.fn.out l.out l.fn.err l.err l.self.frames l.step;
  same : g.L.Library.knowing l.library ≡ g.L.Library.knowing l.fn.library;
  led : g.L.Library.leads l.fn.library l.library;
  idle : (x : Session) → g.L.Library.session l.fn.library ≡ Some x → g.L.Library.going l.fn.library ≡ None → Idle (halt_of l.step) (g.L.Library.going l.library);
  few : l.step ≡ step.Asks → g.L.Library.left l.library < 2 ^ 64;
  program : l.self.program.now ≡ l.fn.self.program.now;
}

abbrev pub decreases-asks : goal.decreases-asks
decreases-asks g l = steps_left l.step (l.self.frames.turns * 2 ^ 64 + g.L.Library.left l.library)
