use Rattle.std.proofs.Common.{◌*◌, ◌+◌, ◌^◌}
use Rattle.ec_interp.proofs.Stepping.{steps_left}
use Rattle.ec_stepper.specs.Advancing.{Reaches}
use Rattle.ec_stepper.specs.Running.{requests_of}
use Rattle.ec_stepper.proofs.machine.Machine.go_on.Given as goal

abbrev pub invariant-asks : goal.invariant-asks
invariant-asks g l =
    Reaches (λ z. (goal.Link-dyn g (z.vtable, z.value)).talk z.value) (λ z. (goal.Link-dyn g (z.vtable, z.value)).faults z.value)
    g.O.Sink.held g.O.Sink.faults g.E.Sink.held g.E.Sink.faults l.fn.self l.fn.rack l.self l.rack l.fn.out l.out l.fn.err l.err l.step

abbrev pub decreases-asks : goal.decreases-asks
decreases-asks g l = steps_left l.step (l.self.run.frames.turns * 2 ^ 64 + requests_of l.self)
