use Rattle.std.proofs.Common.{subst}
use Rattle.ec_stepper.specs.Advancing.{Reaches}
use Rattle.ec_stepper.proofs.Going.{reaches_then}
use Rattle.ec_stepper.proofs.machine.Machine.go_on.Goals as goal

pub asks-init : goal.asks-init
asks-init g c = c.advance-step.ensures.reaches

pub asks-preserved : goal.asks-preserved
asks-preserved g c =
    reaches_then (λ z. (goal.Link-dyn g (z.vtable, z.value)).talk z.value) (λ z. (goal.Link-dyn g (z.vtable, z.value)).faults z.value)
    g.O.Sink.held g.O.Sink.faults g.E.Sink.held g.E.Sink.faults c.args.self.now c.asks.self c.advance-step-in-Asks.new.self c.args.rack.now c.asks.rack c.advance-step-in-Asks.new.rack
    c.args.out.now c.asks.out c.advance-step-in-Asks.new.out c.args.err.now c.asks.err c.advance-step-in-Asks.new.err c.advance-step-in-Asks.result
    (subst (λ s. Reaches (λ z. (goal.Link-dyn g (z.vtable, z.value)).talk z.value) (λ z. (goal.Link-dyn g (z.vtable, z.value)).faults z.value) g.O.Sink.held g.O.Sink.faults g.E.Sink.held g.E.Sink.faults c.args.self.now c.args.rack.now c.asks.self c.asks.rack c.args.out.now c.asks.out c.args.err.now c.asks.err s) c.in-Asks.is c.asks.invariant)
    c.advance-step-in-Asks.ensures.reaches
