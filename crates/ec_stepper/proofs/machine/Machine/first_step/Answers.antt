use Rattle.std.proofs.Common.{rules}
use Rattle.ec_calling.proofs.Held.{fits, held, holds, within}
use Rattle.ec_stepper.proofs.Stepped.{first_made, put_along}
use Rattle.ec_stepper.proofs.machine.Machine.first_step.Goals as goal

pub new-session-requires-clause-holds : goal.new-session-requires-clause-holds
new-session-requires-clause-holds g c = held c.args.self.now.library c.args.rack.now c.requires.holds

pub returns : goal.returns
returns g c =
    let m = c.args.self.now in
    let s = c.new-session.result in
    let t = c.begin-step.new.library in
    put_along (λ z. (goal.Link-dyn g (z.vtable, z.value)).talk z.value) (λ z. (goal.Link-dyn g (z.vtable, z.value)).faults z.value)
    g.O.Sink.held g.O.Sink.faults g.E.Sink.held g.E.Sink.faults m c.args.rack.now c.args.out.now c.begin-step.new.out c.args.err.now c.begin-step.new.err c.begin-step.result c.begin-step.new.self c.behind-self.result
    (search (rules, c.new-session.ensures.same_rack, c.begin-step.ensures.led.same_rack))
    (search (rules, c.new-session.ensures.same_library, c.begin-step.ensures.led.same_library))
    (search (rules, c.new-session.ensures.same_places, c.begin-step.ensures.led.same_places))
    (first_made (λ z. (goal.Link-dyn g (z.vtable, z.value)).talk z.value) (λ z. (goal.Link-dyn g (z.vtable, z.value)).faults z.value)
    g.O.Sink.held g.O.Sink.faults g.E.Sink.held g.E.Sink.faults m c.args.rack.now c.args.out.now c.begin-step.new.out c.args.err.now c.begin-step.new.err c.begin-step.result
    s.calls.now s.rack.now s.library.now s.places.now c.new-session.ensures.calls c.new-session.ensures.rack c.new-session.ensures.library c.new-session.ensures.places
    t.rack.now c.begin-step.new.self t.library.now t.places.now c.behind-self.result c.requires.of c.begin-step.ensures.program c.behind-self.ensures
    (within _ _ t.within) (fits t.library.now t.fits) (holds t.library.now t.rack.now t.holds)
    c.begin-step.ensures.led.growth c.begin-step.ensures.led.moves c.begin-step.ensures.led.noted c.requires.standing
    c.begin-step.ensures.steps c.begin-step.ensures.quiet c.begin-step.ensures.turned)
