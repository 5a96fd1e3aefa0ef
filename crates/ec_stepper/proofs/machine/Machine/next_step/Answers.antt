use Rattle.std.proofs.Common.{rules}
use Rattle.ec_calling.proofs.Held.{fits, has_within, held, holds, within}
use Rattle.ec_stepper.proofs.Stepped.{next_made, put_along}
use Rattle.ec_stepper.proofs.machine.Machine.next_step.Goals as goal

pub new-session-requires-clause-holds : goal.new-session-requires-clause-holds
new-session-requires-clause-holds g c = held c.args.self.now.library c.args.rack.now c.requires.holds

pub new-session-requires-clause-within : goal.new-session-requires-clause-within
new-session-requires-clause-within g c = has_within _ _ c.requires.of.within

pub returns : goal.returns
returns g c =
    let m = c.args.self.now in
    let s = c.new-session.result in
    let t = c.advance-step.new.library in
    put_along (λ z. (goal.Link-dyn g (z.vtable, z.value)).talk z.value) (λ z. (goal.Link-dyn g (z.vtable, z.value)).faults z.value)
    g.O.Sink.held g.O.Sink.faults g.E.Sink.held g.E.Sink.faults m c.args.rack.now c.args.out.now c.advance-step.new.out c.args.err.now c.advance-step.new.err c.advance-step.result c.advance-step.new.self c.behind-self.result
    (search (rules, c.new-session.ensures.same_rack, c.advance-step.ensures.led.same_rack))
    (search (rules, c.new-session.ensures.same_library, c.advance-step.ensures.led.same_library))
    (search (rules, c.new-session.ensures.same_places, c.advance-step.ensures.led.same_places))
    (next_made (λ z. (goal.Link-dyn g (z.vtable, z.value)).talk z.value) (λ z. (goal.Link-dyn g (z.vtable, z.value)).faults z.value)
    g.O.Sink.held g.O.Sink.faults g.E.Sink.held g.E.Sink.faults m c.args.rack.now c.args.out.now c.advance-step.new.out c.args.err.now c.advance-step.new.err c.advance-step.result
    s.calls.now s.rack.now s.library.now s.places.now c.new-session.ensures.calls c.new-session.ensures.rack c.new-session.ensures.library c.new-session.ensures.places
    t.rack.now c.advance-step.new.self t.library.now t.places.now c.behind-self.result c.requires.of c.advance-step.ensures.program c.behind-self.ensures
    (within _ _ t.within) (fits t.library.now t.fits) (holds t.library.now t.rack.now t.holds)
    c.advance-step.ensures.led.growth c.advance-step.ensures.led.moves c.advance-step.ensures.led.noted c.requires.standing
    c.advance-step.ensures.steps c.advance-step.ensures.one c.advance-step.ensures.nears)
