use Rattle.std.proofs.Common.{refl, sym, append-nil, []}
use Rattle.ec_link.specs.Rack.{log_of, slots_of}
use Rattle.ec_link.specs.Slot.{states}
use Rattle.ec_runtime.proofs.Calls.{beside_held, stays_held}
use Rattle.ec_runtime.specs.Calling.{conns_of}
use Rattle.ec_stopping_defs.specs.Places.{at_places}
use Rattle.ec_calling.proofs.Held.{has_fit, held, holds}
use Rattle.ec_calling.proofs.Staying.{moved_not}
use Rattle.ec_calling.proofs.session.SessionLibrary.start.Goals as goal

pub begin_call-requires : goal.begin_call-requires
begin_call-requires g c = record {
  beside = beside_held (states (slots_of c.args.self.now.rack.now)) (conns_of c.args.self.now.library.now.connections) (holds c.args.self.now.library.now c.args.self.now.rack.now c.args.self.now.holds).taken;
}

pub returns-clause-started : goal.returns-clause-started
returns-clause-started g c = c.begin_call.ensures.started (at_places (log_of c.args.self.now.rack.now) c.args.self.now.places.now)

pub returns-clause-led : goal.returns-clause-led
returns-clause-led g c = record {
  growth = [];
  moves = moved_not (λ z. (goal.Link-dyn g (z.vtable, z.value)).talk z.value) (λ z. (goal.Link-dyn g (z.vtable, z.value)).faults z.value) c.args.self.now.rack.now c.args.self.now.library.now c.begin_call.new.library c.begin_call.ensures.stays;
  noted = sym (append-nil c.args.self.now.places.now);
  same_rack = refl;
  same_library = refl;
  same_places = refl;
  same_calls = refl;
}

pub invariant_of-self : goal.invariant_of-self
invariant_of-self g c = record {
  holds = held c.begin_call.new.library c.args.self.now.rack.now (stays_held c.args.self.now.rack.now c.args.self.now.library.now.connections c.begin_call.new.library.connections c.begin_call.ensures.stays (holds c.args.self.now.library.now c.args.self.now.rack.now c.args.self.now.holds));
  within = c.args.self.now.within;
  fits = has_fit c.begin_call.new.library c.begin_call.ensures.fits;
}
