use Rattle.std.proofs.Common.{refl, length}
use Rattle.ec_link.specs.Rack.{log_of}
use Rattle.ec_calling.proofs.Held.{fits, has_fit, has_within, held, holds, within}
use Rattle.ec_calling.proofs.session.SessionLibrary.resume.Goals as goal

pub go_on-requires-clause-holds : goal.go_on-requires-clause-holds
go_on-requires-clause-holds g c = holds c.args.self.now.library.now c.args.self.now.rack.now c.args.self.now.holds

pub go_on-requires-clause-within : goal.go_on-requires-clause-within
go_on-requires-clause-within g c = within (length (log_of c.args.self.now.rack.now)) c.args.self.now.places.now c.args.self.now.within

pub go_on-requires-clause-fits : goal.go_on-requires-clause-fits
go_on-requires-clause-fits g c = fits c.args.self.now.library.now c.args.self.now.fits

pub returns-clause-led : goal.returns-clause-led
returns-clause-led g c = record {
  growth = c.go_on.ensures.moved.growth;
  moves = c.go_on.ensures.moved.moves;
  noted = c.go_on.ensures.moved.noted;
  same_rack = refl;
  same_library = refl;
  same_places = refl;
  same_calls = refl;
}

pub invariant_of-self : goal.invariant_of-self
invariant_of-self g c = record {
  holds = held c.go_on.new.library c.go_on.new.rack c.go_on.ensures.still_holds;
  within = has_within (length (log_of c.go_on.new.rack)) c.go_on.new.places c.go_on.ensures.still_within;
  fits = has_fit c.go_on.new.library c.go_on.ensures.still_fits;
}
