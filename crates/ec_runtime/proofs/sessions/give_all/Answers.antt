use Rattle.std.proofs.Common.{◌∙◌, reverse, subst, sym}
use Rattle.ec_link.specs.Rack.{slots_of}
use Rattle.ec_link.specs.Slot.{states}
use Rattle.ec_runtime.specs.Racks.{AllTaken, GivesAll}
use Rattle.ec_runtime.proofs.Closes.{last_gives, last_is_taken, last_taken}
use Rattle.ec_runtime.proofs.Making.{links}
use Rattle.ec_runtime.proofs.sessions.give_all.Goals as goal

pub give_back-requires : goal.give_back-requires
give_back-requires g c =
    last_is_taken (slots_of c.loop-session.rack) c.pop.new.self.items c.in-Some.session
    (subst (λ xs. AllTaken (states (slots_of c.loop-session.rack)) (links xs)) c.in-Some.ensures.items c.loop-session.invariant.0)

pub loop-session-preserved : goal.loop-session-preserved
loop-session-preserved g c =
    let held = subst (λ xs. AllTaken (states (slots_of c.loop-session.rack)) (links xs)) c.in-Some.ensures.items c.loop-session.invariant.0 in (
      last_taken (slots_of c.loop-session.rack) (slots_of c.give_back.new.self) c.pop.new.self.items c.in-Some.session c.give_back.ensures.given held,
      c.give_back.ensures.log ∙ c.loop-session.invariant.1,
      λ after rest. c.loop-session.invariant.2 after
          (subst (λ xs. GivesAll (slots_of c.loop-session.rack) (reverse (links xs)) after) (sym c.in-Some.ensures.items)
          (last_gives (slots_of c.loop-session.rack) (slots_of c.give_back.new.self) c.pop.new.self.items c.in-Some.session c.give_back.ensures.given held after rest)),
    )
