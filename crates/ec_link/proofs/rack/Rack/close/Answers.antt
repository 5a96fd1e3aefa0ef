use Rattle.std.proofs.Common.{[]}
use Rattle.std.proofs.lemmas.List.Elements.{All-nil}
use Rattle.ec_link.specs.Logged.{growth_of}
use Rattle.ec_link.specs.Rack.{slots_of, log_of}
use Rattle.ec_link.specs.Slot.{states}
use Rattle.ec_link.proofs.Opening.{Closes-made, Slots-Closes, KeepsTalks-Closes}
use Rattle.ec_link.proofs.Steps.{SparesDropped-Slots}
use Rattle.ec_link.proofs.rack.Rack.close.Goals as goal

pub returns-in-Ok-exchange-clause-ok : goal.returns-in-Ok-exchange-clause-ok
returns-in-Ok-exchange-clause-ok g c =
    Closes-made (λ z. (goal.Link-dyn g (z.vtable, z.value)).talk z.value) (λ z. (goal.Link-dyn g (z.vtable, z.value)).faults z.value) c.args.self.now c.args.conn c.drop_link.new.self c.exchange.new.self c.push_blank.new.log c.set_last.new.log c.in-Ok.ensures.ok.0 c.in-Ok-exchange.logged
    c.drop_link.ensures.slots c.exchange.ensures.slot c.in-Ok.ensures.ok.1 c.set_last.ensures c.drop_link.ensures.log
    c.in-Ok-exchange.ensures.stands.0 c.in-Ok-exchange.ensures.stands.1 c.in-Ok-exchange.ensures.told c.exchange.ensures.later c.in-Ok-exchange.ensures.broken

pub returns-in-Ok-exchange-clause-talks : goal.returns-in-Ok-exchange-clause-talks
returns-in-Ok-exchange-clause-talks g c =
    KeepsTalks-Closes (λ z. (goal.Link-dyn g (z.vtable, z.value)).talk z.value) (λ z. (goal.Link-dyn g (z.vtable, z.value)).faults z.value) c.args.self.now c.args.conn c.drop_link.new.self (returns-in-Ok-exchange-clause-ok g c) [] (All-nil _)

pub returns-in-Ok-exchange-clause-exchanged : goal.returns-in-Ok-exchange-clause-exchanged
returns-in-Ok-exchange-clause-exchanged g c =
    Slots-Closes (λ z. (goal.Link-dyn g (z.vtable, z.value)).talk z.value) (λ z. (goal.Link-dyn g (z.vtable, z.value)).faults z.value) c.args.self.now c.args.conn c.drop_link.new.self (returns-in-Ok-exchange-clause-ok g c)

pub returns-in-Ok-exchange-clause-dropped : goal.returns-in-Ok-exchange-clause-dropped
returns-in-Ok-exchange-clause-dropped g c =
    SparesDropped-Slots (states (slots_of c.args.self.now)) (growth_of (log_of c.args.self.now) (log_of c.drop_link.new.self)) (states (slots_of c.drop_link.new.self)) (returns-in-Ok-exchange-clause-exchanged g c)
