use Rattle.std.proofs.Common.{refl, []}
use Rattle.ec_link.specs.Logged.{growth_of}
use Rattle.ec_link.specs.Rack.{slots_of, log_of}
use Rattle.ec_link.specs.Slot.{states}
use Rattle.ec_link.proofs.Runs.{AsksOnce-set, Asks-AsksOnce, Asks-growth_of, KeepsTalks-Asks, Slots-Asks}
use Rattle.ec_link.proofs.Steps.{SparesDropped-Slots}
use Rattle.ec_link.proofs.rack.Rack.ask.Goals as goal

pub returns-in-Ok-clause-ok : goal.returns-in-Ok-clause-ok
returns-in-Ok-clause-ok g c =
    AsksOnce-set (λ z. (goal.Link-dyn g (z.vtable, z.value)).talk z.value) (λ z. (goal.Link-dyn g (z.vtable, z.value)).faults z.value) c.args.request (log_of c.args.self.now) c.push_blank.new.log c.set_last.new.log c.args.conn.now c.exchange.new.self
    c.in_ok-push_blank.ensures.ok.0 c.in-Ok.logged c.in_ok-push_blank.ensures.ok.1 c.set_last.ensures c.in-Ok.ensures.stands.0 c.in-Ok.ensures.stands.1 c.in-Ok.ensures.told c.in-Ok.ensures.broken

pub returns-in-Ok-clause-as_asks : goal.returns-in-Ok-clause-as_asks
returns-in-Ok-clause-as_asks g c =
    Asks-growth_of (λ z. (goal.Link-dyn g (z.vtable, z.value)).talk z.value) (λ z. (goal.Link-dyn g (z.vtable, z.value)).faults z.value) c.args.self.now c.args.conn.now _ c.exchange.new.self _
    (Asks-AsksOnce (λ z. (goal.Link-dyn g (z.vtable, z.value)).talk z.value) (λ z. (goal.Link-dyn g (z.vtable, z.value)).faults z.value) c.args.request c.args.self.now _ c.args.conn.now c.exchange.new.self refl c.exchange.ensures.slot c.requires.asks c.exchange.ensures.later (returns-in-Ok-clause-ok g c))

pub returns-in-Ok-clause-talks : goal.returns-in-Ok-clause-talks
returns-in-Ok-clause-talks g c =
    KeepsTalks-Asks (λ z. (goal.Link-dyn g (z.vtable, z.value)).talk z.value) (λ z. (goal.Link-dyn g (z.vtable, z.value)).faults z.value) c.args.self.now c.args.conn.now _ c.exchange.new.self (growth_of (log_of c.args.self.now) c.set_last.new.log) [] (returns-in-Ok-clause-as_asks g c)

pub returns-in-Ok-clause-exchanged : goal.returns-in-Ok-clause-exchanged
returns-in-Ok-clause-exchanged g c =
    Slots-Asks (λ z. (goal.Link-dyn g (z.vtable, z.value)).talk z.value) (λ z. (goal.Link-dyn g (z.vtable, z.value)).faults z.value) c.args.self.now c.args.conn.now _ c.exchange.new.self (growth_of (log_of c.args.self.now) c.set_last.new.log) c.requires.taken (returns-in-Ok-clause-as_asks g c)

pub returns-in-Ok-clause-dropped : goal.returns-in-Ok-clause-dropped
returns-in-Ok-clause-dropped g c =
    SparesDropped-Slots (states (slots_of c.args.self.now)) (growth_of (log_of c.args.self.now) c.set_last.new.log) (states (slots_of c.args.self.now)) (returns-in-Ok-clause-exchanged g c)
