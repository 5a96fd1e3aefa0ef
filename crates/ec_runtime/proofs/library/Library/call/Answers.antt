use Rattle.std.proofs.Common.{Ok, Err, subst}
use Rattle.ec_link.specs.Rack.{slots_of}
use Rattle.ec_link.specs.Slot.{states}
use Rattle.ec_runtime.specs.Calling.{conns_of}
use Rattle.ec_runtime.specs.Proceeding.{Starts}
use Rattle.ec_runtime.specs.Statements.{cut_view}
use Rattle.ec_runtime.specs.declared.library.Progress.TheVariants as progress
use Rattle.ec_runtime.proofs.Calls.{beside_held, stays_held}
use Rattle.ec_runtime.proofs.Whole.{done_no, err_no, started_asks, started_end, started_on, waits_some}
use Rattle.ec_runtime.proofs.library.Library.call.Goals as goal

pub start-requires-clause-beside : goal.start-requires-clause-beside
start-requires-clause-beside g c = beside_held (states (slots_of c.args.rack.now)) (conns_of c.args.self.now.connections) c.requires.holds.taken

pub returns-in-Err-clause-called : goal.returns-in-Err-clause-called
returns-in-Err-clause-called g c =
    started_end (λ z. (goal.Link-dyn g (z.vtable, z.value)).talk z.value) (λ z. (goal.Link-dyn g (z.vtable, z.value)).faults z.value)
    (cut_view c.args.it) c.args.store.now c.start.new.store c.start.new.store c.args.rack.now c.args.rack.now c.args.self.now c.start.new.self c.start.new.self c.in-Err.ensures.stays (Err c.in-Err.stop) (err_no c.in-Err.stop) c.in-Err.ensures.starts

pub returns-in-Err-clause-still_holds : goal.returns-in-Err-clause-still_holds
returns-in-Err-clause-still_holds g c = stays_held c.args.rack.now c.args.self.now.connections c.start.new.self.connections c.in-Err.ensures.stays c.requires.holds

pub returns-in-Ok-Done-clause-called : goal.returns-in-Ok-Done-clause-called
returns-in-Ok-Done-clause-called g c =
    started_end (λ z. (goal.Link-dyn g (z.vtable, z.value)).talk z.value) (λ z. (goal.Link-dyn g (z.vtable, z.value)).faults z.value)
    (cut_view c.args.it) c.args.store.now c.start.new.store c.start.new.store c.args.rack.now c.args.rack.now c.args.self.now c.start.new.self c.start.new.self c.in-Ok-Done.ensures.stays (Ok progress.Done) done_no
    (subst (λ x. Starts (cut_view c.args.it) c.args.store.now c.args.self.now c.start.new.store c.start.new.self (Ok x)) c.in-Ok-Done.field-0-is c.in-Ok-Done.ensures.starts)

pub returns-in-Ok-Done-clause-still_holds : goal.returns-in-Ok-Done-clause-still_holds
returns-in-Ok-Done-clause-still_holds g c = stays_held c.args.rack.now c.args.self.now.connections c.start.new.self.connections c.in-Ok-Done.ensures.stays c.requires.holds

pub go_on-requires-clause-holds : goal.go_on-requires-clause-holds
go_on-requires-clause-holds g c = stays_held c.args.rack.now c.args.self.now.connections c.start.new.self.connections c.in-Ok-Asks.ensures.stays c.requires.holds

pub go_on-requires-clause-waits : goal.go_on-requires-clause-waits
go_on-requires-clause-waits g c =
    let v = started_asks (λ z. (goal.Link-dyn g (z.vtable, z.value)).talk z.value) (λ z. (goal.Link-dyn g (z.vtable, z.value)).faults z.value) (cut_view c.args.it) c.args.store.now c.start.new.store c.start.new.store c.args.rack.now c.args.rack.now c.args.self.now c.start.new.self c.start.new.self c.in-Ok-Asks.ensures.stays
    (subst (λ x. Starts (cut_view c.args.it) c.args.store.now c.args.self.now c.start.new.store c.start.new.self (Ok x)) c.in-Ok-Asks.field-0-is c.in-Ok-Asks.ensures.starts) in
    waits_some c.start.new.self c.args.it.line.0 v.0 v.1

pub returns-in-Ok-Asks-clause-called : goal.returns-in-Ok-Asks-clause-called
returns-in-Ok-Asks-clause-called g c =
    let p = subst (λ x. Starts (cut_view c.args.it) c.args.store.now c.args.self.now c.start.new.store c.start.new.self (Ok x)) c.in-Ok-Asks.field-0-is c.in-Ok-Asks.ensures.starts in
    let v = started_asks (λ z. (goal.Link-dyn g (z.vtable, z.value)).talk z.value) (λ z. (goal.Link-dyn g (z.vtable, z.value)).faults z.value) (cut_view c.args.it) c.args.store.now c.start.new.store c.start.new.store c.args.rack.now c.args.rack.now c.args.self.now c.start.new.self c.start.new.self c.in-Ok-Asks.ensures.stays p in
    started_on (λ z. (goal.Link-dyn g (z.vtable, z.value)).talk z.value) (λ z. (goal.Link-dyn g (z.vtable, z.value)).faults z.value)
    (cut_view c.args.it) c.args.store.now c.start.new.store c.go_on.new.store c.args.rack.now c.go_on.new.rack c.args.self.now c.start.new.self c.go_on.new.library c.in-Ok-Asks.ensures.stays v.0 c.go_on.result v.1 p (c.go_on.ensures.called c.args.it.line.0 v.0 v.1)
