use Rattle.std.proofs.Common.{refl}
use Rattle.ec_link.specs.Rack.{slots_of}
use Rattle.ec_link.proofs.Ready.{ready-found, ready_slot-read, TakesReady-replaced}
use Rattle.ec_link.proofs.Runs.{TakenAt-TakesReady, KeepsTalks-TakesReady, SparesDropped-TakesReady}
use Rattle.ec_link.proofs.rack.Rack.take_ready.Goals as goal

pub unreachable-requires : goal.unreachable-requires
unreachable-requires g c =
    let found = ready-found c.args.self.now.slots c.in_ok-at.at c.replace.result (ready_slot-read c.as_slice.result.now c.args.self.now.slots c.in_ok-at.at c.as_slice.ensures c.in_ok-at.ensures.first) c.replace.ensures.taken in
    c.in_default.not-Ready found.0 found.1 found.2

pub returns-clause-taken : goal.returns-clause-taken
returns-clause-taken g c =
    TakesReady-replaced (slots_of c.args.self.now) c.replace.new.self c.set.new.self c.in_ok-at.at c.replace.result _ c.in-Ready.name c.in-Ready.link _ refl refl
    (ready_slot-read c.as_slice.result.now c.args.self.now.slots c.in_ok-at.at c.as_slice.ensures c.in_ok-at.ensures.first) c.replace.ensures.taken c.in-Ready.is c.replace.ensures.rest c.set.ensures

pub returns-clause-now_taken : goal.returns-clause-now_taken
returns-clause-now_taken g c = TakenAt-TakesReady (slots_of c.args.self.now) c.set.new.self _ (returns-clause-taken g c)

pub returns-clause-talks : goal.returns-clause-talks
returns-clause-talks g c =
    KeepsTalks-TakesReady (λ z. (goal.Link-dyn g (z.vtable, z.value)).talk z.value) (λ z. (goal.Link-dyn g (z.vtable, z.value)).faults z.value) (slots_of c.args.self.now) c.set.new.self _ (returns-clause-taken g c)

pub returns-clause-dropped : goal.returns-clause-dropped
returns-clause-dropped g c =
    SparesDropped-TakesReady (λ z. (goal.Link-dyn g (z.vtable, z.value)).talk z.value) (λ z. (goal.Link-dyn g (z.vtable, z.value)).faults z.value) (slots_of c.args.self.now) c.set.new.self _ (returns-clause-taken g c)
