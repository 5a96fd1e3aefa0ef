use Rattle.std.proofs.Common.{◌∙◌, [], inl, inr, refl, sym}
use Rattle.std.proofs.lemmas.List.Elements.{All-nil}
use Rattle.ec_link.specs.Logged.{growth_of}
use Rattle.ec_link.specs.Rack.{slots_of, log_of}
use Rattle.ec_link.specs.Slot.{states}
use Rattle.ec_link.proofs.Opening.{log-dropped, FindsNone-made, Connects-made, Slots-Connects, KeepsTalks-Connects, last-Connects, Declines-made, Slots-OpensNone, KeepsTalks-OpensNone, last-OpensNone, Unsaid-made, Slots-Unsaid, KeepsTalks-Unsaid}
use Rattle.ec_link.proofs.Steps.{SparesDropped-Slots}
use Rattle.ec_link.proofs.rack.Rack.connect.Goals as goal

pub returns-in_default-clause-ok : goal.returns-in_default-clause-ok
returns-in_default-clause-ok g c =
    inl (FindsNone-made (λ z. (goal.Link-dyn g (z.vtable, z.value)).talk z.value) (λ z. (goal.Link-dyn g (z.vtable, z.value)).faults z.value) c.args.request c.args.self.now _ c.target.result.now c.take_free.new.self.log c.in_ok-push_blank.ensures.ok.0 c.target.ensures c.in_default.ensures.taken.0 c.in_default.ensures.taken.1 (c.take_free.ensures.log ∙ c.in_ok-push_blank.ensures.ok.1) c.set_last.ensures)

pub returns-in_default-clause-exchanged : goal.returns-in_default-clause-exchanged
returns-in_default-clause-exchanged g c =
    Slots-OpensNone (λ z. (goal.Link-dyn g (z.vtable, z.value)).talk z.value) (λ z. (goal.Link-dyn g (z.vtable, z.value)).faults z.value) c.args.request c.args.self.now _ c.requires (returns-in_default-clause-ok g c)

pub returns-in_default-clause-last : goal.returns-in_default-clause-last
returns-in_default-clause-last g c =
    last-OpensNone (λ z. (goal.Link-dyn g (z.vtable, z.value)).talk z.value) (λ z. (goal.Link-dyn g (z.vtable, z.value)).faults z.value) c.args.request c.args.self.now _ (returns-in_default-clause-ok g c)

pub returns-then-connected-clause-ok : goal.returns-then-connected-clause-ok
returns-then-connected-clause-ok g c =
    Connects-made (λ z. (goal.Link-dyn g (z.vtable, z.value)).talk z.value) (λ z. (goal.Link-dyn g (z.vtable, z.value)).faults z.value) c.args.request c.args.self.now _ c.target.result.now c.target.ensures c.take_free.new.self.slots c.in-Some.conn c.exchange.new.self c.in-Some.ensures.taken c.exchange.ensures.slot
    c.take_free.new.self.log c.in_ok-push_blank.ensures.ok.0 c.in-Ok.logged refl (c.take_free.ensures.log ∙ c.in_ok-push_blank.ensures.ok.1) c.set_last-in-Ok.ensures c.in-Ok.ensures.stands.0 c.in-Ok.ensures.stands.1 c.in-Ok.ensures.told c.exchange.ensures.later c.in-Ok.ensures.broken (sym c.is_connected-connected.ensures ∙ c.if-connected.true)

pub returns-then-connected-clause-exchanged : goal.returns-then-connected-clause-exchanged
returns-then-connected-clause-exchanged g c = Slots-Connects (λ z. (goal.Link-dyn g (z.vtable, z.value)).talk z.value) (λ z. (goal.Link-dyn g (z.vtable, z.value)).faults z.value) c.args.request c.args.self.now _ c.exchange.new.self (returns-then-connected-clause-ok g c) c.requires

pub returns-then-connected-clause-dropped : goal.returns-then-connected-clause-dropped
returns-then-connected-clause-dropped g c =
    SparesDropped-Slots (states (slots_of c.args.self.now)) (growth_of (log_of c.args.self.now) c.set_last-in-Ok.new.log) (states c.take_free.new.self.slots) (returns-then-connected-clause-exchanged g c)

pub returns-then-connected-clause-talks : goal.returns-then-connected-clause-talks
returns-then-connected-clause-talks g c = KeepsTalks-Connects (λ z. (goal.Link-dyn g (z.vtable, z.value)).talk z.value) (λ z. (goal.Link-dyn g (z.vtable, z.value)).faults z.value) c.args.request c.args.self.now _ c.exchange.new.self (returns-then-connected-clause-ok g c) [] (All-nil _)

pub returns-then-connected-clause-last : goal.returns-then-connected-clause-last
returns-then-connected-clause-last g c = rw (last-Connects (λ z. (goal.Link-dyn g (z.vtable, z.value)).talk z.value) (λ z. (goal.Link-dyn g (z.vtable, z.value)).faults z.value) c.args.request c.args.self.now _ c.exchange.new.self (returns-then-connected-clause-ok g c)) refl

pub returns-else-connected-clause-ok : goal.returns-else-connected-clause-ok
returns-else-connected-clause-ok g c =
    inr (Declines-made (λ z. (goal.Link-dyn g (z.vtable, z.value)).talk z.value) (λ z. (goal.Link-dyn g (z.vtable, z.value)).faults z.value) c.args.request c.args.self.now c.give_back.new.self c.target.result.now c.target.ensures c.take_free.new.self.slots c.in-Some.conn c.exchange.new.self c.in-Some.ensures.taken c.exchange.ensures.slot
    c.take_free.new.self.log c.set_last-in-Ok.new.log c.in_ok-push_blank.ensures.ok.0 c.in-Ok.logged c.give_back.ensures.given (c.take_free.ensures.log ∙ c.in_ok-push_blank.ensures.ok.1) c.set_last-in-Ok.ensures c.give_back.ensures.log c.in-Ok.ensures.stands.0 c.in-Ok.ensures.stands.1 c.in-Ok.ensures.told c.exchange.ensures.later c.in-Ok.ensures.broken (sym c.is_connected-connected.ensures ∙ c.if-connected.false))

pub returns-else-connected-clause-exchanged : goal.returns-else-connected-clause-exchanged
returns-else-connected-clause-exchanged g c =
    Slots-OpensNone (λ z. (goal.Link-dyn g (z.vtable, z.value)).talk z.value) (λ z. (goal.Link-dyn g (z.vtable, z.value)).faults z.value) c.args.request c.args.self.now c.give_back.new.self c.requires (returns-else-connected-clause-ok g c)

pub returns-else-connected-clause-last : goal.returns-else-connected-clause-last
returns-else-connected-clause-last g c =
    last-OpensNone (λ z. (goal.Link-dyn g (z.vtable, z.value)).talk z.value) (λ z. (goal.Link-dyn g (z.vtable, z.value)).faults z.value) c.args.request c.args.self.now c.give_back.new.self (returns-else-connected-clause-ok g c)

pub returns-else-connected-clause-talks : goal.returns-else-connected-clause-talks
returns-else-connected-clause-talks g c =
    KeepsTalks-OpensNone (λ z. (goal.Link-dyn g (z.vtable, z.value)).talk z.value) (λ z. (goal.Link-dyn g (z.vtable, z.value)).faults z.value) c.args.request c.args.self.now c.give_back.new.self [] (λ i e. All-nil _) (returns-else-connected-clause-ok g c)

pub returns-else-connected-clause-dropped : goal.returns-else-connected-clause-dropped
returns-else-connected-clause-dropped g c =
    SparesDropped-Slots (states (slots_of c.args.self.now)) (growth_of (log_of c.args.self.now) (log_of c.give_back.new.self)) (states (slots_of c.give_back.new.self)) (returns-else-connected-clause-exchanged g c)

pub returns-in-Err-clause-err : goal.returns-in-Err-clause-err
returns-in-Err-clause-err g c =
    Unsaid-made (λ z. (goal.Link-dyn g (z.vtable, z.value)).talk z.value) (λ z. (goal.Link-dyn g (z.vtable, z.value)).faults z.value) c.args.request c.args.self.now c.give_back-in-Err.new.self c.target.result.now c.target.ensures c.take_free.new.self.slots c.in-Some.conn c.exchange.new.self c.in-Some.ensures.taken c.exchange.ensures.slot
    c.give_back-in-Err.ensures.given (c.give_back-in-Err.ensures.log ∙ log-dropped (log_of c.args.self.now) c.take_free.new.self.log c.drop_last.new.log c.in_ok-push_blank.ensures.ok.0 (c.take_free.ensures.log ∙ c.in_ok-push_blank.ensures.ok.1) c.drop_last.ensures)
    c.in-Err.ensures.err c.exchange.ensures.later

pub returns-in-Err-clause-exchanged : goal.returns-in-Err-clause-exchanged
returns-in-Err-clause-exchanged g c = Slots-Unsaid (λ z. (goal.Link-dyn g (z.vtable, z.value)).talk z.value) (λ z. (goal.Link-dyn g (z.vtable, z.value)).faults z.value) c.args.request c.args.self.now c.give_back-in-Err.new.self (returns-in-Err-clause-err g c)

pub returns-in-Err-clause-dropped : goal.returns-in-Err-clause-dropped
returns-in-Err-clause-dropped g c =
    SparesDropped-Slots (states (slots_of c.args.self.now)) (growth_of (log_of c.args.self.now) (log_of c.give_back-in-Err.new.self)) (states (slots_of c.give_back-in-Err.new.self)) (returns-in-Err-clause-exchanged g c)

pub returns-in-Err-clause-talks : goal.returns-in-Err-clause-talks
returns-in-Err-clause-talks g c = KeepsTalks-Unsaid (λ z. (goal.Link-dyn g (z.vtable, z.value)).talk z.value) (λ z. (goal.Link-dyn g (z.vtable, z.value)).faults z.value) c.args.request c.args.self.now c.give_back-in-Err.new.self (returns-in-Err-clause-err g c) []
