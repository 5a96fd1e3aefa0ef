use Rattle.std.proofs.Common.{◌∙◌, sym, subst, ap, length}
use Rattle.ec_interp.specs.running.Sessions.{AsksOnce, Resumed}
use Rattle.ec_calling.specs.Making.{going_of, known_of}
use Rattle.ec_calling.proofs.Stepping.{asked_moved, asked_once, asked_resumed, asked_within, unasked, unasked_moved}
use Rattle.ec_calling.proofs.resuming.ask.Goals as goal

pub returns-in-Err-clause-resumed : goal.returns-in-Err-clause-resumed
returns-in-Err-clause-resumed g c = λ was is.
    unasked c.args.rack.now c.args.library.now c.abandon.new.self c.args.places.now c.push.new.self c.abandon.ensures.connections c.abandon.ensures.areas c.abandon.ensures.under_way c.in-Err.ensures.err c.args.line.0 c.args.store.now was is

pub returns-in-Err-clause-moved : goal.returns-in-Err-clause-moved
returns-in-Err-clause-moved g c =
    unasked_moved c.args.rack.now c.args.library.now c.abandon.new.self c.args.places.now c.push.new.self c.abandon.ensures.connections c.abandon.ensures.areas c.abandon.ensures.under_way c.in-Err.ensures.err
    (λ z. (goal.Link-dyn g (z.vtable, z.value)).talk z.value) (λ z. (goal.Link-dyn g (z.vtable, z.value)).faults z.value)

pub returns-in-Ok-clause-resumed : goal.returns-in-Ok-clause-resumed
returns-in-Ok-clause-resumed g c = λ was is.
    subst (λ r. Resumed was c.args.line.0 c.args.store.now (known_of c.args.rack.now c.args.library.now c.args.places.now) c.resume-far.new.store (known_of c.resume-far.new.rack c.resume-far.new.self c.keep_place.new.places) (going_of c.resume-far.new.self) r) (sym c.answered.ensures)
    (asked_resumed (λ z. (goal.Link-dyn g (z.vtable, z.value)).talk z.value) (λ z. (goal.Link-dyn g (z.vtable, z.value)).faults z.value)
    c.args.line c.args.store.now c.resume-far.new.store c.args.rack.now c.resume-far.new.rack c.args.library.now c.resume-far.new.self c.args.places.now c.push.new.self c.keep_place.new.places c.len-before.result c.len-after.result c.len-count.result c.resume-far.result
    c.requires.waits c.resume-far.ensures.resumes c.requires.within (c.len-before.ensures ∙ ap length c.log.ensures) (c.len-after.ensures ∙ ap length c.log-in-Ok.ensures) c.len-count.ensures c.in-Ok.ensures.ok c.keep_place.ensures.said c.keep_place.ensures.unsaid was is)

pub returns-in-Ok-clause-one : goal.returns-in-Ok-clause-one
returns-in-Ok-clause-one g c =
    subst (λ r. AsksOnce r (known_of c.args.rack.now c.args.library.now c.args.places.now) (known_of c.resume-far.new.rack c.resume-far.new.self c.keep_place.new.places)) (sym c.answered.ensures)
    (asked_once (λ z. (goal.Link-dyn g (z.vtable, z.value)).talk z.value) (λ z. (goal.Link-dyn g (z.vtable, z.value)).faults z.value)
    c.args.line c.args.store.now c.resume-far.new.store c.args.rack.now c.resume-far.new.rack c.args.library.now c.resume-far.new.self c.args.places.now c.push.new.self c.keep_place.new.places c.len-before.result c.len-after.result c.len-count.result c.resume-far.result
    c.requires.waits c.resume-far.ensures.resumes c.requires.within (c.len-before.ensures ∙ ap length c.log.ensures) (c.len-after.ensures ∙ ap length c.log-in-Ok.ensures) c.len-count.ensures c.in-Ok.ensures.ok c.keep_place.ensures.said c.keep_place.ensures.unsaid)

pub returns-in-Ok-clause-moved : goal.returns-in-Ok-clause-moved
returns-in-Ok-clause-moved g c =
    asked_moved (λ z. (goal.Link-dyn g (z.vtable, z.value)).talk z.value) (λ z. (goal.Link-dyn g (z.vtable, z.value)).faults z.value)
    c.args.line c.args.store.now c.resume-far.new.store c.args.rack.now c.resume-far.new.rack c.args.library.now c.resume-far.new.self c.args.places.now c.push.new.self c.keep_place.new.places c.len-before.result c.len-after.result c.len-count.result c.resume-far.result
    c.requires.waits c.resume-far.ensures.resumes c.requires.within (c.len-before.ensures ∙ ap length c.log.ensures) (c.len-after.ensures ∙ ap length c.log-in-Ok.ensures) c.len-count.ensures c.in-Ok.ensures.ok c.keep_place.ensures.said c.keep_place.ensures.unsaid

pub returns-in-Ok-clause-still_within : goal.returns-in-Ok-clause-still_within
returns-in-Ok-clause-still_within g c =
    asked_within (λ z. (goal.Link-dyn g (z.vtable, z.value)).talk z.value) (λ z. (goal.Link-dyn g (z.vtable, z.value)).faults z.value)
    c.args.line c.args.store.now c.resume-far.new.store c.args.rack.now c.resume-far.new.rack c.args.library.now c.resume-far.new.self c.args.places.now c.push.new.self c.keep_place.new.places c.len-before.result c.len-after.result c.len-count.result c.resume-far.result
    c.requires.waits c.resume-far.ensures.resumes c.requires.within (c.len-before.ensures ∙ ap length c.log.ensures) (c.len-after.ensures ∙ ap length c.log-in-Ok.ensures) c.len-count.ensures c.in-Ok.ensures.ok c.keep_place.ensures.said c.keep_place.ensures.unsaid
