use Rattle.std.proofs.Common.{Ok, Err, refl, subst}
use Rattle.ec_runtime.specs.Waiting.{BehindFits}
use Rattle.ec_runtime.proofs.Going.{part_arm, part_still}
use Rattle.ec_runtime.proofs.resuming.reply_over.Goals as goal

pub returns-in-Err-clause-over : goal.returns-in-Err-clause-over
returns-in-Err-clause-over g c =
    part_still (λ z. (goal.Link-dyn g (z.vtable, z.value)).talk z.value) (λ z. (goal.Link-dyn g (z.vtable, z.value)).faults z.value)
    c.args.line.0 c.args.request c.args.behind c.args.store.now c.send_control.new.store c.args.areas.now c.args.rack.now c.send_control.new.rack c.args.session.now c.send_control.new.session _ (Err c.in-Err.stop) _ c.in-Begun.is refl c.in-Err.ensures.over

pub returns-in-Ok-clause-over : goal.returns-in-Ok-clause-over
returns-in-Ok-clause-over g c =
    part_still (λ z. (goal.Link-dyn g (z.vtable, z.value)).talk z.value) (λ z. (goal.Link-dyn g (z.vtable, z.value)).faults z.value)
    c.args.line.0 c.args.request c.args.behind c.args.store.now c.send_control.new.store c.args.areas.now c.args.rack.now c.send_control.new.rack c.args.session.now c.send_control.new.session _ (Ok tt) _ c.in-Begun.is refl c.in-Ok.ensures.over

pub returns-in-Ok-clause-fits : goal.returns-in-Ok-clause-fits
returns-in-Ok-clause-fits g c = subst (λ x. BehindFits c.args.areas.now x) c.in-Begun.is c.requires.fits

pub send-requires-clause-there : goal.send-requires-clause-there
send-requires-clause-there g c = subst (λ x. BehindFits c.args.areas.now x) c.in-Replied.is c.requires.fits

pub returns-in-Replied-clause-over : goal.returns-in-Replied-clause-over
returns-in-Replied-clause-over g c =
    part_arm (λ z. (goal.Link-dyn g (z.vtable, z.value)).talk z.value) (λ z. (goal.Link-dyn g (z.vtable, z.value)).faults z.value)
    c.args.line.0 c.args.request c.args.behind c.args.store.now c.send.new.store c.args.areas.now c.send.new.areas c.args.rack.now c.send.new.rack c.args.session.now c.send.new.session _ c.send.result c.over_ended.result c.in-Replied.is c.over_ended.ensures c.send.ensures.over

pub returns-in-Controlled-clause-over : goal.returns-in-Controlled-clause-over
returns-in-Controlled-clause-over g c =
    part_still (λ z. (goal.Link-dyn g (z.vtable, z.value)).talk z.value) (λ z. (goal.Link-dyn g (z.vtable, z.value)).faults z.value)
    c.args.line.0 c.args.request c.args.behind c.args.store.now c.send_control-in-Controlled.new.store c.args.areas.now c.args.rack.now c.send_control-in-Controlled.new.rack c.args.session.now c.send_control-in-Controlled.new.session _ c.send_control-in-Controlled.result c.over_ended-in-Controlled.result c.in-Controlled.is c.over_ended-in-Controlled.ensures c.send_control-in-Controlled.ensures.over

pub returns-in-Committed-clause-over : goal.returns-in-Committed-clause-over
returns-in-Committed-clause-over g c =
    part_still (λ z. (goal.Link-dyn g (z.vtable, z.value)).talk z.value) (λ z. (goal.Link-dyn g (z.vtable, z.value)).faults z.value)
    c.args.line.0 c.args.request c.args.behind c.args.store.now c.commit.new.store c.args.areas.now c.args.rack.now c.commit.new.rack c.args.session.now c.commit.new.session _ c.commit.result c.over_ended-in-Committed.result c.in-Committed.is c.over_ended-in-Committed.ensures c.commit.ensures.over

pub returns-in-Kept-clause-over : goal.returns-in-Kept-clause-over
returns-in-Kept-clause-over g c =
    part_still (λ z. (goal.Link-dyn g (z.vtable, z.value)).talk z.value) (λ z. (goal.Link-dyn g (z.vtable, z.value)).faults z.value)
    c.args.line.0 c.args.request c.args.behind c.args.store.now c.keep_behind.new.store c.args.areas.now c.args.rack.now c.keep_behind.new.rack c.args.session.now c.keep_behind.new.session _ c.keep_behind.result c.over_ended-in-Kept.result c.in-Kept.is c.over_ended-in-Kept.ensures c.keep_behind.ensures.over

pub returns-in-Forgotten-clause-over : goal.returns-in-Forgotten-clause-over
returns-in-Forgotten-clause-over g c =
    part_still (λ z. (goal.Link-dyn g (z.vtable, z.value)).talk z.value) (λ z. (goal.Link-dyn g (z.vtable, z.value)).faults z.value)
    c.args.line.0 c.args.request c.args.behind c.args.store.now c.forget_behind.new.store c.args.areas.now c.args.rack.now c.forget_behind.new.rack c.args.session.now c.forget_behind.new.session _ c.forget_behind.result c.over_ended-in-Forgotten.result c.in-Forgotten.is c.over_ended-in-Forgotten.ensures c.forget_behind.ensures.over
