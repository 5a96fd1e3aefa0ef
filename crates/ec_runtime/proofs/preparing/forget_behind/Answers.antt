use Rattle.std.proofs.Common.{ap, ◌∙◌}
use Rattle.ec_runtime.specs.Prepared.{prepared_views}
use Rattle.ec_call_defs.specs.Preparing.{without_text}
use Rattle.ec_runtime.proofs.Takes.{change_stops, change_kept}
use Rattle.ec_runtime.proofs.preparing.forget_behind.Goals as goal

pub returns-in-Err-clause-over : goal.returns-in-Err-clause-over
returns-in-Err-clause-over g c =
    change_stops (λ z. (goal.Link-dyn g (z.vtable, z.value)).talk z.value) (λ z. (goal.Link-dyn g (z.vtable, z.value)).faults z.value)
    c.args.line.0 c.args.request (without_text c.args.name.now) c.args.store.now c.send_taken.new.store c.args.rack.now c.send_taken.new.rack c.args.session.now c.send_taken.new.session c.in-Err.stop c.in-Err.ensures.over

pub returns-in-Ok-clause-over : goal.returns-in-Ok-clause-over
returns-in-Ok-clause-over g c =
    change_kept (λ z. (goal.Link-dyn g (z.vtable, z.value)).talk z.value) (λ z. (goal.Link-dyn g (z.vtable, z.value)).faults z.value)
    c.args.line.0 c.args.request (without_text c.args.name.now) c.args.store.now c.send_taken.new.store c.args.rack.now c.send_taken.new.rack c.args.session.now c.send_taken.new.session c.forget.new.prepared (c.forget.ensures ∙ ap (λ n. without_text n (prepared_views c.send_taken.new.session.prepared)) c.as_slice.ensures) c.in-Ok.ensures.over
