use Rattle.ec_call_defs.specs.Preparing.{with_text}
use Rattle.ec_runtime.proofs.Takes.{change_stops, change_kept, change_unkept}
use Rattle.ec_runtime.proofs.preparing.keep_behind.Goals as goal

pub returns-in-Err-clause-over : goal.returns-in-Err-clause-over
returns-in-Err-clause-over g c =
    change_stops (λ z. (goal.Link-dyn g (z.vtable, z.value)).talk z.value) (λ z. (goal.Link-dyn g (z.vtable, z.value)).faults z.value)
    c.args.line.0 c.args.request (with_text c.args.name c.args.text) c.args.store.now c.send_taken.new.store c.args.rack.now c.send_taken.new.rack c.args.session.now c.send_taken.new.session c.in-Err.stop c.in-Err.ensures.over

pub returns-in-Err-keep-clause-over : goal.returns-in-Err-keep-clause-over
returns-in-Err-keep-clause-over g c =
    change_unkept (λ z. (goal.Link-dyn g (z.vtable, z.value)).talk z.value) (λ z. (goal.Link-dyn g (z.vtable, z.value)).faults z.value)
    c.args.line.0 c.args.request (with_text c.args.name c.args.text) c.args.store.now c.send_taken.new.store c.args.rack.now c.send_taken.new.rack c.args.session.now c.send_taken.new.session c.keep.new.prepared c.in-Ok.ensures.over

pub returns-in-Ok-keep-clause-over : goal.returns-in-Ok-keep-clause-over
returns-in-Ok-keep-clause-over g c =
    change_kept (λ z. (goal.Link-dyn g (z.vtable, z.value)).talk z.value) (λ z. (goal.Link-dyn g (z.vtable, z.value)).faults z.value)
    c.args.line.0 c.args.request (with_text c.args.name c.args.text) c.args.store.now c.send_taken.new.store c.args.rack.now c.send_taken.new.rack c.args.session.now c.send_taken.new.session c.keep.new.prepared c.in-Ok-keep.ensures c.in-Ok.ensures.over
