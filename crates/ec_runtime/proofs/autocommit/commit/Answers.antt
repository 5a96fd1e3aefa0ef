use Rattle.ec_runtime.proofs.Switching.{commit_behind, commit_not}
use Rattle.ec_runtime.proofs.autocommit.commit.Goals as goal

pub returns-in-Err-clause-over : goal.returns-in-Err-clause-over
returns-in-Err-clause-over g c =
    commit_not (λ z. (goal.Link-dyn g (z.vtable, z.value)).talk z.value) (λ z. (goal.Link-dyn g (z.vtable, z.value)).faults z.value)
    c.args.line.0 c.args.on c.args.request c.args.store.now c.send_control.new.store c.args.rack.now c.send_control.new.rack c.args.session.now c.send_control.new.session c.in-Err.stop c.in-Err.ensures.over

pub returns-in-Ok-clause-over : goal.returns-in-Ok-clause-over
returns-in-Ok-clause-over g c =
    commit_behind (λ z. (goal.Link-dyn g (z.vtable, z.value)).talk z.value) (λ z. (goal.Link-dyn g (z.vtable, z.value)).faults z.value)
    c.args.line.0 c.args.on c.args.request c.args.store.now c.send_control.new.store c.args.rack.now c.send_control.new.rack c.args.session.now c.send_control.new.session c.in-Ok.ensures.over
