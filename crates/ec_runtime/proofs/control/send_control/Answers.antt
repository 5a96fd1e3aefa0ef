use Rattle.ec_link.specs.Conn.{slot_of}
use Rattle.ec_call_defs.specs.Connections.{asked, controlled}
use Rattle.ec_runtime.specs.Resuming.{request_controlled}
use Rattle.ec_runtime.proofs.Grows.{asked_grows, controlled_grows, next_grows}
use Rattle.ec_runtime.proofs.Joining.{over_answered, over_unasked}
use Rattle.ec_runtime.proofs.control.send_control.Goals as goal

pub returns-in-Err-clause-over : goal.returns-in-Err-clause-over
returns-in-Err-clause-over g c =
    over_unasked (λ z. (goal.Link-dyn g (z.vtable, z.value)).talk z.value) (λ z. (goal.Link-dyn g (z.vtable, z.value)).faults z.value)
    (request_controlled c.args.line.0 (slot_of c.args.session.now.conn) c.args.request) c.args.store.now c.args.rack.now c.args.session.now c.ask.new.rack c.ask.new.session
    (next_grows (asked (slot_of c.args.session.now.conn) c.args.request) (λ reply t. controlled c.args.line.0 reply t) (asked_grows (slot_of c.args.session.now.conn) c.args.request) (controlled_grows c.args.line.0)) c.in-Err.ensures.err c.in-Err.ensures.same

pub returns-in-Some-clause-over : goal.returns-in-Some-clause-over
returns-in-Some-clause-over g c =
    over_answered (λ z. (goal.Link-dyn g (z.vtable, z.value)).talk z.value) (λ z. (goal.Link-dyn g (z.vtable, z.value)).faults z.value)
    c.args.request c.args.store.now c.controlled.new.store c.args.rack.now c.args.session.now c.ask.new.rack c.ask.new.session
    (λ reply t. controlled c.args.line.0 reply t) c.controlled.result c.in-Some.reply.now c.in-Ok.ensures.ok c.in-Some.ensures (controlled_grows c.args.line.0) c.controlled.ensures.quiet
