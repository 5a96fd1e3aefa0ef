use Rattle.std.proofs.Common.{Err}
use Rattle.ec_link.specs.Conn.{slot_of}
use Rattle.ec_call_defs.specs.Answers.{replied}
use Rattle.ec_call_defs.specs.Running.{is_wanted, table_kept}
use Rattle.ec_runtime.specs.Statements.{outputs_view, sent}
use Rattle.ec_runtime.specs.declared.stop.Stop.TheVariants as stops
use Rattle.ec_runtime.proofs.Joining.{over_unasked, over_with, with_answered}
use Rattle.ec_runtime.proofs.Sending.{sent_grows, replies_grow}
use Rattle.ec_runtime.proofs.running.send.Goals as goal

pub returns-in-Err-clause-over : goal.returns-in-Err-clause-over
returns-in-Err-clause-over g c =
    over_with (λ z. (goal.Link-dyn g (z.vtable, z.value)).talk z.value) (λ z. (goal.Link-dyn g (z.vtable, z.value)).faults z.value)
    (sent c.args.line.0 c.args.request (outputs_view c.args.outputs.now) (slot_of c.args.session.now.conn)) c.args.store.now c.args.store.now c.args.areas.now c.args.rack.now c.args.session.now c.ask.new.rack c.ask.new.session (Err stops.OutOfMemory)
    (over_unasked (λ z. (goal.Link-dyn g (z.vtable, z.value)).talk z.value) (λ z. (goal.Link-dyn g (z.vtable, z.value)).faults z.value)
    (sent c.args.line.0 c.args.request (outputs_view c.args.outputs.now) (slot_of c.args.session.now.conn)) c.args.store.now c.args.rack.now c.args.session.now c.ask.new.rack c.ask.new.session
    (sent_grows c.args.line.0 c.args.request (outputs_view c.args.outputs.now) (slot_of c.args.session.now.conn)) c.in-Err.ensures.err c.in-Err.ensures.same)

pub returns-in-Some-clause-over : goal.returns-in-Some-clause-over
returns-in-Some-clause-over g c =
    with_answered (λ z. (goal.Link-dyn g (z.vtable, z.value)).talk z.value) (λ z. (goal.Link-dyn g (z.vtable, z.value)).faults z.value)
    c.args.request c.args.store.now c.answered.new.store c.args.areas.now c.answered.new.areas c.args.rack.now c.args.session.now c.ask.new.rack c.ask.new.session
    (λ reply t. replied c.args.line.0 (is_wanted (outputs_view c.args.outputs.now)) (table_kept c.args.line.0 (outputs_view c.args.outputs.now)) reply t) c.answered.result c.in-Some.reply.now
    c.in-Ok.ensures.ok c.in-Some.ensures (replies_grow c.args.line.0 (outputs_view c.args.outputs.now)) c.answered.ensures.changed
