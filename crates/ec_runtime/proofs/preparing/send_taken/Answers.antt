use Rattle.ec_link.specs.Conn.{slot_of}
use Rattle.ec_call_defs.specs.Answers.{taken}
use Rattle.ec_runtime.specs.Statements.{request_taken}
use Rattle.ec_runtime.proofs.Grows.{taken_grows}
use Rattle.ec_runtime.proofs.Joining.{over_unasked, over_answered}
use Rattle.ec_runtime.proofs.Takes.{taken_request_grows}
use Rattle.ec_runtime.proofs.preparing.send_taken.Goals as goal

pub returns-in-Err-clause-over : goal.returns-in-Err-clause-over
returns-in-Err-clause-over g c =
    over_unasked (λ z. (goal.Link-dyn g (z.vtable, z.value)).talk z.value) (λ z. (goal.Link-dyn g (z.vtable, z.value)).faults z.value)
    (request_taken c.args.line.0 c.args.request (slot_of c.args.session.now.conn)) c.args.store.now c.args.rack.now c.args.session.now c.ask.new.rack c.ask.new.session
    (taken_request_grows c.args.line.0 c.args.request (slot_of c.args.session.now.conn)) c.in-Err.ensures.err c.in-Err.ensures.same

pub returns-in-Some-clause-over : goal.returns-in-Some-clause-over
returns-in-Some-clause-over g c =
    over_answered (λ z. (goal.Link-dyn g (z.vtable, z.value)).talk z.value) (λ z. (goal.Link-dyn g (z.vtable, z.value)).faults z.value)
    c.args.request c.args.store.now c.taken.new.store c.args.rack.now c.args.session.now c.ask.new.rack c.ask.new.session
    (λ reply t. taken c.args.line.0 reply t) c.taken.result c.in-Some.reply.now
    c.in-Ok.ensures.ok c.in-Some.ensures (taken_grows c.args.line.0) c.taken.ensures.quiet
