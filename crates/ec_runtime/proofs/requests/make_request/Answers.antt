use Rattle.ec_runtime.specs.Opening.{open_view}
use Rattle.ec_runtime.specs.Statements.{head_view}
use Rattle.ec_runtime.proofs.Filling.{request_unmade, request_unfilled, request_filled}
use Rattle.ec_runtime.proofs.requests.make_request.Goals as goal

pub returns-in-Err-clause-changed : goal.returns-in-Err-clause-changed
returns-in-Err-clause-changed g c =
    request_unmade c.args.line.0 c.args.order (open_view c.args.session.now) c.args.store.now c.make_head.new.store c.args.areas.now c.in-Err.stop c.in-Err.ensures.quiet

pub returns-in-Err-whole_params-clause-changed : goal.returns-in-Err-whole_params-clause-changed
returns-in-Err-whole_params-clause-changed g c =
    request_unfilled c.args.line.0 c.args.order (open_view c.args.session.now) c.args.store.now c.make_head.new.store c.args.areas.now (head_view c.in-Ok.head) c.in-Ok.ensures.quiet
    c.whole_params.new.store c.in-Err-whole_params.stop c.in-Err-whole_params.ensures.changed

pub returns-clause-changed : goal.returns-clause-changed
returns-clause-changed g c =
    request_filled c.args.line.0 c.args.order (open_view c.args.session.now) c.args.store.now c.make_head.new.store c.args.areas.now (head_view c.in-Ok.head) c.in-Ok.ensures.quiet
    c.whole_params.new.store c.in-Ok-whole_params.all c.with_params.result c.with_params.ensures.request c.in-Ok-whole_params.ensures.changed
