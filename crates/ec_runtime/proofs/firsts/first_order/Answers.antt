use Rattle.ec_runtime.proofs.Begun.{order_found, order_unfound, order_unmade}
use Rattle.ec_runtime.proofs.firsts.first_order.Goals as goal

pub returns-in-Err-clause-changed : goal.returns-in-Err-clause-changed
returns-in-Err-clause-changed g c =
    order_unmade c.args.line.0 c.args.order c.args.outputs c.args.session.now c.args.store.now c.make_request.new.store c.make_request.new.store c.args.areas.now c.in-Err.stop c.in-Err.ensures.changed

pub returns-in-Err-find_target-clause-changed : goal.returns-in-Err-find_target-clause-changed
returns-in-Err-find_target-clause-changed g c =
    order_unfound c.args.line.0 c.args.order c.args.outputs c.args.session.now c.args.store.now c.make_request.new.store c.find_target.new.store c.args.areas.now c.in-Ok.request c.in-Ok.ensures.changed c.in-Err-find_target.stop c.in-Err-find_target.ensures.changed

pub returns-in-Ok-find_target-clause-changed : goal.returns-in-Ok-find_target-clause-changed
returns-in-Ok-find_target-clause-changed g c =
    order_found c.args.line.0 c.args.order c.args.outputs c.args.session.now c.args.store.now c.make_request.new.store c.find_target.new.store c.args.areas.now c.in-Ok.request c.in-Ok.ensures.changed c.begin_first.result c.in-Ok-find_target.ensures.changed c.begin_first.ensures.says
