use Rattle.ec_runtime.specs.Calling.{connections_of, seen_by}
use Rattle.ec_runtime.proofs.Connects.{connect_given, connect_unread}
use Rattle.ec_runtime.proofs.connecting.start_connect.Goals as goal

pub returns-in-Err-clause-leads : goal.returns-in-Err-clause-leads
returns-in-Err-clause-leads g c = λ areas.
    connect_unread c.args.line.0 c.args.it.now c.args.store.now (connections_of c.args.library.now) c.args.library.now.current areas c.in-Err.stop c.in-Err.ensures.quiet

pub returns-in-Ok-clause-leads : goal.returns-in-Ok-clause-leads
returns-in-Ok-clause-leads g c = λ areas.
    connect_given c.args.line.0 c.args.it.now c.args.store.now (connections_of c.args.library.now) c.args.library.now.current areas (c.in-Ok.name, c.in-Ok.request) (seen_by c.start_named.new.store c.args.library.now) _ c.in-Ok.ensures.quiet (c.start_named.ensures.leads areas)
