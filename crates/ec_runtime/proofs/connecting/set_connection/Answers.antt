use Rattle.ec_runtime.specs.Calling.{connections_of}
use Rattle.ec_runtime.proofs.Connects.{set_read, set_unread}
use Rattle.ec_runtime.proofs.Starting.{only}
use Rattle.ec_runtime.proofs.connecting.set_connection.Goals as goal

pub returns-in-Err-clause-does : goal.returns-in-Err-clause-does
returns-in-Err-clause-does g c = set_unread c.args.line.0 c.args.text.now c.args.store.now (connections_of c.args.library.now) c.args.library.now.current c.in-Err.stop c.in-Err.ensures

pub returns-in-Ok-clause-does : goal.returns-in-Ok-clause-does
returns-in-Ok-clause-does g c =
    set_read c.args.line.0 c.args.text.now c.args.store.now (connections_of c.args.library.now) c.args.library.now.current c.in-Ok.name
    (only c.set_current.new.store (connections_of c.set_current.new.library) c.set_current.new.library.current) c.set_current.result c.in-Ok.ensures c.set_current.ensures.does
