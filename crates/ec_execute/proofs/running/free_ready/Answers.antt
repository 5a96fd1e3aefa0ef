use Rattle.ec_execute.proofs.Carrying.{freed, none_ready}
use Rattle.ec_execute.proofs.running.free_ready.Goals as goal

pub returns-in-Some : goal.returns-in-Some
returns-in-Some g c = freed _ _ c.args.rack.now c.take_ready.new.self c.give_back.new.self c.in-Some.conn c.in-Some.ensures.taken c.take_ready.ensures.log c.give_back.ensures.given c.give_back.ensures.log

pub returns-in-None : goal.returns-in-None
returns-in-None g c = none_ready _ _ c.args.rack.now c.take_ready.new.self c.in-None.ensures.taken c.take_ready.ensures.log
