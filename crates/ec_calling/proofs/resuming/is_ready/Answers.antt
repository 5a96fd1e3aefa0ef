use Rattle.ec_calling.proofs.Stepping.{waits_there}
use Rattle.ec_calling.proofs.resuming.is_ready.Goals as goal

pub returns-in-Some-clause-waits : goal.returns-in-Some-clause-waits
returns-in-Some-clause-waits g c = λ ready. waits_there c.args.library.now _ c.in-Some.ensures
