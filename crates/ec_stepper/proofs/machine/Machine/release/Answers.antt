use Rattle.std.proofs.Common.{subst}
use Rattle.ec_link.specs.Rack.{slots_of}
use Rattle.ec_runtime.specs.Calling.{Closes}
use Rattle.ec_stepper.proofs.machine.Machine.release.Goals as goal

pub returns-clause-closes : goal.returns-clause-closes
returns-clause-closes g c = subst (λ it. Closes (slots_of c.args.rack.now) it.connections (slots_of c.finish.new.rack)) c.replace-library.ensures.value c.finish.ensures.closes
