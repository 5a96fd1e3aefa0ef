use Rattle.ec_stepper.proofs.Sharing.{stands_still}
use Rattle.ec_stepper.proofs.laws.machines_share_a_rack.Goals as goal

pub returns : goal.returns
returns g c = stands_still c.args.machine.now c.args.rack.now
