use Rattle.ec_runtime.proofs.Texts.{held_read}
use Rattle.ec_runtime.proofs.disconnecting.read_which.Goals as goal

pub returns-in-Ok-clause-chooses : goal.returns-in-Ok-clause-chooses
returns-in-Ok-clause-chooses g c =
    (c.in-Ok.bytes.now, held_read c.args.text.now c.in-Held.at c.in-Ok.bytes.now c.args.store.now c.in-Held.is c.in-Ok.ensures, c.which_of-in-Ok.ensures.which)
