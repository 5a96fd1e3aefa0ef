use Rattle.ec_type_rules.proofs.Values.{too_large}
use Rattle.ec_type_rules.proofs.constants.values.signed_up.Goals as goal

pub returns-then-x : goal.returns-then-x
returns-then-x c = too_large c.args.t c.args.x c.args.amount c.requires.signed c.if-x.true
