use Rattle.std.proofs.Common.{arith}
use Rattle.ec_type_rules.proofs.Values.{raised_small}
use Rattle.ec_type_rules.proofs.constants.values.raised.Goals as goal

pub returns-clause-is : goal.returns-clause-is
returns-clause-is c = let small = raised_small c.args.x c.args.amount c.requires.number c.requires.amount in omega arith

pub returns-clause-small : goal.returns-clause-small
returns-clause-small c = let small = raised_small c.args.x c.args.amount c.requires.number c.requires.amount in omega arith
