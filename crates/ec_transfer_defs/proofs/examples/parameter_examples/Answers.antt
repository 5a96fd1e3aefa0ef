-- Numbers in decimal digits, computed.
use Rattle.std.proofs.Common.{refl}
use Rattle.std.specs.Fmt.{digits}
use Rattle.ec_transfer_defs.proofs.examples.parameter_examples.Goals as goal

pub returns-clause-int : goal.returns-clause-int
unfolding digits
returns-clause-int c = refl

pub returns-clause-unsigned : goal.returns-clause-unsigned
unfolding digits
returns-clause-unsigned c = refl

pub returns-clause-least_long : goal.returns-clause-least_long
unfolding digits
returns-clause-least_long c = refl

pub returns-clause-greatest_ulong : goal.returns-clause-greatest_ulong
unfolding digits
returns-clause-greatest_ulong c = refl
