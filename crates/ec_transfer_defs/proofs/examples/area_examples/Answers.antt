-- Numbers in decimal digits, computed.
use Rattle.std.proofs.Common.{refl}
use Rattle.std.specs.Fmt.{digits}
use Rattle.ec_transfer_defs.proofs.examples.area_examples.Goals as goal

pub returns-clause-raised_code : goal.returns-clause-raised_code
unfolding digits
returns-clause-raised_code c = refl

pub returns-clause-raised_message : goal.returns-clause-raised_message
unfolding digits
returns-clause-raised_message c = refl

pub returns-clause-raised_state : goal.returns-clause-raised_state
unfolding digits
returns-clause-raised_state c = refl

pub returns-clause-long_message : goal.returns-clause-long_message
unfolding digits
returns-clause-long_message c = refl

pub returns-clause-longer_message : goal.returns-clause-longer_message
unfolding digits
returns-clause-longer_message c = refl
