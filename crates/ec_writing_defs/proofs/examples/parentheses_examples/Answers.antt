use Rattle.std.proofs.Common.{refl}
use Rattle.std.specs.Fmt.{digits}
use Rattle.ec_writing_defs.proofs.examples.parentheses_examples.Goals as goal

pub returns-clause-member_of_integer : goal.returns-clause-member_of_integer
unfolding digits
returns-clause-member_of_integer c = refl

pub returns-clause-arrow_of_integer : goal.returns-clause-arrow_of_integer
unfolding digits
returns-clause-arrow_of_integer c = refl
