use Rattle.std.proofs.Common.{refl}
use Rattle.std.specs.Fmt.{digits}
use Rattle.ec_writing_defs.proofs.examples.program_example.Goals as goal

pub returns-clause-no_parameters : goal.returns-clause-no_parameters
unfolding digits
returns-clause-no_parameters c = refl

pub returns-clause-parameters : goal.returns-clause-parameters
unfolding digits
returns-clause-parameters c = refl

pub returns-clause-body : goal.returns-clause-body
unfolding digits
returns-clause-body c = refl

pub returns-clause-text : goal.returns-clause-text
unfolding digits
returns-clause-text c = refl
