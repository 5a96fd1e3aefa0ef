use Rattle.std.proofs.Common.{refl}
use Rattle.std.specs.Fmt.{digits}
use Rattle.ec_writing_defs.proofs.examples.declaration_examples.Goals as goal

pub returns-clause-several : goal.returns-clause-several
unfolding digits
returns-clause-several c = refl

pub returns-clause-braces : goal.returns-clause-braces
unfolding digits
returns-clause-braces c = refl
