use Rattle.std.proofs.Common.{refl}
use Rattle.std.specs.Fmt.{digits}
use Rattle.ec_writing_defs.proofs.examples.expression_examples.Goals as goal

pub returns-clause-suffixes : goal.returns-clause-suffixes
unfolding digits
returns-clause-suffixes c = refl

pub returns-clause-called : goal.returns-clause-called
unfolding digits
returns-clause-called c = refl
