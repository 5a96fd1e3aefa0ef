use Rattle.std.proofs.Common.{refl}
use Rattle.std.specs.Fmt.{digits}
use Rattle.ec_expansion_defs.proofs.call_examples.program_examples.Goals as goal

pub returns-clause-query : goal.returns-clause-query
unfolding digits
returns-clause-query c = refl

pub returns-clause-handlers : goal.returns-clause-handlers
unfolding digits
returns-clause-handlers c = refl
