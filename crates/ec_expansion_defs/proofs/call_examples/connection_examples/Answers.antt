use Rattle.std.proofs.Common.{refl}
use Rattle.std.specs.Fmt.{digits}
use Rattle.ec_expansion_defs.proofs.call_examples.connection_examples.Goals as goal

pub returns-clause-connects : goal.returns-clause-connects
unfolding digits
returns-clause-connects c = refl

pub returns-clause-named : goal.returns-clause-named
unfolding digits
returns-clause-named c = refl

pub returns-clause-current : goal.returns-clause-current
unfolding digits
returns-clause-current c = refl

pub returns-clause-disconnects : goal.returns-clause-disconnects
unfolding digits
returns-clause-disconnects c = refl

pub returns-clause-commits_by_itself : goal.returns-clause-commits_by_itself
unfolding digits
returns-clause-commits_by_itself c = refl

pub returns-clause-commits_when_told : goal.returns-clause-commits_when_told
unfolding digits
returns-clause-commits_when_told c = refl

pub returns-clause-control : goal.returns-clause-control
unfolding digits
returns-clause-control c = refl
