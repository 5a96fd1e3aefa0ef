use Rattle.std.proofs.Common.{refl}
use Rattle.std.specs.Fmt.{digits}
use Rattle.ec_expansion_defs.proofs.call_examples.prepared_examples.Goals as goal

pub returns-clause-prepares : goal.returns-clause-prepares
unfolding digits
returns-clause-prepares c = refl

pub returns-clause-deallocates : goal.returns-clause-deallocates
unfolding digits
returns-clause-deallocates c = refl

pub returns-clause-at_once : goal.returns-clause-at_once
unfolding digits
returns-clause-at_once c = refl

pub returns-clause-executes : goal.returns-clause-executes
unfolding digits
returns-clause-executes c = refl

pub returns-clause-declares : goal.returns-clause-declares
unfolding digits
returns-clause-declares c = refl

pub returns-clause-opens : goal.returns-clause-opens
unfolding digits
returns-clause-opens c = refl

pub returns-clause-opens_prepared : goal.returns-clause-opens_prepared
unfolding digits
returns-clause-opens_prepared c = refl
