use Rattle.std.proofs.Common.{refl}
use Rattle.std.specs.Fmt.{digits}
use Rattle.ec_expansion_defs.proofs.call_examples.server_examples.Goals as goal

pub returns-clause-no_hosts : goal.returns-clause-no_hosts
unfolding digits
returns-clause-no_hosts c = refl

pub returns-clause-connection : goal.returns-clause-connection
unfolding digits
returns-clause-connection c = refl

pub returns-clause-connection_in_a_variable : goal.returns-clause-connection_in_a_variable
unfolding digits
returns-clause-connection_in_a_variable c = refl

pub returns-clause-both_lists : goal.returns-clause-both_lists
unfolding digits
returns-clause-both_lists c = refl

pub returns-clause-descriptor : goal.returns-clause-descriptor
unfolding digits
returns-clause-descriptor c = refl
