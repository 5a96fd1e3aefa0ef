use Rattle.std.proofs.Common.{refl}
use Rattle.std.specs.Fmt.{digits}
use Rattle.ec_expansion_defs.proofs.examples.handler_examples.Goals as goal

pub returns-clause-in_order : goal.returns-clause-in_order
unfolding digits
returns-clause-in_order c = refl

pub returns-clause-continue_is_nothing : goal.returns-clause-continue_is_nothing
unfolding digits
returns-clause-continue_is_nothing c = refl

pub returns-clause-one_goes_to : goal.returns-clause-one_goes_to
unfolding digits
returns-clause-one_goes_to c = refl

pub returns-clause-warning_prints : goal.returns-clause-warning_prints
unfolding digits
returns-clause-warning_prints c = refl

pub returns-clause-error_breaks : goal.returns-clause-error_breaks
unfolding digits
returns-clause-error_breaks c = refl

pub returns-clause-error_goes_on : goal.returns-clause-error_goes_on
unfolding digits
returns-clause-error_goes_on c = refl

pub returns-clause-error_calls : goal.returns-clause-error_calls
unfolding digits
returns-clause-error_calls c = refl
