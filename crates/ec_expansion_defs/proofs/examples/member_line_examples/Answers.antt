use Rattle.std.proofs.Common.{refl}
use Rattle.std.specs.Fmt.{digits}
use Rattle.ec_expansion_defs.proofs.examples.member_line_examples.Goals as goal

pub returns-clause-declaration : goal.returns-clause-declaration
unfolding digits
returns-clause-declaration c = refl

pub returns-clause-members_over_lines : goal.returns-clause-members_over_lines
unfolding digits
returns-clause-members_over_lines c = refl

pub returns-clause-varchar_as_a_member : goal.returns-clause-varchar_as_a_member
unfolding digits
returns-clause-varchar_as_a_member c = refl

pub returns-clause-statement : goal.returns-clause-statement
unfolding digits
returns-clause-statement c = refl

pub returns-clause-condition_of_do : goal.returns-clause-condition_of_do
unfolding digits
returns-clause-condition_of_do c = refl

pub returns-clause-parameter : goal.returns-clause-parameter
unfolding digits
returns-clause-parameter c = refl

pub returns-clause-embedded : goal.returns-clause-embedded
unfolding digits
returns-clause-embedded c = refl
