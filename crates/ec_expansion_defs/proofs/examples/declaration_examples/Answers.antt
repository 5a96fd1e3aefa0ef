use Rattle.std.proofs.Common.{refl}
use Rattle.std.specs.Fmt.{digits}
use Rattle.ec_expansion_defs.proofs.examples.declaration_examples.Goals as goal

pub returns-clause-section : goal.returns-clause-section
unfolding digits
returns-clause-section c = refl

pub returns-clause-in_place : goal.returns-clause-in_place
unfolding digits
returns-clause-in_place c = refl

pub returns-clause-varchar : goal.returns-clause-varchar
unfolding digits
returns-clause-varchar c = refl

pub returns-clause-lower_case : goal.returns-clause-lower_case
unfolding digits
returns-clause-lower_case c = refl

pub returns-clause-two_varchars : goal.returns-clause-two_varchars
unfolding digits
returns-clause-two_varchars c = refl

pub returns-clause-array_of_varchars : goal.returns-clause-array_of_varchars
unfolding digits
returns-clause-array_of_varchars c = refl

pub returns-clause-initialized : goal.returns-clause-initialized
unfolding digits
returns-clause-initialized c = refl

pub returns-clause-members : goal.returns-clause-members
unfolding digits
returns-clause-members c = refl

pub returns-clause-in_a_block : goal.returns-clause-in_a_block
unfolding digits
returns-clause-in_a_block c = refl
