use Rattle.ec_sound_defs.specs.Sound.{no_atoms}
use Rattle.ec_sound_form_laws.proofs.Forms.{binary_is, element_is, assigned_is, read_is, unary_is, cast_is, assignment_is, compound_is}
use Rattle.ec_sound_form_laws.proofs.laws.operators_are_typed.Goals as goal

pub returns-clause-binary : goal.returns-clause-binary
returns-clause-binary c = λ signatures n. binary_is signatures no_atoms n

pub returns-clause-element : goal.returns-clause-element
returns-clause-element c = λ signatures n. element_is signatures no_atoms n

pub returns-clause-assigned : goal.returns-clause-assigned
returns-clause-assigned c = λ signatures n. assigned_is signatures no_atoms n

pub returns-clause-read : goal.returns-clause-read
returns-clause-read c = λ signatures n. read_is signatures no_atoms n

pub returns-clause-unary : goal.returns-clause-unary
returns-clause-unary c = λ signatures n. unary_is signatures no_atoms n

pub returns-clause-cast : goal.returns-clause-cast
returns-clause-cast c = λ signatures n. cast_is signatures no_atoms n

pub returns-clause-assignment : goal.returns-clause-assignment
returns-clause-assignment c = λ signatures n. assignment_is signatures no_atoms n

pub returns-clause-compound : goal.returns-clause-compound
returns-clause-compound c = λ signatures n. compound_is signatures no_atoms n
