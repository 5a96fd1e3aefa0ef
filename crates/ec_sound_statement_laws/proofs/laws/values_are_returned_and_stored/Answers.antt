use Rattle.ec_sound_defs.specs.Sound.{no_atoms}
use Rattle.ec_sound_statement_laws.proofs.Values.{nothing_returned, returned_is, single_is, part_is}
use Rattle.ec_sound_statement_laws.proofs.laws.values_are_returned_and_stored.Goals as goal

pub returns-clause-nothing : goal.returns-clause-nothing
returns-clause-nothing c = nothing_returned

pub returns-clause-returned : goal.returns-clause-returned
returns-clause-returned c = λ gs n. returned_is gs no_atoms n

pub returns-clause-values : goal.returns-clause-values
returns-clause-values c = λ gs n. single_is gs no_atoms n

pub returns-clause-parts : goal.returns-clause-parts
returns-clause-parts c = λ gs n. part_is gs no_atoms n
