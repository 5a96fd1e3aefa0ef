use Rattle.ec_sound_statement_laws.proofs.Functions.{all_made, names_stay}
use Rattle.ec_sound_statement_laws.proofs.Places.{names_have_places, main_stands}
use Rattle.ec_sound_statement_laws.proofs.laws.functions_have_their_places.Goals as goal

pub returns-clause-made : goal.returns-clause-made
returns-clause-made c = all_made

pub returns-clause-names : goal.returns-clause-names
returns-clause-names c = names_stay

pub returns-clause-places : goal.returns-clause-places
returns-clause-places c = names_have_places

pub returns-clause-main : goal.returns-clause-main
returns-clause-main c = main_stands
