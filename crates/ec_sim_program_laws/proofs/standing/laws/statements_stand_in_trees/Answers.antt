use Rattle.ec_sim_program_laws.proofs.standing_lemmas.Tokens.{source_there}
use Rattle.ec_sim_program_laws.proofs.standing.laws.statements_stand_in_trees.Goals as goal

pub returns : goal.returns
returns c = source_there
