use Rattle.ec_sim_program_laws.proofs.standing_lemmas.Standing.{unit_stands}
use Rattle.ec_sim_program_laws.proofs.standing.laws.shapes_stand.Goals as goal

pub returns : goal.returns
returns c = unit_stands
