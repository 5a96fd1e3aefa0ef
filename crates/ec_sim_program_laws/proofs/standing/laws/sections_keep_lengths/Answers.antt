use Rattle.ec_sim_program_laws.proofs.standing_lemmas.Lengths.{unit_lengths}
use Rattle.ec_sim_program_laws.proofs.standing.laws.sections_keep_lengths.Goals as goal

pub returns : goal.returns
returns c = unit_lengths
