use Rattle.ec_sim_program_laws.proofs.standing_lemmas.Sources.{source_stands}
use Rattle.ec_sim_program_laws.proofs.standing.laws.sources_stand.Goals as goal

pub returns : goal.returns
returns c = source_stands
