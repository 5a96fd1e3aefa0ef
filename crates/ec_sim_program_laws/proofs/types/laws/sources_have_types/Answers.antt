use Rattle.ec_sim_program_laws.proofs.types_lemmas.Sources.{all_have_types}
use Rattle.ec_sim_program_laws.proofs.types.laws.sources_have_types.Goals as goal

pub returns : goal.returns
returns c = all_have_types
