use Rattle.ec_sim_host_laws.proofs.reference_lemmas.ReferencesLie.{found_there}
use Rattle.ec_sim_host_laws.proofs.reference.laws.references_are_found.Goals as goal

pub returns : goal.returns
returns c = found_there
