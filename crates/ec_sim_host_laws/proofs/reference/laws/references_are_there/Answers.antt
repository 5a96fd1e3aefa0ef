use Rattle.ec_sim_host_laws.proofs.reference_lemmas.ReferencesLie.{found_itself}
use Rattle.ec_sim_host_laws.proofs.reference.laws.references_are_there.Goals as goal

pub returns : goal.returns
returns c = found_itself
