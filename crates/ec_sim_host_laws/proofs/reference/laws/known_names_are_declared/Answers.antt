use Rattle.ec_sim_host_laws.proofs.reference_lemmas.KnownNames.{names_known}
use Rattle.ec_sim_host_laws.proofs.reference.laws.known_names_are_declared.Goals as goal

pub returns : goal.returns
returns c = names_known
