use Rattle.ec_sim_world_laws.proofs.place_lemmas.HostsLead.{element_is_one}
use Rattle.ec_sim_world_laws.proofs.place.hosts.elements_are_one_leaf.Goals as goal

pub returns : goal.returns
returns g = λ structs t i e. element_is_one structs t i e
