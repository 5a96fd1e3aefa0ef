use Rattle.ec_sim_world_laws.proofs.place_lemmas.HostsLead.{host_leads}
use Rattle.ec_sim_world_laws.proofs.place.hosts.hosts_lead_to_their_places.Goals as goal

pub returns : goal.returns
returns g = λ at s w z hosts functions r names h x a. host_leads at s w z hosts functions r names h x a
