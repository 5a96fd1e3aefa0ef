use Rattle.ec_sim_world_laws.proofs.place_lemmas.HostsLead.{text_leads}
use Rattle.ec_sim_world_laws.proofs.place.hosts.texts_lead_to_their_places.Goals as goal

pub returns : goal.returns
returns g = λ at s w z hosts functions r names e x h named there is n. text_leads at s w z hosts functions r names e x h named there is n
