use Rattle.ec_sim_world_laws.specs.place.References.{tables_of}
use Rattle.ec_sim_host_laws.proofs.host_lemmas.HostsWalk.{parts_lead}
use Rattle.ec_sim_host_laws.proofs.host.laws.parts_lead_to_their_places.Goals as goal

pub returns : goal.returns
returns c = λ at s w z hosts functions within names parts x h. parts_lead at s w (tables_of z hosts functions)
    (c.hosts_lead_to_their_places.ensures at s w z hosts functions within names) parts x
    (record { references = h.references; without_fault = h.without_fault })
