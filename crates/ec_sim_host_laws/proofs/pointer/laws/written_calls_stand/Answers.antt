use Rattle.ec_sim_host_laws.proofs.pointer_lemmas.Stand.{calls_stand}
use Rattle.ec_sim_host_laws.proofs.pointer.laws.written_calls_stand.Goals as goal

pub returns : goal.returns
returns c = calls_stand (record {
  references = c.references_are_places.ensures;
  lie = c.leaves_lie_in_their_hosts.ensures;
  members = c.members_are_those_of_the_tables.ensures;
})
