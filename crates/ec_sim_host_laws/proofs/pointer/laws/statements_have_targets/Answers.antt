use Rattle.ec_sim_host_laws.proofs.pointer_lemmas.Stand.{have_targets}
use Rattle.ec_sim_host_laws.proofs.pointer.laws.statements_have_targets.Goals as goal

pub returns : goal.returns
returns c = have_targets (record {
  references = c.references_are_places.ensures;
  lie = c.leaves_lie_in_their_hosts.ensures;
  members = c.members_are_those_of_the_tables.ensures;
})
