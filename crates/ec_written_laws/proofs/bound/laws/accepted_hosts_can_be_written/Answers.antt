use Rattle.ec_written_laws.proofs.bound_lemmas.Bounds.{accepted_written}
use Rattle.ec_written_laws.proofs.bound.laws.accepted_hosts_can_be_written.Goals as goal

pub returns : goal.returns
returns c = accepted_written c.sources_have_source_shape.ensures.tokens c.derived_trees_have_source_shape.ensures
