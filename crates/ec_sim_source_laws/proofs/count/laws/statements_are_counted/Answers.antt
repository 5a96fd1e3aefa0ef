use Rattle.ec_sim_source_laws.proofs.count_lemmas.Statements.{statements_counted}
use Rattle.ec_sim_source_laws.proofs.count.laws.statements_are_counted.Goals as goal

pub returns : goal.returns
returns c = statements_counted c.references_are_places.ensures
