use Rattle.ec_sim_source_laws.proofs.object_lemmas.Cursors.{cursors_of_objects}
use Rattle.ec_sim_source_laws.proofs.object.laws.cursors_are_of_objects.Goals as goal

pub returns : goal.returns
returns c = cursors_of_objects
