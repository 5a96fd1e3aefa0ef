use Rattle.ec_sim_world_laws.proofs.test_lemmas.Handlers.{tests_resolved}
use Rattle.ec_sim_world_laws.proofs.test.laws.tests_are_resolved.Goals as goal

pub returns : goal.returns
returns c = tests_resolved
