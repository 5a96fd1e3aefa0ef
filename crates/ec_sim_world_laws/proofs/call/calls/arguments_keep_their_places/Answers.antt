use Rattle.ec_sim_world_laws.proofs.call_lemmas.Placed.{arguments_placed}
use Rattle.ec_sim_world_laws.proofs.call.calls.arguments_keep_their_places.Goals as goal

pub returns : goal.returns
returns g = λ f line c. arguments_placed f line c
