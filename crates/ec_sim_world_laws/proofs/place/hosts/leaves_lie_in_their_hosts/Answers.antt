use Rattle.ec_sim_world_laws.proofs.place_lemmas.LeavesLie.{leaves_lie}
use Rattle.ec_sim_world_laws.proofs.place.hosts.leaves_lie_in_their_hosts.Goals as goal

pub returns : goal.returns
returns g = λ w z r t h ls e. leaves_lie w z r t h ls e
