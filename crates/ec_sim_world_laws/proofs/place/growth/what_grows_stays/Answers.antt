use Rattle.ec_sim_world_laws.proofs.place_lemmas.GrowthStays.{grown}
use Rattle.ec_sim_world_laws.proofs.place.growth.what_grows_stays.Goals as goal

pub returns : goal.returns
returns g = λ w z grows here there. grown w z grows here there
