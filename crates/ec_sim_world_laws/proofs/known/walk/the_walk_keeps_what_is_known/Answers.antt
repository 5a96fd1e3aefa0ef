use Rattle.ec_sim_world_laws.proofs.known_lemmas.WalkKept.{walk_keeps}
use Rattle.ec_sim_world_laws.proofs.known.walk.the_walk_keeps_what_is_known.Goals as goal

pub returns : goal.returns
returns c = walk_keeps
