use Rattle.ec_sim_world_laws.proofs.known_lemmas.WorldsKept.{worlds_keep}
use Rattle.ec_sim_world_laws.proofs.known.worlds.worlds_are_kept.Goals as goal

pub returns : goal.returns
returns c = worlds_keep
