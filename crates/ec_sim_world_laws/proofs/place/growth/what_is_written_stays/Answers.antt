use Rattle.ec_sim_world_laws.proofs.place_lemmas.AlikeStays.{closed_alike, within_alike, names_alike}
use Rattle.ec_sim_world_laws.proofs.place.growth.what_is_written_stays.Goals as goal

pub returns-clause-closed : goal.returns-clause-closed
returns-clause-closed g = λ w v a h. closed_alike w v a h

pub returns-clause-within : goal.returns-clause-within
returns-clause-within g = λ w v a z r. within_alike w v a z r

pub returns-clause-names : goal.returns-clause-names
returns-clause-names g = λ w v a functions h. names_alike w v a functions h
