use Rattle.ec_sim_world_laws.proofs.place_lemmas.TablesSame.{shape_same}
use Rattle.ec_sim_world_laws.proofs.place_lemmas.MembersSame.{size_same}
use Rattle.ec_sim_world_laws.proofs.place.tables.sizes_are_those_of_the_tables.Goals as goal

pub returns-clause-shapes : goal.returns-clause-shapes
returns-clause-shapes g = λ w z r t h. shape_same w z r t h

pub returns-clause-sizes : goal.returns-clause-sizes
returns-clause-sizes g = λ w z r t h. size_same w z r t h
