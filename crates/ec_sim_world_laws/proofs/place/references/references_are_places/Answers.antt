use Rattle.ec_sim_world_laws.proofs.place_lemmas.ReferencesFound.{reference_placed}
use Rattle.ec_sim_world_laws.proofs.place.references.references_are_places.Goals as goal

pub returns : goal.returns
returns g = λ at s w z hosts functions r names e h typed clean ds denoted there t solid. reference_placed at s w functions names z r hosts e h typed clean ds denoted there t solid
