use Rattle.ec_sim_world_laws.proofs.place_lemmas.MembersSame.{member_known}
use Rattle.ec_sim_world_laws.proofs.place.tables.members_are_those_of_the_tables.Goals as goal

pub returns : goal.returns
returns g = λ w z r k h name there e. member_known w z r k h name there e
