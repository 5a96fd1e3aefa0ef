use Rattle.ec_sim_world_laws.proofs.test.laws.the_area_is_known.Goals as goal

pub returns : goal.returns
returns c = λ written u w g. record { structs = g.structs }
