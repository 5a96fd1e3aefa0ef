use Rattle.ec_sim_host_laws.proofs.table_lemmas.Found.{types_fit}
use Rattle.ec_sim_host_laws.proofs.table.laws.types_are_within_limits.Goals as goal

pub returns : goal.returns
returns c = λ u shape none have. types_fit u shape none
