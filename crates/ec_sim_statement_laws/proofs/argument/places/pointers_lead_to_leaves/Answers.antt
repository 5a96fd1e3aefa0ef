use Rattle.ec_sim_statement_laws.proofs.argument_lemmas.Pointers.{leaf_pointed}
use Rattle.ec_sim_statement_laws.proofs.argument.places.pointers_lead_to_leaves.Goals as goal

pub returns : goal.returns
returns g = λ at s w order structs t u l e x lies place. leaf_pointed at s w order structs lies place
