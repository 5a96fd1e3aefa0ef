use Rattle.ec_sim_statement_laws.proofs.statement_lemmas.Keeping.{settled_tidy}
use Rattle.ec_sim_statement_laws.proofs.statement.laws.statements_make_no_object.Goals as goal

pub returns : goal.returns
returns g = λ structs line messages x s. settled_tidy structs line messages x s
