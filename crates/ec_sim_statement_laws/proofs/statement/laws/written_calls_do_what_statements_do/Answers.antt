use Rattle.ec_sim_statement_laws.proofs.statement_lemmas.Kept.{called_same}
use Rattle.ec_sim_statement_laws.proofs.statement.laws.written_calls_do_what_statements_do.Goals as goal

pub returns : goal.returns
returns g = λ step w c structs line x e h s. called_same step w c structs line x e h s
