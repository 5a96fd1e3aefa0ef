use Rattle.ec_sim_statement_laws.proofs.statement_lemmas.Done.{done_same}
use Rattle.ec_sim_statement_laws.proofs.statement.laws.calls_do_what_statements_do.Goals as goal

pub returns : goal.returns
returns c = λ structs line x h s. done_same structs line x h s
