use Rattle.ec_sim_statement_laws.proofs.statement_lemmas.Tests.{tests_same}
use Rattle.ec_sim_statement_laws.proofs.statement.laws.tests_do_what_handlers_do.Goals as goal

pub returns : goal.returns
returns g = λ step w c line actions s. tests_same step w c line actions s
