use Rattle.ec_sim_statement_laws.proofs.argument_lemmas.AllArguments.{all_resolved}
use Rattle.ec_sim_statement_laws.proofs.argument.arguments.written_arguments_are_resolved.Goals as goal

pub returns : goal.returns
returns g = λ at s w f written h r. all_resolved at s w f written h r
