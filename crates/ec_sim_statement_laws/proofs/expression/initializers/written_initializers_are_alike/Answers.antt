use Rattle.ec_sim_statement_laws.proofs.expression_lemmas.AlikeInitializers.{initializer_alike}
use Rattle.ec_sim_statement_laws.proofs.expression.initializers.written_initializers_are_alike.Goals as goal

pub returns : goal.returns
returns c = λ expressions at there n global t i h. initializer_alike expressions at there n global t i h
