use Rattle.ec_sim_statement_laws.proofs.argument_lemmas.BoundSame.{call_same}
use Rattle.ec_sim_statement_laws.proofs.argument.bound.calls_are_those_of_their_places.Goals as goal

pub returns : goal.returns
returns h = λ p g prepared d rs e x at_is is. call_same p g prepared d rs e x at_is is
