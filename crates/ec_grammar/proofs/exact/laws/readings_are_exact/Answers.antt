use Rattle.ec_grammar.proofs.exact_lemmas.Answered.{exact_answer, only_answer}
use Rattle.ec_grammar.proofs.exact.laws.readings_are_exact.Goals as goal

pub returns : goal.returns
returns c = record { answered = exact_answer; one_answer = only_answer }
