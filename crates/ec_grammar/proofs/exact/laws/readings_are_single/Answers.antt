use Rattle.ec_grammar.proofs.exact_lemmas.OneReading.{one_reading}
use Rattle.ec_grammar.proofs.exact.laws.readings_are_single.Goals as goal

pub returns : goal.returns
returns c = one_reading
