use Rattle.ec_language.proofs.FirstLemmas.{numbered_stops}
use Rattle.ec_language.proofs.first_examples.tokens_stop_at_the_first.Goals as goal

pub returns : goal.returns
returns c = record { first = numbered_stops 0 }
