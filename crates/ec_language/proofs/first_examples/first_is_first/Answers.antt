use Rattle.ec_language.proofs.FirstLemmas.{first_is, first_is_none}
use Rattle.ec_language.proofs.first_examples.first_is_first.Goals as goal

pub returns-clause-some : goal.returns-clause-some
returns-clause-some c = first_is

pub returns-clause-none : goal.returns-clause-none
returns-clause-none c = first_is_none
