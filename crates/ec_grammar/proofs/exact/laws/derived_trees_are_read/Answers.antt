use Rattle.ec_grammar.proofs.exact_lemmas.LimitsAside.{one_derived, derived_read}
use Rattle.ec_grammar.proofs.exact.laws.derived_trees_are_read.Goals as goal

pub returns : goal.returns
returns c = record { single = λ ts u v d e. one_derived _ u v d e; read = derived_read }
