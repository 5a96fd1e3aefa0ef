use Rattle.ec_written_laws.proofs.bound_lemmas.TreeNumbers.{all_stand}
use Rattle.ec_written_laws.proofs.bound.laws.all_statements_stand_in_trees.Goals as goal

pub returns : goal.returns
returns c = all_stand
