use Rattle.ec_sim_program_laws.proofs.flat_lemmas.FlatSources.{source_is_flat}
use Rattle.ec_sim_program_laws.proofs.flat_lemmas.FlatTrees.{tree_is_flat}
use Rattle.ec_sim_program_laws.proofs.flat.laws.trees_are_flat.Goals as goal

pub returns : goal.returns
returns c = record {
  trees = tree_is_flat;
  sources = source_is_flat;
}
