use Rattle.ec_written_laws.proofs.source_lemmas.Steps.{derived_shape}
use Rattle.ec_written_laws.proofs.source.laws.derived_trees_have_source_shape.Goals as goal

pub returns : goal.returns
returns c = derived_shape
