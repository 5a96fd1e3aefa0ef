use Rattle.ec_sound_text_laws.proofs.Steps.{derived_read}
use Rattle.ec_sound_text_laws.proofs.Tokens.{tokens_read}
use Rattle.ec_sound_text_laws.proofs.laws.trees_are_read.Goals as goal

pub returns-clause-trees : goal.returns-clause-trees
returns-clause-trees c = derived_read

pub returns-clause-tokens : goal.returns-clause-tokens
returns-clause-tokens c = tokens_read
