use Rattle.ec_written_laws.proofs.source_lemmas.SourceTokens.{tokens_are, read_shape}
use Rattle.ec_written_laws.proofs.source.laws.sources_have_source_shape.Goals as goal

pub returns : goal.returns
returns c = record { tokens = tokens_are; trees = read_shape }
