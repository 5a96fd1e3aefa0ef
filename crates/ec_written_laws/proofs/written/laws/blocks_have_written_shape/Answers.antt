use Rattle.ec_written_laws.proofs.written_lemmas.Calls.{block_for_is}
use Rattle.ec_written_laws.proofs.written.laws.blocks_have_written_shape.Goals as goal

pub returns : goal.returns
returns c = block_for_is
