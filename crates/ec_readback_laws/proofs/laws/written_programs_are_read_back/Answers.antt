use Rattle.ec_readback_laws.proofs.ReadBack.{has_tree, is_read_back, alone_read}
use Rattle.ec_readback_laws.proofs.laws.written_programs_are_read_back.Goals as goal

pub returns : goal.returns
returns c = record { read = is_read_back; aside = has_tree; alone = alone_read }
