use Rattle.ec_phases_defs.proofs.written_lemmas.OneReading.{one_reading, there_is_a_reading}
use Rattle.ec_phases_defs.proofs.written.laws.written_is_read.Goals as goal

pub returns : goal.returns
returns c = record { one = one_reading c.readings_are_single.ensures; read = there_is_a_reading }
