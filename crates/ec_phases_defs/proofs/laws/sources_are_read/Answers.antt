use Rattle.ec_phases_defs.proofs.OneReading.{one_tree, there_is_a_tree, one_check, one_source, there_is_a_reading}
use Rattle.ec_phases_defs.proofs.laws.sources_are_read.Goals as goal

pub returns : goal.returns
returns c = let one = c.readings_are_single.ensures in record { one_tree = one_tree one; tree = there_is_a_tree; one_check = one_check one; one = one_source one; read = there_is_a_reading }
