use Rattle.ec_sim_host_laws.proofs.table_lemmas.Found.{tables_sound}
use Rattle.ec_sim_host_laws.proofs.table.laws.tables_are_sound.Goals as goal

pub returns : goal.returns
returns c = tables_sound
