use Rattle.ec_sim_host_laws.proofs.table_lemmas.Found.{varchars_are}
use Rattle.ec_sim_host_laws.proofs.table.laws.varchars_have_their_members.Goals as goal

pub returns : goal.returns
returns c = varchars_are
