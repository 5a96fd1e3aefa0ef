use Rattle.ec_sim_host_laws.proofs.cursor_lemmas.Again.{found_again}
use Rattle.ec_sim_host_laws.proofs.cursor.laws.references_are_found_again.Goals as goal

pub returns : goal.returns
returns c = found_again
