use Rattle.ec_sim_host_laws.proofs.pointer_lemmas.Kept.{rules_kept}
use Rattle.ec_sim_host_laws.proofs.pointer.laws.rules_are_kept.Goals as goal

pub returns : goal.returns
returns c = rules_kept
