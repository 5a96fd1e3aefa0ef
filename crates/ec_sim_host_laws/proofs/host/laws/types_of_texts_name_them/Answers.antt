use Rattle.ec_sim_host_laws.proofs.host_lemmas.TextsNamed.{texts_named}
use Rattle.ec_sim_host_laws.proofs.host.laws.types_of_texts_name_them.Goals as goal

pub returns : goal.returns
returns c = λ z varchars t e. texts_named z varchars t e
