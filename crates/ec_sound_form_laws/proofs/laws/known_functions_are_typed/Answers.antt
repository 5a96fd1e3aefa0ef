use Rattle.ec_sound_form_laws.proofs.Known.{known_is}
use Rattle.ec_sound_form_laws.proofs.laws.known_functions_are_typed.Goals as goal

pub returns : goal.returns
returns c = known_is
