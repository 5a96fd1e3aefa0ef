use Rattle.ec_sound_program_laws.proofs.Starting.{start_is_known}
use Rattle.ec_sound_program_laws.proofs.laws.starts_are_known.Goals as goal

pub returns : goal.returns
returns c = start_is_known
