use Rattle.ec_sound_program_laws.proofs.Programs.{program_is_sound}
use Rattle.ec_sound_program_laws.proofs.laws.programs_are_sound.Goals as goal

pub returns : goal.returns
returns c = λ written u h p clean shallow. program_is_sound written u h p clean shallow
