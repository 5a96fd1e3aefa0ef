use Rattle.ec_sound_program_laws.proofs.Bodies.{body_is_sound}
use Rattle.ec_sound_program_laws.proofs.laws.bodies_are_sound.Goals as goal

pub returns : goal.returns
returns c = λ gs calls written es r ss n s w typed h p known scope found shallow front. body_is_sound gs calls written es r ss n s w typed h p known scope found shallow front
