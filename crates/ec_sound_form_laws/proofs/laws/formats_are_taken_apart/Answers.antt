use Rattle.ec_sound_form_laws.proofs.Formats as formats
use Rattle.ec_sound_form_laws.proofs.laws.formats_are_taken_apart.Goals as goal

pub returns : goal.returns
returns c = formats.formats_are_taken_apart
