use Rattle.ec_sound_text_laws.proofs.Texts.{text_read}
use Rattle.ec_sound_text_laws.proofs.laws.texts_are_read.Goals as goal

pub returns : goal.returns
returns c = text_read
