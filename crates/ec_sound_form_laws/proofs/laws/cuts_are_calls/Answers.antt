use Rattle.ec_sound_form_laws.proofs.Lists as lists
use Rattle.ec_sound_form_laws.proofs.laws.cuts_are_calls.Goals as goal

pub returns : goal.returns
returns c = lists.cuts_are_calls
