use Rattle.ec_sound_statement_laws.proofs.Labels.{labels_stand}
use Rattle.ec_sound_statement_laws.proofs.laws.labels_are_there.Goals as goal

pub returns : goal.returns
returns c = labels_stand
