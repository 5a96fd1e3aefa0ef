use Rattle.ec_read_statement.proofs.FormsDecided.{all_decided}
use Rattle.ec_read_statement.proofs.laws.forms_are_decided.Goals as goal

pub returns : goal.returns
returns c = all_decided
