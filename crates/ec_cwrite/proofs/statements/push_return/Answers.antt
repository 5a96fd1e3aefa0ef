use Rattle.ec_cwrite.proofs.Writing.{both}
use Rattle.ec_cwrite.proofs.statements.push_return.Goals as goal

pub returns : goal.returns
returns c = both c.in_ok-push_word.ensures (both c.in_ok-push_value.ensures c.in_ok-push_semicolon.ensures)
