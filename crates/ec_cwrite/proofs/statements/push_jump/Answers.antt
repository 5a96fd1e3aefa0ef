use Rattle.ec_cwrite.proofs.Writing.{both}
use Rattle.ec_cwrite.proofs.statements.push_jump.Goals as goal

pub returns : goal.returns
returns c = both c.in_ok-push_word.ensures c.in_ok-push_semicolon.ensures
