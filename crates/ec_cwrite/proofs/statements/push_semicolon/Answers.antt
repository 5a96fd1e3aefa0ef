use Rattle.ec_cwrite.proofs.Writing.{both}
use Rattle.ec_cwrite.proofs.statements.push_semicolon.Goals as goal

pub returns : goal.returns
returns c = both c.in_ok-push_mark.ensures c.in_ok-push_line_end.ensures
