use Rattle.ec_cwrite.proofs.Writing.{both}
use Rattle.ec_cwrite.proofs.statements.push_if_head.Goals as goal

pub returns : goal.returns
returns c = both c.in_ok-push_word.ensures (both c.in_ok-push_condition.ensures c.in_ok-push_line_end.ensures)
