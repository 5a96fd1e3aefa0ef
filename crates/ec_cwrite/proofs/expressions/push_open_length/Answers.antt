use Rattle.ec_cwrite.proofs.Writing.{both}
use Rattle.ec_cwrite.proofs.expressions.push_open_length.Goals as goal

pub returns : goal.returns
returns c = both c.in_ok-push_mark.ensures c.in_ok-push_mark-2.ensures
