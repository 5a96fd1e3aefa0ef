use Rattle.ec_cwrite.proofs.Writing.{both}
use Rattle.ec_cwrite.proofs.programs.push_include_top.Goals as goal

pub returns : goal.returns
returns c = both c.in_ok-push_include.ensures c.in_ok-push_line_end.ensures
