use Rattle.ec_cwrite.proofs.Writing.{both}
use Rattle.ec_cwrite.proofs.programs.push_func_top.Goals as goal

pub returns : goal.returns
returns c = both c.in_ok-push_line.ensures (both c.in_ok-push_func.ensures c.in_ok-push_line_end.ensures)
