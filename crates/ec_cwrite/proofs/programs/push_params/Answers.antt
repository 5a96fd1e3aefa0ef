use Rattle.ec_cwrite.proofs.Writing.{both}
use Rattle.ec_cwrite.proofs.programs.push_params.Goals as goal

pub returns : goal.returns
returns c = both c.in_ok-push_mark.ensures (both c.in_ok-push_params_inside.ensures c.in_ok-push_mark-2.ensures)
