use Rattle.ec_cwrite.proofs.Writing.{both}
use Rattle.ec_write_parts.proofs.parameters.put_params.Goals as goal

pub returns : goal.returns
returns c = both c.in_ok-push_mark.ensures (both c.in_ok-put_params_inside.ensures c.in_ok-push_mark-2.ensures)
