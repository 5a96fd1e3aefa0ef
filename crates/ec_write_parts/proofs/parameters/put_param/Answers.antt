use Rattle.ec_cwrite.proofs.Writing.{both}
use Rattle.ec_write_parts.proofs.parameters.put_param.Goals as goal

pub returns : goal.returns
returns c = both c.in_ok-put_base.ensures (both c.in_ok-push_param_name.ensures c.in_ok-put_dims.ensures)
