use Rattle.ec_cwrite.proofs.Writing.{both}
use Rattle.ec_write_parts.proofs.expressions.put_condition.Goals as goal

pub returns : goal.returns
returns c = both c.in_ok-push_blank.ensures (both c.in_ok-push_mark.ensures (both c.in_ok-put_expr.ensures c.in_ok-push_mark-2.ensures))
