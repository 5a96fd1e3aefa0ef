use Rattle.ec_cwrite.proofs.Writing.{both}
use Rattle.ec_write_parts.proofs.expressions.put_expr_stmt.Goals as goal

pub returns : goal.returns
returns c = both c.in_ok-put_expr.ensures c.in_ok-push_semicolon.ensures
