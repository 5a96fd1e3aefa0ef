use Rattle.ec_cwrite.proofs.Writing.{both}
use Rattle.ec_cwrite.proofs.statements.push_decl_stmt.Goals as goal

pub returns : goal.returns
returns c = both c.in_ok-push_decl.ensures c.in_ok-push_line_end.ensures
