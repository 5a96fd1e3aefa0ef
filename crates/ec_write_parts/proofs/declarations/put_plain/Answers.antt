use Rattle.ec_cwrite.proofs.Writing.{both}
use Rattle.ec_write_parts.proofs.declarations.put_plain.Goals as goal

pub returns : goal.returns
returns c = both c.in_ok-push_line.ensures (both c.in_ok-put_decl.ensures c.in_ok-push_line_end.ensures)
