use Rattle.ec_cwrite.proofs.Writing.{both}
use Rattle.ec_write_parts.proofs.expressions.put_return.Goals as goal

pub returns : goal.returns
returns c = both c.in_ok-push_word.ensures (both c.in_ok-put_value.ensures c.in_ok-push_semicolon.ensures)
