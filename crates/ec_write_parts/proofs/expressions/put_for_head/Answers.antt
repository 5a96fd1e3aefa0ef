use Rattle.ec_cwrite.proofs.Writing.{both}
use Rattle.ec_write_parts.proofs.expressions.put_for_head.Goals as goal

pub returns : goal.returns
returns c = both (both c.in_ok-push_mark.ensures (both c.in_ok-put_option.ensures c.in_ok-push_mark-2.ensures)) (both c.in_ok-push_blank.ensures (both c.in_ok-put_option-2.ensures (both c.in_ok-push_mark-3.ensures (both c.in_ok-push_blank-2.ensures (both c.in_ok-put_option-3.ensures c.in_ok-push_mark-4.ensures)))))
