use Rattle.ec_cwrite.proofs.Writing.{both}
use Rattle.ec_cwrite.proofs.statements.push_goto.Goals as goal

pub returns : goal.returns
returns c = both c.in_ok-push_word.ensures (both c.in_ok-push_blank.ensures (both c.in_ok-push_word-2.ensures c.in_ok-push_semicolon.ensures))
