use Rattle.ec_cwrite.proofs.Writing.{both}
use Rattle.ec_cwrite.proofs.programs.push_stars_and_name.Goals as goal

pub returns : goal.returns
returns c = both c.in_ok-push_blank.ensures (both c.in_ok-push_stars.ensures c.in_ok-push_word.ensures)
