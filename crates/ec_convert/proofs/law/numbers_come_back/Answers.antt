-- The digits of a number are read back.
use Rattle.ec_convert.proofs.BackAgain.{back_again}
use Rattle.ec_convert.proofs.law.numbers_come_back.Goals as goal

pub returns : goal.returns
returns c = back_again
