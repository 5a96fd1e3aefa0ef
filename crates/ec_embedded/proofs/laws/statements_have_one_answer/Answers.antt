use Rattle.ec_embedded.proofs.OneAnswer.{answered, one_answer, piece_answered, one_of_piece}
use Rattle.ec_embedded.proofs.laws.statements_have_one_answer.Goals as goal

pub returns : goal.returns
returns c = record { answered = answered; one = one_answer; piece = piece_answered; one_of_piece = one_of_piece }
