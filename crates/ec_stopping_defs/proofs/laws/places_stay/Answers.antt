use Rattle.ec_stopping_defs.proofs.Staying.{stays, still_within, next, next_within, next_answer}
use Rattle.ec_stopping_defs.proofs.laws.places_stay.Goals as goal

pub returns : goal.returns
returns c = record {
  stays = λ log more places h. stays log more places h;
  still_within = λ log more places h. still_within log more places h;
  next = λ log x places h. next log x places h;
  next_within = λ log x places h. next_within log x places h;
  answers = λ log x places h. next_answer log x places h;
}
