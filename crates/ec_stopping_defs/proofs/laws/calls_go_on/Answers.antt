use Rattle.ec_stopping_defs.proofs.Growing.{residual_grows}
use Rattle.ec_stopping_defs.proofs.Parts.{cut_so, waits_so, resumed_so, stepped_so, step_waits, step_resumed}
use Rattle.ec_stopping_defs.proofs.laws.calls_go_on.Goals as goal

pub returns : goal.returns
returns c = record {
  cut = λ c s. cut_so c s;
  waits = λ line u s. waits_so line u s;
  parts = λ line u a more s. resumed_so line u a more s;
  steps = λ line u s. stepped_so line u s;
  steps_wait = λ line u s. step_waits line u s;
  steps_take = λ line u a more s. step_resumed line u a more s;
  adds = λ line u s. residual_grows line u s;
}
