use Rattle.ec_sim_world_laws.proofs.call_lemmas.Faultless.{pointer_seen, pointers_seen}
use Rattle.ec_sim_world_laws.proofs.call.pointers.pointers_are_seen.Goals as goal

pub returns : goal.returns
returns c = record {
  one = λ at s w e t x p h. pointer_seen at s w e t x p h;
  all = λ at s w g xs h p. pointers_seen at s w g xs h p;
}
