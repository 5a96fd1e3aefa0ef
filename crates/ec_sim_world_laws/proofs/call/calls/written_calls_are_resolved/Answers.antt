use Rattle.ec_sim_world_laws.proofs.call_lemmas.CallsMade.{made, made_alone}
use Rattle.ec_sim_world_laws.proofs.call.calls.written_calls_are_resolved.Goals as goal

pub returns : goal.returns
returns c = record {
  expressions = λ at t w g is_text line call h. made c.written_arguments_are_resolved.ensures at t w g is_text line call h;
  statements = λ t w g is_text line call h. made_alone c.written_arguments_are_resolved.ensures t w g is_text line call h;
}
