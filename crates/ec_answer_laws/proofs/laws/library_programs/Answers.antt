use Rattle.ec_call_defs.specs.Steps.{library_step}
use Rattle.ec_call_defs.proofs.library_step_lemmas.Keeping.{library_takes_answers}
use Rattle.ec_answer_laws.proofs.More.{unchanged, goes_on}
use Rattle.ec_answer_laws.proofs.laws.library_programs.Goals as goal

pub returns : goal.returns
returns c = record {
  unchanged = λ calls p turns ready answers more h. unchanged (library_step calls) (library_takes_answers calls) p turns ready answers more h;
  goes_on = λ calls p turns ready answers a slot request is. goes_on (library_step calls) (library_takes_answers calls) p turns ready answers a slot request is;
}
