use Rattle.ec_call_defs.proofs.library_step_lemmas.Keeping.{library_counts, library_adds, library_takes_turns, library_takes_answers}
use Rattle.ec_call_defs.proofs.library_step.laws.library_steps_keep_the_laws.Goals as goal

pub returns : goal.returns
returns c = record {
  counts = library_counts;
  adds = library_adds;
  takes_turns = library_takes_turns;
  takes_answers = library_takes_answers;
}
