use Rattle.ec_meaning_defs.proofs.evaluation_lemmas.WholeRuns.{without_counts, without_adds, without_takes_turns, without_takes_answers}
use Rattle.ec_meaning_defs.proofs.evaluation.laws.plain_programs.Goals as goal

pub returns : goal.returns
returns c = record {
  counts = without_counts;
  adds = without_adds;
  takes_turns = without_takes_turns;
  takes_answers = without_takes_answers;
}
