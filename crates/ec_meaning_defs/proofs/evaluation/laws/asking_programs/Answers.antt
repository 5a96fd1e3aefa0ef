use Rattle.ec_meaning_defs.proofs.evaluation_lemmas.Asking.{asking_counts, asking_adds, asking_takes_turns, asking_takes_answers, called_in_place}
use Rattle.ec_meaning_defs.proofs.evaluation.laws.asking_programs.Goals as goal

pub returns : goal.returns
returns c = record {
  counts = asking_counts;
  adds = asking_adds;
  takes_turns = asking_takes_turns;
  takes_answers = asking_takes_answers;
  calls_in_place = called_in_place;
}
