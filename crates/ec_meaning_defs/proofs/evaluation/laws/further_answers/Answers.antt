use Rattle.ec_meaning_defs.proofs.evaluation_lemmas.WholeRuns.{more_answers, more_go_on}
use Rattle.ec_meaning_defs.proofs.evaluation.laws.further_answers.Goals as goal

pub returns : goal.returns
returns c = record {
  not_waiting = λ step takes p s more n. more_answers step takes p s more n;
  waiting = λ step takes p s more. more_go_on step takes p s more;
}
