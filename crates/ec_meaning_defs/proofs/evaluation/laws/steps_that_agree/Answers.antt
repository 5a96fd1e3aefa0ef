use Rattle.ec_meaning_defs.proofs.evaluation_lemmas.WholeRuns.{agreeing_same}
use Rattle.ec_meaning_defs.proofs.evaluation.laws.steps_that_agree.Goals as goal

pub returns : goal.returns
returns c = λ step step' text agree p s. agreeing_same step step' text agree p s
