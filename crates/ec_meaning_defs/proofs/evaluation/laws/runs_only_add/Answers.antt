use Rattle.ec_meaning_defs.proofs.evaluation_lemmas.WholeRuns.{only_adds}
use Rattle.ec_meaning_defs.proofs.evaluation.laws.runs_only_add.Goals as goal

pub returns : goal.returns
returns c = λ step adds p s. only_adds step adds p s
