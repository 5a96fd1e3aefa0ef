use Rattle.ec_meaning_defs.proofs.evaluation_lemmas.WholeRuns.{more_turns}
use Rattle.ec_meaning_defs.proofs.evaluation.laws.more_turns_change_nothing.Goals as goal

pub returns : goal.returns
returns c = λ step counts takes p s d n. more_turns step counts takes p s d n
