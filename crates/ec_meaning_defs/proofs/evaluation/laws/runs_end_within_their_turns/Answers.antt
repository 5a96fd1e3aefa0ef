use Rattle.ec_meaning_defs.proofs.evaluation_lemmas.WholeRuns.{enough_turns}
use Rattle.ec_meaning_defs.proofs.evaluation.laws.runs_end_within_their_turns.Goals as goal

pub returns : goal.returns
returns c = λ step counts p n s h. enough_turns step counts p n s h
