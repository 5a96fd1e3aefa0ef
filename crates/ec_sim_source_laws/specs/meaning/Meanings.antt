-- That what is written of a source means what the source means.
use Rattle.std.specs.Prelude.{◌≡◌, ℕ, List, Option}
use Rattle.ec_ctypes.specs.trees.Checked.{TypedData}
use Rattle.ec_meaning_defs.specs.evaluation.State.{Answer}
use Rattle.ec_direct_defs.specs.Direct.{direct_meaning}
use Rattle.ec_direct_defs.specs.simulation.Written.{meaning_of_written}

-- Both are asked the same, print the same, leave the same in every object and end the same, for every number of turns, each connection that is ready and all answers
abbrev pub MeanTheSame : TypedData → Type 0
MeanTheSame t = (turns : ℕ) (ready : Option (ℕ × List ℕ)) (answers : List Answer)
    → direct_meaning t turns ready answers ≡ meaning_of_written t turns ready answers
