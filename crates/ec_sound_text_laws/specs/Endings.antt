-- Programs that are never stuck.
use Rattle.std.specs.Prelude.{◌≢◌, ℕ, List, Option}
use Rattle.ec_meaning_defs.specs.evaluation.State.{Answer, stuck}
use Rattle.ec_meaning_defs.specs.evaluation.Whole.{Observed}

-- For each number of turns, with a connection that is ready or none, and over whatever answers, it exits, is trapped, spends
-- its turns or waits for an answer
abbrev pub IsNeverStuck : (ℕ → Option (ℕ × List ℕ) → List Answer → Observed) → Type 0
IsNeverStuck meaning = (turns : ℕ) (ready : Option (ℕ × List ℕ)) (answers : List Answer)
    → (meaning turns ready answers).ending ≢ stuck
