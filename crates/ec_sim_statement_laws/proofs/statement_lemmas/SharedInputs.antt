-- The name of a statement's descriptor, read as the library reads it.
use Rattle.std.specs.Prelude.{ℕ, Option, Some, None}
use Rattle.ec_arguments.specs.Arguments.{TextArg}
use Rattle.ec_meaning_defs.specs.evaluation.State.{State}
use Rattle.ec_call_defs.specs.Outcomes.{Text, Outcome, gives, next}
use Rattle.ec_call_defs.specs.Inputs.{given_read}

-- the name of the descriptor, if there is one
abbrev pub area_read : Option (TextArg ℕ) → State → Outcome (Option Text)
area_read None s = gives None s
area_read (Some name) s = next (given_read name s) (λ bytes t. gives (Some bytes) t)
