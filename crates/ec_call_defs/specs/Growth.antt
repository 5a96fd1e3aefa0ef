-- What a part of a call says only adds to what was said.
use Rattle.ec_meaning_defs.specs.evaluation.State.{State}
use Rattle.ec_meaning_defs.specs.observed.Run.{IsFront}
use Rattle.ec_call_defs.specs.Outcomes.{Outcome, gives, finished, over}

-- the state that a part of a call leads to
abbrev pub state_of : {A : Type 0} → Outcome A → State
state_of (gives a s) = s
state_of (finished s) = s
state_of (over halt s) = s

abbrev pub Grows : {A : Type 0} → (State → Outcome A) → Type 0
Grows action = (s : State) → IsFront s.conversation (state_of (action s)).conversation
