-- What a part of a call answers, in the words of the definitions.
use Rattle.std.specs.Prelude.{◌≡◌, ℕ, Result, Ok, Err}
use Rattle.ec_memory_defs.specs.Memory.{Memory}
use Rattle.ec_meaning_defs.specs.evaluation.State.{State}
use Rattle.ec_call_defs.specs.Areas.{Areas}
use Rattle.ec_call_defs.specs.Outcomes.{trapped, Outcome, gives, finished, over, with_memory, told_area}
use Rattle.ec_call_defs.specs.Storing.{found_by}
use Rattle.ec_convert.specs.declared.stop.ConvStop.{ConvStop}
use Rattle.ec_convert.specs.declared.stop.ConvStop.TheVariants as conv
use Rattle.ec_transfer_defs.specs.Codes.{code_of, state_of, text_of_finding}
use Rattle.ec_runtime.specs.declared.stop.Stop.{Stop}
use Rattle.ec_runtime.specs.declared.stop.Stop.TheVariants as stops

-- what is answered is what comes of it, and the state that is reached is this one. Of want of memory nothing is said
abbrev pub Says : {A : Type 0} → Result A Stop → Outcome A → State → Type 0
Says (Ok a) o s = o ≡ gives a s
Says (Err stops.Finished) o s = o ≡ finished s
Says (Err (stops.Trapped trap)) o s = o ≡ over (trapped trap) s
Says (Err stops.OutOfMemory) o s = Unit {0}

-- a state with this memory and these descriptors
abbrev pub holding : Memory → Areas → State → State
holding m a s = record s { memory = m; descriptors = a }

-- a part of a call that asks nothing: from every state with the first memory it leads where it says, with the second memory
abbrev pub Quiet : {A : Type 0} → Result A Stop → (State → Outcome A) → Memory → Memory → Type 0
Quiet result action old new = (s : State) →
    Says result (action (with_memory old s)) (with_memory new s)

-- the same where a part finds and leaves these descriptors
abbrev pub Changed : {A : Type 0} → Result A Stop → (State → Outcome A) → Memory → Areas →
    Memory → Areas → Type 0
Changed result action m a m' b = (s : State) →
    Says result (action (holding m a s)) (holding m' b s)

-- what is given where a part goes on
abbrev pub giving : {A : Type 0} → A → Result (Unit {0}) Stop → Result A Stop
giving a (Ok x) = Ok a
giving a (Err stop) = Err stop

-- what a conversion stops at: a trap, or a code that is told
abbrev pub Stopped : ConvStop → ℕ → Stop → Memory → Memory → Type 0
Stopped (conv.Trapped trap) line stop old new = (stop ≡ stops.Trapped trap) × (new ≡ old)
Stopped (conv.Code code) line stop old new =
    (stop ≡ stops.Finished)
    × (new ≡ told_area (code_of (found_by code))
    (state_of (found_by code)) (text_of_finding (found_by code)) line old)
Stopped conv.OutOfMemory line stop old new = Unit {0}
