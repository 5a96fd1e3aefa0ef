-- A call of the library in a program: its arguments are evaluated from left to right, it takes its turn, and it does what it does. Its traps are at the line of the statement that it stands in; the line that it is given is that of its messages.
use Rattle.std.specs.Prelude.{ℕ, List, [], ◌∷◌, slice_get, Option, Some, None}
use Rattle.ec_arguments.specs.Arguments.{Arg, symbol, literal, null, int_constant, long_constant, pointer, stray}
use Rattle.ec_ctypes.specs.declared.checked.library.LibName.{LibName}
use Rattle.ec_meaning_defs.specs.resolved.Resolved.{Exp, constant, embedded, library}
use Rattle.ec_memory_defs.specs.Memory.{ValueData}
use Rattle.ec_meaning_defs.specs.evaluation.State.{State, trapped, waits, Ending}
use Rattle.ec_meaning_defs.specs.evaluation.State as state
use Rattle.ec_meaning_defs.specs.evaluation.Results.{Res, on, over, on_value, at_address, turn}
use Rattle.ec_meaning_defs.specs.evaluation.Evaluate.{World, Context, Step, eval}
use Rattle.ec_call_defs.specs.Outcomes as outcome
use Rattle.ec_call_defs.specs.Library.{library_call}

-- how the run ends at this line
abbrev pub ending_of : ℕ → outcome.Halt → Ending
ending_of line (outcome.trapped trap) = trapped trap line
ending_of line (outcome.waiting slot request) = waits slot request
ending_of line outcome.stuck = state.stuck

-- behind a call the program goes on, whether a code ended it or not
abbrev pub settled : {A : Type 0} → ℕ → outcome.Outcome A → Res
settled line (outcome.gives a s) = on s
settled line (outcome.finished s) = on s
settled line (outcome.over halt s) = over (ending_of line halt) s

-- the arguments, in order. A symbol, a literal and a constant are what they are
abbrev pub arguments_given : Step → World → Context →
    List (Arg Exp) → State → (List (Arg ℕ) → State → Res) → Res
arguments_given step w c [] s go = go [] s
arguments_given step w c (symbol x ∷ args) s go =
    arguments_given step w c args s (λ given t. go (symbol x ∷ given) t)
arguments_given step w c (literal bytes ∷ args) s go =
    arguments_given step w c args s (λ given t. go (literal bytes ∷ given) t)
arguments_given step w c (null ∷ args) s go =
    arguments_given step w c args s (λ given t. go (null ∷ given) t)
arguments_given step w c (int_constant n ∷ args) s go =
    arguments_given step w c args s (λ given t. go (int_constant n ∷ given) t)
arguments_given step w c (long_constant n ∷ args) s go =
    arguments_given step w c args s (λ given t. go (long_constant n ∷ given) t)
arguments_given step w c (pointer e ∷ args) s go =
    on_value (eval step w c e s) (λ v t. at_address v t
    (λ p. arguments_given step w c args t (λ given u. go (pointer p ∷ given) u)))
arguments_given step w c (stray ∷ args) s go = over state.stuck s

-- a call by its name and its arguments as they are written
abbrev pub called : Step → World → Context → LibName → List (Arg Exp) → State → Res
called step w c name args s =
    arguments_given step w c args s
    (λ given t. turn t (λ u. settled c.line (library_call name given u)))

abbrev pub called_of : Step → World → Context → Option (LibName × List (Arg Exp)) → State → Res
called_of step w c None s = over state.stuck s
called_of step w c (Some call) s = called step w c call.0 call.1 s

-- the step of written C: its calls of the library, in their order in the program. Written C has no embedded statement. The arguments of a call that are evaluated with it hold no call of the library, so that a step that knows none evaluates them
abbrev pub no_step : Step
no_step w c atom s = over state.stuck s

-- arguments whose first pointers have these values
abbrev pub given_first : List ValueData → List (Arg Exp) → List (Arg Exp)
given_first [] args = args
given_first (v ∷ vs) [] = []
given_first (v ∷ vs) (symbol x ∷ args) = symbol x ∷ given_first (v ∷ vs) args
given_first (v ∷ vs) (literal bytes ∷ args) = literal bytes ∷ given_first (v ∷ vs) args
given_first (v ∷ vs) (null ∷ args) = null ∷ given_first (v ∷ vs) args
given_first (v ∷ vs) (int_constant n ∷ args) = int_constant n ∷ given_first (v ∷ vs) args
given_first (v ∷ vs) (long_constant n ∷ args) = long_constant n ∷ given_first (v ∷ vs) args
given_first (v ∷ vs) (pointer e ∷ args) = pointer (constant v) ∷ given_first vs args
given_first (v ∷ vs) (stray ∷ args) = stray ∷ given_first (v ∷ vs) args

-- a call whose first pointers have these values
abbrev pub call_given : List ValueData →
    Option (LibName × List (Arg Exp)) → Option (LibName × List (Arg Exp))
call_given [] call = call
call_given (v ∷ vs) None = None
call_given (v ∷ vs) (Some call) = Some (call.0, given_first (v ∷ vs) call.1)

abbrev pub library_step : List (LibName × List (Arg Exp)) → Step
library_step calls w c (embedded n) s = over state.stuck s
library_step calls w c (library n vs) s =
    called_of no_step w c (call_given vs (slice_get calls n)) s
