-- What a call reads.
use Rattle.std.specs.Prelude.{◌≡◌, ℕ, List, [], ◌∷◌, Option, Result, Ok, Err}
use Rattle.ec_base.specs.declared.stop.Trap.{Trap}
use Rattle.ec_arguments.specs.Arguments.{TextArg as TextData, absent, word, held, Member, host, constant}
use Rattle.ec_memory_defs.specs.Memory.{Memory}
use Rattle.ec_meaning_defs.specs.evaluation.State.{Connection, State}
use Rattle.ec_call_defs.specs.Outcomes.{Text, Field, trapped, Outcome, gives, over, next, with_memory}
use Rattle.ec_call_defs.specs.Inputs.{text_read, member_read}
use Rattle.ec_runtime.specs.declared.inputs.TextArg.{TextArg}
use Rattle.ec_runtime.specs.declared.inputs.TextArg.TheVariants as texts
use Rattle.ec_runtime.specs.declared.inputs.GivenText.{GivenText}
use Rattle.ec_runtime.specs.declared.inputs.GivenText.TheVariants as givens
use Rattle.ec_runtime.specs.declared.inputs.Input.{Input}
use Rattle.ec_runtime.specs.declared.inputs.Input.TheVariants as inputs
use Rattle.ec_runtime.specs.Seeking.{place_sought}
use Rattle.ec_runtime.specs.Views.{host_view}

abbrev pub text_view : TextArg → TextData ℕ
text_view texts.Absent = absent
text_view (texts.Word bytes) = word bytes
text_view (texts.Held at) = held at.0

abbrev pub given_view : GivenText → TextData ℕ
given_view (givens.Word bytes) = word bytes
given_view (givens.Held at) = held at.0

abbrev pub input_view : Input → Member ℕ
input_view (inputs.Host h) = host (host_view h)
input_view (inputs.Constant bytes) = constant bytes

-- values, in order
abbrev pub values_read : List (Member ℕ) → State → Outcome (List Field)
values_read [] s = gives [] s
values_read (m ∷ ms) s =
    next (member_read m s)
    (λ field t. next (values_read ms t) (λ fields u. gives (field ∷ fields) u))

-- what is read at a text, which may be absent, or the trap
abbrev pub TextIs : TextData ℕ → Memory → Option Text → Type 0
TextIs text m read = (s : State) → text_read text (with_memory m s) ≡ gives read (with_memory m s)

-- a text was read, and where the connection stands that it names, or without a name the current one
abbrev pub Finds : Result (Option ℕ) Trap → TextData ℕ → List Connection → Option Text → Memory →
    Type 0
Finds (Ok place) text connections current m = (read : Option Text)
    × TextIs text m read × (place ≡ place_sought read current connections)
Finds (Err trap) text connections current m = (s : State) →
    text_read text (with_memory m s) ≡ over (trapped trap) (with_memory m s)
