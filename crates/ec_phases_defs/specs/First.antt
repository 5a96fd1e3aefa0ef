-- What a text is refused for first, and which texts are accepted.
use Rattle.std.specs.Prelude.{◌≡◌, Bool, true, false, Option, Some, None, Result, Ok, Err}
use Rattle.ec_base.specs.declared.stop.Stop.{Stop}
use Rattle.ec_ctypes.specs.trees.Checked.{TypedData}
use Rattle.ec_language.specs.Letters.{Text}
use Rattle.ec_phases_defs.specs.Sources.{BoundProgram, ReadsSource}
use Rattle.ec_phases_defs.specs.written.Written.{ReadsWritten}

abbrev pub refusal_of : {A : Type 0} → Result A Stop → Option Stop
refusal_of (Ok a) = None
refusal_of (Err stop) = Some stop

-- The first fault or limit of a text, read as written C or as a source; none where it has no fault and passes no limit. The limit of its length comes before all. Then the first phase decides that has any: pieces, tokens, syntax, embedded statements, declare sections, checks, hosts. In that phase the least place decides, there a fault before a limit, and of two faults the lower number.
abbrev pub First : Text → Bool → Option Stop → Type 0
First text false found =
    (answer : Result BoundProgram Stop) × ReadsSource text answer × (found ≡ refusal_of answer)
First text true found =
    (answer : Result TypedData Stop) × ReadsWritten text answer × (found ≡ refusal_of answer)

-- a source without a fault, that passes no limit
abbrev pub Accepted : Text → Type 0
Accepted text = First text false None

-- ---- what holds of them

abbrev pub HasOneFirst : Type 0
HasOneFirst = (text : Text) (written : Bool) (a b : Option Stop) →
    First text written a → First text written b → a ≡ b

abbrev pub HasFirst : Type 0
HasFirst = (text : Text) (written : Bool) → (found : Option Stop) × First text written found

-- an accepted source is read as a program, and a source that is read as one is accepted
abbrev pub AcceptedIsRead : Type 0
AcceptedIsRead = (text : Text) → Accepted text → (p : BoundProgram) × ReadsSource text (Ok p)

abbrev pub ReadIsAccepted : Type 0
ReadIsAccepted = (text : Text) (p : BoundProgram) → ReadsSource text (Ok p) → Accepted text
