-- Which connections DISCONNECT closes.
use Rattle.std.specs.Prelude.{◌≡◌, ◌<◌, ℕ, Bool, true, false, List, slice_get, codes, Option, None, Some, IfSome, Result, Ok, Err}
use Rattle.ec_base.specs.declared.stop.Trap.{Trap}
use Rattle.ec_arguments.specs.Arguments.{TextArg as TextData}
use Rattle.ec_memory_defs.specs.Memory.{Memory}
use Rattle.ec_meaning_defs.specs.evaluation.State.{Connection, State}
use Rattle.ec_call_defs.specs.Connections.{same_name}
use Rattle.ec_call_defs.specs.Inputs.{given_read}
use Rattle.ec_call_defs.specs.Outcomes.{Text, trapped, gives, over, with_memory}
use Rattle.ec_runtime.specs.declared.disconnecting.Which.{Which}
use Rattle.ec_runtime.specs.declared.disconnecting.Which.TheVariants.{All, One}
use Rattle.ec_runtime.specs.Seeking.{place_named, place_sought}

-- what is closed by a text: the current connection, every connection, or the connection of a name
abbrev pub which_of : Text → Option Text → List Connection → Which
which_of text current cs = elim (same_name text (codes "CURRENT")) [
  | true ↦ One (place_sought None current cs)
  | false ↦ elim (same_name text (codes "ALL")) [
    | true ↦ All
    | false ↦ One (place_named text cs)
  ]
]

-- a place is that of one of so many connections
abbrev pub IsWithin : Which → ℕ → Type 0
IsWithin (One place) count = IfSome place (λ at. at < count)
IsWithin All count = Unit {0}

-- a text was read, and what is closed by it
abbrev pub Chooses : Result Which Trap → TextData ℕ → List Connection → Option Text → Memory →
    Type 0
Chooses (Ok which) text cs current m = (read : Text)
    × ((s : State) → given_read text (with_memory m s) ≡ gives read (with_memory m s))
    × (which ≡ which_of read current cs)
Chooses (Err trap) text cs current m = (s : State) →
    given_read text (with_memory m s) ≡ over (trapped trap) (with_memory m s)

-- the connection at a place, if there is one
abbrev pub at_place : List Connection → Option ℕ → Option Connection
at_place cs None = None
at_place cs (Some at) = slice_get cs at

-- whether a name is that of the current connection
abbrev pub is_current : Option Text → Text → Bool
is_current None name = false
is_current (Some current) name = same_name current name
