-- What written C is run as: the resolved form of its program with its calls of the library, or why
-- it is refused; and what that means.
use Rattle.std.specs.Prelude.{◌≡◌, ℕ, true, List, Option, Result, Ok, Err}
use Rattle.ec_base.specs.declared.stop.Stop.{Stop}
use Rattle.ec_call_defs.specs.Steps.{library_step}
use Rattle.ec_ctypes.specs.trees.Checked.{TypedData}
use Rattle.ec_ctypes.specs.trees.Units.{UnitData}
use Rattle.ec_meaning_defs.specs.evaluation.State.{Answer}
use Rattle.ec_meaning_defs.specs.evaluation.Whole.{Observed, program_meaning}
use Rattle.ec_language.specs.Letters.{Text}
use Rattle.ec_meaning_defs.specs.resolved.Programs.{Program}
use Rattle.ec_resolving_defs.specs.Programs.{library_calls_of, resolve}
use Rattle.ec_resolving_defs.specs.Storage.{LibraryCall}
use Rattle.ec_phases_defs.specs.written.Written.{ReadsWritten}

-- what is left of a text of written C: a program, and its calls of the library by their numbers
pub record Executable : Type 0 where
  pub program : Program
  pub calls : List LibraryCall

abbrev pub executable : UnitData → Executable
executable u = record { program = resolve true u; calls = library_calls_of true u }

abbrev pub resolved : Result TypedData Stop → Result Executable Stop
resolved (Ok t) = Ok (executable t.unit)
resolved (Err stop) = Err stop

-- What a text is run as, or what it is refused for: it is read so, and this is left of it.
pub data IsProgram (text : Text) (answer : Result Executable Stop) : Type 0 where
  left_of : (read : Result TypedData Stop) → ReadsWritten text read → answer ≡ resolved read
      → IsProgram text answer

-- What a program means that runs for so many turns, with a slot and a name that are connected, or
-- none, over these answers.
unfoldable pub meaning : Executable → ℕ → Option (ℕ × List ℕ) → List Answer → Observed
meaning x turns ready answers =
    program_meaning (library_step x.calls) x.program turns ready answers
