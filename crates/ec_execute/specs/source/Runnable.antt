-- What a source is run as: the program that it is read as, or why it is refused; and what that means.
use Rattle.std.specs.Prelude.{◌≡◌, ℕ, List, Option, Result, Ok, Err}
use Rattle.ec_base.specs.declared.fault.LimitKind.{LimitKind}
use Rattle.ec_base.specs.declared.stop.Stop.{Stop}
use Rattle.ec_base.specs.declared.stop.Stop.TheVariants.{Limit}
use Rattle.ec_language.specs.Letters.{Text}
use Rattle.ec_meaning_defs.specs.evaluation.State.{Answer}
use Rattle.ec_meaning_defs.specs.evaluation.Whole.{Observed}
use Rattle.ec_execution_defs.specs.Programs as written
use Rattle.ec_execution_defs.specs.Programs.{IsProgram}
use Rattle.ec_direct_defs.specs.Direct.{direct_meaning}
use Rattle.ec_phases_defs.specs.Sources.{BoundProgram, ReadsSource}
use Rattle.ec_phases_defs.specs.translation.Translations.{text_of_program}

-- ---- what a source is run as

-- What a source is run as whose written C is run as this, or refused for this: it may pass a limit of texts, of tokens or of
-- nesting
pub data IsRunAs (text : Text) (p : BoundProgram) (answer : Result BoundProgram Stop)
    : Result written.Executable Stop → Type 0 where
  run : (x : written.Executable) → answer ≡ Ok p → IsRunAs text p answer (Ok x)
  limited : (limit : LimitKind) → answer ≡ Err (Limit limit)
      → IsRunAs text p answer (Err (Limit limit))

-- what a text is run as, or what it is refused for
pub data IsRunnable (text : Text) (answer : Result BoundProgram Stop) : Type 0 where
  refused : (stop : Stop) → ReadsSource text (Err stop) → answer ≡ Err stop
      → IsRunnable text answer
  accepted : (p : BoundProgram) (x : Result written.Executable Stop) → ReadsSource text (Ok p)
      → IsProgram (text_of_program p) x → IsRunAs text p answer x → IsRunnable text answer

-- What a source means that runs for so many turns, with a slot and a name that are connected, or none, over these answers: what its embedded statements do where they stand
abbrev pub source_meaning : BoundProgram → ℕ → Option (ℕ × List ℕ) → List Answer → Observed
source_meaning p turns ready answers = direct_meaning p.program turns ready answers
