-- What holds of the phases.
use Rattle.std.specs.Prelude.{◌≡◌, Result}
use Rattle.ec_base.specs.declared.stop.Stop.{Stop}
use Rattle.ec_ctypes.specs.trees.Checked.{TypedData}
use Rattle.ec_language.specs.Letters.{Text}
use Rattle.ec_phases_defs.specs.written.Written.{ReadsWritten}

abbrev pub HasOneReading : Type 0
HasOneReading = (text : Text) (a b : Result TypedData Stop) →
    ReadsWritten text a → ReadsWritten text b → a ≡ b

abbrev pub IsRead : Type 0
IsRead = (text : Text) → (answer : Result TypedData Stop) × ReadsWritten text answer
