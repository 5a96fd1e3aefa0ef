-- What holds of programs of written C.
use Rattle.std.specs.Prelude.{◌≡◌, Result}
use Rattle.ec_base.specs.declared.stop.Stop.{Stop}
use Rattle.ec_language.specs.Letters.{Text}
use Rattle.ec_execution_defs.specs.Programs.{Executable, IsProgram}

abbrev pub HasOneProgram : Type 0
HasOneProgram =
    (text : Text) (a b : Result Executable Stop) → IsProgram text a → IsProgram text b → a ≡ b

abbrev pub HasProgram : Type 0
HasProgram = (text : Text) → (answer : Result Executable Stop) × IsProgram text answer
