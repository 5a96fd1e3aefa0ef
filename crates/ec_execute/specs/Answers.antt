-- What reading a program of written C answers. Want of memory is the one answer that says nothing of it.
use Rattle.std.specs.Prelude.{◌≡◌, ⊤, Result, Ok, Err}
use Rattle.ec_base.specs.declared.stop.Stop.{Stop}
use Rattle.ec_base.specs.declared.stop.Stop.TheVariants.{Refused, Limit, OutOfMemory}
use Rattle.ec_language.specs.Letters.{Text}
use Rattle.ec_execution_defs.specs.Programs as of
use Rattle.ec_execution_defs.specs.Programs.{IsProgram}
use Rattle.ec_execute.specs.declared.executable.Executable.{Executable}
use Rattle.ec_execute.specs.Executables.{executable_view}

-- the answer has P, with its program by its view, unless there was no memory left
abbrev pub Tells : (Result of.Executable Stop → Type 0) → Result Executable Stop → Type 0
Tells P (Ok executable) = P (Ok (executable_view executable))
Tells P (Err (Refused kind line)) = P (Err (Refused kind line))
Tells P (Err (Limit limit)) = P (Err (Limit limit))
Tells P (Err OutOfMemory) = ⊤

-- the answer is this
abbrev pub Is : Result of.Executable Stop → Result Executable Stop → Type 0
Is wanted = Tells (λ told. told ≡ wanted)

-- the answer is what the text is run as
abbrev pub TellsProgram : Text → Result Executable Stop → Type 0
TellsProgram text = Tells (IsProgram text)

-- whatever the text is run as, the answer is this
abbrev pub IsOnlyProgram : Text → Result Executable Stop → Type 0
IsOnlyProgram text answer =
    (wanted : Result of.Executable Stop) → IsProgram text wanted → Is wanted answer
