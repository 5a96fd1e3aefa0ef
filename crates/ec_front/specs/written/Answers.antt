-- What reading written C answers. Want of memory is the one answer that says nothing of it.
use Rattle.std.specs.Prelude.{◌≡◌, ⊤, Result, Ok, Err}
use Rattle.ec_base.specs.declared.stop.Stop.{Stop}
use Rattle.ec_base.specs.declared.stop.Stop.TheVariants.{Refused, Limit, OutOfMemory}
use Rattle.ec_ctypes.specs.declared.checked.typed.Typed.{Typed}
use Rattle.ec_ctypes.specs.trees.Checked.{TypedData}
use Rattle.ec_ctypes.specs.views.Checked.{typed_view}
use Rattle.ec_language.specs.Letters.{Text}
use Rattle.ec_phases_defs.specs.written.Written.{ReadsWritten}

-- the answer has P, with its program by its view, unless there was no memory left
abbrev pub Tells : (Result TypedData Stop → Type 0) → Result Typed Stop → Type 0
Tells P (Ok typed) = P (Ok (typed_view typed))
Tells P (Err (Refused kind line)) = P (Err (Refused kind line))
Tells P (Err (Limit limit)) = P (Err (Limit limit))
Tells P (Err OutOfMemory) = ⊤

-- the answer is this
abbrev pub Is : Result TypedData Stop → Result Typed Stop → Type 0
Is wanted = Tells (λ told. told ≡ wanted)

-- the answer is what the text is read as
abbrev pub TellsWritten : Text → Result Typed Stop → Type 0
TellsWritten text = Tells (ReadsWritten text)

-- whatever the text is read as, the answer is this
abbrev pub IsOnlyWritten : Text → Result Typed Stop → Type 0
IsOnlyWritten text answer =
    (wanted : Result TypedData Stop) → ReadsWritten text wanted → Is wanted answer
