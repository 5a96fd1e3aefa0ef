-- What a translation answers. Want of memory is the one answer that says nothing of the source.
use Rattle.std.specs.Prelude.{◌≡◌, ⊤, List, map, Result, Ok, Err}
use Rattle.ec_base.specs.declared.stop.Stop.{Stop}
use Rattle.ec_base.specs.declared.stop.Stop.TheVariants.{Refused, Limit, OutOfMemory}
use Rattle.ec_ctypes.specs.declared.checked.bound.Bound.{Bound}
use Rattle.ec_ctypes.specs.declared.checked.typed.Typed.{Typed}
use Rattle.ec_ctypes.specs.views.Checked.{bound_view, typed_view}
use Rattle.ec_language.specs.Letters.{Text}
use Rattle.ec_phases_defs.specs.Sources.{BoundProgram}
use Rattle.ec_phases_defs.specs.translation.Translations.{IsTranslation}

-- the answer has P, unless there was no memory left
abbrev pub UnlessNoMemory : (Result Text Stop → Type 0) → Result Text Stop → Type 0
UnlessNoMemory P (Ok text) = P (Ok text)
UnlessNoMemory P (Err (Refused kind line)) = P (Err (Refused kind line))
UnlessNoMemory P (Err (Limit limit)) = P (Err (Limit limit))
UnlessNoMemory P (Err OutOfMemory) = ⊤

abbrev pub TellsTranslation : Text → Result Text Stop → Type 0
TellsTranslation text = UnlessNoMemory (IsTranslation text)

-- Whatever the text is translated to, or refused for, the answer is this.
abbrev pub IsOnlyTranslation : Text → Result Text Stop → Type 0
IsOnlyTranslation text answer = (wanted : Result Text Stop) →
    IsTranslation text wanted → UnlessNoMemory (λ told. told ≡ wanted) answer

-- unless there was no memory left, this is the answer
abbrev pub Is : Result Text Stop → Result Text Stop → Type 0
Is wanted = UnlessNoMemory (λ told. told ≡ wanted)

-- a program and what is bound for its statements
abbrev pub program : Typed → List Bound → BoundProgram
program typed bounds = record { program = typed_view typed; bounds = map bound_view bounds }
