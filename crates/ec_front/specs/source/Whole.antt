-- What reading a source over all phases answers. Want of memory is the one answer that says nothing of the source.
use Rattle.std.specs.Prelude.{◌≡◌, false, map, Result}
use Rattle.ec_base.specs.declared.stop.Stop.{Stop}
use Rattle.ec_ctypes.specs.views.Checked.{bound_view, typed_view}
use Rattle.ec_language.specs.Letters.{Text}
use Rattle.ec_phases_defs.specs.First.{First, refusal_of}
use Rattle.ec_phases_defs.specs.Sources.{BoundProgram, ReadsSource}
use Rattle.ec_front.specs.declared.source.whole.Source.{Source}
use Rattle.ec_front.specs.source.Answers.{Tells}

-- a program, with what is bound for its statements
abbrev pub source_view : Source → BoundProgram
source_view s = record { program = typed_view s.program; bounds = map bound_view s.bounds }

abbrev pub TellsSource : Text → Result Source Stop → Type 0
TellsSource text = Tells source_view (ReadsSource text)

abbrev pub IsOnlySource : Text → Result Source Stop → Type 0
IsOnlySource text answer = (wanted : Result BoundProgram Stop) →
    ReadsSource text wanted → Tells source_view (λ told. told ≡ wanted) answer

-- it is accepted, or refused for the first fault or limit of the text
abbrev pub TellsFirst : Text → Result Source Stop → Type 0
TellsFirst text = Tells source_view (λ told. First text false (refusal_of told))
