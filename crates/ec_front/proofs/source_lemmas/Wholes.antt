-- From the checks of a source to the source with its hosts.
use Rattle.std.proofs.Common.{◌≡◌, false, List, Result, Ok, Err, refl, ap}
use Rattle.ec_base.specs.declared.stop.Stop.{Stop}
use Rattle.ec_base.specs.declared.stop.Stop.TheVariants.{Refused, Limit, OutOfMemory}
use Rattle.ec_ctypes.specs.declared.checked.bound.Bound.{Bound}
use Rattle.ec_ctypes.specs.declared.checked.typed.Typed.{Typed}
use Rattle.ec_ctypes.specs.trees.Checked.{BoundData, TypedData}
use Rattle.ec_language.specs.Letters.{Text}
use Rattle.ec_phases_defs.specs.Sources.{BoundProgram, ReadsChecked, ReadsSource, program_with, bound_from, bound_program}
use Rattle.ec_front.specs.declared.source.whole.Source.{Source}
use Rattle.ec_front.specs.source.Answers.{Tells}
use Rattle.ec_front.specs.source.Whole.{source_view, TellsSource, IsOnlySource, TellsFirst}

-- where a statement has a fault
pub no_bounds : (t : TypedData) (view : List Bound → List BoundData) (stop : Stop) → Tells view (λ told. told ≡ bound_from t 0 t.unit.embs) (Err stop) → Tells source_view (λ told. told ≡ bound_program (Ok t)) (Err stop)
no_bounds t view (Refused kind line) h = ap (program_with t) h
no_bounds t view (Limit limit) h = ap (program_with t) h
no_bounds t view OutOfMemory h = tt

-- of a source that is checked
pub of_checked : (text : Text) (t : TypedData) (answer : Result Source Stop) → ReadsChecked text (Ok t) → Tells source_view (λ told. told ≡ bound_program (Ok t)) answer → TellsSource text answer
of_checked text t (Ok source) h e = (Ok t, h, e)
of_checked text t (Err (Refused kind line)) h e = (Ok t, h, e)
of_checked text t (Err (Limit limit)) h e = (Ok t, h, e)
of_checked text t (Err OutOfMemory) h e = tt

-- of one that is refused before
pub of_refused : (text : Text) (view : Typed → TypedData) (stop : Stop) → Tells view (ReadsChecked text) (Err stop) → TellsSource text (Err stop)
of_refused text view (Refused kind line) h = (Err (Refused kind line), h, refl)
of_refused text view (Limit limit) h = (Err (Limit limit), h, refl)
of_refused text view OutOfMemory h = tt

-- what is told of a text that is read in one way is that
pub only : (text : Text) (one : (a b : Result BoundProgram Stop) → ReadsSource text a → ReadsSource text b → a ≡ b) (answer : Result Source Stop) → TellsSource text answer → IsOnlySource text answer
only text one (Ok source) told wanted h = one _ _ told h
only text one (Err (Refused kind line)) told wanted h = one _ _ told h
only text one (Err (Limit limit)) told wanted h = one _ _ told h
only text one (Err OutOfMemory) told wanted h = tt

pub first : (text : Text) (answer : Result Source Stop) → TellsSource text answer → TellsFirst text answer
first text (Ok source) told = (Ok (source_view source), told, refl)
first text (Err (Refused kind line)) told = (Err (Refused kind line), told, refl)
first text (Err (Limit limit)) told = (Err (Limit limit), told, refl)
first text (Err OutOfMemory) told = tt
