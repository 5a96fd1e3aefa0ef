-- From the phases to the translation of a source.
use Rattle.std.proofs.Common.{◌≡◌, ℕ, true, false, List, Option, Some, None, Result, Ok, Err, refl, sym, ap, ◌∙◌}
use Rattle.ec_base.specs.declared.stop.Stop.{Stop}
use Rattle.ec_base.specs.declared.stop.Stop.TheVariants.{Refused, Limit, OutOfMemory}
use Rattle.ec_ctypes.specs.declared.checked.bound.Bound.{Bound}
use Rattle.ec_ctypes.specs.declared.checked.typed.Typed.{Typed}
use Rattle.ec_ctypes.specs.trees.Checked.{BoundData, TypedData, MarkData}
use Rattle.ec_ctypes.specs.trees.Units.{UnitData}
use Rattle.ec_language.specs.Letters.{Text}
use Rattle.ec_host_defs.specs.sections.Answers.{hosts_answer}
use Rattle.ec_typing_defs.specs.statement_parts.Handlers.{marks_in}
use Rattle.ec_typing_defs.specs.Answers.{checked, stop_of_unit, typed_of, answer_by}
use Rattle.ec_typing_defs.specs.Worlds.{World}
use Rattle.ec_whenever.specs.Tables.{table_of, is_sorted}
use Rattle.ec_whenever.proofs.Tables.{table_answers}
use Rattle.ec_phases_defs.specs.Laws.{StandInOrder}
use Rattle.ec_phases_defs.specs.Sources.{ReadsTree, checked_with, checked_tree, ReadsChecked, program_with, bound_from, bound_program}
use Rattle.ec_front.specs.source.Answers.{Tells}
use Rattle.ec_phases_defs.specs.translation.Translations.{translated, IsTranslation}
use Rattle.ec_phases_defs.specs.translation.Translations.IsTranslation.{translation}
use Rattle.ec_front.specs.translation.Answers.{UnlessNoMemory, TellsTranslation, Is}

-- ---- the table of handlers

by_answer : (u : UnitData) (hosts : List ℕ) (marks : List MarkData) (w : World) (o : Option Stop) (t : TypedData) → answer_by u hosts marks w o ≡ Ok t → t.handlers ≡ marks
by_answer u hosts marks w None t e = let same : typed_of u hosts marks w ≡ t = cc in sym (ap (λ x. x.handlers) same)
by_answer u hosts marks w (Some stop) t e = absurd (cc (e))

by_hosts : (u : UnitData) (hosts : Result (List ℕ) Stop) (t : TypedData) → checked_with u hosts ≡ Ok t → t.handlers ≡ table_of (marks_in u.embs)
by_hosts u (Ok hosts) t e = by_answer u hosts (table_of (marks_in u.embs)) (checked false u).world (stop_of_unit false u) t e
by_hosts u (Err stop) t e = absurd (cc (e))

by_tree : (text : Text) (order : StandInOrder) (tree : Result UnitData Stop) (t : TypedData) → ReadsTree text tree → Ok t ≡ checked_tree tree → is_sorted t.handlers ≡ true
by_tree text order (Ok u) t read e = ap is_sorted (by_hosts u (hosts_answer u) t (sym e)) ∙ (table_answers u.embs (order text u read)).sorted
by_tree text order (Err stop) t read e = absurd (cc (e))

pub handlers_sorted : (text : Text) (order : StandInOrder) (t : TypedData) → ReadsChecked text (Ok t) → is_sorted t.handlers ≡ true
handlers_sorted text order t h = by_tree text order h.0 t h.1 h.2

-- ---- what is told

-- where a statement has a fault
pub no_bounds : (t : TypedData) (view : List Bound → List BoundData) (stop : Stop) → Tells view (λ told. told ≡ bound_from t 0 t.unit.embs) (Err stop) → Is (translated (bound_program (Ok t))) (Err stop)
no_bounds t view (Refused kind line) h = ap (λ bs. translated (program_with t bs)) h
no_bounds t view (Limit limit) h = ap (λ bs. translated (program_with t bs)) h
no_bounds t view OutOfMemory h = tt

-- what is told of a source that is checked
pub of_checked : (text : Text) (t : TypedData) (answer : Result Text Stop) → ReadsChecked text (Ok t) → Is (translated (bound_program (Ok t))) answer → TellsTranslation text answer
of_checked text t (Ok written) h e = translation (bound_program (Ok t)) (Ok t, h, refl) e
of_checked text t (Err (Refused kind line)) h e = translation (bound_program (Ok t)) (Ok t, h, refl) e
of_checked text t (Err (Limit limit)) h e = translation (bound_program (Ok t)) (Ok t, h, refl) e
of_checked text t (Err OutOfMemory) h e = tt

-- of one that is refused
pub of_refused : (text : Text) (view : Typed → TypedData) (stop : Stop) → Tells view (ReadsChecked text) (Err stop) → TellsTranslation text (Err stop)
of_refused text view (Refused kind line) h = translation (bound_program (Err _)) (Err _, h, refl) refl
of_refused text view (Limit limit) h = translation (bound_program (Err _)) (Err _, h, refl) refl
of_refused text view OutOfMemory h = tt

-- what is told of a text that has one translation is that
pub only : (text : Text) (one : (a b : Result Text Stop) → IsTranslation text a → IsTranslation text b → a ≡ b) (answer : Result Text Stop) → TellsTranslation text answer
    → (wanted : Result Text Stop) → IsTranslation text wanted → UnlessNoMemory (λ told. told ≡ wanted) answer
only text one (Ok written) told wanted h = one _ _ told h
only text one (Err (Refused kind line)) told wanted h = one _ _ told h
only text one (Err (Limit limit)) told wanted h = one _ _ told h
only text one (Err OutOfMemory) told wanted h = tt
