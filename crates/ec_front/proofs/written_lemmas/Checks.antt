-- What the phases of written C answer, one after the other.
use Rattle.std.proofs.Common.{◌≡◌, ◌⊎◌, inl, inr, ℕ, true, List, [], map, Result, Ok, Err, refl, sym, ap, ◌∙◌, subst}
use Rattle.ec_base.specs.declared.stop.Stop.{Stop}
use Rattle.ec_base.specs.declared.stop.Stop.TheVariants.{Refused, Limit, OutOfMemory}
use Rattle.ec_ctypes.specs.declared.tree.unit.Unit.{Unit as Program}
use Rattle.ec_ctypes.specs.declared.checked.typed.Typed.{Typed}
use Rattle.ec_ctypes.specs.trees.Embedded.{EmbData}
use Rattle.ec_ctypes.specs.trees.Units.{UnitData}
use Rattle.ec_ctypes.specs.trees.Checked.{TypedData, MarkData}
use Rattle.ec_ctypes.specs.views.Checked.{typed_view}
use Rattle.ec_ctypes.specs.views.Units.{unit_view}
use Rattle.ec_language.specs.First.{Reads}
use Rattle.ec_language.specs.Letters.{Text}
use Rattle.ec_typing_defs.specs.statement_parts.Handlers.{marks_in}
use Rattle.ec_typing_defs.specs.Answers.{check_answer}
use Rattle.ec_whenever.specs.Tables.{table_of}
use Rattle.ec_check.specs.Answers.{Checks}
use Rattle.ec_front.specs.unit.Answers.{TellsReading}
use Rattle.ec_phases_defs.specs.written.Laws.{HasOneReading}
use Rattle.ec_phases_defs.specs.written.Written.{plain, checked_with, checked_plain, checked_written, ReadsWritten}
use Rattle.ec_front.specs.written.Answers.{Is, TellsWritten, IsOnlyWritten}

-- without statements there are no handlers
abbrev no_marks : List EmbData → List MarkData
no_marks es = table_of (marks_in es)

of_none : (marks : List MarkData) (es : List EmbData) → es ≡ [] → marks ≡ no_marks es → marks ≡ []
of_none marks es none e = e ∙ ap no_marks none

-- what the checks answer, with these hosts and marks
pub checks_told : (u : UnitData) (hosts : List ℕ) (marks : List MarkData) (answer : Result Typed Stop) → u.embs ≡ [] → marks ≡ no_marks u.embs
    → Checks true u hosts marks answer → Is (checked_with u (Ok hosts)) answer
unfolding checked_with
checks_told u hosts marks (Ok typed) none e h = sym h ∙ ap (λ ms. check_answer true u hosts ms) (of_none marks u.embs none e)
checks_told u hosts marks (Err (Refused kind line)) none e h = sym h ∙ ap (λ ms. check_answer true u hosts ms) (of_none marks u.embs none e)
checks_told u hosts marks (Err (Limit limit)) none e h = sym h ∙ ap (λ ms. check_answer true u hosts ms) (of_none marks u.embs none e)
checks_told u hosts marks (Err OutOfMemory) none e h = tt

-- where the sections have these hosts
pub sections_found : (u : UnitData) (hosts wanted : Result (List ℕ) Stop) (answer : Result Typed Stop) → wanted ≡ hosts
    → Is (checked_with u hosts) answer → Is (checked_with u wanted) answer
sections_found u hosts wanted answer e h = subst (λ w. Is (checked_with u w) answer) (sym e) h

-- where the sections are refused
pub sections_told : (u : UnitData) (wanted : Result (List ℕ) Stop) (stop : Stop) → (stop ≡ OutOfMemory) ⊎ (wanted ≡ Err stop) → Is (checked_with u wanted) (Err stop)
unfolding checked_with
sections_told u wanted (Refused kind line) (inl none) = absurd (cc (none))
sections_told u wanted (Limit limit) (inl none) = absurd (cc (none))
sections_told u wanted OutOfMemory h = tt
sections_told u wanted (Refused kind line) (inr e) = sym (ap (checked_with u) e)
sections_told u wanted (Limit limit) (inr e) = sym (ap (checked_with u) e)

-- ---- whole texts

pub of_tree : (text : Text) (u : UnitData) (answer : Result Typed Stop) → Reads true text (Ok u) → Is (checked_written (Ok u)) answer → TellsWritten text answer
of_tree text u (Ok typed) h e = record { tree = Ok u; reads = h; is = e }
of_tree text u (Err (Refused kind line)) h e = record { tree = Ok u; reads = h; is = e }
of_tree text u (Err (Limit limit)) h e = record { tree = Ok u; reads = h; is = e }
of_tree text u (Err OutOfMemory) h e = tt

-- where there is no tree
pub no_tree : (text : Text) (stop : Stop) → TellsReading true text (Err stop) → TellsWritten text (Err stop)
unfolding checked_written
no_tree text (Refused kind line) h = record { tree = Err _; reads = h; is = refl }
no_tree text (Limit limit) h = record { tree = Err _; reads = h; is = refl }
no_tree text OutOfMemory h = tt

-- each text has one reading
pub only : (text : Text) (answer : Result Typed Stop) → HasOneReading → TellsWritten text answer → IsOnlyWritten text answer
only text (Ok typed) one told wanted h = one text _ _ told h
only text (Err (Refused kind line)) one told wanted h = one text _ _ told h
only text (Err (Limit limit)) one told wanted h = one text _ _ told h
only text (Err OutOfMemory) one told wanted h = tt
