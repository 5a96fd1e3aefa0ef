-- What the checks of a source answer.
use Rattle.std.proofs.Common.{◌≡◌, inl, inr, ℕ, false, List, Result, Ok, Err, refl, sym, ap, ◌∙◌, subst}
use Rattle.ec_base.specs.declared.stop.Stop.{Stop}
use Rattle.ec_base.specs.declared.stop.Stop.TheVariants.{Refused, Limit, OutOfMemory}
use Rattle.ec_ctypes.specs.declared.tree.unit.Unit.{Unit as Program}
use Rattle.ec_ctypes.specs.declared.checked.typed.Typed.{Typed}
use Rattle.ec_ctypes.specs.trees.Units.{UnitData}
use Rattle.ec_ctypes.specs.trees.Checked.{TypedData, MarkData}
use Rattle.ec_ctypes.specs.views.Checked.{typed_view}
use Rattle.ec_ctypes.specs.views.Units.{unit_view}
use Rattle.ec_declare.specs.Answers.{Told}
use Rattle.ec_language.specs.Letters.{Text}
use Rattle.ec_typing_defs.specs.statement_parts.Handlers.{marks_in}
use Rattle.ec_typing_defs.specs.Answers.{check_answer}
use Rattle.ec_whenever.specs.Tables.{table_of}
use Rattle.ec_check.specs.Answers.{Checks}
use Rattle.ec_phases_defs.specs.Sources.{checked_tree, checked_with, ReadsTree}
use Rattle.ec_front.specs.source.Answers.{Tells, TellsChecked}

-- what is told of an answer that is known
abbrev Is : Result TypedData Stop → Result Typed Stop → Type 0
Is wanted = Tells typed_view (λ told. told ≡ wanted)

-- what the checks answer, with these hosts and marks
pub checks_told : (u : UnitData) (hosts : List ℕ) (marks : List MarkData) (answer : Result Typed Stop) → marks ≡ table_of (marks_in u.embs)
    → Checks false u hosts marks answer → Is (checked_with u (Ok hosts)) answer
checks_told u hosts marks (Ok typed) e h = sym h ∙ ap (λ ms. check_answer false u hosts ms) e
checks_told u hosts marks (Err (Refused kind line)) e h = sym h ∙ ap (λ ms. check_answer false u hosts ms) e
checks_told u hosts marks (Err (Limit limit)) e h = sym h ∙ ap (λ ms. check_answer false u hosts ms) e
checks_told u hosts marks (Err OutOfMemory) e h = tt

pub checked_told : (u : UnitData) (hosts : Result (List ℕ) Stop) (wanted : Result (List ℕ) Stop) (answer : Result Typed Stop) → wanted ≡ hosts
    → Is (checked_with u hosts) answer → Is (checked_with u wanted) answer
checked_told u hosts wanted answer e h = subst (λ w. Is (checked_with u w) answer) (sym e) h

-- where the sections are refused
pub sections_told : {A : Type 0} (u : UnitData) (view : A → List ℕ) (wanted : Result (List ℕ) Stop) (stop : Stop) → Told view (Err stop) wanted → Is (checked_with u wanted) (Err stop)
sections_told u view wanted (Refused kind line) (inl none) = absurd (cc (none))
sections_told u view wanted (Limit limit) (inl none) = absurd (cc (none))
sections_told u view wanted OutOfMemory h = tt
sections_told u view wanted (Refused kind line) (inr e) = sym (ap (checked_with u) e)
sections_told u view wanted (Limit limit) (inr e) = sym (ap (checked_with u) e)

-- ---- whole sources

pub of_tree : (text : Text) (u : UnitData) (answer : Result Typed Stop) → ReadsTree text (Ok u) → Is (checked_tree (Ok u)) answer → TellsChecked text answer
of_tree text u (Ok typed) h e = (Ok u, h, e)
of_tree text u (Err (Refused kind line)) h e = (Ok u, h, e)
of_tree text u (Err (Limit limit)) h e = (Ok u, h, e)
of_tree text u (Err OutOfMemory) h e = tt

-- where there is no tree
pub no_tree : (text : Text) (stop : Stop) → Tells {A = Program} unit_view (ReadsTree text) (Err stop) → TellsChecked text (Err stop)
no_tree text (Refused kind line) h = (Err _, h, refl)
no_tree text (Limit limit) h = (Err _, h, refl)
no_tree text OutOfMemory h = tt
