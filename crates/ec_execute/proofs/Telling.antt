-- What reading a program of written C answers.
use Rattle.std.proofs.Common.{◌≡◌, ℕ, Bool, true, false, if◌then◌else◌, List, [], ◌∷◌, map, Option, None, Some, Result, Ok, Err, refl, sym, ap, subst}
use Rattle.ec_base.specs.declared.stop.Stop.{Stop}
use Rattle.ec_base.specs.declared.stop.Stop.TheVariants.{Refused, Limit, OutOfMemory}
use Rattle.ec_ctypes.specs.declared.checked.typed.Typed.{Typed}
use Rattle.ec_ctypes.specs.trees.Checked.{TypedData}
use Rattle.ec_ctypes.specs.trees.Units.{UnitData}
use Rattle.ec_ctypes.specs.views.Checked.{typed_view}
use Rattle.ec_ctypes.specs.views.Embedded.{emb_view}
use Rattle.ec_language.specs.First.{Violation, comes_before, earlier, first_of, stop_at}
use Rattle.ec_language.specs.Letters.{Text}
use Rattle.ec_host_defs.specs.sections.Answers.{hosts_answer}
use Rattle.ec_typing_defs.specs.Answers.{answer_by, checked, stop_of_unit, violations}
use Rattle.ec_typing_defs.specs.Worlds.{World}
use Rattle.ec_front.specs.written.Answers as reading
use Rattle.ec_phases_defs.specs.written.Written.{plain, checked_with, checked_plain, checked_written, ReadsWritten}
use Rattle.ec_execution_defs.specs.Laws.{HasOneProgram}
use Rattle.ec_execution_defs.specs.Programs.{resolved}
use Rattle.ec_execution_defs.specs.Programs.IsProgram.{left_of}
use Rattle.ec_execute.specs.Answers.{Is, TellsProgram, IsOnlyProgram}
use Rattle.ec_execute.specs.declared.executable.Executable.{Executable}

-- ---- a program that is read has no violation

chosen : (v w : Violation) (first : Bool) → stop_at (if first then Some w else Some v) ≡ None → ⊥
chosen v w true e = cc (e)
chosen v w false e = cc (e)

never_none : (v : Violation) (o : Option Violation) → stop_at (earlier v o) ≡ None → ⊥
never_none v None e = cc (e)
never_none v (Some w) e = chosen v w (comes_before w v) e

none_found : (vs : List Violation) → stop_at (first_of vs) ≡ None → vs ≡ []
none_found [] e = refl
none_found (v ∷ vs) e = absurd (never_none v (first_of vs) e)

abbrev unit_of : Result TypedData Stop → Option UnitData
unit_of (Ok t) = Some t.unit
unit_of (Err stop) = None

same_unit : (u : UnitData) (t : TypedData) → unit_of (Ok t) ≡ Some u → t.unit ≡ u
same_unit u t e = cc (e)

passed : (u : UnitData) (hosts : List ℕ) (w : World) (stop : Option Stop) (t : TypedData) → answer_by u hosts [] w stop ≡ Ok t → (t.unit ≡ u) × (stop ≡ None)
passed u hosts w None t e = (same_unit u t (sym (ap unit_of e)), refl)
passed u hosts w (Some stop) t e = absurd (cc (e))

-- a tree without statements, in which the checks find nothing
record Fine (u : UnitData) : Type 0 where
  no_statements : u.embs ≡ []
  no_violations : violations true u ≡ []

with_hosts : (u : UnitData) (hosts : Result (List ℕ) Stop) (t : TypedData) → u.embs ≡ [] → checked_with u hosts ≡ Ok t → Fine t.unit
unfolding checked_with
with_hosts u (Ok hosts) t none e =
    let p = passed u hosts (checked true u).world (stop_of_unit true u) t e in
    subst Fine (sym p.0) (record { no_statements = none; no_violations = none_found (violations true u) p.1 })
with_hosts u (Err stop) t none e = absurd (cc (e))

of_tree : (tree : Result UnitData Stop) (t : TypedData) → Ok t ≡ checked_written tree → Fine t.unit
unfolding checked_written checked_plain
of_tree (Ok u) t e = with_hosts (plain u) (hosts_answer (plain u)) t refl (sym e)
of_tree (Err stop) t e = absurd (cc (e))

pub no_violations : (text : Text) (t : TypedData) → ReadsWritten text (Ok t) → violations true t.unit ≡ []
no_violations text t r = (of_tree r.tree t r.is).no_violations

-- what has no views is empty
nothing_there : {A B : Type 0} (f : A → B) (xs : List A) → map f xs ≡ [] → xs ≡ []
nothing_there f [] e = refl
nothing_there f (x ∷ xs) e = absurd (cc (e))

pub no_statements : (text : Text) (t : Typed) → ReadsWritten text (Ok (typed_view t)) → t.unit.embs ≡ []
no_statements text t r = nothing_there emb_view t.unit.embs (of_tree r.tree (typed_view t) r.is).no_statements

-- ---- whole texts

pub of_checked : (text : Text) (t : TypedData) (answer : Result Executable Stop) → ReadsWritten text (Ok t) → Is (resolved (Ok t)) answer → TellsProgram text answer
of_checked text t (Ok executable) h e = left_of (Ok t) h e
of_checked text t (Err (Refused kind line)) h e = left_of (Ok t) h e
of_checked text t (Err (Limit limit)) h e = left_of (Ok t) h e
of_checked text t (Err OutOfMemory) h e = tt

pub of_refused : (text : Text) (stop : Stop) → reading.TellsWritten text (Err stop) → TellsProgram text (Err stop)
of_refused text (Refused kind line) h = left_of (Err _) h refl
of_refused text (Limit limit) h = left_of (Err _) h refl
of_refused text OutOfMemory h = tt

-- each text is run as one program
pub only : (text : Text) (answer : Result Executable Stop) → HasOneProgram → TellsProgram text answer → IsOnlyProgram text answer
only text (Ok executable) one told wanted h = one text _ _ told h
only text (Err (Refused kind line)) one told wanted h = one text _ _ told h
only text (Err (Limit limit)) one told wanted h = one text _ _ told h
only text (Err OutOfMemory) one told wanted h = tt
