-- What is bound for the statements of an accepted source, none of which has a fault.
use Rattle.std.proofs.Common.{◌≡◌, ◌∙◌, ℕ, zero, suc, ◌+◌, Bool, true, false, List, [], ◌∷◌, map, refl, sym, subst, Option, Some, None, if◌then◌else◌, arith, slice_get}
use Rattle.std.specs.Prelude.{Result, Ok, Err}
use Rattle.ec_base.specs.declared.stop.Stop.{Stop}
use Rattle.ec_written_laws.specs.bound.Counts.{is_counted, are_counted}
use Rattle.ec_ctypes.specs.trees.Checked.{BoundData, TypedData}
use Rattle.ec_ctypes.specs.trees.Embedded.{EmbData}
use Rattle.ec_language.specs.First.{Violation, comes_before, earlier, first_of, stop_at}
use Rattle.ec_typing_defs.specs.statement_parts.Cursors.{declare_opened}
use Rattle.ec_host_defs.specs.Bound.{program_of, faults_of, violation_at, violations_at, answer_by, bound_answer, statement_bound}
use Rattle.ec_host_defs.specs.Faults.{row_at}
use Rattle.ec_phases_defs.specs.Sources.{with_bound, bound_from}
use Rattle.ec_sim_host_laws.proofs.pointer_lemmas.Basics.{both_true}
use Rattle.ec_sim_source_laws.proofs.count_lemmas.Numbers.{none_not, some_is}

ok_is : {A E : Type 0} {a b : A} → ◌≡◌ {A = Result A E} (Ok a) (Ok b) → a ≡ b
ok_is {A} {E} {a} e = λ j. value_or (e j)
  where
    value_or : Result A E → A
    value_or (Ok x) = x
    value_or (Err x) = a

err_not : {A E C : Type 0} {x : E} {a : A} → ◌≡◌ {A = Result A E} (Err x) (Ok a) → C
err_not {A} {E} e = absurd (subst by_case e tt)
  where
    by_case : Result A E → Type 0
    by_case (Ok x) = ⊥
    by_case (Err x) = Unit {0}

record IsAnswer (b c : BoundData) (vs : List Violation) : Type 0 where
  bound : c ≡ b
  none : vs ≡ []

answered : (b c : BoundData) (vs : List Violation) → answer_by b (stop_at (first_of vs)) ≡ Ok c → IsAnswer b c vs
answered b c [] e = record { bound = sym (ok_is e); none = refl }
answered b c (v ∷ vs) e = absurd (some (first_of vs) e)
  where
    either : (w : Violation) (first : Bool) → answer_by b (stop_at (if first then Some w else Some v)) ≡ Ok c → ⊥
    either w true h = err_not h
    either w false h = err_not h

    some : (o : Option Violation) → answer_by b (stop_at (earlier v o)) ≡ Ok c → ⊥
    some None h = err_not h
    some (Some w) h = either w (comes_before w v) h

none_of_none : {A B : Type 0} (f : A → B) (xs : List A) → map f xs ≡ [] → xs ≡ []
none_of_none f [] e = refl
none_of_none f (x ∷ xs) e = absurd (cc)

none_more : (n : ℕ) → n ≡ n + 0
none_more n = omega (arith)

one_more : (m n : ℕ) → suc m + n ≡ m + suc n
one_more m n = omega (arith)

none_first : (n : ℕ) → 0 + n ≡ n
none_first n = omega (arith)

-- a statement is counted by what is bound for it, and has no fault
abbrev Answered : TypedData → ℕ → EmbData → Type 0
Answered t n e = (b : BoundData) → bound_answer t n e ≡ Ok b → is_counted b ≡ true

counted_from : (t : TypedData) (base : ℕ) (es : List EmbData) (bounds : List BoundData) → bound_from t base es ≡ Ok bounds
    → ((j : ℕ) (e : EmbData) → slice_get es j ≡ Some e → Answered t (base + j) e) → are_counted bounds ≡ true
counted_from t base [] bounds h each = subst (λ bs. are_counted bs ≡ true) (ok_is h) refl
counted_from t base (x ∷ es) bounds h each = step (bound_answer t base x) (bound_from t (suc base) es) refl
    (λ bs k. counted_from t (suc base) es bs k (λ j e f b a. each (suc j) e f b ((λ l. bound_answer t (sym (one_more base j) l) e) ∙ a))) h
  where
    step : (first : Result BoundData Stop) (rest : Result (List BoundData) Stop) → bound_answer t base x ≡ first
        → ((bs : List BoundData) → rest ≡ Ok bs → are_counted bs ≡ true) → with_bound first rest ≡ Ok bounds → are_counted bounds ≡ true
    step (Err stop) rest p more k = err_not k
    step (Ok b) (Err stop) p more k = err_not k
    step (Ok b) (Ok bs) p more k = subst (λ bs. are_counted bs ≡ true) (ok_is k)
        (both_true (is_counted b) (are_counted bs) (each 0 x refl b ((λ l. bound_answer t (sym (none_more base) l) x) ∙ p)) (more bs refl))

-- each has an answer
record Answers (t : TypedData) (k : ℕ) (e : EmbData) : Type 0 where
  bound : BoundData
  answer : bound_answer t k e ≡ Ok bound

answers : (t : TypedData) (base : ℕ) (es : List EmbData) (bounds : List BoundData) → bound_from t base es ≡ Ok bounds → (j : ℕ) (e : EmbData) → slice_get es j ≡ Some e → Answers t (base + j) e
answers t base [] bounds h j e g = none_not g
answers t base (x ∷ es) bounds h j e g = step (bound_answer t base x) (bound_from t (suc base) es) refl (λ bs k i f. answers t (suc base) es bs k i e f) h j g
  where
    step : (first : Result BoundData Stop) (rest : Result (List BoundData) Stop) → bound_answer t base x ≡ first
        → ((bs : List BoundData) → rest ≡ Ok bs → (i : ℕ) → slice_get es i ≡ Some e → Answers t (suc base + i) e)
        → with_bound first rest ≡ Ok bounds → (i : ℕ) → slice_get (x ∷ es) i ≡ Some e → Answers t (base + i) e
    step (Err stop) rest p more k i f = err_not k
    step (Ok b) (Err stop) p more k i f = err_not k
    step (Ok b) (Ok bs) p more k zero f = record { bound = b; answer = (λ l. bound_answer t (sym (none_more base) l) (sym (some_is f) l)) ∙ p }
    step (Ok b) (Ok bs) p more k (suc i) f = behind (more bs refl i f)
      where
        behind : Answers t (suc base + i) e → Answers t (base + suc i) e
        behind a = record { bound = a.bound; answer = (λ l. bound_answer t (sym (one_more base i) l) e) ∙ a.answer }

module _ (t : TypedData) (bounds : List BoundData) (h : bound_from t 0 t.unit.embs ≡ Ok bounds) where
  pub faultless : (n : ℕ) (e : EmbData) → slice_get t.unit.embs n ≡ Some e → faults_of t n e ≡ []
  faultless n e g = by_answer (answers t 0 t.unit.embs bounds h n e g)
    where
      by_answer : Answers t (0 + n) e → faults_of t n e ≡ []
      by_answer a = none_of_none (violation_at n e) (faults_of t n e)
          (answered (statement_bound (program_of t) e (declare_opened t.unit.embs n e) (row_at t.denoted n)) a.bound (violations_at t n e)
          ((λ i. bound_answer t (sym (none_first n) i) e) ∙ a.answer)).none

  pub all_counted : ((n : ℕ) (e : EmbData) → slice_get t.unit.embs n ≡ Some e → is_counted (statement_bound (program_of t) e (declare_opened t.unit.embs n e) (row_at t.denoted n)) ≡ true)
      → are_counted bounds ≡ true
  all_counted each = counted_from t 0 t.unit.embs bounds h (λ n e g b a. by_bound n e g b
      (answered (statement_bound (program_of t) e (declare_opened t.unit.embs n e) (row_at t.denoted n)) b (violations_at t n e) ((λ i. bound_answer t (sym (none_first n) i) e) ∙ a)).bound)
    where
      by_bound : (n : ℕ) (e : EmbData) → slice_get t.unit.embs n ≡ Some e → (b : BoundData)
          → b ≡ statement_bound (program_of t) e (declare_opened t.unit.embs n e) (row_at t.denoted n) → is_counted b ≡ true
      by_bound n e g b is = (λ j. is_counted (is j)) ∙ each n e g
