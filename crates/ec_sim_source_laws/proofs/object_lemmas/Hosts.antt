-- The variables of hosts that have no fault are no functions, and so no name in the references of a cursor is one.
use Rattle.std.proofs.Common.{◌≡◌, ◌∙◌, ℕ, zero, suc, ◌+◌, Bool, true, false, not, ◌&&◌, List, [], ◌∷◌, ◌++◌, map, take, drop, Option, Some, None, refl, sym, ap, subst, slice_get, arith, if◌then◌else◌}
use Rattle.std.proofs.Math.Seq.{drop-nil}
use Rattle.std.specs.Prelude.{Result, Ok, Err, option_and_then}
use Rattle.ec_base.specs.declared.fault.FaultKind.TheVariants.{F23}
use Rattle.ec_base.specs.declared.stop.Stop.{Stop}
use Rattle.ec_ctypes.specs.trees.Checked.{TypedData, BoundData}
use Rattle.ec_ctypes.specs.trees.Embedded.{EmbData, PartData, bytes_part, host_part}
use Rattle.ec_ctypes.specs.trees.Exprs.{ExprData}
use Rattle.ec_ctypes.specs.trees.Types.{TyData}
use Rattle.ec_sim_host_laws.specs.cursor.Cursors.{is_no_function, are_no_functions}
use Rattle.ec_host_defs.specs.Bound.{program_of, faults_of, violation_at, violations_at, answer_by, bound_answer}
use Rattle.ec_host_defs.specs.Faults.{value_faults, indicator_faults, indicator_type_faults, may_have_indicator, fault_unless, reference_faults, host_faults, host_count, value_part, indicator_part, uses_faults, row_at, opening_faults, declaring_faults}
use Rattle.ec_host_defs.specs.Programs.{ProgramData, Denoted, is_among, declared_type, variable_type, variable_of, type_along, reference_type, names_count}
use Rattle.ec_host_defs.specs.Uses.{RoleData, input_role, part_uses, each_uses, uses_of}
use Rattle.ec_language.specs.First.{Violation, comes_before, earlier, first_of, stop_at}
use Rattle.ec_phases_defs.specs.Sources.{with_bound, bound_from}
use Rattle.ec_typing_defs.specs.statement_parts.References.{References, of_part, of_all}
use Rattle.ec_sim_world_laws.proofs.closing_lemmas.Lists.{none_not, some_is, false_not}
use Rattle.ec_sim_source_laws.proofs.object_lemmas.Indexes.{both_true}
use Rattle.ec_sim_source_laws.proofs.object_lemmas.Walking.{both_none, RowIsFine}

-- ---- what is bound has no fault

err_not : {A E C : Type 0} {x : E} {a : A} → ◌≡◌ {A = Result A E} (Err x) (Ok a) → C
err_not {A} {E} e = absurd (subst by_case e tt)
  where
    by_case : Result A E → Type 0
    by_case (Ok x) = ⊥
    by_case (Err x) = Unit {0}

none_found : (b c : BoundData) (vs : List Violation) → answer_by b (stop_at (first_of vs)) ≡ Ok c → vs ≡ []
none_found b c [] e = refl
none_found b c (v ∷ vs) e = absurd (some (first_of vs) e)
  where
    either : (w : Violation) (first : Bool) → answer_by b (stop_at (if first then Some w else Some v)) ≡ Ok c → ⊥
    either w true h = err_not h
    either w false h = err_not h

    some : (o : Option Violation) → answer_by b (stop_at (earlier v o)) ≡ Ok c → ⊥
    some None h = err_not h
    some (Some w) h = either w (comes_before w v) h

none_of_none : {A B : Type 0} (f : A → B) (xs : List A) → map f xs ≡ [] → xs ≡ []
none_of_none f [] e = refl
none_of_none f (x ∷ xs) e = absurd (cc)

none_more : (n : ℕ) → n + 0 ≡ n
none_more n = omega (arith)

one_more : (m n : ℕ) → suc m + n ≡ m + suc n
one_more m n = omega (arith)

answered : (t : TypedData) (base : ℕ) (es : List EmbData) (bounds : List BoundData) → bound_from t base es ≡ Ok bounds → (j : ℕ) (e : EmbData) → slice_get es j ≡ Some e → faults_of t (base + j) e ≡ []
answered t base [] bounds h j e g = none_not g
answered t base (x ∷ es) bounds h j e g = step (bound_answer t base x) (bound_from t (suc base) es) refl (λ bs k i f. answered t (suc base) es bs k i e f) h j g
  where
    step : (first : Result BoundData Stop) (rest : Result (List BoundData) Stop) → bound_answer t base x ≡ first
        → ((bs : List BoundData) → rest ≡ Ok bs → (i : ℕ) → slice_get es i ≡ Some e → faults_of t (suc base + i) e ≡ [])
        → with_bound first rest ≡ Ok bounds → (i : ℕ) → slice_get (x ∷ es) i ≡ Some e → faults_of t (base + i) e ≡ []
    step (Err stop) rest p more k i f = err_not k
    step (Ok b) (Err stop) p more k i f = err_not k
    step (Ok b) (Ok bs) p more k zero f =
        (λ l. faults_of t (none_more base l) (sym (some_is f) l)) ∙ none_of_none (violation_at base x) (faults_of t base x) (none_found _ b (violations_at t base x) p)
    step (Ok b) (Ok bs) p more k (suc i) f = (λ l. faults_of t (sym (one_more base i) l) e) ∙ more bs refl i f

pub none_at_fault : (t : TypedData) (bounds : List BoundData) → bound_from t 0 t.unit.embs ≡ Ok bounds → (n : ℕ) (e : EmbData) → slice_get t.unit.embs n ≡ Some e
    → uses_faults (program_of t) (uses_of e) (row_at t.denoted n) ≡ []
none_at_fault t bounds h n e g =
    (both_none (uses_faults (program_of t) (uses_of e) (row_at t.denoted n)) (opening_faults t.unit.embs t.denoted n e ++ declaring_faults t.unit.embs n e)
    (ap (λ k. faults_of t k e) (sym (none_first n)) ∙ answered t 0 t.unit.embs bounds h n e g)).0
  where
    none_first : (n : ℕ) → 0 + n ≡ n
    none_first n = omega (arith)

-- ---- variables

fault_not : {A C : Type 0} {x : A} {xs : List A} → x ∷ xs ≡ [] → C
fault_not {A} e = absurd (subst by_case e tt)
  where
    by_case : List A → Type 0
    by_case [] = ⊥
    by_case (x ∷ xs) = Unit {0}

-- the variables of these references are no functions
abbrev pub VariablesAreFine : List ℕ → References → Denoted → Type 0
VariablesAreFine fs [] ds = Unit {0}
VariablesAreFine fs (r ∷ rs) ds = (is_no_function fs (variable_of (take (names_count r.value) ds)) ≡ true) × VariablesAreFine fs rs (drop (names_count r.value) ds)

module _ (p : ProgramData) where
  abbrev typed_by : ExprData → Option TyData → Option TyData
  typed_by e t = option_and_then (λ t. type_along p.structs t e) t

  abbrev type_by : ℕ → Bool → Option TyData
  type_by k b = elim b [ true ↦ None | false ↦ declared_type p k ]

  value_fine : (role : RoleData) (e : ExprData) (d : Option ℕ) → value_faults p.structs role (typed_by e (variable_type p d)) ≡ [] → is_no_function p.functions d ≡ true
  value_fine role e None f = refl
  value_fine role e (Some k) f = go (is_among k p.functions) f
    where
      go : (b : Bool) → value_faults p.structs role (typed_by e (type_by k b)) ≡ [] → not b ≡ true
      go true f = fault_not f
      go false f = refl

  indicator_fine : (t : Option TyData) (e : ExprData) (d : Option ℕ) → indicator_type_faults p.structs t (typed_by e (variable_type p d)) ≡ [] → is_no_function p.functions d ≡ true
  indicator_fine t e None f = refl
  indicator_fine t e (Some k) f = go t (is_among k p.functions) f
    where
      go : (t : Option TyData) (b : Bool) → indicator_type_faults p.structs t (typed_by e (type_by k b)) ≡ [] → not b ≡ true
      go None true f = fault_not f
      go (Some s) true f = fault_not f
      go t false f = refl

  drop_more : (m n : ℕ) (ds : Denoted) → drop (m + n) ds ≡ drop n (drop m ds)
  drop_more zero n ds = ap (λ k. drop k ds) (none_first n)
    where
      none_first : (n : ℕ) → 0 + n ≡ n
      none_first n = omega (arith)
  drop_more (suc m) n [] = drop-nil (suc m + n) ∙ sym (drop-nil n)
  drop_more (suc m) n (d ∷ ds) = ap (λ k. drop k (d ∷ ds)) (one_first m n) ∙ drop_more m n ds
    where
      one_first : (m n : ℕ) → suc m + n ≡ suc (m + n)
      one_first m n = omega (arith)

  host_fine : (value : ExprData) (i : Option ExprData) (rest : References) (ds : Denoted) → host_faults p input_role (record { value = value; indicator = i }) (value_part (record { value = value; indicator = i }) ds) (indicator_part (record { value = value; indicator = i }) ds) ≡ []
      → VariablesAreFine p.functions rest (drop (host_count (record { value = value; indicator = i })) ds) → VariablesAreFine p.functions (of_part (host_part (record { value = value; indicator = i })) ++ rest) ds
  host_fine value None rest ds f more = (
    value_fine input_role value (variable_of (take (names_count value) ds))
        (both_none (value_faults p.structs input_role (reference_type p value (take (names_count value) ds))) []
        (both_none (reference_faults p (take (names_count value) ds)) (value_faults p.structs input_role (reference_type p value (take (names_count value) ds)) ++ []) f).1).0,
    subst (λ n. VariablesAreFine p.functions rest (drop n ds)) (none_more (names_count value)) more,
  )
  host_fine value (Some i) rest ds f more =
      let own = take (names_count value) ds in
      let its = take (names_count i) (drop (names_count value) ds) in
      let t = reference_type p value own in
      let g = (both_none (reference_faults p own) (value_faults p.structs input_role t ++ indicator_faults p input_role t (Some i) its) f).1 in
      let h = both_none (value_faults p.structs input_role t) (indicator_faults p input_role t (Some i) its) g in
      let k = (both_none (reference_faults p its) (fault_unless (may_have_indicator input_role) F23 ++ indicator_type_faults p.structs t (reference_type p i its)) h.1).1 in (
        value_fine input_role value (variable_of own) h.0,
        (
          indicator_fine t i (variable_of its) (both_none (fault_unless (may_have_indicator input_role) F23) (indicator_type_faults p.structs t (reference_type p i its)) k).1,
          subst (λ es. VariablesAreFine p.functions rest es) (drop_more (names_count value) (names_count i) ds) more,
        ),
      )

  pub parts_fine : (ps : List PartData) (ds : Denoted) → uses_faults p (each_uses part_uses ps) ds ≡ [] → VariablesAreFine p.functions (of_all of_part ps) ds
  parts_fine [] ds f = tt
  parts_fine (bytes_part b ∷ ps) ds f = parts_fine ps ds f
  parts_fine (host_part h ∷ ps) ds f =
      let g = both_none (host_faults p input_role h (value_part h ds) (indicator_part h ds)) (uses_faults p (each_uses part_uses ps) (drop (host_count h) ds)) f in
      host_fine h.value h.indicator (of_all of_part ps) ds g.0 (parts_fine ps (drop (host_count h) ds) g.1)

-- ---- together

split_true : (a b : Bool) → (a && b) ≡ true → (a ≡ true) × (b ≡ true)
split_true true b e = (refl, e)
split_true false b e = false_not e

joined : (fs : List ℕ) (n : ℕ) (ds : Denoted) → are_no_functions fs (take n ds) ≡ true → are_no_functions fs (drop n ds) ≡ true → are_no_functions fs ds ≡ true
joined fs zero ds p q = q
joined fs (suc n) [] p q = refl
joined fs (suc n) (d ∷ ds) p q =
    let s = split_true (is_no_function fs d) (are_no_functions fs (take n ds)) p in
    both_true (is_no_function fs d) (are_no_functions fs ds) s.0 (joined fs n ds s.1 q)

first_too : (fs : List ℕ) (ds : Denoted) → is_no_function fs (variable_of ds) ≡ true → are_no_functions fs (drop 1 ds) ≡ true → are_no_functions fs ds ≡ true
first_too fs [] p q = refl
first_too fs (d ∷ ds) p q = both_true (is_no_function fs d) (are_no_functions fs ds) p q

pub row_without_functions : (fs : List ℕ) (rs : References) (ds : Denoted) → RowIsFine fs rs ds → VariablesAreFine fs rs ds → are_no_functions fs ds ≡ true
row_without_functions fs [] ds h v = ap (are_no_functions fs) h
row_without_functions fs (r ∷ rs) ds h v =
    joined fs (names_count r.value) ds (first_too fs (take (names_count r.value) ds) v.0 h.0) (row_without_functions fs rs (drop (names_count r.value) ds) h.1 v.1)
