-- What is bound for a statement of an accepted source, the call that is written for it, and its block.
use Rattle.std.proofs.Common.{◌≡◌, ◌∙◌, ℕ, zero, suc, ◌+◌, Bool, true, false, List, [], ◌∷◌, ◌++◌, map, refl, sym, subst, Option, Some, None, if◌then◌else◌, arith, slice_get}
use Rattle.std.proofs.lemmas.Bool.{true≢false}
use Rattle.std.specs.Prelude.{Result, Ok, Err, option_map, option_and_then}
use Rattle.ec_base.specs.declared.line.Line.{Line}
use Rattle.ec_base.specs.declared.stop.Stop.{Stop}
use Rattle.ec_ctypes.specs.declared.embedded.emb.Cond.{Cond}
use Rattle.ec_ctypes.specs.declared.embedded.emb.Cond.TheVariants.{NotFound, Warning, Error}
use Rattle.ec_ctypes.specs.trees.Checked.{MarkData, BoundData, TypedData}
use Rattle.ec_ctypes.specs.trees.Embedded.{EmbData, EmbKindData, connect, set_connection, disconnect, autocommit, trans, server_text, declare_cursor, open_cursor, execute_immediate, prepare, execute, deallocate, allocate_area, free_area, get_count, get_items, set_count, set_items, whenever, include_sqlca, ActionData, continue_action, goto_action, print_action, stop_action, break_action, next_action, call_action}
use Rattle.ec_ctypes.specs.trees.Exprs.{ExprData}
use Rattle.ec_ctypes.specs.trees.Stmts.{StmtData, no_stmts}
use Rattle.ec_arguments.specs.Arguments as library
use Rattle.ec_arguments.specs.Arguments.{Call, name_of}
use Rattle.ec_language.specs.First.{Violation, comes_before, earlier, first_of, stop_at}
use Rattle.ec_language.specs.Letters.{Text}
use Rattle.ec_typing_defs.specs.statement_parts.Cursors.{declare_opened}
use Rattle.ec_typing_defs.specs.statement_parts.Handlers.{is_directive, action_among}
use Rattle.ec_typing_defs.specs.Statements.{labels_in, labels_in_kind, labels_in_all}
use Rattle.ec_typing_defs.specs.Tables.{Named}
use Rattle.ec_host_defs.specs.Bound.{program_of, faults_of, violation_at, violations_at, answer_by, bound_answer, statement_bound}
use Rattle.ec_host_defs.specs.Faults.{row_at}
use Rattle.ec_phases_defs.specs.Sources.{with_bound, bound_from}
use Rattle.ec_expansion_defs.specs.Calls.{call_by, prepared_opened}
use Rattle.ec_expansion_defs.specs.Handlers.{test_for, tests}
use Rattle.ec_expansion_defs.specs.Programs.{block_of, block_for, embedded}
use Rattle.ec_expansion_defs.specs.Statements.{before_stmts}
use Rattle.ec_phases_defs.specs.written.Calls.{call_with}
use Rattle.ec_sim_source_laws.proofs.block_lemmas.Numbers.{none_not, some_is}

-- ---- what is bound

ok_is : {A E : Type 0} {a b : A} → ◌≡◌ {A = Result A E} (Ok a) (Ok b) → a ≡ b
ok_is {A} {E} {a} e = λ j. value_or (e j)
  where
    value_or : Result A E → A
    value_or (Ok x) = x
    value_or (Err x) = a

err_not : {A E C : Type 0} {x : E} {a : A} → ◌≡◌ {A = Result A E} (Err x) (Ok a) → C
err_not {A} {E} e = absurd (subst by_case e tt)
  where
    by_case : Result A E → Type 0
    by_case (Ok x) = ⊥
    by_case (Err x) = Unit {0}

record IsAnswer (b c : BoundData) (vs : List Violation) : Type 0 where
  bound : c ≡ b
  none : vs ≡ []

answered : (b c : BoundData) (vs : List Violation) → answer_by b (stop_at (first_of vs)) ≡ Ok c → IsAnswer b c vs
answered b c [] e = record { bound = sym (ok_is e); none = refl }
answered b c (v ∷ vs) e = absurd (some (first_of vs) e)
  where
    either : (w : Violation) (first : Bool) → answer_by b (stop_at (if first then Some w else Some v)) ≡ Ok c → ⊥
    either w true h = err_not h
    either w false h = err_not h

    some : (o : Option Violation) → answer_by b (stop_at (earlier v o)) ≡ Ok c → ⊥
    some None h = err_not h
    some (Some w) h = either w (comes_before w v) h

none_of_none : {A B : Type 0} (f : A → B) (xs : List A) → map f xs ≡ [] → xs ≡ []
none_of_none f [] e = refl
none_of_none f (x ∷ xs) e = absurd (cc)

record Answers (t : TypedData) (k : ℕ) (bounds : List BoundData) (j : ℕ) (e : EmbData) : Type 0 where
  bound : BoundData
  is : slice_get bounds j ≡ Some bound
  answer : bound_answer t k e ≡ Ok bound

none_more : (n : ℕ) → n ≡ n + 0
none_more n = omega (arith)

one_more : (m n : ℕ) → suc m + n ≡ m + suc n
one_more m n = omega (arith)

none_first : (n : ℕ) → 0 + n ≡ n
none_first n = omega (arith)

answers : (t : TypedData) (base : ℕ) (es : List EmbData) (bounds : List BoundData) → bound_from t base es ≡ Ok bounds → (j : ℕ) (e : EmbData) → slice_get es j ≡ Some e → Answers t (base + j) bounds j e
answers t base [] bounds h j e g = none_not g
answers t base (x ∷ es) bounds h j e g = step (bound_answer t base x) (bound_from t (suc base) es) refl (λ bs k i f. answers t (suc base) es bs k i e f) h j g
  where
    step : (first : Result BoundData Stop) (rest : Result (List BoundData) Stop) → bound_answer t base x ≡ first
        → ((bs : List BoundData) → rest ≡ Ok bs → (i : ℕ) → slice_get es i ≡ Some e → Answers t (suc base + i) bs i e)
        → with_bound first rest ≡ Ok bounds → (i : ℕ) → slice_get (x ∷ es) i ≡ Some e → Answers t (base + i) bounds i e
    step (Err stop) rest p more k i f = err_not k
    step (Ok b) (Err stop) p more k i f = err_not k
    step (Ok b) (Ok bs) p more k zero f = record {
      bound = b;
      is = λ l. slice_get (sym (ok_is k) l) 0;
      answer = (λ l. bound_answer t (sym (none_more base) l) (sym (some_is f) l)) ∙ p;
    }
    step (Ok b) (Ok bs) p more k (suc i) f = behind (more bs refl i f)
      where
        behind : Answers t (suc base + i) bs i e → Answers t (base + suc i) bounds (suc i) e
        behind a = record {
          bound = a.bound;
          is = (λ l. slice_get (sym (ok_is k) l) (suc i)) ∙ a.is;
          answer = (λ l. bound_answer t (sym (one_more base i) l) e) ∙ a.answer;
        }

-- The statement of this number has these places, and no fault
pub record IsBound (t : TypedData) (bounds : List BoundData) (n : ℕ) (e : EmbData) : Type 0 where
  pub is : slice_get bounds n ≡ Some (statement_bound (program_of t) e (declare_opened t.unit.embs n e) (row_at t.denoted n))
  pub without_fault : faults_of t n e ≡ []

pub is_bound : (t : TypedData) (bounds : List BoundData) → bound_from t 0 t.unit.embs ≡ Ok bounds → (n : ℕ) (e : EmbData) → slice_get t.unit.embs n ≡ Some e → IsBound t bounds n e
is_bound t bounds h n e g = by_answer (answers t 0 t.unit.embs bounds h n e g)
  where
    by_answer : Answers t (0 + n) bounds n e → IsBound t bounds n e
    by_answer a =
        let x : IsAnswer (statement_bound (program_of t) e (declare_opened t.unit.embs n e) (row_at t.denoted n)) a.bound (violations_at t n e) =
        answered _ a.bound (violations_at t n e) ((λ i. bound_answer t (sym (none_first n) i) e) ∙ a.answer)
        in record {
          is = a.is ∙ (λ i. Some (x.bound i));
          without_fault = none_of_none (violation_at n e) (faults_of t n e) x.none;
        }

-- ---- the call

pub record HasCall (name : Option Text) (kind : EmbKindData) (b : BoundData) : Type 0 where
  pub call : Call ExprData
  pub is : call_by name kind b ≡ Some call

pub has_call : (e : EmbData) (name : Option Text) (kind : EmbKindData) (b : BoundData) → is_directive (record e { kind = kind }) ≡ false → HasCall name kind b
has_call e name (connect target n user password) b d = record { call = _; is = refl }
has_call e name (set_connection n) b d = record { call = _; is = refl }
has_call e name (disconnect n) b d = record { call = _; is = refl }
has_call e name (autocommit on) b d = record { call = _; is = refl }
has_call e name (trans text) b d = record { call = _; is = refl }
has_call e name (server_text parts outs) b d = record { call = _; is = refl }
has_call e name (declare_cursor cursor parts prepared) b d = absurd (true≢false d)
has_call e name (open_cursor cursor ins) b d = record { call = _; is = refl }
has_call e name (execute_immediate text) b d = record { call = _; is = refl }
has_call e name (prepare n text) b d = record { call = _; is = refl }
has_call e name (execute n ins outs) b d = record { call = _; is = refl }
has_call e name (deallocate n) b d = record { call = _; is = refl }
has_call e name (allocate_area area) b d = record { call = _; is = refl }
has_call e name (free_area area) b d = record { call = _; is = refl }
has_call e name (get_count area target) b d = record { call = _; is = refl }
has_call e name (get_items area index items) b d = record { call = _; is = refl }
has_call e name (set_count area value) b d = record { call = _; is = refl }
has_call e name (set_items area index items) b d = record { call = _; is = refl }
has_call e name (whenever condition action) b d = absurd (true≢false d)
has_call e name include_sqlca b d = absurd (true≢false d)

-- a call with other pointers has its name
pub name_kept : {A B : Type 0} (g : A → B) (c : Call A) → name_of (call_with g c) ≡ name_of c
name_kept g (library.run connection statement ins outs) = refl
name_kept g (library.connect target user password name) = refl
name_kept g (library.disconnect name) = refl
name_kept g (library.set_connection name) = refl
name_kept g (library.set_autocommit on connection) = refl
name_kept g (library.control connection text) = refl
name_kept g (library.prepare connection name text) = refl
name_kept g (library.deallocate connection name) = refl
name_kept g (library.allocate_descriptor name) = refl
name_kept g (library.deallocate_descriptor name) = refl
name_kept g (library.get_count name target) = refl
name_kept g (library.set_count name value) = refl
name_kept g (library.get_items name index items) = refl
name_kept g (library.set_items name index items) = refl

-- ---- its block

pub block_written : (handlers : List MarkData) (es : List EmbData) (bounds : List BoundData) (n : ℕ) (e : EmbData) (b : BoundData) (c : Call ExprData)
    → slice_get es n ≡ Some e → slice_get bounds n ≡ Some b → call_by (prepared_opened es n e) e.kind b ≡ Some c → embedded handlers es bounds n ≡ Some (block_of handlers e c)
block_written handlers es bounds n e b c here bound call =
    (λ i. option_and_then (λ x. option_and_then (block_for handlers es n x) (slice_get bounds n)) (here i))
    ∙ (λ i. option_and_then (block_for handlers es n e) (bound i))
    ∙ (λ i. option_map (block_of handlers e) (call i))

-- no label stands in these statements
abbrev AreBare : List StmtData → Type 0
AreBare [] = Unit {0}
AreBare (x ∷ xs) = ((ls : Named (Unit {0})) → labels_in x ls ≡ ls) × AreBare xs

both_bare : (xs ys : List StmtData) → AreBare xs → AreBare ys → AreBare (xs ++ ys)
both_bare [] ys p q = q
both_bare (x ∷ xs) ys p q = (p.0, both_bare xs ys p.1 q)

bare_listed : (xs : List StmtData) → AreBare xs → (ls : Named (Unit {0})) → labels_in_all (before_stmts xs no_stmts) ls ≡ ls
bare_listed [] p ls = refl
bare_listed (x ∷ xs) p ls = (λ i. labels_in_all (before_stmts xs no_stmts) (p.0 ls i)) ∙ bare_listed xs p.1 ls

bare_test : (line : Line) (c : Cond) (a : Option ActionData) → AreBare (test_for line c a)
bare_test line c None = tt
bare_test line c (Some continue_action) = tt
bare_test line c (Some (goto_action l)) = ((λ ls. refl), tt)
bare_test line c (Some print_action) = ((λ ls. refl), tt)
bare_test line c (Some stop_action) = ((λ ls. refl), tt)
bare_test line c (Some break_action) = ((λ ls. refl), tt)
bare_test line c (Some next_action) = ((λ ls. refl), tt)
bare_test line c (Some (call_action f es)) = ((λ ls. refl), tt)

module _ (handlers : List MarkData) (e : EmbData) where
  abbrev test : Cond → List StmtData
  test k = test_for e.line k (action_among handlers e.place k)

  tests_bare : AreBare (tests e.line (action_among handlers e.place))
  tests_bare = both_bare (test NotFound) (test Warning ++ test Error) (bare_test e.line NotFound _)
      (both_bare (test Warning) (test Error) (bare_test e.line Warning _) (bare_test e.line Error _))

  pub block_bare : (c : Call ExprData) (ls : Named (Unit {0})) → labels_in_kind (block_of handlers e c) ls ≡ ls
  block_bare c ls = bare_listed (tests e.line (action_among handlers e.place)) tests_bare ls
