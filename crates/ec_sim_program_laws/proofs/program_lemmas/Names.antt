-- Names are declared alike: none of them is reserved.
use Rattle.std.proofs.Common.{◌≡◌, ◌∙◌, Bool, true, false, not, ◌&&◌, [], ◌∷◌, Some, None, refl, sym, ap, subst, eqb-true}
use Rattle.std.proofs.lemmas.Bool.{false≢true, true≢false}
use Rattle.std.specs.Prelude.{nat_eq, is_some, if◌then◌else◌}
use Rattle.ec_base.specs.declared.fault.FaultKind.TheVariants.{F10, F12}
use Rattle.ec_ctypes.specs.trees.Types.{TyData}
use Rattle.ec_language.specs.Letters.{Text, same_text}
use Rattle.ec_typing_defs.specs.Tables.{Named, find, put}
use Rattle.ec_typing_defs.specs.Known.{is_reserved}
use Rattle.ec_typing_defs.specs.Worlds.{Place, EntryData, ScopeData, World, Rule, chain as check_chain, pure as check_pure, ask as check_ask, change, note, demand, with_name, free_name, declare, know_better, declare_label, number_as}
use Rattle.ec_resolving_defs.specs.Storage.{Resolving, chain, checks}
use Rattle.ec_sim_statement_laws.specs.expression.Worlds.{KeepsReserved, AreAlike}
use Rattle.ec_sim_statement_laws.specs.expression.Alike.{IsAlike}
use Rattle.ec_sim_statement_laws.specs.expression.Known.{with_types, with_labels}
use Rattle.ec_sim_statement_laws.specs.expression.Rules.{none_before, some_found, CheckAlike, check_chain_alike, asked_alike, change_alike, demand_alike, checks_alike, chain_alike}
use Rattle.ec_sim_statement_laws.specs.expression.Checks.{free_name_alike}

-- ---- tables

pub texts_equal : (a b : Text) → same_text a b ≡ true → a ≡ b
texts_equal [] [] e = refl
texts_equal [] (c ∷ b) e = absurd (false≢true e)
texts_equal (c ∷ a) [] e = absurd (false≢true e)
texts_equal (c ∷ a) (d ∷ b) e = go (nat_eq c d) refl (texts_equal a b) e
  where
    go : (t : Bool) → nat_eq c d ≡ t → (same_text a b ≡ true → a ≡ b) → (t && same_text a b) ≡ true → c ∷ a ≡ d ∷ b
    go true f g h = let p = eqb-true c d f in let q = g h in λ i. p i ∷ q i
    go false f g h = absurd (false≢true h)

-- a reserved name is none that isn't
other_text : (x name : Text) → is_reserved x ≡ true → is_reserved name ≡ false → same_text x name ≡ false
other_text x name p q = go (same_text x name) refl
  where
    go : (t : Bool) → same_text x name ≡ t → t ≡ false
    go false e = refl
    go true e = absurd (true≢false (sym p ∙ ap is_reserved (texts_equal x name e) ∙ q))

-- a name that is put into a table changes no other
pub find_other : {V : Type 0} (x name : Text) (v : V) (es : Named V) → is_reserved x ≡ true → is_reserved name ≡ false → find x (put name v es) ≡ find x es
find_other x name v [] p q = λ i. if other_text x name p q i then Some v else None
find_other {V} x name v (e ∷ es) p q = go (same_text name e.0) refl (find_other x name v es p q)
  where
    go : (t : Bool) → same_text name e.0 ≡ t → find x (put name v es) ≡ find x es → find x (if t then (e.0, v) ∷ es else e ∷ put name v es) ≡ (if same_text x e.0 then Some e.1 else find x es)
    go true same rest =
        let other : same_text x e.0 ≡ false = (λ i. same_text x (sym (texts_equal name e.0 same) i)) ∙ other_text x name p q in
        (λ i. if other i then Some v else find x es) ∙ sym (λ i. if other i then Some e.1 else find x es)
    go false same rest = λ i. if same_text x e.0 then Some e.1 else rest i

-- ---- scopes

pub with_name_kept : (name : Text) (entry : EntryData) (s : ScopeData) → is_reserved name ≡ false → KeepsReserved s → KeepsReserved (record { names = put name entry s.names; tags = s.tags })
with_name_kept name entry s free kept = λ x e. find_other x name entry s.names e free ∙ kept x e

pub with_names : (w v : World) → AreAlike w v → (name : Text) (entry : EntryData) → is_reserved name ≡ false → AreAlike (with_name name entry w) (with_name name entry v)
with_names w v alike name entry free = record {
  is_source = alike.is_source;
  is_written = alike.is_written;
  here = λ i. record { names = put name entry (alike.here i).names; tags = (alike.here i).tags };
  outer = alike.outer;
  structs = alike.structs;
  closed = alike.closed;
  types = alike.types;
  defined = alike.defined;
  labels = alike.labels;
  reserved_here = with_name_kept name entry w.here free alike.reserved_here;
  reserved_outer = alike.reserved_outer;
}

-- what is known of the name is put into its scope, and it is told whether it was there, and whether it is reserved
declared_by : Place → Text → EntryData → Bool → Bool → Rule (Unit {0})
declared_by at name entry fresh free = check_chain (change (with_name name entry)) (λ _. check_chain (demand at F10 fresh) (λ _. demand at F12 free))

pub not_false : (b : Bool) → not b ≡ true → b ≡ false
not_false true e = absurd (false≢true e)
not_false false e = refl

by_alike : (at there : Place) (name : Text) (entry : EntryData) (fresh free : Bool) → (free ≡ true → is_reserved name ≡ false)
    → CheckAlike (declared_by at name entry fresh free) (declared_by there name entry fresh free)
unfolding declared_by check_chain change demand note check_pure
by_alike at there name entry true true p = record {
  finds = λ w v alike e. record { answer = refl; without_fault = refl; worlds = with_names w v alike name entry (p refl) };
}
by_alike at there name entry true false p = record { finds = λ w v alike e. absurd (some_found e) }
by_alike at there name entry false free p = record { finds = λ w v alike e. absurd (some_found e) }

pub declare_alike : (at there : Place) (name : Text) (entry : EntryData) → CheckAlike (declare at name entry) (declare there name entry)
unfolding declare free_name declared_by
declare_alike at there name entry =
    asked_alike _ _ _ _ (λ w v alike. subst (λ b. CheckAlike (declared_by at name entry (not (is_some (find name w.here.names))) (not (is_reserved name))) (declared_by there name entry b (not (is_reserved name))))
    (λ i. not (is_some (find name (sym alike.here i).names)))
    (by_alike at there name entry (not (is_some (find name w.here.names))) (not (is_reserved name)) (not_false (is_reserved name))))

-- what a declared name is
free_behind : (at : Place) (name : Text) (entry : EntryData) (w : World) (fresh free : Bool) → (declared_by at name entry fresh free w).found ≡ [] → free ≡ true
unfolding declared_by check_chain change demand note check_pure
free_behind at name entry w true true e = refl
free_behind at name entry w true false e = absurd (some_found e)
free_behind at name entry w false free e = absurd (some_found e)

declared_free : (at : Place) (name : Text) (entry : EntryData) (w : World) → (declare at name entry w).found ≡ [] → is_reserved name ≡ false
unfolding declare free_name declared_by check_chain check_ask
declared_free at name entry w e = not_false (is_reserved name) (free_behind at name entry w (not (is_some (find name w.here.names))) (not (is_reserved name)) e)

-- what holds where the first rule finds nothing
pub known_first : {A B D : Type 0} {P : A → Type 0} {seen : A → B} {Q : Type 0} (c : Rule D) (e : D → Rule B) {d : Rule B} {m n : Resolving A}
    → ((w : World) → (c w).found ≡ [] → Q) → (Q → IsAlike P seen (check_chain c e) d m n) → IsAlike P seen (check_chain c e) d m n
unfolding check_chain
known_first c e q p = record {
  finds = λ s t w v same alike none. (p (q w (none_before (c w).found (e (c w).answer (c w).world).found none))).finds s t w v same alike none;
}

-- behind it the name is known to be free
pub declare_first : {A B : Type 0} {P : A → Type 0} {seen : A → B} (at there : Place) (name : Text) (entry : EntryData) (e f : Unit {0} → Rule B) (k l : Unit {0} → Resolving A)
    → (is_reserved name ≡ false → IsAlike P seen (e tt) (f tt) (k tt) (l tt))
    → IsAlike P seen (check_chain (declare at name entry) e) (check_chain (declare there name entry) f) (chain (checks (declare at name entry)) k) (chain (checks (declare there name entry)) l)
declare_first at there name entry e f k l p =
    known_first (declare at name entry) e (declared_free at name entry) (λ free. chain_alike _ _ _ _ _ _ _ _ (checks_alike _ _ (declare_alike at there name entry)) (λ _ _. p free))

pub better_alike : (name : Text) (entry : EntryData) → is_reserved name ≡ false → CheckAlike (know_better name entry) (know_better name entry)
unfolding know_better
better_alike name entry free = change_alike _ _ (λ w v alike. with_names w v alike name entry free)

pub number_alike : (t : TyData) → CheckAlike (number_as t) (number_as t)
unfolding number_as
number_alike t = change_alike _ _ (λ w v alike. with_types w v alike t)

-- ---- labels

labelled_by : Place → Text → Bool → Rule (Unit {0})
labelled_by at name fresh = check_chain (change (λ w. record w { labels = put name tt w.labels })) (λ _. check_chain (demand at F10 fresh) (λ _. free_name at name))

labelled_alike : (at there : Place) (name : Text) (fresh : Bool) → CheckAlike (labelled_by at name fresh) (labelled_by there name fresh)
unfolding labelled_by
labelled_alike at there name fresh =
    check_chain_alike _ _ _ _ (change_alike _ _ (λ w v alike. subst (λ ls. AreAlike (record w { labels = put name tt w.labels }) (record v { labels = put name tt ls })) (sym alike.labels) (with_labels w v alike (put name tt w.labels)))) (λ _.
    check_chain_alike _ _ _ _ (demand_alike at there F10 fresh fresh (λ e. e)) (λ _. free_name_alike at there name))

pub label_alike : (at there : Place) (name : Text) → CheckAlike (declare_label at name) (declare_label there name)
unfolding declare_label labelled_by
label_alike at there name =
    asked_alike _ _ _ _ (λ w v alike. subst (λ b. CheckAlike (labelled_by at name (not (is_some (find name w.labels)))) (labelled_by there name b))
    (λ i. not (is_some (find name (sym alike.labels i))))
    (labelled_alike at there name (not (is_some (find name w.labels)))))
