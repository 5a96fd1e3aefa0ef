-- Members, no two of which have one name.
use Rattle.std.proofs.Common.{◌≡◌, ◌∙◌, Bool, true, false, ◌&&◌, [], ◌∷◌, Option, Some, None, refl, sym, ap, eqb-true, if◌then◌else◌}
use Rattle.std.specs.Prelude.{nat_eq}
use Rattle.std.specs.Cmp.Lexicographic.{nat_list_eq_equiv}
use Rattle.ec_language.specs.Letters.{Text, same_text}
use Rattle.ec_ctypes.specs.trees.Types.{TyData}
use Rattle.ec_typing_defs.specs.Tables.{find, put}
use Rattle.ec_typing_defs.specs.Expressions.{Members}
use Rattle.ec_sim_world_laws.specs.place.Structs.{EachStructIn, EachMember, AreNamed}
use Rattle.ec_sim_world_laws.specs.closing.Closing.{AreDistinct, IsSizedIn, AreSized}
use Rattle.ec_sim_world_laws.proofs.closing_lemmas.Lists.{none_not, false_not}

texts_equal : (a b : Text) → same_text a b ≡ true → a ≡ b
texts_equal [] [] e = refl
texts_equal [] (c ∷ b) e = false_not e
texts_equal (c ∷ a) [] e = false_not e
texts_equal (c ∷ a) (d ∷ b) e = go (nat_eq c d) refl (texts_equal a b) e
  where
    go : (t : Bool) → nat_eq c d ≡ t → (same_text a b ≡ true → a ≡ b) → (t && same_text a b) ≡ true → c ∷ a ≡ d ∷ b
    go true f g h = let p = eqb-true c d f in let q = g h in λ i. p i ∷ q i
    go false f g h = false_not h

-- a member by its name, where the test of the first is known
abbrev one_by : Bool → Option TyData → Option (Option TyData) → Option (Option TyData)
one_by b t rest = if b then Some t else rest

-- another name stands for what it stood for
find_other : (x name : Text) (v : Option TyData) (ms : Members) → same_text x name ≡ false → find x (put name v ms) ≡ find x ms
find_other x name v [] n = λ j. one_by (n j) v None
find_other x name v (m ∷ ms) n = by_test (same_text name m.0) refl (find_other x name v ms n)
  where
    by_test : (b : Bool) → same_text name m.0 ≡ b → find x (put name v ms) ≡ find x ms
        → find x (if b then (m.0, v) ∷ ms else m ∷ put name v ms) ≡ find x (m ∷ ms)
    by_test true same rest = let f = sym (ap (λ y. same_text x y) (texts_equal name m.0 same)) ∙ n in (λ j. one_by (f j) v (find x ms)) ∙ sym (λ j. one_by (f j) m.1 (find x ms))
    by_test false other rest = λ j. one_by (same_text x m.0) m.1 (rest j)

pub put_distinct : (name : Text) (v : Option TyData) (ms : Members) → AreDistinct ms → AreDistinct (put name v ms)
put_distinct name v [] h = (refl, tt)
put_distinct name v (m ∷ ms) h = by_test (same_text name m.0) refl (put_distinct name v ms h.1)
  where
    by_test : (b : Bool) → same_text name m.0 ≡ b → AreDistinct (put name v ms) → AreDistinct (if b then (m.0, v) ∷ ms else m ∷ put name v ms)
    by_test true same rest = (h.0, h.1)
    by_test false other rest = (find_other m.0 name v ms (nat_list_eq_equiv.symm m.0 name ∙ other) ∙ h.0, rest)

-- what lies in the types of members, with one more of them
pub put_inside : (P : _) (name : Text) (v : Option TyData) (ms : Members) → EachStructIn P v → EachMember P ms → EachMember P (put name v ms)
put_inside P name v [] p h = (p, tt)
put_inside P name v (m ∷ ms) p h = by_test (same_text name m.0) (put_inside P name v ms p h.1)
  where
    by_test : (b : Bool) → EachMember P (put name v ms) → EachMember P (if b then (m.0, v) ∷ ms else m ∷ put name v ms)
    by_test true rest = (p, h.1)
    by_test false rest = (h.0, rest)

pub put_sized : (name : Text) (v : Option TyData) (ms : Members) → IsSizedIn v → AreSized ms → AreSized (put name v ms)
put_sized name v [] p h = (p, tt)
put_sized name v (m ∷ ms) p h = by_test (same_text name m.0) (put_sized name v ms p h.1)
  where
    by_test : (b : Bool) → AreSized (put name v ms) → AreSized (if b then (m.0, v) ∷ ms else m ∷ put name v ms)
    by_test true rest = (p, h.1)
    by_test false rest = (h.0, rest)

-- ---- each is the first of its name

named_behind : (m : Text × Option TyData) (ms some : Members) → find m.0 ms ≡ None → AreNamed ms some → AreNamed (m ∷ ms) some
named_behind m ms [] n h = tt
named_behind m ms (s ∷ some) n h = (by_test (same_text s.0 m.0) refl, named_behind m ms some n h.1)
  where
    by_test : (b : Bool) → same_text s.0 m.0 ≡ b → one_by b m.1 (find s.0 ms) ≡ Some s.1
    by_test true same = none_not (sym n ∙ sym (ap (λ y. find y ms) (texts_equal s.0 m.0 same)) ∙ h.0)
    by_test false other = h.0

pub distinct_named : (ms : Members) → AreDistinct ms → AreNamed ms ms
distinct_named [] h = tt
distinct_named (m ∷ ms) h = ((λ j. one_by (nat_list_eq_equiv.refl m.0 j) m.1 (find m.0 ms)), named_behind m ms ms h.0 (distinct_named ms h.1))
