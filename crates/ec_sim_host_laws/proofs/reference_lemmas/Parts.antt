-- Options, lists and texts, and what is found by one rule behind another.
use Rattle.std.proofs.Common.{◌≡◌, ◌∙◌, Bool, true, false, ◌&&◌, List, [], ◌∷◌, ◌++◌, map, drop, length, Option, Some, None, refl, sym, subst, eqb-true}
use Rattle.std.specs.Prelude.{nat_eq}
use Rattle.ec_language.specs.Letters.{Text, same_text}
use Rattle.ec_typing_defs.specs.Worlds.{World, Rule, chain}
use Rattle.ec_sim_host_laws.proofs.reference_lemmas.Staying.{Stays}

pub none_not : {A : Type 0} {a : A} {C : Type 0} → None ≡ Some a → C
none_not {A} {a} {C} e = absurd (subst by_case e tt)
  where
    by_case : Option A → Type 0
    by_case None = Unit {0}
    by_case (Some b) = ⊥

pub false_not : {C : Type 0} → false ≡ true → C
false_not {C} e = absurd (subst by_case e tt)
  where
    by_case : Bool → Type 0
    by_case false = Unit {0}
    by_case true = ⊥

pub some_is : {A : Type 0} {a b : A} → Some a ≡ Some b → a ≡ b
some_is {A} {a} {b} e = λ j. value_or (e j)
  where
    value_or : Option A → A
    value_or None = a
    value_or (Some c) = c

pub texts_equal : (a b : Text) → same_text a b ≡ true → a ≡ b
texts_equal [] [] e = refl
texts_equal [] (c ∷ b) e = false_not e
texts_equal (c ∷ a) [] e = false_not e
texts_equal (c ∷ a) (d ∷ b) e = go (nat_eq c d) refl (texts_equal a b) e
  where
    go : (t : Bool) → nat_eq c d ≡ t → (same_text a b ≡ true → a ≡ b) → (t && same_text a b) ≡ true → c ∷ a ≡ d ∷ b
    go true f g h = let p = eqb-true c d f in let q = g h in λ i. p i ∷ q i
    go false f g h = false_not h

-- ---- lists

pub full_not : {A : Type 0} {x : A} {xs : List A} {C : Type 0} → x ∷ xs ≡ [] → C
full_not {A} {x} {xs} {C} e = absurd (subst by_case (sym e) tt)
  where
    by_case : List A → Type 0
    by_case [] = Unit {0}
    by_case (x ∷ xs) = ⊥

pub front_empty : {A : Type 0} (xs ys : List A) → xs ++ ys ≡ [] → xs ≡ []
front_empty [] ys e = refl
front_empty (x ∷ xs) ys e = full_not e

pub back_empty : {A : Type 0} (xs ys : List A) → xs ++ ys ≡ [] → ys ≡ []
back_empty [] ys e = e
back_empty (x ∷ xs) ys e = full_not e

-- behind the first of these
pub behind_front : {A B : Type 0} (f : A → B) (xs ys : List A) (zs : List B) → drop (length xs) (map f (xs ++ ys) ++ zs) ≡ map f ys ++ zs
behind_front f [] ys zs = refl
behind_front f (x ∷ xs) ys zs = behind_front f xs ys zs

-- ---- rules

pub first_clean : {A B : Type 0} (m : Rule A) (f : A → Rule B) (w : World) → (chain m f w).found ≡ [] → (m w).found ≡ []
unfolding chain
first_clean m f w e = front_empty (m w).found (f (m w).answer (m w).world).found e

-- the first leaves what is known
pub rest_clean : {A B : Type 0} (m : Rule A) (f : A → Rule B) (w : World) → Stays m → (chain m f w).found ≡ [] → (f (m w).answer w).found ≡ []
unfolding chain
rest_clean m f w h e =
    sym (λ j. (f (m w).answer (h.world w j)).found)
    ∙ back_empty (m w).found (f (m w).answer (m w).world).found e
