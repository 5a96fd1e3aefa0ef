-- Truth values, lists and options.
use Rattle.std.proofs.Common.{◌≡◌, ℕ, zero, suc, ◌+◌, Bool, true, false, List, [], ◌∷◌, ◌++◌, map, Option, Some, None, refl, subst, arith, slice_get, option_map, ◌&&◌}

pub left_true : (a b : Bool) → (a && b) ≡ true → a ≡ true
left_true true b e = refl
left_true false b e = e

pub right_true : (a b : Bool) → (a && b) ≡ true → b ≡ true
right_true true b e = e
right_true false b e = absurd (subst by_case e tt)
  where
    by_case : Bool → Type 0
    by_case false = Unit {0}
    by_case true = ⊥

pub both_true : (a b : Bool) → a ≡ true → b ≡ true → (a && b) ≡ true
both_true a b p q = λ j. p j && q j

pub both_kept : (a b c d : Bool) → (a ≡ true → c ≡ true) → (b ≡ true → d ≡ true) → (a && b) ≡ true → (c && d) ≡ true
both_kept a b c d p q e = both_true c d (p (left_true a b e)) (q (right_true a b e))

pub none_not : {A : Type 0} {a : A} {C : Type 0} → None ≡ Some a → C
none_not {A} {a} {C} e = absurd (subst by_case e tt)
  where
    by_case : Option A → Type 0
    by_case None = Unit {0}
    by_case (Some b) = ⊥

pub false_not : {C : Type 0} → false ≡ true → C
false_not {C} e = absurd (subst by_case e tt)
  where
    by_case : Bool → Type 0
    by_case false = Unit {0}
    by_case true = ⊥

pub some_is : {A : Type 0} {a b : A} → Some a ≡ Some b → a ≡ b
some_is {A} {a} {b} e = λ j. value_or (e j)
  where
    value_or : Option A → A
    value_or None = a
    value_or (Some c) = c

-- ---- lists

pub cons_not : {A : Type 0} {x : A} {xs : List A} {C : Type 0} → x ∷ xs ≡ [] → C
cons_not {A} {x} {xs} {C} e = absurd (subst by_case e tt)
  where
    by_case : List A → Type 0
    by_case [] = ⊥
    by_case (y ∷ ys) = Unit {0}

pub left_none : {A : Type 0} (xs ys : List A) → xs ++ ys ≡ [] → xs ≡ []
left_none [] ys e = refl
left_none (x ∷ xs) ys e = cons_not e

pub right_none : {A : Type 0} (xs ys : List A) → xs ++ ys ≡ [] → ys ≡ []
right_none [] ys e = e
right_none (x ∷ xs) ys e = cons_not e

pub get_map : {A B : Type 0} (f : A → B) (xs : List A) (i : ℕ) → slice_get (map f xs) i ≡ option_map f (slice_get xs i)
get_map f [] i = refl
get_map f (x ∷ xs) zero = refl
get_map f (x ∷ xs) (suc i) = get_map f xs i

pub map_front : {A B : Type 0} (f : A → B) (xs ys : List A) → map f (xs ++ ys) ≡ map f xs ++ map f ys
map_front f [] ys = refl
map_front f (x ∷ xs) ys = λ j. f x ∷ map_front f xs ys j

pub and_none : (n : ℕ) → n + 0 ≡ n
and_none n = omega arith
