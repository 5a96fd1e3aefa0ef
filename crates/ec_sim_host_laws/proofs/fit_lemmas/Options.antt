-- Values and lists that there are.
use Rattle.std.proofs.Common.{◌≡◌, ℕ, ◌*◌, ◌≤◌, Bool, true, false, not, ◌&&◌, List, [], ◌∷◌, ◌++◌, Option, Some, None, refl, subst, option_map, is_some, arith}
use Rattle.std.specs.Prelude.{option_and_then}
use Rattle.ec_host_defs.specs.Leaves.{both}
use Rattle.ec_sim_world_laws.proofs.closing_lemmas.Lists.{none_not, false_not, some_is}

-- ---- options

pub record Given {A : Type 0} (o : Option A) : Type 0 where
  pub value : A
  pub is : o ≡ Some value

pub given : {A : Type 0} (o : Option A) → is_some o ≡ true → Given o
given None e = false_not e
given (Some a) e = record { value = a; is = refl }

pub record Follows {A B : Type 0} (f : A → Option B) (x : Option A) (b : B) : Type 0 where
  pub value : A
  pub is : x ≡ Some value
  pub then' : f value ≡ Some b

pub follows : {A B : Type 0} (f : A → Option B) (x : Option A) {b : B} → option_and_then f x ≡ Some b → Follows f x b
follows f None e = none_not e
follows f (Some a) e = record { value = a; is = refl; then' = e }

pub record Mapped {A B : Type 0} (f : A → B) (o : Option A) (b : B) : Type 0 where
  pub value : A
  pub is : o ≡ Some value
  pub gives : f value ≡ b

pub mapped : {A B : Type 0} (f : A → B) (o : Option A) {b : B} → option_map f o ≡ Some b → Mapped f o b
mapped f None e = none_not e
mapped f (Some a) e = record { value = a; is = refl; gives = some_is e }

pub record Joined {A : Type 0} (x y : Option (List A)) (all : List A) : Type 0 where
  pub first : List A
  pub second : List A
  pub is_first : x ≡ Some first
  pub is_second : y ≡ Some second
  pub are : first ++ second ≡ all

pub joined : {A : Type 0} (x y : Option (List A)) {all : List A} → both x y ≡ Some all → Joined x y all
joined None y e = none_not e
joined (Some xs) None e = none_not e
joined (Some xs) (Some ys) e = record { first = xs; second = ys; is_first = refl; is_second = refl; are = some_is e }

-- ---- tests

pub true_not : {C : Type 0} → true ≡ false → C
true_not {C} e = absurd (subst by_case e tt)
  where
    by_case : Bool → Type 0
    by_case true = Unit {0}
    by_case false = ⊥

pub first_true : (a b : Bool) → (a && b) ≡ true → a ≡ true
first_true true b e = refl
first_true false b e = false_not e

pub second_true : (a b : Bool) → (a && b) ≡ true → b ≡ true
second_true true b e = e
second_true false b e = false_not e

pub not_true : (a : Bool) → not a ≡ true → a ≡ false
not_true true e = false_not e
not_true false e = refl

pub not_false : (a : Bool) → not a ≡ false → a ≡ true
not_false true e = refl
not_false false e = true_not e

-- ---- lists of nothing

pub cons_not : {A : Type 0} {x : A} {xs : List A} {C : Type 0} → x ∷ xs ≡ [] → C
cons_not {A} {x} {xs} {C} e = absurd (subst by_case e tt)
  where
    by_case : List A → Type 0
    by_case [] = ⊥
    by_case (y ∷ ys) = Unit {0}

pub no_first : {A : Type 0} (xs ys : List A) → xs ++ ys ≡ [] → xs ≡ []
no_first [] ys e = refl
no_first (x ∷ xs) ys e = cons_not e

pub no_second : {A : Type 0} (xs ys : List A) → xs ++ ys ≡ [] → ys ≡ []
no_second [] ys e = e
no_second (x ∷ xs) ys e = cons_not e

-- ---- numbers

pub up_to : (a b c : ℕ) → a ≤ b → b ≤ c → a ≤ c
up_to a b c p q = omega (arith, p, q)

pub itself : (a : ℕ) → a ≤ a
itself a = omega arith

-- so many elements of a byte or more
pub count_within : (n a m : ℕ) → 1 ≤ a → n * a ≤ m → n ≤ m
count_within n a m p h = grind (arith, p, h)
