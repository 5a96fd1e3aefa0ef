-- Places in lists.
use Rattle.std.proofs.Common.{◌≡◌, ℕ, zero, suc, Bool, true, false, List, [], ◌∷◌, ◌++◌, map, length, take, Option, Some, None, refl, subst, eqb-true, ◌==◌, slice_get, option_map, if◌then◌else◌}
use Rattle.std.specs.Prelude.{option_and_then}
use Rattle.ec_typing_defs.specs.Answers.{is_member, place_of}
use Rattle.ec_sim_world_laws.specs.place.Structs.{IsAmong}

-- ---- options

pub record Given {A : Type 0} (x : Option A) : Type 0 where
  pub value : A
  pub is : x ≡ Some value

pub none_not : {A : Type 0} {a : A} {C : Type 0} → None ≡ Some a → C
none_not {A} {a} {C} e = absurd (subst by_case e tt)
  where
    by_case : Option A → Type 0
    by_case None = Unit {0}
    by_case (Some b) = ⊥

pub false_not : {C : Type 0} → false ≡ true → C
false_not {C} e = absurd (subst by_case e tt)
  where
    by_case : Bool → Type 0
    by_case false = Unit {0}
    by_case true = ⊥

pub some_is : {A : Type 0} {a b : A} → Some a ≡ Some b → a ≡ b
some_is {A} {a} {b} e = λ j. value_or (e j)
  where
    value_or : Option A → A
    value_or None = a
    value_or (Some c) = c

-- what follows from a value that there is
pub record Follows {A B : Type 0} (f : A → Option B) (x : Option A) (b : B) : Type 0 where
  pub value : A
  pub is : x ≡ Some value
  pub then' : f value ≡ Some b

pub follows : {A B : Type 0} (f : A → Option B) (x : Option A) {b : B} → option_and_then f x ≡ Some b → Follows f x b
follows f None e = none_not e
follows f (Some a) e = record { value = a; is = refl; then' = e }

-- ---- lists

pub get_map : {A B : Type 0} (f : A → B) (xs : List A) (i : ℕ) → slice_get (map f xs) i ≡ option_map f (slice_get xs i)
get_map f [] i = refl
get_map f (x ∷ xs) zero = refl
get_map f (x ∷ xs) (suc i) = get_map f xs i

pub get_front : {A : Type 0} (xs ys : List A) (i : ℕ) {a : A} → slice_get xs i ≡ Some a → slice_get (xs ++ ys) i ≡ Some a
get_front [] ys i e = none_not e
get_front (x ∷ xs) ys zero e = e
get_front (x ∷ xs) ys (suc i) e = get_front xs ys i e

pub map_front : {A B : Type 0} (f : A → B) (xs ys : List A) → map f (xs ++ ys) ≡ map f xs ++ map f ys
map_front f [] ys = refl
map_front f (x ∷ xs) ys = λ j. f x ∷ map_front f xs ys j

pub take_front : {A B : Type 0} (f : A → B) (xs ys : List A) → take (length xs) (map f (xs ++ ys)) ≡ map f xs
take_front f [] ys = refl
take_front f (x ∷ xs) ys = λ j. f x ∷ take_front f xs ys j

-- ---- the places of numbers

abbrev pub among_by : (b : Bool) (k : ℕ) (xs : List ℕ) → Bool
among_by b k xs = if b then true else is_member k xs

abbrev pub place_by : (b : Bool) (k : ℕ) (xs : List ℕ) → ℕ
place_by b k xs = if b then 0 else suc (place_of k xs)

-- a number that is among these has there its place, whatever stands behind them
pub placed : (xs ys : List ℕ) (k : ℕ) → IsAmong xs k → slice_get xs (place_of k (xs ++ ys)) ≡ Some k
placed [] ys k e = false_not e
placed (x ∷ xs) ys k e = by_test (x == k) refl e (λ e. placed xs ys k e)
  where
    by_test : (b : Bool) → (x == k) ≡ b → among_by b k xs ≡ true → (IsAmong xs k → slice_get xs (place_of k (xs ++ ys)) ≡ Some k)
        → slice_get (x ∷ xs) (place_by b k (xs ++ ys)) ≡ Some k
    by_test true same e more = λ j. Some (eqb-true x k same j)
    by_test false other e more = more e
