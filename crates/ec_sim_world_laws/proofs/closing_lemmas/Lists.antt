-- Places in lists.
use Rattle.std.proofs.Common.{◌≡◌, ◌⊎◌, inl, inr, ℕ, zero, suc, Bool, true, false, List, [], ◌∷◌, ◌++◌, map, length, Option, Some, None, refl, ap, subst, eqb-true, ◌==◌, slice_get, slice_set, option_map, arith, if◌then◌else◌}
use Rattle.std.proofs.lemmas.Bool.Decides.{nat_tests}
use Rattle.ec_typing_defs.specs.Answers.{is_member}
use Rattle.ec_sim_world_laws.specs.place.Structs.{IsAmong}

pub none_not : {A : Type 0} {a : A} {C : Type 0} → None ≡ Some a → C
none_not {A} {a} {C} e = absurd (subst by_case e tt)
  where
    by_case : Option A → Type 0
    by_case None = Unit {0}
    by_case (Some b) = ⊥

pub false_not : {C : Type 0} → false ≡ true → C
false_not {C} e = absurd (subst by_case e tt)
  where
    by_case : Bool → Type 0
    by_case false = Unit {0}
    by_case true = ⊥

pub some_is : {A : Type 0} {a b : A} → Some a ≡ Some b → a ≡ b
some_is {A} {a} {b} e = λ j. value_or (e j)
  where
    value_or : Option A → A
    value_or None = a
    value_or (Some c) = c

pub get_map : {A B : Type 0} (f : A → B) (xs : List A) (i : ℕ) → slice_get (map f xs) i ≡ option_map f (slice_get xs i)
get_map f [] i = refl
get_map f (x ∷ xs) zero = refl
get_map f (x ∷ xs) (suc i) = get_map f xs i

-- one more behind these
pub get_behind : {A : Type 0} (xs : List A) (y : A) (j : ℕ) → (slice_get (xs ++ y ∷ []) j ≡ slice_get xs j) ⊎ (j ≡ length xs)
get_behind [] y zero = inr refl
get_behind [] y (suc j) = inl refl
get_behind (x ∷ xs) y zero = inl refl
get_behind (x ∷ xs) y (suc j) = go (get_behind xs y j)
  where
    go : (slice_get (xs ++ y ∷ []) j ≡ slice_get xs j) ⊎ (j ≡ length xs) → (slice_get (xs ++ y ∷ []) j ≡ slice_get xs j) ⊎ (suc j ≡ suc (length xs))
    go (inl same) = inl same
    go (inr is) = inr (ap (λ n. suc n) is)

pub get_front : {A : Type 0} (xs ys : List A) (i : ℕ) {a : A} → slice_get xs i ≡ Some a → slice_get (xs ++ ys) i ≡ Some a
get_front [] ys i e = none_not e
get_front (x ∷ xs) ys zero e = e
get_front (x ∷ xs) ys (suc i) e = get_front xs ys i e

pub get_last : {A : Type 0} (xs : List A) (y : A) → slice_get (xs ++ y ∷ []) (length xs) ≡ Some y
get_last [] y = refl
get_last (x ∷ xs) y = get_last xs y

pub none_at_end : {A : Type 0} (xs : List A) → slice_get xs (length xs) ≡ None
none_at_end [] = refl
none_at_end (x ∷ xs) = none_at_end xs

pub set_elsewhere : {A : Type 0} (xs : List A) (k j : ℕ) (y : A) → (slice_get (slice_set xs k y) j ≡ slice_get xs j) ⊎ (j ≡ k)
set_elsewhere [] k j y = inl refl
set_elsewhere (x ∷ xs) zero zero y = inr refl
set_elsewhere (x ∷ xs) zero (suc j) y = inl refl
set_elsewhere (x ∷ xs) (suc k) zero y = inl refl
set_elsewhere (x ∷ xs) (suc k) (suc j) y = go (set_elsewhere xs k j y)
  where
    go : (slice_get (slice_set xs k y) j ≡ slice_get xs j) ⊎ (j ≡ k) → (slice_get (slice_set xs k y) j ≡ slice_get xs j) ⊎ (suc j ≡ suc k)
    go (inl same) = inl same
    go (inr is) = inr (ap (λ n. suc n) is)

pub set_here : {A : Type 0} (xs : List A) (k : ℕ) (y : A) {x : A} → slice_get xs k ≡ Some x → slice_get (slice_set xs k y) k ≡ Some y
set_here [] k y e = none_not e
set_here (x ∷ xs) zero y e = refl
set_here (x ∷ xs) (suc k) y e = set_here xs k y e

-- ---- what is among numbers

abbrev pub among_by : (b : Bool) (k : ℕ) (xs : List ℕ) → Bool
among_by b k xs = if b then true else is_member k xs

pub among_front : (xs ys : List ℕ) (k : ℕ) → IsAmong xs k → IsAmong (xs ++ ys) k
among_front [] ys k e = false_not e
among_front (x ∷ xs) ys k e = by_test (x == k) e (λ e. among_front xs ys k e)
  where
    by_test : (b : Bool) → among_by b k xs ≡ true → (IsAmong xs k → IsAmong (xs ++ ys) k) → among_by b k (xs ++ ys) ≡ true
    by_test true e more = e
    by_test false e more = more e

same_number : (k : ℕ) → (k == k) ≡ true
same_number k = grind (arith, nat_tests)

pub among_last : (xs : List ℕ) (k : ℕ) → IsAmong (xs ++ k ∷ []) k
among_last [] k = λ j. among_by (same_number k j) k []
among_last (x ∷ xs) k = by_test (x == k) (among_last xs k)
  where
    by_test : (b : Bool) → IsAmong (xs ++ k ∷ []) k → among_by b k (xs ++ k ∷ []) ≡ true
    by_test true e = refl
    by_test false e = e

pub among_later : (x : ℕ) (xs : List ℕ) (k : ℕ) → IsAmong xs k → IsAmong (x ∷ xs) k
among_later x xs k e = by_test (x == k)
  where
    by_test : (b : Bool) → among_by b k xs ≡ true
    by_test true = refl
    by_test false = e

-- what holds of these and of one more behind them
pub each_behind : (P : ℕ → Type 0) (xs : List ℕ) (k : ℕ) → ((j : ℕ) → IsAmong xs j → P j) → P k → (j : ℕ) → IsAmong (xs ++ k ∷ []) j → P j
each_behind P [] k h p j e = by_test (k == j) refl e
  where
    by_test : (b : Bool) → (k == j) ≡ b → among_by b j [] ≡ true → P j
    by_test true same e = subst P (eqb-true k j same) p
    by_test false other e = false_not e
each_behind P (x ∷ xs) k h p j e = by_test (x == j) refl e (λ e. each_behind P xs k (λ i a. h i (among_later x xs i a)) p j e)
  where
    by_test : (b : Bool) → (x == j) ≡ b → among_by b j (xs ++ k ∷ []) ≡ true → (IsAmong (xs ++ k ∷ []) j → P j) → P j
    by_test true same e more = h j (λ i. among_by (same i) j xs)
    by_test false other e more = more e

-- and of one more in front of them
pub each_among : (P : ℕ → Type 0) (x : ℕ) (xs : List ℕ) → P x → ((j : ℕ) → IsAmong xs j → P j) → (j : ℕ) → IsAmong (x ∷ xs) j → P j
each_among P x xs p h j e = by_test (x == j) refl e
  where
    by_test : (b : Bool) → (x == j) ≡ b → among_by b j xs ≡ true → P j
    by_test true same e = subst P (eqb-true x j same) p
    by_test false other e = h j e
