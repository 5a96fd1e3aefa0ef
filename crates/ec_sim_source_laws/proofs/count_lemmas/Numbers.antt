-- The statements of a source have their numbers in the order of the text, and a form of each is found at its place.
use Rattle.std.proofs.Common.{◌≡◌, ◌∙◌, ℕ, zero, suc, ◌+◌, ◌<◌, List, [], ◌∷◌, ◌++◌, length, map, sym, subst, Option, Some, None, refl, arith, slice_get}
use Rattle.ec_ctypes.specs.trees.Units.{UnitData}
use Rattle.ec_written_laws.specs.bound.Numbers.{numbers_from}
use Rattle.ec_host_defs.specs.Programs.{Denoted}
use Rattle.ec_typing_defs.specs.Worlds.{World}
use Rattle.ec_resolving_defs.specs.Storage.{Storage, StatementForm}
use Rattle.ec_sim_world_laws.specs.known.Known.{IsFound, AreFound}

-- ---- options and lists

pub none_not : {A C : Type 0} {a : A} → None ≡ Some a → C
none_not {A} {C} e = absurd (subst by_case e tt)
  where
    by_case : Option A → Type 0
    by_case None = Unit {0}
    by_case (Some b) = ⊥

pub some_is : {A : Type 0} {a b : A} → Some a ≡ Some b → a ≡ b
some_is {A} {a} {b} e = λ j. value_or (e j)
  where
    value_or : Option A → A
    value_or None = a
    value_or (Some c) = c

nil_not : {A C : Type 0} {x : A} {xs : List A} → x ∷ xs ≡ [] → C
nil_not {A} e = absurd (subst by_case e tt)
  where
    by_case : List A → Type 0
    by_case [] = ⊥
    by_case (y ∷ ys) = Unit {0}

head_is : {A : Type 0} {x y : A} {xs ys : List A} → x ∷ xs ≡ y ∷ ys → x ≡ y
head_is {A} {x} e = λ j. head_or (e j)
  where
    head_or : List A → A
    head_or [] = x
    head_or (z ∷ zs) = z

rest_is : {A : Type 0} {x y : A} {xs ys : List A} → x ∷ xs ≡ y ∷ ys → xs ≡ ys
rest_is {A} {xs = xs} e = λ j. rest_or (e j)
  where
    rest_or : List A → List A
    rest_or [] = xs
    rest_or (z ∷ zs) = zs

above_none : (n : ℕ) → 0 < suc n
above_none n = omega (arith)

above_one : (m n : ℕ) → m < n → suc m < suc n
above_one m n e = omega (arith, e)

-- there is something at this place only in front of the end
pub place_below : {A : Type 0} (xs : List A) (n : ℕ) {x : A} → slice_get xs n ≡ Some x → n < length xs
place_below [] n e = none_not e
place_below (y ∷ xs) zero e = above_none (length xs)
place_below (y ∷ xs) (suc n) e = above_one n (length xs) (place_below xs n e)

pub map_joined : {A B : Type 0} (f : A → B) (xs ys : List A) → map f (xs ++ ys) ≡ map f xs ++ map f ys
map_joined f [] ys = refl
map_joined f (x ∷ xs) ys = λ j. f x ∷ map_joined f xs ys j

length_mapped : {A B : Type 0} (f : A → B) (xs : List A) → length (map f xs ++ []) ≡ length xs
length_mapped f [] = refl
length_mapped f (x ∷ xs) = λ j. suc (length_mapped f xs j)

-- ---- numbers

none_more : (n : ℕ) → n ≡ n + 0
none_more n = omega (arith)

one_more : (m n : ℕ) → suc m + n ≡ m + suc n
one_more m n = omega (arith)

none_first : (n : ℕ) → 0 + n ≡ n
none_first n = omega (arith)

none_below : {C : Type 0} (n : ℕ) → n < 0 → C
none_below n e = absurd (omega (arith, e))

both_below : (m n : ℕ) → suc m < suc n → m < n
both_below m n e = omega (arith, e)

so_many : (base count : ℕ) → length (numbers_from base count) ≡ count
so_many base zero = refl
so_many base (suc count) = λ j. suc (so_many (suc base) count j)

-- as many forms as numbers
pub as_many : (fs : List StatementForm) (count : ℕ) → map (λ f. f.number) fs ++ [] ≡ numbers_from 0 count → length fs ≡ count
as_many fs count e = sym (length_mapped (λ f. f.number) fs) ∙ (λ j. length (e j)) ∙ so_many 0 count

-- the form at a place has the number of that place
number_at : (fs : List StatementForm) (base count : ℕ) → map (λ f. f.number) fs ++ [] ≡ numbers_from base count → (j : ℕ) {f : StatementForm} → slice_get fs j ≡ Some f → f.number ≡ base + j
number_at [] base count e j g = none_not g
number_at (x ∷ fs) base zero e j g = nil_not e
number_at (x ∷ fs) base (suc count) e zero g = (λ i. (sym (some_is g) i).number) ∙ head_is e ∙ none_more base
number_at (x ∷ fs) base (suc count) e (suc j) g = number_at fs (suc base) count (rest_is e) j g ∙ one_more base j

pub number_there : (fs : List StatementForm) (count : ℕ) → map (λ f. f.number) fs ++ [] ≡ numbers_from 0 count → (j : ℕ) {f : StatementForm} → slice_get fs j ≡ Some f → f.number ≡ j
number_there fs count e j g = number_at fs 0 count e j g ∙ none_first j

-- ---- what was found of a statement

pub record FoundAt (u : UnitData) (s : Storage) (w : World) (fs : List StatementForm) (rows : List Denoted) (j : ℕ) : Type 0 where
  pub form : StatementForm
  pub row : Denoted
  pub is_form : slice_get fs j ≡ Some form
  pub is_row : slice_get rows j ≡ Some row
  pub found : IsFound u s w form row

pub found_at : (u : UnitData) (s : Storage) (w : World) (fs : List StatementForm) (rows : List Denoted) → AreFound u s w fs rows → (j : ℕ) → j < length fs → FoundAt u s w fs rows j
found_at u s w [] [] h j l = none_below j l
found_at u s w [] (row ∷ rows) h j l = absurd h
found_at u s w (f ∷ fs) [] h j l = absurd h
found_at u s w (f ∷ fs) (row ∷ rows) h zero l = record { form = f; row = row; is_form = refl; is_row = refl; found = h.0 }
found_at u s w (f ∷ fs) (row ∷ rows) h (suc j) l = further (found_at u s w fs rows h.1 j (both_below j (length fs) l))
  where
    further : FoundAt u s w fs rows j → FoundAt u s w (f ∷ fs) (row ∷ rows) (suc j)
    further x = record { form = x.form; row = x.row; is_form = x.is_form; is_row = x.is_row; found = x.found }
