-- The statements so far have their numbers in the order of the text, and a form of each is found by its number.
use Rattle.std.proofs.Common.{◌≡◌, ◌∙◌, ℕ, zero, suc, ◌+◌, ◌<◌, Bool, true, false, ◌==◌, List, [], ◌∷◌, ◌++◌, length, map, refl, sym, subst, Option, Some, None, if◌then◌else◌, arith, slice_get}
use Rattle.std.specs.Prelude.{option_and_then}
use Rattle.std.proofs.lemmas.Bool.Decides.{nat_tests}
use Rattle.ec_ctypes.specs.trees.Units.{UnitData}
use Rattle.ec_written_laws.specs.bound.Numbers.{numbers_from}
use Rattle.ec_host_defs.specs.Programs.{Denoted}
use Rattle.ec_typing_defs.specs.Worlds.{World}
use Rattle.ec_resolving_defs.specs.Storage.{Storage, StatementForm, ReferenceForm}
use Rattle.ec_direct_defs.specs.Direct.{form_of, references_in}
use Rattle.ec_sim_world_laws.specs.known.Known.{IsFound, AreFound}

-- ---- options and lists

pub none_not : {A C : Type 0} {a : A} → None ≡ Some a → C
none_not {A} {C} e = absurd (subst by_case e tt)
  where
    by_case : Option A → Type 0
    by_case None = Unit {0}
    by_case (Some b) = ⊥

pub some_is : {A : Type 0} {a b : A} → Some a ≡ Some b → a ≡ b
some_is {A} {a} {b} e = λ j. value_or (e j)
  where
    value_or : Option A → A
    value_or None = a
    value_or (Some c) = c

nil_not : {A C : Type 0} {x : A} {xs : List A} → x ∷ xs ≡ [] → C
nil_not {A} e = absurd (subst by_case e tt)
  where
    by_case : List A → Type 0
    by_case [] = ⊥
    by_case (y ∷ ys) = Unit {0}

head_is : {A : Type 0} {x y : A} {xs ys : List A} → x ∷ xs ≡ y ∷ ys → x ≡ y
head_is {A} {x} e = λ j. head_or (e j)
  where
    head_or : List A → A
    head_or [] = x
    head_or (z ∷ zs) = z

rest_is : {A : Type 0} {x y : A} {xs ys : List A} → x ∷ xs ≡ y ∷ ys → xs ≡ ys
rest_is {A} {xs = xs} e = λ j. rest_or (e j)
  where
    rest_or : List A → List A
    rest_or [] = xs
    rest_or (z ∷ zs) = zs

pub get_front : {A : Type 0} (xs ys : List A) (i : ℕ) {a : A} → slice_get xs i ≡ Some a → slice_get (xs ++ ys) i ≡ Some a
get_front [] ys i e = none_not e
get_front (x ∷ xs) ys zero e = e
get_front (x ∷ xs) ys (suc i) e = get_front xs ys i e

pub get_last : {A : Type 0} (xs : List A) (x : A) (ys : List A) → slice_get (xs ++ x ∷ ys) (length xs) ≡ Some x
get_last [] x ys = refl
get_last (z ∷ xs) x ys = get_last xs x ys

pub map_joined : {A B : Type 0} (f : A → B) (xs ys : List A) → map f (xs ++ ys) ≡ map f xs ++ map f ys
map_joined f [] ys = refl
map_joined f (x ∷ xs) ys = λ j. f x ∷ map_joined f xs ys j

pub length_mapped : {A B : Type 0} (f : A → B) (xs : List A) → length (map f xs) ≡ length xs
length_mapped f [] = refl
length_mapped f (x ∷ xs) = λ j. suc (length_mapped f xs j)

pub length_joined : {A : Type 0} (xs : List A) (x : A) → length (xs ++ x ∷ []) ≡ suc (length xs)
length_joined [] x = refl
length_joined (y ∷ xs) x = λ j. suc (length_joined xs x j)

-- ---- numbers

same_number : (a b : ℕ) → a ≡ b → (a == b) ≡ true
same_number a b e = grind (arith, nat_tests)

lower_number : (a b : ℕ) → a < b → (a == b) ≡ false
lower_number a b e = grind (arith, nat_tests)

none_more : (n : ℕ) → n ≡ n + 0
none_more n = omega (arith)

one_more : (m n : ℕ) → suc m + n ≡ m + suc n
one_more m n = omega (arith)

below_more : (m n : ℕ) → m < m + suc n
below_more m n = omega (arith)

none_first : (n : ℕ) → 0 + n ≡ n
none_first n = omega (arith)

none_below : {C : Type 0} (n : ℕ) → n < 0 → C
none_below n e = absurd (omega (arith, e))

both_below : (m n : ℕ) → suc m < suc n → m < n
both_below m n e = omega (arith, e)

-- the number of a statement behind these
number_behind : (fs : List StatementForm) (n base c : ℕ) (ns : List ℕ) → map (λ f. f.number) fs ++ n ∷ ns ≡ numbers_from base c → n ≡ base + length fs
number_behind [] n base zero ns e = nil_not e
number_behind [] n base (suc c) ns e = head_is e ∙ none_more base
number_behind (f ∷ fs) n base zero ns e = nil_not e
number_behind (f ∷ fs) n base (suc c) ns e = number_behind fs n (suc base) c ns (rest_is e) ∙ one_more base (length fs)

pub number_next : (fs : List StatementForm) (n c : ℕ) (ns : List ℕ) → map (λ f. f.number) fs ++ n ∷ ns ≡ numbers_from 0 c → n ≡ length fs
number_next fs n c ns e = number_behind fs n 0 c ns e ∙ none_first (length fs)

pub numbers_joined : (fs : List StatementForm) (f : StatementForm) (ns : List ℕ) → map (λ x. x.number) (fs ++ f ∷ []) ++ ns ≡ map (λ x. x.number) fs ++ f.number ∷ ns
numbers_joined [] f ns = refl
numbers_joined (x ∷ fs) f ns = λ i. x.number ∷ numbers_joined fs f ns i

-- ---- forms by their numbers

first_form : (x : StatementForm) (fs : List StatementForm) (k : ℕ) → (x.number == k) ≡ true → form_of k (x ∷ fs) ≡ Some x
first_form x fs k e = λ i. if e i then Some x else form_of k fs

other_form : (x : StatementForm) (fs : List StatementForm) (k : ℕ) → (x.number == k) ≡ false → form_of k (x ∷ fs) ≡ form_of k fs
other_form x fs k e = λ i. if e i then Some x else form_of k fs

-- the form at a place, whose number is that place
pub record IsNumbered (fs : List StatementForm) (k : ℕ) (f : StatementForm) : Type 0 where
  pub number : f.number ≡ k
  pub is : form_of k fs ≡ Some f

form_at : (fs : List StatementForm) (base c : ℕ) (ns : List ℕ) → map (λ f. f.number) fs ++ ns ≡ numbers_from base c → (j : ℕ) {f : StatementForm} → slice_get fs j ≡ Some f → IsNumbered fs (base + j) f
form_at [] base c ns e j g = none_not g
form_at (x ∷ fs) base zero ns e j g = nil_not e
form_at (x ∷ fs) base (suc c) ns e zero {f} g =
    let here : x.number ≡ base + 0 = head_is e ∙ none_more base in record {
      number = (λ i. (sym (some_is g) i).number) ∙ here;
      is = first_form x fs (base + 0) (same_number x.number (base + 0) here) ∙ g;
    }
form_at (x ∷ fs) base (suc c) ns e (suc j) {f} g = behind (form_at fs (suc base) c ns (rest_is e) j g)
  where
    lower : x.number < base + suc j
    lower = subst (λ m. m < base + suc j) (sym (head_is e)) (below_more base j)

    behind : IsNumbered fs (suc base + j) f → IsNumbered (x ∷ fs) (base + suc j) f
    behind h = record {
      number = h.number ∙ one_more base j;
      is = other_form x fs (base + suc j) (lower_number x.number (base + suc j) lower) ∙ subst (λ m. form_of m fs ≡ Some f) (one_more base j) h.is;
    }

pub form_there : (fs : List StatementForm) (c : ℕ) (ns : List ℕ) → map (λ f. f.number) fs ++ ns ≡ numbers_from 0 c → (j : ℕ) {f : StatementForm} → slice_get fs j ≡ Some f → IsNumbered fs j f
form_there fs c ns e j {f} g = subst (λ m. IsNumbered fs m f) (none_first j) (form_at fs 0 c ns e j g)

pub form_stays : (fs gs : List StatementForm) (k : ℕ) {f : StatementForm} → form_of k fs ≡ Some f → form_of k (fs ++ gs) ≡ Some f
form_stays [] gs k e = none_not e
form_stays (x ∷ fs) gs k {f} e = step (λ h. form_stays fs gs k h) (x.number == k) e
  where
    step : (form_of k fs ≡ Some f → form_of k (fs ++ gs) ≡ Some f) → (b : Bool) → (if b then Some x else form_of k fs) ≡ Some f → (if b then Some x else form_of k (fs ++ gs)) ≡ Some f
    step more true h = h
    step more false h = more h

-- the form of the statement that comes next
pub form_last : (fs : List StatementForm) (f : StatementForm) (gs : List StatementForm) (c : ℕ) (ns : List ℕ) → map (λ x. x.number) fs ++ f.number ∷ ns ≡ numbers_from 0 c
    → form_of f.number ((fs ++ f ∷ []) ++ gs) ≡ Some f
form_last fs f gs c ns e =
    let h : IsNumbered (fs ++ f ∷ []) (length fs) f = form_there (fs ++ f ∷ []) c ns (numbers_joined fs f ns ∙ e) (length fs) (get_last fs f []) in
    form_stays (fs ++ f ∷ []) gs f.number (subst (λ m. form_of m (fs ++ f ∷ []) ≡ Some f) (sym h.number) h.is)

-- ---- what was found of a statement

pub record FoundAt (u : UnitData) (s : Storage) (w : World) (fs : List StatementForm) (rows : List Denoted) (j : ℕ) : Type 0 where
  pub form : StatementForm
  pub row : Denoted
  pub is_form : slice_get fs j ≡ Some form
  pub is_row : slice_get rows j ≡ Some row
  pub found : IsFound u s w form row

pub found_at : (u : UnitData) (s : Storage) (w : World) (fs : List StatementForm) (rows : List Denoted) → AreFound u s w fs rows → (j : ℕ) → j < length fs → FoundAt u s w fs rows j
found_at u s w [] [] h j l = none_below j l
found_at u s w [] (row ∷ rows) h j l = absurd h
found_at u s w (f ∷ fs) [] h j l = absurd h
found_at u s w (f ∷ fs) (row ∷ rows) h zero l = record { form = f; row = row; is_form = refl; is_row = refl; found = h.0 }
found_at u s w (f ∷ fs) (row ∷ rows) h (suc j) l = further (found_at u s w fs rows h.1 j (both_below j (length fs) l))
  where
    further : FoundAt u s w fs rows j → FoundAt u s w (f ∷ fs) (row ∷ rows) (suc j)
    further x = record { form = x.form; row = x.row; is_form = x.is_form; is_row = x.is_row; found = x.found }

-- ---- the form of the statement that declares a cursor, if there is one

-- there is a form of this number, if it is one
pub record HasForm (fs : List StatementForm) (k : ℕ) : Type 0 where
  pub form : StatementForm
  pub is : form_of k fs ≡ Some form

abbrev pub MayHaveForm : List StatementForm → Option ℕ → Type 0
MayHaveForm fs None = Unit {0}
MayHaveForm fs (Some k) = HasForm fs k

abbrev pub references_of : List StatementForm → Option ℕ → List ReferenceForm
references_of fs k = references_in (option_and_then (λ n. form_of n fs) k)

pub references_stay : (fs gs : List StatementForm) (k : Option ℕ) → MayHaveForm fs k → references_of (fs ++ gs) k ≡ references_of fs k
references_stay fs gs None h = refl
references_stay fs gs (Some k) h = λ i. references_in ((form_stays fs gs k h.is ∙ sym h.is) i)
