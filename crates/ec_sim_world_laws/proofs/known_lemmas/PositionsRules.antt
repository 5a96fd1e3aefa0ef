-- The declarations that are still to come, behind the rules that others are put together from, and behind rules that are put together so.
use Rattle.std.proofs.Common.{◌≡◌, ◌∙◌, ◌+◌, ◌||◌, ◌==◌, ℕ, zero, suc, Bool, true, false, List, [], ◌∷◌, ◌++◌, length, drop, refl, ap, subst, append_assoc, if◌then◌else◌, arith}
use Rattle.std.proofs.lemmas.Bool.Decides.{nat_tests}
use Rattle.ec_ctypes.specs.trees.Types.{TyData}
use Rattle.ec_language.specs.Letters.{Text}
use Rattle.ec_host_defs.specs.Programs.{is_among}
use Rattle.ec_host_defs.specs.sections.Declared.{DeclaredData, Declared, numbers_from}
use Rattle.ec_typing_defs.specs.Worlds.{Place, EntryData, ScopeData, World, Rule, chain, pure, ask, change, left_to, enter, leave, scoped, declare, know_better, number_as}
use Rattle.ec_sim_world_laws.proofs.known_lemmas.NamesRules as names
use Rattle.ec_sim_world_laws.proofs.known_lemmas.NamesRules.{Staying}

-- ---- lists of declarations

no_declaration : {C : Type 0} {d : DeclaredData} {ds : Declared} → [] ≡ d ∷ ds → C
no_declaration {C} {d} {ds} e = absurd (subst by_case e tt)
  where
    by_case : Declared → Type 0
    by_case [] = Unit {0}
    by_case (x ∷ xs) = ⊥

first_is : {x d : DeclaredData} {xs ds : Declared} → x ∷ xs ≡ d ∷ ds → x ≡ d
first_is {x} {d} {xs} {ds} e = λ i. first_or (e i)
  where
    first_or : Declared → DeclaredData
    first_or [] = x
    first_or (y ∷ ys) = y

others_are : {x d : DeclaredData} {xs ds : Declared} → x ∷ xs ≡ d ∷ ds → xs ≡ ds
others_are {x} {d} {xs} {ds} e = λ i. others_or (e i)
  where
    others_or : Declared → Declared
    others_or [] = xs
    others_or (y ∷ ys) = ys

one_passed : (n : ℕ) (all rest : Declared) (d : DeclaredData) → drop n all ≡ d ∷ rest → drop (suc n) all ≡ rest
one_passed zero [] rest d e = no_declaration e
one_passed zero (x ∷ xs) rest d e = others_are e
one_passed (suc n) [] rest d e = no_declaration e
one_passed (suc n) (x ∷ xs) rest d e = one_passed n xs rest d e

one_longer : (ts : List TyData) (t : TyData) → length (ts ++ t ∷ []) ≡ suc (length ts)
one_longer [] t = refl
one_longer (s ∷ ts) t = ap (λ n. suc n) (one_longer ts t)

-- ---- numbers of functions

same_number : (j k : ℕ) → j ≡ k + 0 → (j == k) ≡ true
same_number j k e = grind (arith, nat_tests)

abbrev are_functions : ℕ → Declared → List ℕ
are_functions k ds = numbers_from k (λ d. d.is_function) ds

-- counted from a number on, a function that stands there has the number of one
pub function_among : (k n j : ℕ) (all rest : Declared) (d : DeclaredData) → j ≡ k + n → drop n all ≡ d ∷ rest → d.is_function ≡ true → is_among j (are_functions k all) ≡ true
function_among k zero j [] rest d number e is = no_declaration e
function_among k (suc n) j [] rest d number e is = no_declaration e
function_among k zero j (x ∷ xs) rest d number e is = (λ i. is_among j (if first i then k ∷ are_functions (k + 1) xs else are_functions (k + 1) xs)) ∙ (λ i. same_number j k number i || is_among j (are_functions (k + 1) xs))
  where
    first : x.is_function ≡ true
    first = ap (λ y. y.is_function) (first_is e) ∙ is
function_among k (suc n) j (x ∷ xs) rest d number e is = by_first x.is_function (function_among (k + 1) n j xs rest d (number ∙ one_further) e is)
  where
    one_further : k + suc n ≡ (k + 1) + n
    one_further = omega (arith)

    or_true : (b c : Bool) → c ≡ true → (b || c) ≡ true
    or_true true c e = refl
    or_true false c e = e

    by_first : (b : Bool) → is_among j (are_functions (k + 1) xs) ≡ true → is_among j (if b then k ∷ are_functions (k + 1) xs else are_functions (k + 1) xs) ≡ true
    by_first true h = or_true (j == k) (is_among j (are_functions (k + 1) xs)) h
    by_first false h = h

-- ---- by rules

-- Where these are still to come and others behind them, the others are still to come behind the rule.
pub record Passing (ds : Declared) {A : Type 0} (m : Rule A) : Type 0 where
  pub passes : (all rest : Declared) (w : World) → drop (length w.types) all ≡ ds ++ rest → drop (length (m w).world.types) all ≡ rest

pub both : {A B : Type 0} {m : Rule A} {f : A → Rule B} (ds es : Declared) → Passing ds m → ((a : A) → Passing es (f a)) → Passing (ds ++ es) (chain m f)
unfolding chain
both {m = m} {f = f} ds es h k = record {
  passes = λ all rest w e. (k (m w).answer).passes all rest (m w).world (h.passes all (es ++ rest) w (e ∙ append_assoc ds es rest));
}

-- behind a rule that declares none, and before one
pub behind : {ds : Declared} {A B : Type 0} {m : Rule A} {f : A → Rule B} → Passing [] m → ((a : A) → Passing ds (f a)) → Passing ds (chain m f)
unfolding chain
behind {ds = ds} {m = m} {f = f} h k = record {
  passes = λ all rest w e. (k (m w).answer).passes all rest (m w).world (h.passes all (ds ++ rest) w e);
}

pub before : {ds : Declared} {A B : Type 0} {m : Rule A} {f : A → Rule B} → Passing ds m → ((a : A) → Passing [] (f a)) → Passing ds (chain m f)
unfolding chain
before {ds = ds} {m = m} {f = f} h k = record {
  passes = λ all rest w e. (k (m w).answer).passes all rest (m w).world (h.passes all rest w e);
}

same_passes : {A : Type 0} {m : Rule A} → ((w : World) → (m w).world.types ≡ w.types) → Passing [] m
same_passes same = record { passes = λ all rest w e. ap (λ ts. drop (length ts) all) (same w) ∙ e }

pub none : {A : Type 0} {m : Rule A} → Staying m → Passing [] m
none s = same_passes (λ w. (s.stays w).types)

pub asked : {ds : Declared} {A B : Type 0} (g : World → A) (f : A → Rule B) → ((a : A) → Passing ds (f a)) → Passing ds (chain (ask g) f)
asked g f k = behind (none (names.ask_stays g)) k

pub pure_passes : {A : Type 0} (a : A) → Passing [] (pure a)
pure_passes a = none (names.pure_stays a)

pub change_passes : (g : World → World) → ((w : World) → (g w).types ≡ w.types) → Passing [] (change g)
unfolding change
change_passes g same = same_passes same

pub number_passes : (d : DeclaredData) (t : TyData) → Passing (d ∷ []) (number_as t)
unfolding number_as change
number_passes d t = record {
  passes = λ all rest w e. ap (λ n. drop n all) (one_longer w.types t) ∙ one_passed (length w.types) all rest d e;
}

pub enter_passes : Passing [] enter
unfolding enter
enter_passes = change_passes _ (λ w. refl)

pub leave_passes : Passing [] leave
unfolding leave
leave_passes = change_passes _ (λ w. go w w.outer)
  where
    go : (w : World) (ss : List ScopeData) → (left_to ss w).types ≡ w.types
    go w [] = refl
    go w (s ∷ ss) = refl

pub scoped_passes : {ds : Declared} {m : Rule (Unit {0})} → Passing ds m → Passing ds (scoped m)
scoped_passes h = behind enter_passes (λ a. before h (λ b. leave_passes))

pub declare_passes : (at : Place) (name : Text) (entry : EntryData) → Passing [] (declare at name entry)
unfolding declare
declare_passes at name entry = asked _ _ (λ known. behind (change_passes _ (λ w. refl)) (λ a. behind (none (names.demand_stays _ _ _)) (λ b. none (names.free_name_stays at name))))

pub better_passes : (name : Text) (entry : EntryData) → Passing [] (know_better name entry)
unfolding know_better
better_passes name entry = change_passes _ (λ w. refl)
