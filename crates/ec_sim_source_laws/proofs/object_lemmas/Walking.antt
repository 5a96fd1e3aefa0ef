-- What the walk through a program keeps where nothing is wrong: the declarations that are still to come are those of what is still to come, no object has the number of a function, and in the rows so far no index of a cursor's hosts is a function.
use Rattle.std.proofs.Common.{◌≡◌, ◌∙◌, ◌⊎◌, inl, inr, ℕ, zero, suc, ◌+◌, ◌<◌, ◌||◌, ◌==◌, Bool, true, false, List, [], ◌∷◌, ◌++◌, length, take, drop, Option, Some, refl, sym, ap, subst, append_assoc, slice_get, arith, if◌then◌else◌}
use Rattle.std.proofs.lemmas.Bool.Decides.{nat_tests}
use Rattle.ec_written_laws.specs.bound.Numbers.{numbers_from}
use Rattle.ec_ctypes.specs.trees.Embedded.{EmbData}
use Rattle.ec_ctypes.specs.trees.Types.{TyData}
use Rattle.ec_sim_host_laws.specs.cursor.Cursors.{are_no_functions}
use Rattle.ec_host_defs.specs.Programs.{Denoted, names_count, is_among}
use Rattle.ec_language.specs.Letters.{Text}
use Rattle.ec_host_defs.specs.sections.Declared as declared
use Rattle.ec_host_defs.specs.sections.Declared.{DeclaredData, Declared}
use Rattle.ec_typing_defs.specs.statement_parts.Cursors.{declared_cursor}
use Rattle.ec_typing_defs.specs.statement_parts.References.{References, references}
use Rattle.ec_typing_defs.specs.Tables.{Named, find, put}
use Rattle.ec_typing_defs.specs.Worlds.{EntryData, object, function, ScopeData, World, Rule, chain, pure, ask, change, left_to, enter, leave, scoped, number_as}
use Rattle.ec_typing_defs.specs.Programs.{put_outside, begin_function, know_function}
use Rattle.ec_sim_world_laws.proofs.closing_lemmas.Lists.{none_not}
use Rattle.ec_sim_world_laws.proofs.known_lemmas.EntriesTables.{find_put}
use Rattle.ec_sim_world_laws.proofs.known_lemmas.NamesRules as names
use Rattle.ec_sim_world_laws.proofs.known_lemmas.NamesRules.{Staying}
use Rattle.ec_sim_program_laws.proofs.program_lemmas.DenotingRules as denoting
use Rattle.ec_sim_program_laws.proofs.program_lemmas.DenotingRules.{DenotesNone}

-- ---- lists of declarations

no_declaration : {C : Type 0} {d : DeclaredData} {ds : Declared} → [] ≡ d ∷ ds → C
no_declaration {C} {d} {ds} e = absurd (subst by_case e tt)
  where
    by_case : Declared → Type 0
    by_case [] = Unit {0}
    by_case (x ∷ xs) = ⊥

first_is : {x d : DeclaredData} {xs ds : Declared} → x ∷ xs ≡ d ∷ ds → x ≡ d
first_is {x} {d} {xs} {ds} e = λ i. first_or (e i)
  where
    first_or : Declared → DeclaredData
    first_or [] = x
    first_or (y ∷ ys) = y

others_are : {x d : DeclaredData} {xs ds : Declared} → x ∷ xs ≡ d ∷ ds → xs ≡ ds
others_are {x} {d} {xs} {ds} e = λ i. others_or (e i)
  where
    others_or : Declared → Declared
    others_or [] = xs
    others_or (y ∷ ys) = ys

pub one_passed : (n : ℕ) (all rest : Declared) (d : DeclaredData) → drop n all ≡ d ∷ rest → drop (suc n) all ≡ rest
one_passed zero [] rest d e = no_declaration e
one_passed zero (x ∷ xs) rest d e = others_are e
one_passed (suc n) [] rest d e = no_declaration e
one_passed (suc n) (x ∷ xs) rest d e = one_passed n xs rest d e

pub one_longer : {A : Type 0} (ts : List A) (t : A) → length (ts ++ t ∷ []) ≡ suc (length ts)
one_longer [] t = refl
one_longer (s ∷ ts) t = ap (λ n. suc n) (one_longer ts t)

-- ---- numbers of objects

abbrev pub functions_in : ℕ → Declared → List ℕ
functions_in k ds = declared.numbers_from k (λ d. d.is_function) ds

not_below : (k j : ℕ) → j < k → (j == k) ≡ false
not_below k j less = grind (arith, nat_tests)

not_this : (k n j : ℕ) → j ≡ k + suc n → (j == k) ≡ false
not_this k n j is = grind (arith, nat_tests)

none_below : (k j : ℕ) → j < k → (all : Declared) → is_among j (functions_in k all) ≡ false
none_below k j less [] = refl
none_below k j less (x ∷ xs) = by_first x.is_function (none_below (k + 1) j (omega (arith, less)) xs)
  where
    by_first : (b : Bool) → is_among j (functions_in (k + 1) xs) ≡ false → is_among j (if b then k ∷ functions_in (k + 1) xs else functions_in (k + 1) xs) ≡ false
    by_first true h = λ i. not_below k j less i || h i
    by_first false h = h

-- counted from a number on, an object that stands there has the number of no function
object_among : (k n j : ℕ) (all rest : Declared) (d : DeclaredData) → j ≡ k + n → drop n all ≡ d ∷ rest → d.is_function ≡ false → is_among j (functions_in k all) ≡ false
object_among k zero j [] rest d number e is = no_declaration e
object_among k (suc n) j [] rest d number e is = no_declaration e
object_among k zero j (x ∷ xs) rest d number e is = (λ i. is_among j (if first i then k ∷ functions_in (k + 1) xs else functions_in (k + 1) xs)) ∙ none_below (k + 1) j (omega (arith, number)) xs
  where
    first : x.is_function ≡ false
    first = ap (λ y. y.is_function) (first_is e) ∙ is
object_among k (suc n) j (x ∷ xs) rest d number e is = by_first x.is_function (object_among (k + 1) n j xs rest d (number ∙ one_further) e is)
  where
    one_further : k + suc n ≡ (k + 1) + n
    one_further = omega (arith)

    by_first : (b : Bool) → is_among j (functions_in (k + 1) xs) ≡ false → is_among j (if b then k ∷ functions_in (k + 1) xs else functions_in (k + 1) xs) ≡ false
    by_first true h = λ i. not_this k n j number i || h i
    by_first false h = h

from_none : (n : ℕ) → n ≡ 0 + n
from_none n = omega (arith)

pub is_no_functions_number : (n : ℕ) (all rest : Declared) (d : DeclaredData) → drop n all ≡ d ∷ rest → d.is_function ≡ false → is_among n (functions_in 0 all) ≡ false
is_no_functions_number n all rest d e is = object_among 0 n n all rest d (from_none n) e is

-- ---- what names stand for

-- an object has the number of none of these functions
abbrev pub IsFine : List ℕ → EntryData → Type 0
IsFine fs (object k global t) = is_among k fs ≡ false
IsFine fs (function k done r ps) = Unit {0}

abbrev pub AreFine : List ℕ → Named EntryData → Type 0
AreFine fs es = (x : Text) (entry : EntryData) → find x es ≡ Some entry → IsFine fs entry

abbrev pub ScopesAreFine : List ℕ → List ScopeData → Type 0
ScopesAreFine fs [] = Unit {0}
ScopesAreFine fs (s ∷ ss) = AreFine fs s.names × ScopesAreFine fs ss

pub put_fine : (fs : List ℕ) (name : Text) (entry : EntryData) (es : Named EntryData) → IsFine fs entry → AreFine fs es → AreFine fs (put name entry es)
put_fine fs name entry es is h x other e = go (find_put x name entry other es e)
  where
    go : (entry ≡ other) ⊎ (find x es ≡ Some other) → IsFine fs other
    go (inl same) = subst (λ e. IsFine fs e) same is
    go (inr found) = h x other found

put_outside_fine : (fs : List ℕ) (name : Text) (entry : EntryData) (ss : List ScopeData) → IsFine fs entry → ScopesAreFine fs ss → ScopesAreFine fs (put_outside name entry ss)
put_outside_fine fs name entry [] is h = tt
put_outside_fine fs name entry (s ∷ ss) is h = (put_fine fs name entry s.names is h.0, h.1)

-- ---- rows

-- The names in these references denote the row, and those that are indexes are no functions
abbrev pub RowIsFine : List ℕ → References → Denoted → Type 0
RowIsFine fs [] ds = ds ≡ []
RowIsFine fs (r ∷ rs) ds = (are_no_functions fs (drop 1 (take (names_count r.value) ds)) ≡ true) × RowIsFine fs rs (drop (names_count r.value) ds)

-- the row of this statement, if it declares a cursor
abbrev pub RowOf : List ℕ → EmbData → Denoted → Type 0
RowOf fs e row = (cursor : Text) → declared_cursor e ≡ Some cursor → RowIsFine fs (references e) row

-- the rows are those of the first statements
abbrev pub RowsAreFine : List ℕ → List EmbData → List Denoted → Type 0
RowsAreFine fs es rows = (n : ℕ) (row : Denoted) (e : EmbData) → slice_get rows n ≡ Some row → slice_get es n ≡ Some e → RowOf fs e row

-- these are the numbers of the statements that are still to come
pub record StillToCome (es : List EmbData) (ns : List ℕ) (rows : List Denoted) : Type 0 where
  pub count : ℕ
  pub are : ns ≡ numbers_from (length rows) count
  pub all : length rows + count ≡ length es

-- ---- what is known

-- of the statements and the declarations of a program
pub record Known (es : List EmbData) (all : Declared) (ns : List ℕ) (w : World) : Type 0 where
  pub here : AreFine (functions_in 0 all) w.here.names
  pub outer : ScopesAreFine (functions_in 0 all) w.outer
  pub rows : RowsAreFine (functions_in 0 all) es w.denoted
  pub to_come : StillToCome es ns w.denoted

abbrev pub IsBefore : Declared → Declared → World → Type 0
IsBefore all ds w = drop (length w.types) all ≡ ds

-- where these declarations are the next, and these statements are to come, and behind which those are
pub record Walking (es : List EmbData) (all ds : Declared) (ns more : List ℕ) {A : Type 0} (m : Rule A) : Type 0 where
  pub walks : (rest : Declared) (w : World) → IsBefore all (ds ++ rest) w → Known es all ns w → (m w).found ≡ []
      → IsBefore all rest (m w).world × Known es all more (m w).world

pub both_none : {A : Type 0} (vs us : List A) → vs ++ us ≡ [] → (vs ≡ []) × (us ≡ [])
both_none [] us e = (refl, e)
both_none (v ∷ vs) us e = absurd (cc)

pub both : {es : List EmbData} {all : Declared} {ns between more : List ℕ} {A B : Type 0} {m : Rule A} {f : A → Rule B} (ds ks : Declared)
    → Walking es all ds ns between m → ((a : A) → Walking es all ks between more (f a)) → Walking es all (ds ++ ks) ns more (chain m f)
unfolding chain
both {m = m} {f = f} ds ks h k = record {
  walks = λ rest w position known found.
      let e = both_none (m w).found (f (m w).answer (m w).world).found found in
      let p = h.walks (ks ++ rest) w (position ∙ append_assoc ds ks rest) known e.0 in
      (k (m w).answer).walks rest (m w).world p.0 p.1 e.1;
}

-- behind a rule that declares none, and before one
pub behind : {es : List EmbData} {all ds : Declared} {ns between more : List ℕ} {A B : Type 0} {m : Rule A} {f : A → Rule B}
    → Walking es all [] ns between m → ((a : A) → Walking es all ds between more (f a)) → Walking es all ds ns more (chain m f)
behind {ds = ds} h k = both [] ds h k

pub before : {es : List EmbData} {all ds : Declared} {ns between more : List ℕ} {A B : Type 0} {m : Rule A} {f : A → Rule B}
    → Walking es all ds ns between m → ((a : A) → Walking es all [] between more (f a)) → Walking es all ds ns more (chain m f)
unfolding chain
before {m = m} {f = f} h k = record {
  walks = λ rest w position known found.
      let e = both_none (m w).found (f (m w).answer (m w).world).found found in
      let p = h.walks rest w position known e.0 in
      (k (m w).answer).walks rest (m w).world p.0 p.1 e.1;
}

-- where names, declarations and rows are as they were
pub still_known : (es : List EmbData) (all : Declared) (ns : List ℕ) (w z : World) → z.here.names ≡ w.here.names → z.outer ≡ w.outer → z.denoted ≡ w.denoted → Known es all ns w → Known es all ns z
still_known es all ns w z here outer rows known = record {
  here = subst (λ xs. AreFine (functions_in 0 all) xs) (sym here) known.here;
  outer = subst (λ ss. ScopesAreFine (functions_in 0 all) ss) (sym outer) known.outer;
  rows = subst (λ ds. RowsAreFine (functions_in 0 all) es ds) (sym rows) known.rows;
  to_come = subst (λ ds. StillToCome es ns ds) (sym rows) known.to_come;
}

pub none : {es : List EmbData} {all : Declared} {ns : List ℕ} {A : Type 0} {m : Rule A} → Staying m → DenotesNone m → Walking es all [] ns ns m
none {es} {all} {ns} {m = m} s d = record {
  walks = λ rest w position known found.
      let h = s.stays w in
      (ap (λ ts. drop (length ts) all) h.types ∙ position, still_known es all ns w (m w).world h.here h.outer (d.kept w) known);
}

pub pure_walks : {es : List EmbData} {all : Declared} {ns : List ℕ} {A : Type 0} (a : A) → Walking es all [] ns ns (pure a)
pure_walks a = none (names.pure_stays a) (denoting.pure_denotes a)

pub asked : {es : List EmbData} {all ds : Declared} {ns more : List ℕ} {A B : Type 0} (g : World → A) (f : A → Rule B) → ((a : A) → Walking es all ds ns more (f a)) → Walking es all ds ns more (chain (ask g) f)
asked g f k = behind (none (names.ask_stays g) (denoting.ask_denotes g)) k

pub number_walks : {es : List EmbData} {all : Declared} {ns : List ℕ} (d : DeclaredData) (t : TyData) → Walking es all (d ∷ []) ns ns (number_as t)
unfolding number_as change
number_walks {es} {all} {ns} d t = record {
  walks = λ rest w position known found. (
    ap (λ n. drop n all) (one_longer w.types t) ∙ one_passed (length w.types) all rest d position,
    still_known es all ns w (record w { types = w.types ++ t ∷ [] }) refl refl refl known,
  );
}

-- ---- scopes

pub enter_walks : {es : List EmbData} {all : Declared} {ns : List ℕ} → Walking es all [] ns ns enter
unfolding enter change
enter_walks = record {
  walks = λ rest w position known found.
      (position, record { here = λ x entry e. none_not e; outer = (known.here, known.outer); rows = known.rows; to_come = known.to_come });
}

left_known : (es : List EmbData) (all : Declared) (ns : List ℕ) (w : World) (ss : List ScopeData) → ScopesAreFine (functions_in 0 all) ss → Known es all ns w → Known es all ns (left_to ss w)
left_known es all ns w [] h known = record { here = λ x entry e. none_not e; outer = tt; rows = known.rows; to_come = record { count = known.to_come.count; are = known.to_come.are; all = known.to_come.all } }
left_known es all ns w (s ∷ ss) h known = record { here = h.0; outer = h.1; rows = known.rows; to_come = record { count = known.to_come.count; are = known.to_come.are; all = known.to_come.all } }

left_types : (w : World) (ss : List ScopeData) → (left_to ss w).types ≡ w.types
left_types w [] = refl
left_types w (s ∷ ss) = refl

pub leave_walks : {es : List EmbData} {all : Declared} {ns : List ℕ} → Walking es all [] ns ns leave
unfolding leave change
leave_walks {es} {all} {ns} = record {
  walks = λ rest w position known found. (ap (λ ts. drop (length ts) all) (left_types w w.outer) ∙ position, left_known es all ns w w.outer known.outer known);
}

pub scoped_walks : {es : List EmbData} {all ds : Declared} {ns more : List ℕ} {m : Rule (Unit {0})} → Walking es all ds ns more m → Walking es all ds ns more (scoped m)
scoped_walks h = behind enter_walks (λ a. before h (λ b. leave_walks))

-- ---- functions

pub begin_walks : {es : List EmbData} {all : Declared} {ns : List ℕ} (name : Text) (k : ℕ) (done : Bool) (r : Option TyData) (ps : Option (List (Option TyData)))
    → Walking es all [] ns ns (begin_function name (function k done r ps))
unfolding begin_function change
begin_walks {es} {all} {ns} name k done r ps = record {
  walks = λ rest w position known found.
      (position, record { here = put_fine (functions_in 0 all) name (function k done r ps) w.here.names tt known.here; outer = known.outer; rows = known.rows; to_come = known.to_come });
}

pub know_walks : {es : List EmbData} {all : Declared} {ns : List ℕ} (name : Text) (k : ℕ) (done : Bool) (r : Option TyData) (ps : Option (List (Option TyData)))
    → Walking es all [] ns ns (know_function name (function k done r ps))
unfolding know_function change
know_walks {es} {all} {ns} name k done r ps = record {
  walks = λ rest w position known found.
      (position, record { here = known.here; outer = put_outside_fine (functions_in 0 all) name (function k done r ps) w.outer tt known.outer; rows = known.rows; to_come = known.to_come });
}
