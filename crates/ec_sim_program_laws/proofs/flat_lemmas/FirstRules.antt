-- How many first types structs have behind the rules that others are put together from, and behind rules that are put together so.
use Rattle.std.proofs.Common.{◌≡◌, ◌≤◌, ℕ, zero, suc, ◌+◌, ◌*◌, Bool, true, false, List, [], ◌∷◌, ◌++◌, length, refl, sym, subst, Option, Some, None, slice_get, arith}
use Rattle.std.specs.Prelude.{slice_set}
use Rattle.ec_base.specs.declared.fault.FaultKind.{FaultKind}
use Rattle.ec_base.specs.declared.line.Line.{Line}
use Rattle.ec_ctypes.specs.trees.Types.{TyData, void, arithmetic, pointer, array, structure}
use Rattle.ec_language.specs.Letters.{Text}
use Rattle.ec_typing_defs.specs.Expressions.{Members, first_types, first_of_members}
use Rattle.ec_typing_defs.specs.Worlds.{Place, EntryData, StructInfo, ScopeData, World, Rule, chain, pure, ask, change, note, instead, place, left_to, enter, leave, scoped, declare, know_better, declare_label, number_as, new_struct, set_struct}
use Rattle.ec_sim_world_laws.proofs.closing_lemmas.Lists.{none_not, some_is}
use Rattle.ec_sim_world_laws.proofs.known_lemmas.SitesIdle.{Idle, demand_idle, free_name_idle}

-- ---- first types

-- Each struct begins with so many types at most: each struct that is made begins with 66 more.
abbrev pub AreUpTo : ℕ → List StructInfo → Type 0
AreUpTo n ss = (k : ℕ) (info : StructInfo) → slice_get ss k ≡ Some info → length info.first ≤ 66 * n

pub more_up : (n m : ℕ) (ss : List StructInfo) → n ≤ m → AreUpTo n ss → AreUpTo m ss
more_up n m ss l u k info e = let h : length info.first ≤ 66 * n = u k info e in omega (arith, h, l)

one_up : (n : ℕ) (a b : StructInfo) → Some a ≡ Some b → length a.first ≤ 66 * n → length b.first ≤ 66 * n
one_up n a b e l = subst (λ i. length i.first ≤ 66 * n) (some_is e) l

pub added_up : (n : ℕ) (ss : List StructInfo) (info : StructInfo) → AreUpTo n ss → length info.first ≤ 66 * n → AreUpTo n (ss ++ info ∷ [])
added_up n [] info u l zero i e = one_up n info i e l
added_up n [] info u l (suc k) i e = none_not e
added_up n (s ∷ ss) info u l zero i e = u zero i e
added_up n (s ∷ ss) info u l (suc k) i e = added_up n ss info (λ j. u (suc j)) l k i e

pub set_up : (n : ℕ) (ss : List StructInfo) (k : ℕ) (info : StructInfo) → AreUpTo n ss → length info.first ≤ 66 * n → AreUpTo n (slice_set ss k info)
set_up n [] k info u l j i e = u j i e
set_up n (s ∷ ss) zero info u l zero i e = one_up n info i e l
set_up n (s ∷ ss) zero info u l (suc j) i e = u (suc j) i e
set_up n (s ∷ ss) (suc k) info u l zero i e = u zero i e
set_up n (s ∷ ss) (suc k) info u l (suc j) i e = set_up n ss k info (λ j. u (suc j)) l j i e

-- how many arrays lie round the innermost element
abbrev pub depth : TyData → ℕ
depth void = 0
depth (arithmetic a) = 0
depth (pointer t) = 0
depth (array t n) = suc (depth t)
depth (structure k) = 0

struct_first : (n : ℕ) (ss : List StructInfo) → AreUpTo n ss → (k : ℕ) → length (first_types ss (structure k)) ≤ suc (66 * n)
struct_first n [] u k = omega arith
struct_first n (s ∷ ss) u zero = let h : length s.first ≤ 66 * n = u zero s refl in omega (arith, h)
struct_first n (s ∷ ss) u (suc k) = struct_first n ss (λ j. u (suc j)) k

type_first : (n : ℕ) (ss : List StructInfo) → AreUpTo n ss → (t : TyData) → length (first_types ss t) ≤ suc (depth t + 66 * n)
type_first n ss u void = omega arith
type_first n ss u (arithmetic a) = omega arith
type_first n ss u (pointer t) = omega arith
type_first n ss u (array t m) = let h : length (first_types ss t) ≤ suc (depth t + 66 * n) = type_first n ss u t in omega (arith, h)
type_first n ss u (structure k) = let h : length (first_types ss (structure k)) ≤ suc (66 * n) = struct_first n ss u k in omega (arith, h)

-- so deep at most, if it has a type
abbrev pub IsUpTo : ℕ → Option TyData → Type 0
IsUpTo n None = Unit {0}
IsUpTo n (Some t) = depth t ≤ n

abbrev pub AreShort : Members → Type 0
AreShort [] = Unit {0}
AreShort (m ∷ ms) = IsUpTo 64 m.1 × AreShort ms

pub members_first : (n : ℕ) (ss : List StructInfo) (ms : Members) → AreUpTo n ss → AreShort ms → length (first_of_members ss ms) ≤ 66 * suc n
members_first n ss [] u s = omega arith
members_first n ss (m ∷ ms) u s = go m.1 s.0
  where
    go : (o : Option TyData) → IsUpTo 64 o → length (elim o as (λ _. List TyData) [ None ↦ [] | Some t ↦ first_types ss t ]) ≤ 66 * suc n
    go None d = omega arith
    go (Some t) d = let h : length (first_types ss t) ≤ suc (depth t + 66 * n) = type_first n ss u t in omega (arith, h, d)

-- ---- rules

-- Where each struct begins with 66 times the first number of types at most, behind the rule it does with 66 times the second.
pub record Adds (n m : ℕ) {A : Type 0} (rule : Rule A) : Type 0 where
  pub adds : (w : World) → AreUpTo n w.structs → AreUpTo m (rule w).world.structs

pub chained : {a b c : ℕ} {A B : Type 0} {m : Rule A} {f : A → Rule B} → Adds a b m → ((x : A) → Adds b c (f x)) → Adds a c (chain m f)
unfolding chain
chained {m = m} h k = record { adds = λ w u. (k (m w).answer).adds (m w).world (h.adds w u) }

-- where this holds of the answer
pub chained_with : {a b c : ℕ} {A B : Type 0} (Q : A → Type 0) {m : Rule A} {f : A → Rule B} → Adds a b m → ((w : World) → Q (m w).answer) → ((x : A) → Q x → Adds b c (f x)) → Adds a c (chain m f)
unfolding chain
chained_with Q {m = m} h q k = record { adds = λ w u. (k (m w).answer (q w)).adds (m w).world (h.adds w u) }

pub within : {a b c : ℕ} {A : Type 0} {m : Rule A} → Adds a b m → b ≤ c → Adds a c m
within {b = b} {c = c} {m = m} h l = record { adds = λ w u. more_up b c (m w).world.structs l (h.adds w u) }

pub nothing : {n : ℕ} {A : Type 0} {m : Rule A} → Adds n n m → Adds n (n + 0) m
nothing {n = n} h = within h (no_more n)
  where
    no_more : (n : ℕ) → n ≤ n + 0
    no_more n = omega arith

pub idle : {n : ℕ} {A : Type 0} {m : Rule A} → Idle m → Adds n n m
idle {n = n} {m = m} h = record { adds = λ w u. subst (λ z. AreUpTo n z.structs) (sym (h.world w)) u }

pub then_idle : {a b : ℕ} {A B : Type 0} {m : Rule A} {f : A → Rule B} → Adds a b m → ((x : A) → Idle (f x)) → Adds a b (chain m f)
then_idle h k = chained h (λ x. idle (k x))

pub pure_adds : {n : ℕ} {A : Type 0} (a : A) → Adds n n (pure a)
unfolding pure
pure_adds a = record { adds = λ w u. u }

pub asked : {a b : ℕ} {A B : Type 0} (g : World → A) (f : A → Rule B) → ((x : A) → Adds a b (f x)) → Adds a b (chain (ask g) f)
unfolding chain ask
asked g f k = record { adds = λ w u. (k (g w)).adds w u }

-- where this holds of what is asked
pub asked_with : {a b : ℕ} {A B : Type 0} (Q : A → Type 0) (g : World → A) (f : A → Rule B) → ((w : World) → AreUpTo a w.structs → Q (g w)) → ((x : A) → Q x → Adds a b (f x)) → Adds a b (chain (ask g) f)
unfolding chain ask
asked_with Q g f q k = record { adds = λ w u. (k (g w) (q w u)).adds w u }

pub noted : {a b : ℕ} {A : Type 0} (at : Place) (kind : FaultKind) (m : Rule A) → Adds a b m → Adds a b (chain (note at kind) (λ u. m))
unfolding chain note
noted at kind m h = record { adds = h.adds }

pub instead_adds : {a b : ℕ} (at : Place) (kind : FaultKind) (m : Rule (Unit {0})) → Adds a b m → Adds a b (instead at kind m)
unfolding instead
instead_adds at kind m h = record { adds = h.adds }

pub same_adds : {n : ℕ} (g : World → World) → ((w : World) → (g w).structs ≡ w.structs) → Adds n n (change g)
unfolding change
same_adds {n} g e = record { adds = λ w u. subst (AreUpTo n) (sym (e w)) u }

pub place_adds : {n : ℕ} (line : Line) → Adds n n (place line)
unfolding place
place_adds line = record { adds = λ w u. u }

pub chosen : {a b : ℕ} {A : Type 0} (t : Bool) {x y : Rule A} → Adds a b x → Adds a b y → Adds a b (elim t [ true ↦ x | false ↦ y ])
chosen true h k = h
chosen false h k = k

-- ---- scopes

pub enter_adds : {n : ℕ} → Adds n n enter
unfolding enter
enter_adds = same_adds _ (λ w. refl)

pub leave_adds : {n : ℕ} → Adds n n leave
unfolding leave
leave_adds = same_adds _ (λ w. go w w.outer)
  where
    go : (w : World) (ss : List ScopeData) → (left_to ss w).structs ≡ w.structs
    go w [] = refl
    go w (s ∷ ss) = refl

pub scoped_adds : {a b : ℕ} {m : Rule (Unit {0})} → Adds a b m → Adds a b (scoped m)
scoped_adds h = chained enter_adds (λ x. chained h (λ y. leave_adds))

pub declare_adds : {n : ℕ} (at : Place) (name : Text) (entry : EntryData) → Adds n n (declare at name entry)
unfolding declare
declare_adds at name entry = asked _ _ (λ before. chained (same_adds _ (λ w. refl)) (λ a. chained (idle (demand_idle _ _ _)) (λ b. idle (free_name_idle at name))))

pub better_adds : {n : ℕ} (name : Text) (entry : EntryData) → Adds n n (know_better name entry)
unfolding know_better
better_adds name entry = same_adds _ (λ w. refl)

pub label_adds : {n : ℕ} (at : Place) (name : Text) → Adds n n (declare_label at name)
unfolding declare_label
label_adds at name = asked _ _ (λ before. chained (same_adds _ (λ w. refl)) (λ a. chained (idle (demand_idle _ _ _)) (λ b. idle (free_name_idle at name))))

-- ---- declarations and structs

pub number_adds : {n : ℕ} (t : TyData) → Adds n n (number_as t)
unfolding number_as
number_adds t = same_adds _ (λ w. refl)

pub close_adds : {n : ℕ} (k : ℕ) → Adds n n (change (λ w. record w { closed = w.closed ++ k ∷ [] }))
close_adds k = same_adds _ (λ w. refl)

pub new_struct_adds : {n m : ℕ} (info : StructInfo) → n ≤ m → length info.first ≤ 66 * m → Adds n m (new_struct info)
unfolding new_struct
new_struct_adds {n} {m} info l h = record { adds = λ w u. added_up m w.structs info (more_up n m w.structs l u) h }

pub set_struct_adds : {n m : ℕ} (k : ℕ) (info : StructInfo) → n ≤ m → length info.first ≤ 66 * m → Adds n m (set_struct k info)
unfolding set_struct change
set_struct_adds {n} {m} k info l h = record { adds = λ w u. set_up m w.structs k info (more_up n m w.structs l u) h }
