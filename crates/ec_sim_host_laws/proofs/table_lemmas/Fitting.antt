-- Types whose arrays are within the limit, as far as sizes are known where they stand.
use Rattle.std.proofs.Common.{◌≡◌, ◌∙◌, ℕ, zero, suc, Bool, true, false, ◌&&◌, List, [], ◌∷◌, Option, Some, None, refl, sym, ap, slice_get, option_map, if◌then◌else◌}
use Rattle.std.specs.Prelude.{option_and_then}
use Rattle.ec_ctypes.specs.trees.Types.{TyData, void, arithmetic, pointer, array, structure}
use Rattle.ec_ctypes.specs.Layout.{repeated, shape_among}
use Rattle.ec_language.specs.Letters.{Text, same_text}
use Rattle.ec_typing_defs.specs.Operands.{pointers, array_of, arrays, declared_type}
use Rattle.ec_typing_defs.specs.Tables.{put}
use Rattle.ec_typing_defs.specs.Types.{same_words, word_types, type_in_rows, words_type}
use Rattle.ec_typing_defs.specs.Worlds.{StructInfo, World, is_listed, is_within, arrays_within}
use Rattle.ec_typing_defs.specs.Expressions.{Members}
use Rattle.ec_sim_world_laws.specs.place.Structs.{EachStruct}
use Rattle.ec_sim_world_laws.specs.closing.Closing.{IsSized, members_at, shapes_at}
use Rattle.ec_sim_world_laws.proofs.closing_lemmas.Lists.{false_not, get_map}
use Rattle.ec_sim_world_laws.proofs.closing_lemmas.Orders.{each_struct, ListedStay}
use Rattle.ec_sim_host_laws.specs.table.Tables.{is_fitting, IsFittingIn, AreFitting}

pub both_true : {a b : Bool} → a ≡ true → b ≡ true → (a && b) ≡ true
both_true p q = λ i. p i && q i

pub first_true : (a b : Bool) → (a && b) ≡ true → a ≡ true
first_true true b e = refl
first_true false b e = false_not e

pub second_true : (a b : Bool) → (a && b) ≡ true → b ≡ true
second_true true b e = e
second_true false b e = false_not e

-- ---- types by their arrays

-- no array is in it, or behind a pointer in it
abbrev pub is_flat : TyData → Bool
is_flat void = true
is_flat (arithmetic a) = true
is_flat (pointer t) = is_flat t
is_flat (array t n) = false
is_flat (structure k) = true

-- no array is behind a pointer in it
abbrev pub is_plain : TyData → Bool
is_plain void = true
is_plain (arithmetic a) = true
is_plain (pointer t) = is_flat t
is_plain (array t n) = is_plain t
is_plain (structure k) = true

abbrev pub IsFlatIn : Option TyData → Type 0
IsFlatIn None = Unit {0}
IsFlatIn (Some t) = is_flat t ≡ true

abbrev pub IsPlainIn : Option TyData → Type 0
IsPlainIn None = Unit {0}
IsPlainIn (Some t) = is_plain t ≡ true

flat_plain : (t : TyData) → is_flat t ≡ true → is_plain t ≡ true
flat_plain void e = refl
flat_plain (arithmetic a) e = refl
flat_plain (pointer t) e = e
flat_plain (array t n) e = false_not e
flat_plain (structure k) e = refl

pointers_flat : (n : ℕ) (t : TyData) → is_flat t ≡ true → is_flat (pointers n t) ≡ true
pointers_flat zero t e = e
pointers_flat (suc n) t e = pointers_flat n (pointer t) e

array_plain : (n : Option ℕ) (t : Option TyData) → IsPlainIn t → IsPlainIn (array_of n t)
array_plain None t p = tt
array_plain (Some n) None p = tt
array_plain (Some n) (Some t) p = p

arrays_plain : (t : TyData) (ns : List (Option ℕ)) → is_flat t ≡ true → IsPlainIn (arrays t ns)
arrays_plain t [] e = flat_plain t e
arrays_plain t (n ∷ ns) e = array_plain n (arrays t ns) (arrays_plain t ns e)

pub declared_plain : (t : Option TyData) (stars : ℕ) (ns : List (Option ℕ)) → IsFlatIn t → IsPlainIn (declared_type t stars ns)
declared_plain None stars ns p = tt
declared_plain (Some t) stars ns p = arrays_plain (pointers stars t) ns (pointers_flat stars t p)

pub declared_flat : (t : Option TyData) (stars : ℕ) → IsFlatIn t → IsFlatIn (declared_type t stars [])
declared_flat None stars p = tt
declared_flat (Some t) stars p = pointers_flat stars t p

-- the types that words make

abbrev all_flat : List (List Text × TyData) → Bool
all_flat [] = true
all_flat (r ∷ rs) = is_flat r.1 && all_flat rs

rows_flat : (rs : List (List Text × TyData)) (ws : List Text) → all_flat rs ≡ true → IsFlatIn (type_in_rows rs ws)
rows_flat [] ws e = tt
rows_flat (r ∷ rs) ws e = by_test (same_words r.0 ws) (rows_flat rs ws (second_true (is_flat r.1) (all_flat rs) e))
  where
    by_test : (b : Bool) → IsFlatIn (type_in_rows rs ws) → IsFlatIn (if b then Some r.1 else type_in_rows rs ws)
    by_test true more = first_true (is_flat r.1) (all_flat rs) e
    by_test false more = more

pub words_flat : (ws : List Text) → IsFlatIn (words_type ws)
words_flat ws = rows_flat word_types ws refl

-- ---- structs that are listed

abbrev pub Listed : List StructInfo → ℕ → Type 0
Listed ss k = is_listed (members_at ss k) ≡ true

pub listed_stays : (ss ts : List StructInfo) → ListedStay ss ts → (k : ℕ) → Listed ss k → Listed ts k
listed_stays ss ts stay k e = ap (λ o. is_listed (option_map (λ s. s.members) o)) (stay k e) ∙ e

-- ---- types that fit

-- the structs in its arrays are listed, and no array in it or behind a pointer in it is larger than the limit
abbrev pub IsFit : List StructInfo → TyData → Type 0
IsFit ss void = Unit {0}
IsFit ss (arithmetic a) = Unit {0}
IsFit ss (pointer t) = IsFit ss t
IsFit ss (array t zero) = ⊥
IsFit ss (array t (suc n)) = (is_within (shape_among (shapes_at ss) (array t (suc n))) ≡ true) × (EachStruct (Listed ss) t × IsFit ss t)
IsFit ss (structure k) = Unit {0}

abbrev pub IsFitIn : List StructInfo → Option TyData → Type 0
IsFitIn ss None = Unit {0}
IsFitIn ss (Some t) = IsFit ss t

abbrev pub AreFit : List StructInfo → Members → Type 0
AreFit ss [] = Unit {0}
AreFit ss (m ∷ ms) = IsFitIn ss m.1 × AreFit ss ms

pub flat_fit : (ss : List StructInfo) (t : TyData) → is_flat t ≡ true → IsFit ss t
flat_fit ss void e = tt
flat_fit ss (arithmetic a) e = tt
flat_fit ss (pointer t) e = flat_fit ss t e
flat_fit ss (array t n) e = false_not e
flat_fit ss (structure k) e = tt

-- as a declarator makes it, behind the test of its arrays
pub plain_fit : (w : World) (t : TyData) → is_plain t ≡ true → IsSized t → EachStruct (Listed w.structs) t → arrays_within w t ≡ true → IsFit w.structs t
plain_fit w void p s l e = tt
plain_fit w (arithmetic a) p s l e = tt
plain_fit w (pointer t) p s l e = flat_fit w.structs t p
plain_fit w (array t zero) p s l e = absurd s
plain_fit w (array t (suc n)) p s l e = (
  first_true (is_within (shape_among (shapes_at w.structs) (array t (suc n)))) (arrays_within w t) e,
  (l, plain_fit w t p s l (second_true (is_within (shape_among (shapes_at w.structs) (array t (suc n)))) (arrays_within w t) e)),
)
plain_fit w (structure k) p s l e = tt

-- ---- where what is listed stays

abbrev Same : List StructInfo → List StructInfo → ℕ → Type 0
Same ss ts k = slice_get ts k ≡ slice_get ss k

type_shape : (ss ts : List StructInfo) (t : TyData) → EachStruct (Same ss ts) t → shape_among (shapes_at ts) t ≡ shape_among (shapes_at ss) t
type_shape ss ts void e = refl
type_shape ss ts (arithmetic a) e = refl
type_shape ss ts (pointer t) e = refl
type_shape ss ts (array t zero) e = refl
type_shape ss ts (array t (suc n)) e = ap (option_map (repeated (suc n))) (type_shape ss ts t e)
type_shape ss ts (structure k) e =
    ap (option_and_then (λ shape. shape)) (get_map (λ s. s.shape) ts k ∙ ap (option_map (λ s. s.shape)) e ∙ sym (get_map (λ s. s.shape) ss k))

pub fit_stays : (ss ts : List StructInfo) → ListedStay ss ts → (t : TyData) → IsFit ss t → IsFit ts t
fit_stays ss ts stay void h = tt
fit_stays ss ts stay (arithmetic a) h = tt
fit_stays ss ts stay (pointer t) h = fit_stays ss ts stay t h
fit_stays ss ts stay (array t zero) h = absurd h
fit_stays ss ts stay (array t (suc n)) h = (
  ap is_within (type_shape ss ts (array t (suc n)) (each_struct (Listed ss) (Same ss ts) (λ k e. stay k e) t h.1.0)) ∙ h.0,
  (each_struct (Listed ss) (Listed ts) (listed_stays ss ts stay) t h.1.0, fit_stays ss ts stay t h.1.1),
)
fit_stays ss ts stay (structure k) h = tt

pub fit_in_stays : (ss ts : List StructInfo) → ListedStay ss ts → (t : Option TyData) → IsFitIn ss t → IsFitIn ts t
fit_in_stays ss ts stay None h = tt
fit_in_stays ss ts stay (Some t) h = fit_stays ss ts stay t h

pub are_fit_stay : (ss ts : List StructInfo) → ListedStay ss ts → (ms : Members) → AreFit ss ms → AreFit ts ms
are_fit_stay ss ts stay [] h = tt
are_fit_stay ss ts stay (m ∷ ms) h = (fit_in_stays ss ts stay m.1 h.0, are_fit_stay ss ts stay ms h.1)

pub put_fit : (ss : List StructInfo) (name : Text) (v : Option TyData) (ms : Members) → IsFitIn ss v → AreFit ss ms → AreFit ss (put name v ms)
put_fit ss name v [] p h = (p, tt)
put_fit ss name v (m ∷ ms) p h = by_test (same_text name m.0) (put_fit ss name v ms p h.1)
  where
    by_test : (b : Bool) → AreFit ss (put name v ms) → AreFit ss (if b then (m.0, v) ∷ ms else m ∷ put name v ms)
    by_test true more = (p, h.1)
    by_test false more = (h.0, more)

-- ---- what this says of them

pub fit_fitting : (w : World) (t : TyData) → IsFit w.structs t → is_fitting w t ≡ true
fit_fitting w void h = refl
fit_fitting w (arithmetic a) h = refl
fit_fitting w (pointer t) h = fit_fitting w t h
fit_fitting w (array t zero) h = absurd h
fit_fitting w (array t (suc n)) h = both_true h.0 (fit_fitting w t h.1.1)
fit_fitting w (structure k) h = refl

fit_fitting_in : (w : World) (t : Option TyData) → IsFitIn w.structs t → IsFittingIn w t
fit_fitting_in w None h = tt
fit_fitting_in w (Some t) h = fit_fitting w t h

pub are_fitting : (w : World) (ms : Members) → AreFit w.structs ms → AreFitting w ms
are_fitting w [] h = tt
are_fitting w (m ∷ ms) h = (fit_fitting_in w m.1 h.0, are_fitting w ms h.1)
