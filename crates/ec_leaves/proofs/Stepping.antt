-- Ways through one member more.
use Rattle.std.proofs.Common.{◌≡◌, ℕ, zero, suc, List, [], ◌∷◌, ◌++◌, map, Option, Some, None, option_map, refl, ap, ◌∙◌, append_assoc, length, Bool, true, false}
use Rattle.std.specs.Prelude.{slice_get, option_and_then}
use Rattle.ec_language.specs.Letters.{Text}
use Rattle.ec_leaves.specs.declared.parts.Frame.{Frame}
use Rattle.ec_leaves.specs.Adding.{leaf_under, behind}
use Rattle.ec_leaves.specs.Seen.{leaf_at}
use Rattle.ec_ctypes.specs.trees.Types.{TyData, void, arithmetic, pointer, array, structure, StructData}
use Rattle.ec_host_defs.specs.Elements.{is_element, plain_struct}
use Rattle.ec_host_defs.specs.Leaves as spec
use Rattle.ec_host_defs.specs.Leaves.{LeafData, Path, Way, with_step, ways, ways_within, is_pointer, array_shape, many_structs, elements, one_struct, one_element, other_shape, shape_of_host}
use Rattle.ec_leaves.specs.Cases.{one_leaves, many_leaves, elements_by, array_by, other_by, leaves_by}

pub got_mapped : {A B : Type 0} (f : A → B) (xs : List A) (k : ℕ) → slice_get (map f xs) k ≡ option_map f (slice_get xs k)
got_mapped f [] k = refl
got_mapped f (x ∷ xs) zero = refl
got_mapped f (x ∷ xs) (suc k) = got_mapped f xs k

all_stepped : (frame : Frame) (front : Path) (s : ℕ × Text) (ws : List Way) → map (leaf_under frame (front ++ s ∷ [])) ws ≡ map (leaf_under frame front) (map (with_step s) ws)
all_stepped frame front s [] = refl
all_stepped frame front s (w ∷ ws) = λ i. leaf_at frame (append_assoc front (s ∷ []) w.0 i, w.1) ∷ all_stepped frame front s ws i

-- what stands behind a member more stands behind these members
pub stepped : (frame : Frame) (front : Path) (ls : List LeafData) (s : ℕ × Text) (found : Option (List Way)) → behind frame (front ++ s ∷ []) ls found ≡ behind frame front ls (option_map (map (with_step s)) found)
stepped frame front ls s None = refl
stepped frame front ls s (Some ws) = λ i. Some (ls ++ all_stepped frame front s ws i)

bare : (frame : Frame) (found : Option (List Way)) → behind frame [] [] found ≡ option_map (map (leaf_at frame)) found
bare frame None = refl
bare frame (Some ws) = refl

-- all leaves of a struct
pub all_within : (frame : Frame) (structs : List StructData) (k n : ℕ) → n ≡ length structs → behind frame [] [] (ways_within n structs k) ≡ option_map (map (leaf_at frame)) (ways structs k)
all_within frame structs k n h = ap (λ (m : ℕ). behind frame [] [] (ways_within m structs k)) h ∙ bare frame (ways structs k)

-- ---- the cases are the leaves

one_case : (structs : List StructData) (t : TyData) (o : Option ℕ) → one_leaves structs o ≡ option_and_then (spec.leaves_by structs t) (option_map one_struct o)
one_case structs t None = refl
one_case structs t (Some k) = refl

many_case : (structs : List StructData) (t : TyData) (n : ℕ) (o : Option ℕ) → many_leaves structs n o ≡ option_and_then (spec.leaves_by structs t) (option_map (λ k. many_structs k n) o)
many_case structs t n None = refl
many_case structs t n (Some k) = refl

elements_case : (structs : List StructData) (t u : TyData) (n : ℕ) (b : Bool) → elements_by b t u n ≡ option_and_then (spec.leaves_by structs t) (elim b [ true ↦ None | false ↦ Some (elements u n) ])
elements_case structs t u n true = refl
elements_case structs t u n false = refl

array_case : (structs : List StructData) (t u : TyData) (n : ℕ) (b : Bool) → array_by b structs t u n ≡ option_and_then (spec.leaves_by structs t) (elim b [ true ↦ elim (is_pointer u) [ true ↦ None | false ↦ Some (elements u n) ] | false ↦ option_map (λ k. many_structs k n) (plain_struct structs u) ])
array_case structs t u n true = elements_case structs t u n (is_pointer u)
array_case structs t u n false = many_case structs t n (plain_struct structs u)

other_case : (structs : List StructData) (t : TyData) → other_by structs t ≡ option_and_then (spec.leaves_by structs t) (other_shape structs t)
other_case structs void = refl
other_case structs (arithmetic a) = refl
other_case structs (pointer t) = refl
other_case structs (array t n) = array_case structs (array t n) t n (is_element structs t)
other_case structs (structure k) = one_case structs (structure k) (plain_struct structs (structure k))

by_case : (structs : List StructData) (t : TyData) (b : Bool) → leaves_by b structs t ≡ option_and_then (spec.leaves_by structs t) (elim b [ true ↦ Some one_element | false ↦ other_shape structs t ])
by_case structs t true = refl
by_case structs t false = other_case structs t

pub all_cases : (structs : List StructData) (t : TyData) → leaves_by (is_element structs t) structs t ≡ spec.leaves structs t
all_cases structs t = by_case structs t (is_element structs t)
