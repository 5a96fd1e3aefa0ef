-- The leaves that a host stands for, by its type alone: itself, or the members of its struct in order, inner structs too (PostgreSQL manual, "Host Variables with Nonprimitive Types").
use Rattle.std.specs.Prelude.{ℕ, zero, suc, Bool, true, false, List, [], ◌∷◌, ◌++◌, map, length, slice_get, Option, Some, None, option_map, option_and_then}
use Rattle.ec_ctypes.specs.trees.Types.{TyData, void, arithmetic, pointer, array, structure, MemberData, StructData}
use Rattle.ec_language.specs.Letters.{Text}
use Rattle.ec_host_defs.specs.Elements.{is_element, plain_struct}

-- the members that lead to a leaf, each with the number of its struct
abbrev pub Path : Type 0
Path = List (ℕ × Text)

-- a way through members, and the type at its end
abbrev pub Way : Type 0
Way = Path × TyData

-- A leaf: whether it lies in the first struct of an array, the way there, the type of the place, the type of an element, the number of elements, and the type whose size is their distance.
pub record LeafData : Type 0 where
  pub in_first : Bool
  pub path : Path
  pub whole : TyData
  pub element : TyData
  pub count : ℕ
  pub apart : TyData

abbrev pub both : {A : Type 0} → Option (List A) → Option (List A) → Option (List A)
both None ys = None
both (Some xs) None = None
both (Some xs) (Some ys) = Some (xs ++ ys)

abbrev pub with_step : ℕ × Text → Way → Way
with_step step w = (step ∷ w.0, w.1)

-- the ways through a member: it is an element, or a struct, for whose members it stands. There are none through any other, as an array of numbers
abbrev pub member_ways : List StructData →
    (ℕ → Option (List Way)) → ℕ → MemberData → Option (List Way)
member_ways structs inside k m = elim (is_element structs m.1) [
  | true ↦ Some (((k, m.0) ∷ [], m.1) ∷ [])
  | false ↦
      option_map (map (with_step (k, m.0))) (option_and_then inside (plain_struct structs m.1))
]

abbrev pub members_ways : List StructData →
    (ℕ → Option (List Way)) → ℕ → List MemberData → Option (List Way)
members_ways structs inside k [] = Some []
members_ways structs inside k (m ∷ ms) =
    both (member_ways structs inside k m) (members_ways structs inside k ms)

-- the ways to the leaves of the struct of this number. Structs lie at most so deep in one another
abbrev pub ways_within : ℕ → List StructData → ℕ → Option (List Way)
ways_within zero structs k = None
ways_within (suc depth) structs k = option_and_then
    (λ d. members_ways structs (ways_within depth structs) k d.members) (slice_get structs k)

abbrev pub ways : List StructData → ℕ → Option (List Way)
ways structs k = ways_within (length structs) structs k

-- what a host of a type is: one element, an array of these but no array of pointers, a struct, or an array of structs
pub data ShapeData : Type 0 where
  one_element : ShapeData
  elements : TyData → ℕ → ShapeData
  one_struct : ℕ → ShapeData
  many_structs : ℕ → ℕ → ShapeData

abbrev pub is_pointer : TyData → Bool
is_pointer (pointer t) = true
is_pointer _ = false

abbrev pub array_shape : List StructData → TyData → ℕ → Option ShapeData
array_shape structs t n = elim (is_element structs t) [
  | true ↦ elim (is_pointer t) [ true ↦ None | false ↦ Some (elements t n) ]
  | false ↦ option_map (λ k. many_structs k n) (plain_struct structs t)
]

abbrev pub other_shape : List StructData → TyData → Option ShapeData
other_shape structs void = None
other_shape structs (arithmetic a) = None
other_shape structs (pointer t) = None
other_shape structs (array t n) = array_shape structs t n
other_shape structs (structure k) = option_map one_struct (plain_struct structs (structure k))

abbrev pub shape_of_host : List StructData → TyData → Option ShapeData
shape_of_host structs t =
    elim (is_element structs t) [ true ↦ Some one_element | false ↦ other_shape structs t ]

abbrev pub leaf_of_struct : Way → LeafData
leaf_of_struct w =
    record { in_first = false; path = w.0; whole = w.1; element = w.1; count = 1; apart = w.1 }

-- in an array of structs, the distance is that of the structs
abbrev pub leaf_of_structs : ℕ → ℕ → Way → LeafData
leaf_of_structs k n w =
    record {
      in_first = true;
      path = w.0;
      whole = w.1;
      element = w.1;
      count = n;
      apart = structure k;
    }

-- a host that is one leaf: elements of this type, so many
abbrev pub own_leaf : TyData → TyData → ℕ → LeafData
own_leaf t u n =
    record { in_first = false; path = []; whole = t; element = u; count = n; apart = u }

abbrev pub leaves_by : List StructData → TyData → ShapeData → Option (List LeafData)
leaves_by structs t one_element = Some (own_leaf t t 1 ∷ [])
leaves_by structs t (elements u n) = Some (own_leaf t u n ∷ [])
leaves_by structs t (one_struct k) = option_map (map leaf_of_struct) (ways structs k)
leaves_by structs t (many_structs k n) = option_map (map (leaf_of_structs k n)) (ways structs k)

-- those of an array of this type
abbrev pub array_leaves : List StructData → TyData → TyData → ℕ → Option (List LeafData)
array_leaves structs t u n = option_and_then (leaves_by structs t) (array_shape structs u n)

-- the leaves of a host of this type; none where it is no host
abbrev pub leaves : List StructData → TyData → Option (List LeafData)
leaves structs t = option_and_then (leaves_by structs t) (shape_of_host structs t)

-- A leaf with that of its indicator. The leaves of an indicator are found by the same shape.
abbrev pub Pair : Type 0
Pair = LeafData × Option LeafData

abbrev pub alone : LeafData → Pair
alone l = (l, None)

abbrev pub paired : List LeafData → List LeafData → List Pair
paired [] is = []
paired (l ∷ ls) [] = alone l ∷ paired ls []
paired (l ∷ ls) (i ∷ is) = (l, Some i) ∷ paired ls is

abbrev pub leaves_or_none : List StructData → Option TyData → List LeafData
leaves_or_none structs None = []
leaves_or_none structs (Some t) = elim (leaves structs t) [ None ↦ [] | Some ls ↦ ls ]

-- the leaves of a host of this type with those of an indicator of that type
abbrev pub hosted : List StructData → Option TyData → Option TyData → List Pair
hosted structs t i = paired (leaves_or_none structs t) (leaves_or_none structs i)
