-- The leaves of a type, case by case.
use Rattle.std.specs.Prelude.{ℕ, Bool, true, false, List, [], ◌∷◌, map, Option, Some, None, option_map}
use Rattle.ec_ctypes.specs.trees.Types.{TyData, void, arithmetic, pointer, array, structure, StructData}
use Rattle.ec_host_defs.specs.Elements.{is_element, plain_struct}
use Rattle.ec_host_defs.specs.Leaves.{LeafData, own_leaf, leaf_of_struct, leaf_of_structs, ways, is_pointer}

-- of a struct that stands for its members
abbrev pub one_leaves : List StructData → Option ℕ → Option (List LeafData)
one_leaves structs None = None
one_leaves structs (Some k) = option_map (map leaf_of_struct) (ways structs k)

-- of an array of them
abbrev pub many_leaves : List StructData → ℕ → Option ℕ → Option (List LeafData)
many_leaves structs n None = None
many_leaves structs n (Some k) = option_map (map (leaf_of_structs k n)) (ways structs k)

-- of an array of elements, which may be pointers
abbrev pub elements_by : Bool → TyData → TyData → ℕ → Option (List LeafData)
elements_by true t u n = None
elements_by false t u n = Some (own_leaf t u n ∷ [])

-- of an array, whose elements may be elements of hosts
abbrev pub array_by : Bool → List StructData → TyData → TyData → ℕ → Option (List LeafData)
array_by true structs t u n = elements_by (is_pointer u) t u n
array_by false structs t u n = many_leaves structs n (plain_struct structs u)

-- of what is no element
abbrev pub other_by : List StructData → TyData → Option (List LeafData)
other_by structs void = None
other_by structs (arithmetic a) = None
other_by structs (pointer t) = None
other_by structs (array t n) = array_by (is_element structs t) structs (array t n) t n
other_by structs (structure k) = one_leaves structs (plain_struct structs (structure k))

abbrev pub leaves_by : Bool → List StructData → TyData → Option (List LeafData)
leaves_by true structs t = Some (own_leaf t t 1 ∷ [])
leaves_by false structs t = other_by structs t
