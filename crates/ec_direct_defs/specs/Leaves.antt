-- The leaves of a host as places with types: where the first element is, what each element holds, and how far apart they lie (PostgreSQL manual, "Using Host Variables").
use Rattle.std.specs.Prelude.{ℕ, zero, suc, pos, true, false, List, [], ◌∷◌, slice_get, Option, Some, None, option_map, option_and_then}
use Rattle.ec_ctypes.specs.declared.types.arith.Arith.{Arith}
use Rattle.ec_ctypes.specs.declared.types.arith.Arith.TheVariants as arith
use Rattle.ec_ctypes.specs.trees.Types.{TyData, void, arithmetic, pointer, array, structure, StructData}
use Rattle.ec_ctypes.specs.Layout.{member_of}
use Rattle.ec_language.specs.Letters.{Text}
use Rattle.ec_host_defs.specs.Elements.{capacity}
use Rattle.ec_host_defs.specs.Leaves.{Path, LeafData, Pair}
use Rattle.ec_host_defs.specs.Places.{size_of}
use Rattle.ec_memory_defs.specs.Memory.{number}
use Rattle.ec_meaning_defs.specs.resolved.Operations.{pointer_plus}
use Rattle.ec_meaning_defs.specs.resolved.Resolved.{Exp, member, constant, operate, faulty}
use Rattle.ec_transfer_defs.specs.Hosts.{Holding, integer, truth, characters, pointed, counted, IndicatorData, HostData}

-- ---- what an element of a type holds

abbrev pub arith_holds : Arith → Holding
arith_holds arith.Bool = truth
arith_holds arith.Char = characters 1
arith_holds arith.UChar = characters 1
arith_holds arith.Short = integer arith.Short
arith_holds arith.UShort = integer arith.UShort
arith_holds arith.Int = integer arith.Int
arith_holds arith.UInt = integer arith.UInt
arith_holds arith.Long = integer arith.Long
arith_holds arith.ULong = integer arith.ULong
arith_holds arith.LLong = integer arith.LLong
arith_holds arith.ULLong = integer arith.ULLong

-- of characters of this type
abbrev pub if_characters : TyData → Holding → Option Holding
if_characters (arithmetic arith.Char) holds = Some holds
if_characters (arithmetic arith.UChar) holds = Some holds
if_characters _ holds = None

abbrev pub array_holds : TyData → ℕ → Option Holding
array_holds t zero = None
array_holds t (suc n) = if_characters t (characters (suc n))

-- a VARCHAR has two members, its length and an array of characters
abbrev pub capacity_holds : Option ℕ → Option Holding
capacity_holds (Some (suc n)) = Some (counted (suc n))
capacity_holds (Some zero) = None
capacity_holds None = None

abbrev pub struct_holds : StructData → Option Holding
struct_holds d = elim d.varchar [ true ↦ capacity_holds (capacity d.members) | false ↦ None ]

abbrev pub element_holds : List StructData → TyData → Option Holding
element_holds structs void = None
element_holds structs (arithmetic a) = Some (arith_holds a)
element_holds structs (pointer t) = if_characters t pointed
element_holds structs (array t n) = array_holds t n
element_holds structs (structure k) = option_and_then struct_holds (slice_get structs k)

-- the type of an indicator
abbrev pub indicator_kind : TyData → Option Arith
indicator_kind (arithmetic arith.Short) = Some arith.Short
indicator_kind (arithmetic arith.Int) = Some arith.Int
indicator_kind (arithmetic arith.Long) = Some arith.Long
indicator_kind (arithmetic arith.LLong) = Some arith.LLong
indicator_kind _ = None

-- ---- where a leaf is

-- the first element of an array of these (6.5.2.1)
abbrev pub first_element : List StructData → TyData → Exp → Exp
first_element structs t e = operate (pointer_plus (size_of structs t)) e (constant (number (pos 0)))

abbrev pub first_of_array : List StructData → LeafData → Exp → Exp
first_of_array structs l e = elim l.in_first [ true ↦ first_element structs l.apart e | false ↦ e ]

-- a member of a struct (6.5.2.3)
abbrev pub member_place : List StructData → ℕ × Text → Exp → Exp
member_place structs step e = elim (member_of structs step.0 step.1) [
  | None ↦ faulty
  | Some m ↦ member m.0 e
]

abbrev pub along : List StructData → Path → Exp → Exp
along structs [] e = e
along structs (step ∷ path) e = along structs path (member_place structs step e)

-- the address of the first element of a leaf of the host at this address
abbrev pub leaf_place : List StructData → Exp → LeafData → Exp
leaf_place structs e l = along structs l.path (first_of_array structs l e)

-- ---- leaves with places of a kind: expressions, and then addresses

-- a leaf, and that of its indicator
pub record Leaf (A : Type 0) : Type 0 where
  pub place : A
  pub leaf : LeafData
  pub indicator : Option (A × LeafData)

abbrev pub indicator_at : List StructData → Option Exp → Option LeafData → Option (Exp × LeafData)
indicator_at structs None l = None
indicator_at structs (Some e) None = None
indicator_at structs (Some e) (Some l) = Some (leaf_place structs e l, l)

-- a leaf of the host at this address, whose indicator is at that address
abbrev pub leaf_at : List StructData → Exp → Option Exp → Pair → Leaf Exp
leaf_at structs e i p = record {
  place = leaf_place structs e p.0;
  leaf = p.0;
  indicator = indicator_at structs i p.1;
}

-- ---- what is read and stored

abbrev pub indicator_data : List StructData → ℕ × LeafData → Option IndicatorData
indicator_data structs i = option_map (λ kind. record {
  kind = kind;
  place = i.0;
  step = size_of structs i.1.apart;
}) (indicator_kind i.1.element)

abbrev pub indicators_data : List StructData → Option (ℕ × LeafData) → Option (Option IndicatorData)
indicators_data structs None = Some None
indicators_data structs (Some i) = option_map Some (indicator_data structs i)

-- a leaf by its types
abbrev pub leaf_data : List StructData → Leaf ℕ → Option HostData
leaf_data structs l =
    option_and_then (λ holds. option_map (λ indicator. record {
      holds = holds;
      place = l.place;
      step = size_of structs l.leaf.apart;
      indicator = indicator;
    }) (indicators_data structs l.indicator)) (element_holds structs l.leaf.element)
