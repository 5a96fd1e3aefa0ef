-- How many leaves hosts have, as far as it counts, and whether they are indicators, without making them.
use Rattle.std.specs.Prelude.{ℕ, ◌+◌, Bool, true, false, ◌&&◌, nat_le, List, [], ◌∷◌, ◌++◌, length, slice_get, Option, Some, None, option_and_then, if◌then◌else◌}
use Rattle.std.specs.List.{list_all}
use Rattle.ec_ctypes.specs.trees.Types.{TyData, void, arithmetic, pointer, array, structure, MemberData, StructData}
use Rattle.ec_host_defs.specs.Elements.{is_element, is_indicator, plain_struct}
use Rattle.ec_host_defs.specs.Leaves.{LeafData, Way, is_pointer}
use Rattle.ec_params.specs.declared.tallies.Tally.{Tally}

-- the greatest number that is counted
abbrev pub most : ℕ
most = 18446744073709551615

-- a number up to that; all others are that one
abbrev pub counted : ℕ → ℕ
counted n = if nat_le n most then n else most

-- ---- of lists of leaves

abbrev pub leaves_tally : Option (List LeafData) → Option Tally
leaves_tally None = None
leaves_tally (Some ls) = Some
    (record { count = counted (length ls); indicators = list_all (λ l. is_indicator l.element) ls })

abbrev pub ways_tally : Option (List Way) → Option Tally
ways_tally None = None
ways_tally (Some ws) =
    Some (record { count = counted (length ws); indicators = list_all (λ w. is_indicator w.1) ws })

-- ---- of types, without such lists

abbrev pub no_leaves : Tally
no_leaves = record { count = 0; indicators = true }

abbrev pub element_tally : TyData → Tally
element_tally t = record { count = 1; indicators = is_indicator t }

-- those of both, one behind the other
abbrev pub joined : Tally → Tally → Tally
joined a b =
    record { count = counted (a.count + b.count); indicators = a.indicators && b.indicators }

abbrev pub both_tallies : Option Tally → Option Tally → Option Tally
both_tallies None b = None
both_tallies (Some a) None = None
both_tallies (Some a) (Some b) = Some (joined a b)

-- of a struct, by the tallies of the structs so far: nothing is known of one that isn't among them
abbrev pub struct_tally : List (Option Tally) → Option ℕ → Option (Option Tally)
struct_tally ts None = Some None
struct_tally ts (Some k) = slice_get ts k

abbrev pub member_tally : List StructData → List (Option Tally) → TyData → Option (Option Tally)
member_tally structs ts t = elim (is_element structs t) [
  | true ↦ Some (Some (element_tally t))
  | false ↦ struct_tally ts (plain_struct structs t)
]

-- of these members behind what is counted
abbrev pub members_tally : List StructData → List (Option Tally) →
    Option Tally → List MemberData → Option (Option Tally)
members_tally structs ts all [] = Some all
members_tally structs ts all (m ∷ ms) = option_and_then
    (λ t. members_tally structs ts (both_tallies all t) ms) (member_tally structs ts m.1)

-- with the tallies of these structs, up to the first that holds one that isn't among those so far
abbrev pub with_tallies : List StructData →
    List (Option Tally) → List StructData → List (Option Tally)
with_tallies structs ts [] = ts
with_tallies structs ts (d ∷ ds) =
    elim (members_tally structs ts (Some no_leaves) d.members) [
      | None ↦ ts
      | Some t ↦ with_tallies structs (ts ++ t ∷ []) ds
    ]

abbrev pub tallies_of : List StructData → List (Option Tally)
tallies_of structs = with_tallies structs [] structs

abbrev pub elements_tally : TyData → Option Tally
elements_tally t = elim (is_pointer t) [ true ↦ None | false ↦ Some (element_tally t) ]

-- of an array of this type
abbrev pub array_tally : List StructData → List (Option Tally) → TyData → Option (Option Tally)
array_tally structs ts t = elim (is_element structs t) [
  | true ↦ Some (elements_tally t)
  | false ↦ struct_tally ts (plain_struct structs t)
]

-- of what is no element
abbrev pub other_tally : List StructData → List (Option Tally) → TyData → Option (Option Tally)
other_tally structs ts void = Some None
other_tally structs ts (arithmetic a) = Some None
other_tally structs ts (pointer t) = Some None
other_tally structs ts (array t n) = array_tally structs ts t
other_tally structs ts (structure k) = struct_tally ts (plain_struct structs (structure k))

-- of a type, if it is known
abbrev pub known_tally : List StructData → List (Option Tally) → TyData → Option (Option Tally)
known_tally structs ts t = elim (is_element structs t) [
  | true ↦ Some (Some (element_tally t))
  | false ↦ other_tally structs ts t
]

-- ---- comparing them

abbrev pub all_indicators : Option Tally → Bool
all_indicators None = false
all_indicators (Some t) = t.indicators
