-- The leaves that a host stands for where it is read or stored: itself, its elements, or the members of its struct in order, inner structs too. In an array of structs a member has one element in each struct, and two of these lie as far apart as the structs (PostgreSQL manual, "Host Variables with Nonprimitive Types").
use Rattle.std.specs.Prelude.{ℕ, zero, suc, cond, Bool, true, false, List, [], ◌∷◌, ◌++◌, map, length, slice_get, Option, Some, None, option_map, option_and_then}
use Rattle.ec_ctypes.specs.trees.Types.{TyData, void, arithmetic, pointer, array, structure, MemberData, StructData}
use Rattle.ec_ctypes.specs.trees.Embedded.{HostData}
use Rattle.ec_host_defs.specs.Elements.{is_element, plain_struct}
use Rattle.ec_host_defs.specs.Faults.{value_part, indicator_part}
use Rattle.ec_host_defs.specs.Leaves.{Way, with_step, LeafData, Pair}
use Rattle.ec_host_defs.specs.Programs.{ProgramData, Denoted, reference_type}

-- ---- members

-- what each of two lists gives, if both do
abbrev pub joined : {A : Type 0} → Option (List A) → Option (List A) → Option (List A)
joined xs ys = option_and_then (λ xs. option_map (λ ys. xs ++ ys) ys) xs

-- the ways through the members of the struct of this number, by those from the type of a member
abbrev pub through_members : (TyData → Option (List Way)) → ℕ → List MemberData → Option (List Way)
through_members from k [] = Some []
through_members from k (m ∷ ms) =
    joined (option_map (map (with_step (k, m.0))) (from m.1)) (through_members from k ms)

module _ (structs : List StructData) where
  -- the ways from a type to its leaves: an element is one itself, and a struct stands for its members
  abbrev pub ways_from : (ℕ → Option (List Way)) → TyData → Option (List Way)
  ways_from through t = cond (is_element structs t) (Some (([], t) ∷ []))
      (option_and_then through (plain_struct structs t))

  -- the ways through the struct of this number. Structs lie at most so deep in one another
  abbrev pub ways_through : ℕ → ℕ → Option (List Way)
  ways_through zero k = None
  ways_through (suc depth) k = option_and_then
      (λ d. through_members (ways_from (ways_through depth)) k d.members) (slice_get structs k)

-- ---- hosts

-- What a host repeats: the type of one, how many there are, and whether they are those of an array
pub record Repeated : Type 0 where
  pub type : TyData
  pub count : ℕ
  pub in_array : Bool

abbrev pub once : TyData → Repeated
once t = record { type = t; count = 1; in_array = false }

-- an array of pointers is no host
abbrev pub times : TyData → ℕ → Option Repeated
times (pointer t) n = None
times void n = Some (record { type = void; count = n; in_array = true })
times (arithmetic a) n = Some (record { type = arithmetic a; count = n; in_array = true })
times (array t m) n = Some (record { type = array t m; count = n; in_array = true })
times (structure k) n = Some (record { type = structure k; count = n; in_array = true })

abbrev pub parts_of : TyData → Option Repeated
parts_of void = None
parts_of (arithmetic a) = None
parts_of (pointer t) = None
parts_of (array t n) = times t n
parts_of (structure k) = Some (once (structure k))

-- an array of characters is one element
abbrev pub repeated_in : List StructData → TyData → Option Repeated
repeated_in structs t = cond (is_element structs t) (Some (once t)) (parts_of t)

-- what is repeated is the leaf
abbrev pub whole_leaf : TyData → Repeated → LeafData
whole_leaf t r = record {
  in_first = false;
  path = [];
  whole = t;
  element = r.type;
  count = r.count;
  apart = r.type;
}

-- a member of what is repeated is. Of a struct alone there is one element
abbrev pub member_leaf : Repeated → Way → LeafData
member_leaf r w = record {
  in_first = r.in_array;
  path = w.0;
  whole = w.1;
  element = w.1;
  count = r.count;
  apart = cond r.in_array r.type w.1;
}

abbrev pub leaves_of_repeated : List StructData → TyData → Repeated → Option (List LeafData)
leaves_of_repeated structs t r = cond (is_element structs r.type) (Some (whole_leaf t r ∷ []))
    (option_map (map (member_leaf r))
    (option_and_then (ways_through structs (length structs)) (plain_struct structs r.type)))

-- the leaves of a host of this type, or none where it is no host
abbrev pub leaves_of_type : List StructData → Option TyData → List LeafData
leaves_of_type structs t =
    elim (option_and_then (λ t. option_and_then (leaves_of_repeated structs t) (repeated_in structs t)) t) [
      | None ↦ []
      | Some ls ↦ ls
    ]

-- each leaf with that of the indicator in the same place, if there is one
abbrev pub with_indicators : List LeafData → List LeafData → List Pair
with_indicators [] is = []
with_indicators (l ∷ ls) [] = (l, None) ∷ with_indicators ls []
with_indicators (l ∷ ls) (i ∷ is) = (l, Some i) ∷ with_indicators ls is

-- the leaves of a host and of its indicator, by what its variables denote
abbrev pub leaves_with_indicators : ProgramData → HostData → Denoted → List Pair
leaves_with_indicators p h denoted = with_indicators
    (leaves_of_type p.structs (reference_type p h.value (value_part h denoted)))
    (leaves_of_type p.structs
    (option_and_then (λ i. reference_type p i (indicator_part h denoted)) h.indicator))
