-- The distance of a leaf in an array is the size of what the array repeats.
use Rattle.std.proofs.Common.{◌≡◌, ◌∙◌, ℕ, ◌+◌, ◌*◌, Bool, true, false, cond, List, [], ◌∷◌, map, length, Option, Some, None, option_map, option_and_then, All, refl, sym, ap, subst, arith}
use Rattle.std.proofs.lemmas.List.Elements.{All-nil, All-cons}
use Rattle.ec_ctypes.specs.trees.Types.{TyData, void, arithmetic, pointer, array, structure, StructData}
use Rattle.ec_host_defs.specs.Elements.{is_element, plain_struct}
use Rattle.ec_host_defs.specs.Leaves.{Way, LeafData}
use Rattle.ec_host_defs.specs.Places.{size_of}
use Rattle.ec_direct_defs.specs.Hosts.{Repeated, once, times, whole_leaf, member_leaf, leaves_of_repeated, leaves_of_type, ways_through}
use Rattle.ec_element_laws.specs.Elements.{offset_along, IsSpaced, IsPlaced}
use Rattle.ec_element_laws.proofs.Found.{is_found}
use Rattle.ec_element_laws.proofs.Reached.{reached}

-- i sizes and a member are no size, the member, and i sizes
moved_on : (s k a : ℕ) → a + k ≡ (0 * s + k) + a
moved_on s k a = omega arith

module _ (structs : List StructData) (t : TyData) where
  spaced : (l : LeafData) → t ≡ l.apart → IsSpaced structs t l
  spaced l e i = go (offset_along structs l.path)
    where
      go : (o : Option ℕ) → option_map (λ k. i * size_of structs t + k) o
          ≡ option_map (λ first. first + i * size_of structs l.apart) (option_map (λ k. 0 * size_of structs t + k) o)
      go None = refl
      go (Some k) = ap (λ n. Some n) (moved_on (size_of structs t) k (i * size_of structs t))
          ∙ ap (λ u. Some ((0 * size_of structs t + k) + i * size_of structs u)) e

  placed : (l : LeafData) → t ≡ l.apart → IsPlaced structs t l
  placed l e = record { spaced = spaced l e; reached = reached structs t l e; found = is_found structs t l e }

  abbrev repeated : ℕ → Repeated
  repeated n = record { type = t; count = n; in_array = true }

  members : (n : ℕ) (ws : List Way) → All (IsPlaced structs t) (map (member_leaf (repeated n)) ws)
  members n [] = All-nil (IsPlaced structs t)
  members n (w ∷ ws) = All-cons (IsPlaced structs t) (member_leaf (repeated n) w) (map (member_leaf (repeated n)) ws)
      (placed (member_leaf (repeated n) w) refl) (members n ws)

  abbrev or_none : Option (List LeafData) → List LeafData
  or_none o = elim o [ None ↦ [] | Some ls ↦ ls ]

  of_array : (n : ℕ) → All (IsPlaced structs t) (or_none (leaves_of_repeated structs (array t n) (repeated n)))
  of_array n = go (is_element structs t) (option_and_then (ways_through structs (length structs)) (plain_struct structs t))
    where
      go : (b : Bool) (ws : Option (List Way))
          → All (IsPlaced structs t) (or_none (cond b (Some (whole_leaf (array t n) (repeated n) ∷ [])) (option_map (map (member_leaf (repeated n))) ws)))
      go true ws = All-cons (IsPlaced structs t) (whole_leaf (array t n) (repeated n)) []
          (placed (whole_leaf (array t n) (repeated n)) refl) (All-nil (IsPlaced structs t))
      go false None = All-nil (IsPlaced structs t)
      go false (Some ws) = members n ws

-- of any type: an array of pointers has none
by_type : (structs : List StructData) (t : TyData) (n : ℕ)
    → All (IsPlaced structs t) (or_none structs t (option_and_then (leaves_of_repeated structs (array t n)) (times t n)))
by_type structs void n = of_array structs void n
by_type structs (arithmetic a) n = of_array structs (arithmetic a) n
by_type structs (pointer t) n = All-nil (IsPlaced structs (pointer t))
by_type structs (array t m) n = of_array structs (array t m) n
by_type structs (structure k) n = of_array structs (structure k) n

pub all_placed : (structs : List StructData) (t : TyData) (n : ℕ) → is_element structs (array t n) ≡ false
    → All (IsPlaced structs t) (leaves_of_type structs (Some (array t n)))
all_placed structs t n e = subst (λ b. All (IsPlaced structs t) (or_none structs t
    (option_and_then (leaves_of_repeated structs (array t n)) (cond b (Some (once (array t n))) (times t n))))) (sym e) (by_type structs t n)
