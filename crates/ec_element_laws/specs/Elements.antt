-- Where an element of an array of structs lies, by the layout: `h[i].m` is the member of the struct that is i structs behind the beginning (ISO/IEC 9899:1999, 6.5.2.1 and 6.5.2.3).
use Rattle.std.specs.Prelude.{◌≡◌, ℕ, ◌+◌, ◌*◌, ◌^◌, ◌<◌, pos, true, List, [], ◌∷◌, length, Option, Some, Result, Ok, option_map, option_and_then}
use Rattle.ec_base.specs.declared.stop.Trap.{Trap}
use Rattle.ec_ctypes.specs.Layout.{member_of}
use Rattle.ec_ctypes.specs.trees.Types.{TyData, StructData}
use Rattle.ec_host_defs.specs.Leaves.{Path, LeafData}
use Rattle.ec_host_defs.specs.Places.{size_of}
use Rattle.ec_memory_defs.specs.Cells.{Cell}
use Rattle.ec_memory_defs.specs.Memory.{Memory, address, and_then, moved, object_cells, object_of}
use Rattle.ec_meaning_defs.specs.resolved.Resolved.{constant}
use Rattle.ec_meaning_defs.specs.evaluation.State.{State}
use Rattle.ec_meaning_defs.specs.evaluation.Results.{value, tried}
use Rattle.ec_meaning_defs.specs.evaluation.Evaluate.{World, Context, Step, eval}
use Rattle.ec_direct_defs.specs.Leaves.{leaf_place}

-- how far the member at the end of a path lies behind the beginning of the struct where the path begins
abbrev pub offset_along : List StructData → Path → Option ℕ
offset_along structs [] = Some 0
offset_along structs (step ∷ path) =
    option_and_then (λ m. option_map (λ k. m.0 + k) (offset_along structs path)) (member_of structs step.0 step.1)

-- and behind the beginning of an array of these, in the element of a number
abbrev pub offset_in_element : List StructData → TyData → Path → ℕ → Option ℕ
offset_in_element structs t path i = option_map (λ k. i * size_of structs t + k) (offset_along structs path)

-- an element of a leaf in an array of these lies so many times the leaf's distance behind the first one
abbrev pub IsSpaced : List StructData → TyData → LeafData → Type 0
IsSpaced structs t l = (i : ℕ) → offset_in_element structs t l.path i
    ≡ option_map (λ first. first + i * size_of structs l.apart) (offset_in_element structs t l.path 0)

-- the pointer to a member of so many bytes behind the beginning of a struct, in the element of a number of an array of these at a pointer
abbrev pub member_in_element : List StructData → TyData → ℕ → Memory → ℕ → ℕ → Result ℕ Trap
member_in_element structs t k m p i = and_then (moved m p (pos i) (size_of structs t)) (λ q. moved m q (pos k) 1)

-- The same with pointers: what is stored in an element of the leaf, or why nothing is, doesn't hang on whether the pointer moves to the struct and then to the member, or to the first member and then by so many distances
abbrev pub IsReached : List StructData → TyData → LeafData → Type 0
IsReached structs t l = (m : Memory) (p k i : ℕ) (cells : List Cell) → offset_along structs l.path ≡ Some k
    → object_cells m (object_of p) ≡ Ok cells → length cells < 2 ^ 32
    → member_in_element structs t k m p i
    ≡ and_then (member_in_element structs t k m p 0) (λ first. moved m first (pos i) (size_of structs l.apart))

-- and the first one is where the expression of the leaf's place leads from a pointer to the host
abbrev pub IsFound : List StructData → TyData → LeafData → Type 0
IsFound structs t l = (step : Step) (w : World) (c : Context) (s : State) (p k : ℕ) (cells : List Cell)
    → l.in_first ≡ true → offset_along structs l.path ≡ Some k
    → object_cells s.memory (object_of p) ≡ Ok cells → length cells < 2 ^ 32
    → eval step w c (leaf_place structs (constant (address p)) l) s
    ≡ tried c.line (member_in_element structs t k s.memory p 0) s (λ q. value (address q) s)

pub record IsPlaced (structs : List StructData) (t : TyData) (l : LeafData) : Type 0 where
  pub spaced : IsSpaced structs t l
  pub reached : IsReached structs t l
  pub found : IsFound structs t l
