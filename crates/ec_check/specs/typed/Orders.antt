-- Numbers of structs in a new order.
use Rattle.std.specs.Prelude.{◌≡◌, ℕ, false, zero, suc, ◌+◌, ◌^◌, ◌<◌, ◌==◌, List, [], ◌∷◌, ◌++◌, length, map, Option, Some, None, option_map, if◌then◌else◌, slice_get, slice_index_or}
use Rattle.ec_ctypes.specs.declared.types.ty.Ty.{Ty}
use Rattle.ec_ctypes.specs.declared.types.ty.StructDef.{StructDef}
use Rattle.ec_ctypes.specs.trees.Types.{TyData, MemberData, StructData}
use Rattle.ec_ctypes.specs.views.Types.{ty_view, structs_view}
use Rattle.ec_typing_defs.specs.Worlds.{MembersData, unlisted, begun, listed, StructInfo, World}
use Rattle.ec_typing_defs.specs.Expressions.{Members}
use Rattle.ec_typing_defs.specs.Statements.{type_or_void}
use Rattle.ec_typing_defs.specs.Answers.{is_member, renumbered, structs_of, names_of}

-- where a number stands, if it does
abbrev pub place_in : ℕ → List ℕ → Option ℕ
place_in k [] = None
place_in k (j ∷ js) = if j == k then Some 0 else option_map suc (place_in k js)

-- The places are those of the numbers from 0 on, and there are not too many numbers.
pub record IsOrder (numbers : List ℕ) (places : List (Option ℕ)) : Type 0 where
  pub placed : (k : ℕ) → k < length places → slice_index_or places k None ≡ place_in k numbers
  pub few : length numbers < 2 ^ 32

-- a place for a number that has none
abbrev pub with_place : List (Option ℕ) → ℕ → ℕ → List (Option ℕ)
with_place [] k place = []
with_place (None ∷ ps) zero place = Some place ∷ ps
with_place (Some p ∷ ps) zero place = Some p ∷ ps
with_place (p ∷ ps) (suc k) place = p ∷ with_place ps k place

-- the number last, unless it is there
abbrev pub with_open : List ℕ → ℕ → List ℕ
with_open numbers k = elim (place_in k numbers) [ None ↦ numbers ++ k ∷ [] | Some p ↦ numbers ]

-- of so many numbers from k on, those that are not closed
abbrev pub open_from : List ℕ → ℕ → ℕ → List ℕ
open_from closed k zero = []
open_from closed k (suc n) = if is_member k closed then open_from closed (k + 1) n
    else k ∷ open_from closed (k + 1) n

-- those that are closed, and then the others below the count
abbrev pub order_of : List ℕ → ℕ → List ℕ
order_of closed count = closed ++ open_from closed 0 count

abbrev pub renumbered_member : List ℕ → MemberData → MemberData
renumbered_member order m = (m.0, renumbered order m.1)

abbrev pub renumbered_struct : List ℕ → Option StructData → StructData
renumbered_struct order None = record { tag = None; varchar = false; members = [] }
renumbered_struct order (Some d) =
    record { tag = d.tag; varchar = d.varchar; members = map (renumbered_member order) d.members }

abbrev pub renumbered_at : List ℕ → List StructData → ℕ → StructData
renumbered_at order structs k = renumbered_struct order (slice_get structs k)

abbrev pub names_view : List (ℕ × Ty) → List (ℕ × TyData)
names_view names = map (λ n. (n.0, ty_view n.1)) names

-- ---- a world as it is given

abbrev pub plain_members : Members → List MemberData
plain_members ms = map (λ m. (m.0, type_or_void m.1)) ms

abbrev pub members_in : MembersData → List MemberData
members_in unlisted = []
members_in begun = []
members_in (listed ms) = plain_members ms

-- a struct of a world; void stands for a type that is missing
abbrev pub plain_struct : StructInfo → StructData
plain_struct s = record { tag = s.tag; varchar = s.varchar; members = members_in s.members }

-- these are the structs of the world, its closed structs, and the types of its declarations
pub record Stands (structs : List StructDef) (closed : List ℕ)
    (types : List Ty) (w : World) : Type 0 where
  pub structs_are : structs_view structs ≡ map plain_struct w.structs
  pub closed_are : closed ≡ w.closed
  pub types_are : map ty_view types ≡ w.types

-- the answers of the checks about structs and types
pub record IsNumbered (structs : List StructDef) (names : List (ℕ × Ty)) (w : World) : Type 0 where
  pub structs_are : structs_view structs ≡ structs_of w
  pub names_are : names_view names ≡ names_of w
