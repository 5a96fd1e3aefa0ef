-- What holds of the structs behind each part of a program, with faults in it or without.
use Rattle.std.specs.Prelude.{◌≡◌, ℕ, zero, suc, true, List, [], ◌∷◌, ◌++◌, Option, Some, None, map, option_map, option_and_then, slice_get}
use Rattle.ec_ctypes.specs.declared.types.sizes.Shape.{Shape}
use Rattle.ec_ctypes.specs.trees.Types.{TyData, void, arithmetic, pointer, array, structure}
use Rattle.ec_ctypes.specs.Layout.{struct_shape}
use Rattle.ec_typing_defs.specs.Tables.{find}
use Rattle.ec_typing_defs.specs.Worlds.{MembersData, listed, is_listed, StructInfo, World, Rule}
use Rattle.ec_typing_defs.specs.Expressions.{Members, typed_members}
use Rattle.ec_sim_world_laws.specs.place.Structs.{IsAmong, EachMember}

-- no two of these have one name
abbrev pub AreDistinct : Members → Type 0
AreDistinct [] = Unit {0}
AreDistinct (m ∷ ms) = (find m.0 ms ≡ None) × AreDistinct ms

-- A type that has a size where the structs in it have one: it is not void, and no array in it is without a length.
abbrev pub IsSized : TyData → Type 0
IsSized void = ⊥
IsSized (arithmetic a) = Unit {0}
IsSized (pointer t) = Unit {0}
IsSized (array t zero) = ⊥
IsSized (array t (suc n)) = IsSized t
IsSized (structure k) = Unit {0}

abbrev pub IsSizedIn : Option TyData → Type 0
IsSizedIn None = Unit {0}
IsSizedIn (Some t) = IsSized t

-- the types of members that have one
abbrev pub AreSized : Members → Type 0
AreSized [] = Unit {0}
AreSized (m ∷ ms) = IsSizedIn m.1 × AreSized ms

-- the members of the struct of a number
abbrev pub members_at : List StructInfo → ℕ → Option MembersData
members_at structs k = option_map (λ s. s.members) (slice_get structs k)

abbrev pub shapes_at : List StructInfo → List (Option Shape)
shapes_at structs = map (λ s. s.shape) structs

-- A struct that is closed behind these: its members are listed, no two have one name, their types have sizes, in them lie structs that were closed before, and it has the shape that these give it. It has none where it has no members, or one without a type
pub record IsInOrder (structs : List StructInfo) (before : List ℕ) (k : ℕ) : Type 0 where
  pub info : StructInfo
  pub is : slice_get structs k ≡ Some info
  pub members : Members
  pub are : info.members ≡ listed members
  pub distinct : AreDistinct members
  pub sized : AreSized members
  pub inside : EachMember (IsAmong before) members
  pub is_shape : info.shape
      ≡ option_and_then (struct_shape (shapes_at structs)) (typed_members members)

-- one behind the other, behind these
abbrev pub AreInOrder : List StructInfo → List ℕ → List ℕ → Type 0
AreInOrder structs before [] = Unit {0}
AreInOrder structs before (k ∷ ks) =
    IsInOrder structs before k × AreInOrder structs (before ++ k ∷ []) ks

-- those that are closed are so in their order, and those that are listed are closed
pub record StructsInOrder (structs : List StructInfo) (order : List ℕ) : Type 0 where
  pub closed : AreInOrder structs [] order
  pub listed : (k : ℕ) → is_listed (members_at structs k) ≡ true → IsAmong order k

abbrev pub AreInTheirOrder : World → Type 0
AreInTheirOrder w = StructsInOrder w.structs w.closed

-- This rule keeps it so.
abbrev pub KeepsOrder : {A : Type 0} → Rule A → Type 0
KeepsOrder rule = (w : World) → AreInTheirOrder w → AreInTheirOrder (rule w).world

-- ---- members that all have types

abbrev pub IsTyped : Option TyData → Type 0
IsTyped None = ⊥
IsTyped (Some t) = Unit {0}

abbrev pub AreTyped : Members → Type 0
AreTyped [] = Unit {0}
AreTyped (m ∷ ms) = IsTyped m.1 × AreTyped ms

-- one member or more, and each has a type
abbrev pub AreSomeTyped : Members → Type 0
AreSomeTyped [] = ⊥
AreSomeTyped (m ∷ ms) = IsTyped m.1 × AreTyped ms

-- Each struct that is listed has members, and each of them has a type.
abbrev pub HaveTypes : World → Type 0
HaveTypes w = (k : ℕ) (ms : Members) → members_at w.structs k ≡ Some (listed ms) → AreSomeTyped ms

-- The structs that are listed here are there as they are here.
abbrev pub ListedStay : World → World → Type 0
ListedStay w z = (k : ℕ) (info : StructInfo) → slice_get w.structs k ≡ Some info
    → is_listed (Some info.members) ≡ true → slice_get z.structs k ≡ Some info

pub record HasShape (info : StructInfo) : Type 0 where
  pub shape : Shape
  pub is : info.shape ≡ Some shape

-- Each struct that is listed has a shape.
abbrev pub HaveShapes : World → Type 0
HaveShapes w = (k : ℕ) (info : StructInfo) → slice_get w.structs k ≡ Some info
    → is_listed (Some info.members) ≡ true → HasShape info
