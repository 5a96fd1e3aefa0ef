-- What is known of structs where a part of a source stands, and in the tables of the whole source.
use Rattle.std.specs.Prelude.{◌≡◌, ℕ, true, List, [], ◌∷◌, ◌++◌, Option, Some, None, option_and_then, slice_get}
use Rattle.ec_ctypes.specs.declared.types.sizes.Shape.{Shape}
use Rattle.ec_ctypes.specs.trees.Types.{TyData, void, arithmetic, pointer, array, structure}
use Rattle.ec_ctypes.specs.Layout.{struct_shape}
use Rattle.ec_typing_defs.specs.Tables.{find}
use Rattle.ec_typing_defs.specs.Worlds.{listed, StructInfo, World, shapes_in}
use Rattle.ec_typing_defs.specs.Expressions.{Members, typed_members}
use Rattle.ec_typing_defs.specs.Answers.{is_member}

-- ---- structs that are listed

-- the members of this struct are listed
pub record IsListed (w : World) (k : ℕ) : Type 0 where
  pub info : StructInfo
  pub is : slice_get w.structs k ≡ Some info
  pub members : Members
  pub are : info.members ≡ listed members

-- of each struct that lies in this type, and not behind a pointer
abbrev pub EachStruct : (ℕ → Type 0) → TyData → Type 0
EachStruct P void = Unit {0}
EachStruct P (arithmetic a) = Unit {0}
EachStruct P (pointer t) = Unit {0}
EachStruct P (array t n) = EachStruct P t
EachStruct P (structure k) = P k

abbrev pub EachStructIn : (ℕ → Type 0) → Option TyData → Type 0
EachStructIn P None = Unit {0}
EachStructIn P (Some t) = EachStruct P t

-- the structs in this type are listed here
abbrev pub AreListed : World → TyData → Type 0
AreListed w t = EachStruct (IsListed w) t

-- ---- structs that are closed

-- a struct that is among these
abbrev pub IsAmong : List ℕ → ℕ → Type 0
IsAmong ks k = is_member k ks ≡ true

-- the structs that lie in the types of members
abbrev pub EachMember : (ℕ → Type 0) → Members → Type 0
EachMember P [] = Unit {0}
EachMember P (m ∷ ms) = EachStructIn P m.1 × EachMember P ms

-- each of these is the first of its name among all
abbrev pub AreNamed : Members → Members → Type 0
AreNamed all [] = Unit {0}
AreNamed all (m ∷ ms) = (find m.0 all ≡ Some m.1) × AreNamed all ms

-- A struct that is closed behind these: its members are listed, no two have one name, each has a type of structs that were closed before, and so it has a shape
pub record IsClosed (w : World) (before : List ℕ) (k : ℕ) : Type 0 where
  pub info : StructInfo
  pub is : slice_get w.structs k ≡ Some info
  pub members : Members
  pub are : info.members ≡ listed members
  pub named : AreNamed members members
  pub inside : EachMember (IsAmong before) members
  pub shape : Shape
  pub has_shape : info.shape ≡ Some shape
  pub is_shape : option_and_then (struct_shape (shapes_in w)) (typed_members members) ≡ Some shape

-- one behind the other, behind these
abbrev pub AreClosed : World → List ℕ → List ℕ → Type 0
AreClosed w before [] = Unit {0}
AreClosed w before (k ∷ ks) = IsClosed w before k × AreClosed w (before ++ k ∷ []) ks

-- What holds of the structs wherever nothing was wrong so far: those that are closed are so in their order, and those that are listed are closed
pub record ClosedAreListed (w : World) : Type 0 where
  pub closed : AreClosed w [] w.closed
  pub listed : (k : ℕ) → IsListed w k → IsAmong w.closed k

-- ---- here, and behind the whole source

-- a struct with these members and this shape
pub record Stays (z : World) (k : ℕ) (info : StructInfo) : Type 0 where
  pub there : StructInfo
  pub is : slice_get z.structs k ≡ Some there
  pub members : there.members ≡ info.members
  pub shape : there.shape ≡ info.shape

-- Where a part of a source or of what is written of it stands, and behind the whole source: the types of declarations stay, and the structs that are listed
pub record IsWithin (w z : World) : Type 0 where
  pub types : (k : ℕ) (t : TyData) → slice_get w.types k ≡ Some t → slice_get z.types k ≡ Some t
  pub stay : (k : ℕ) (h : IsListed w k) → Stays z k h.info
  pub here : ClosedAreListed w
  pub there : ClosedAreListed z
