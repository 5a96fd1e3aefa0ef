-- Types, as plain data.
use Rattle.std.specs.Prelude.{ℕ, Bool, List, Option}
use Rattle.ec_ctypes.specs.declared.types.arith.Arith.{Arith}

-- a type
pub data TyData : Type 0 where
  void : TyData
  arithmetic : Arith → TyData
  pointer : TyData → TyData
  -- the type of the elements, and how many there are
  array : TyData → ℕ → TyData
  -- by its number in the list of the program's structs
  structure : ℕ → TyData

-- the name and the type of a member
abbrev pub MemberData : Type 0
MemberData = List ℕ × TyData

-- a struct: its tag if it has one, whether a VARCHAR made it, and its members in order
pub record StructData : Type 0 where
  pub tag : Option (List ℕ)
  pub varchar : Bool
  pub members : List MemberData
