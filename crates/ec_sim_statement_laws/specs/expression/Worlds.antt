-- What is known at a place of a source, and what is known at the same place of what is written of it.
use Rattle.std.specs.Prelude.{◌≡◌, true, false, List, [], ◌∷◌, None}
use Rattle.ec_language.specs.Letters.{Text}
use Rattle.ec_typing_defs.specs.Tables.{find}
use Rattle.ec_typing_defs.specs.Known.{is_reserved}
use Rattle.ec_typing_defs.specs.Worlds.{StructInfo, ScopeData, World}

-- A struct, and what it is in what is written. The struct of a VARCHAR is one like others there
pub record SameStruct (s t : StructInfo) : Type 0 where
  pub tag : t.tag ≡ s.tag
  pub members : t.members ≡ s.members
  pub shape : t.shape ≡ s.shape
  pub first : t.first ≡ s.first

-- one by one
abbrev pub SameStructs : List StructInfo → List StructInfo → Type 0
SameStructs [] [] = Unit {0}
SameStructs [] (t ∷ ts) = ⊥
SameStructs (s ∷ ss) [] = ⊥
SameStructs (s ∷ ss) (t ∷ ts) = SameStruct s t × SameStructs ss ts

-- no reserved name stands for anything in the scope
abbrev pub KeepsReserved : ScopeData → Type 0
KeepsReserved s = (x : Text) → is_reserved x ≡ true → find x s.names ≡ None

abbrev pub AllKeepReserved : List ScopeData → Type 0
AllKeepReserved [] = Unit {0}
AllKeepReserved (s ∷ ss) = KeepsReserved s × AllKeepReserved ss

-- The same names, tags, structs, types and labels are known in a source and in what is written of it. How many places there are so far differs, and what the hosts of embedded statements denote is known in the source alone
pub record AreAlike (w v : World) : Type 0 where
  pub is_source : w.written ≡ false
  pub is_written : v.written ≡ true
  pub here : v.here ≡ w.here
  pub outer : v.outer ≡ w.outer
  pub structs : SameStructs w.structs v.structs
  pub closed : v.closed ≡ w.closed
  pub types : v.types ≡ w.types
  pub defined : v.defined ≡ w.defined
  pub labels : v.labels ≡ w.labels
  pub reserved_here : KeepsReserved w.here
  pub reserved_outer : AllKeepReserved w.outer
