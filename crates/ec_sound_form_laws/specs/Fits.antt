-- What is found out about an expression whose resolved form is sound where it stands.
use Rattle.std.specs.Prelude.{◌≡◌, ◌||◌, ℕ, Bool, true, false, List, [], ◌∷◌, Some}
use Rattle.ec_ctypes.specs.trees.Types.{TyData}
use Rattle.ec_meaning_defs.specs.resolved.Resolved.{Exp}
use Rattle.ec_resolving_defs.specs.Operands.{Found}
use Rattle.ec_sound_defs.specs.Sorts.{address_sort}
use Rattle.ec_sound_defs.specs.Sound.{Signature, Atoms, Has}
use Rattle.ec_sound_defs.specs.Types.{type_sort}

module _ (signatures : List Signature) (atoms : Atoms) (n : ℕ) where
  -- It has a type, and its form is a value of the sort of this type.
  pub record IsValue (f : Found) : Type 0 where
    pub type : TyData
    pub is : f.operand.type ≡ Some type
    pub form : Has signatures atoms n (type_sort type) f.exp

  abbrev pub AreValues : List Found → Type 0
  AreValues [] = Unit {0}
  AreValues (f ∷ fs) = IsValue f × AreValues fs

  -- the address of a place, or a value
  abbrev pub FormFits : Bool → TyData → Exp → Type 0
  FormFits true t e = Has signatures atoms n address_sort e
  FormFits false t e = Has signatures atoms n (type_sort t) e

  -- It has a type, and its form fits it. What is a place, or the target of a pointer, has an address.
  pub record FoundFits (f : Found) : Type 0 where
    pub type : TyData
    pub is : f.operand.type ≡ Some type
    pub form : FormFits f.is_address type f.exp
    pub place : (f.operand.is_place || f.operand.is_target) ≡ true
        → Has signatures atoms n address_sort f.exp
