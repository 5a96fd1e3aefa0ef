-- What is found out about the arguments of a call.
use Rattle.std.specs.Prelude.{◌≡◌, ℕ, Bool, true, false, List, [], ◌∷◌, Some}
use Rattle.ec_ctypes.specs.trees.Types.{TyData}
use Rattle.ec_ctypes.specs.trees.Exprs.{ExprList, no_exprs, exprs}
use Rattle.ec_typing_defs.specs.Known.{ArgumentsData, is_no_expression, behind_first_argument}
use Rattle.ec_resolving_defs.specs.Operands.{Found, is_library_literal}
use Rattle.ec_resolving_defs.specs.Storage.{LibraryCall}
use Rattle.ec_sound_defs.specs.Sound.{Signature}
use Rattle.ec_sound_expression_laws.specs.Standing.{ServesAsValue}

module _ (gs : List Signature) (calls : List LibraryCall) (n : ℕ) where
  -- a symbol or a stream is no expression, a literal of the library has a type, and each other argument serves as a value
  abbrev pub ArgumentServes : Bool → Bool → Found → Type 0
  ArgumentServes true literal f = Unit {0}
  ArgumentServes false true f = (t : TyData) × (f.operand.type ≡ Some t)
  ArgumentServes false false f = ServesAsValue gs calls n f

  abbrev pub ArgumentsServe : ArgumentsData → ExprList → List Found → Type 0
  ArgumentsServe forms no_exprs [] = Unit {0}
  ArgumentsServe forms no_exprs (f ∷ fs) = ⊥
  ArgumentsServe forms (exprs e es) [] = ⊥
  ArgumentsServe forms (exprs e es) (f ∷ fs) =
      ArgumentServes (is_no_expression forms e) (is_library_literal forms e) f
      × ArgumentsServe (behind_first_argument forms) es fs
