-- What holds of cutting and writing.
use Rattle.std.specs.Prelude.{◌≡◌, Bool, true, List, Some}
use Rattle.ec_ctypes.specs.declared.checked.library.LibName.{LibName}
use Rattle.ec_arguments.specs.Arguments.{Arg, Cut, name_of}
use Rattle.ec_arguments.specs.Rules.{is_call, cut}
use Rattle.ec_arguments.specs.Writing.{arguments}

-- a list of arguments that was cut into a call under this name
pub record IsWritten {A : Type 0} (is_text : A → Bool) (name : LibName) (args : List (Arg A))
    (c : Cut A) : Type 0 where
  -- it is what is written for the call
  pub written : args ≡ arguments c
  -- which has the name
  pub named : name_of c.call ≡ name
  -- and keeps the rules
  pub rules : is_call is_text c.call ≡ true

abbrev pub AreWritten : {A : Type 0} → (A → Bool) → Type 0
AreWritten {A = A} is_text = (name : LibName) (args : List (Arg A)) (c : Cut A)
    → cut is_text name args ≡ Some c → IsWritten is_text name args c
