-- The arguments of calls, one by one.
use Rattle.std.specs.Prelude.{List, [], ◌∷◌, map, Option}
use Rattle.ec_ctypes.specs.trees.Types.{TyData}
use Rattle.ec_meaning_defs.specs.resolved.Resolved.{Exp}
use Rattle.ec_resolving_defs.specs.Conversions.{as_known_type, promoted_value}
use Rattle.ec_resolving_defs.specs.Operands.{Found}

-- those of a format
abbrev pub promoted_list : List Found → List Exp
promoted_list fs = map (λ f. promoted_value f.operand.type f.exp) fs

-- those of a function with these parameters
abbrev pub passed_list : List (Option TyData) → List Found → List Exp
passed_list [] fs = []
passed_list (p ∷ ps) [] = []
passed_list (p ∷ ps) (f ∷ fs) = as_known_type f.operand.type p f.exp ∷ passed_list ps fs
