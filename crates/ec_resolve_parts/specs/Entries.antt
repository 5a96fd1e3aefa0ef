-- What the name of a function stands for.
use Rattle.std.specs.Prelude.{ℕ, Bool, List, Option, Some, None}
use Rattle.ec_ctypes.specs.trees.Types.{TyData}
use Rattle.ec_language.specs.Letters.{Text}
use Rattle.ec_typing_defs.specs.Worlds.{function, Rule, ◌>>=◌, ◌>>◌, number_as}
use Rattle.ec_typing_defs.specs.Statements.{type_or_void}
use Rattle.ec_typing_defs.specs.Programs.{begin_function, know_function}

abbrev pub numbered_as : Option TyData → Rule (Unit {0})
numbered_as t = number_as (type_or_void t)

-- before its parameters
abbrev pub function_begins : Text → Option TyData → ℕ → Bool → Rule (Unit {0})
function_begins name r k done = do
  begin_function name (function k done r None)
  numbered_as r

-- with its parameters
abbrev pub function_known : Text → Option TyData → ℕ → Bool → List (Option TyData) → Rule (Unit {0})
function_known name r k done ps = know_function name (function k done r (Some ps))
