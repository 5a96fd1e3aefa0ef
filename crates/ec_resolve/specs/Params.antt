-- Parts of the rule on parameters.
use Rattle.std.specs.Prelude.{Bool, false, Option}
use Rattle.ec_ctypes.specs.trees.Types.{TyData}
use Rattle.ec_language.specs.Letters.{Text}
use Rattle.ec_typing_defs.specs.Worlds.{Place, next_number, number_as}
use Rattle.ec_typing_defs.specs.Statements.{type_or_void}
use Rattle.ec_typing_defs.specs.Programs as checked
use Rattle.ec_resolving_defs.specs.Storage.{next_site, with_site, with_object_of, Resolving, ◌>>=◌, ◌>>◌, checks, ask, stored, arrange}
use Rattle.ec_resolving_defs.specs.Statements.{size_of_type}

-- the name of a parameter stands for it
abbrev pub param_named : Place → Bool → Option Text → Option TyData → Resolving (Unit {0})
param_named at defined name t = do
  k ← ask next_number
  checks (checked.declare_param at defined name k t)
  checks (number_as (type_or_void t))

-- it is the next object
abbrev pub param_placed : Option TyData → Resolving (Unit {0})
param_placed t = do
  site ← stored (next_site false)
  arrange (with_site site)
  size ← ask (λ w. size_of_type w t)
  arrange (with_object_of size)
