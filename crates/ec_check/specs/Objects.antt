-- Parts of the rule on objects.
use Rattle.std.specs.Prelude.{ℕ, Bool, Option}
use Rattle.ec_ctypes.specs.trees.Types.{TyData}
use Rattle.ec_ctypes.specs.trees.Exprs.{InitOption}
use Rattle.ec_language.specs.Letters.{Text}
use Rattle.ec_typing_defs.specs.Worlds.{Place, object, Rule, ◌>>=◌, ◌>>◌, ask, declare, know_better, next_number, number_as}
use Rattle.ec_typing_defs.specs.Operands.{within_rule}
use Rattle.ec_typing_defs.specs.Expressions.{has_init}
use Rattle.ec_typing_defs.specs.Statements.{type_or_void, object_rule, initial}

-- the type of an object is known behind its initializer
abbrev pub end_object : Place → Bool → ℕ → Text → Option TyData → Rule (Unit {0})
end_object at global k name ty = do
  within_rule at ty
  know_better name (object k global ty)
  number_as (type_or_void ty)

-- an object of this type
abbrev pub object_of : Place → Bool → Option TyData → Text → InitOption → Rule (Unit {0})
object_of at global whole name init = do
  within_rule at whole
  before ← object_rule at (has_init init) whole
  k ← ask next_number
  declare at name (object k global before)
  ty ← initial at global before init
  end_object at global k name ty
