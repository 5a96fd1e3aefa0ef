-- Parts of the rule on objects.
use Rattle.std.specs.Prelude.{ℕ, Bool, List, Option}
use Rattle.ec_ctypes.specs.trees.Types.{TyData}
use Rattle.ec_ctypes.specs.trees.Exprs.{InitOption}
use Rattle.ec_language.specs.Letters.{Text}
use Rattle.ec_typing_defs.specs.Worlds.{Place, object, next_number, number_as, declare, know_better}
use Rattle.ec_typing_defs.specs.Expressions.{has_init}
use Rattle.ec_typing_defs.specs.Statements as checked
use Rattle.ec_typing_defs.specs.Statements.{type_or_void}
use Rattle.ec_meaning_defs.specs.resolved.Resolved.{Stm}
use Rattle.ec_resolving_defs.specs.Storage.{Site, next_site, with_site, Resolving, ◌>>=◌, ◌>>◌, pure, checks, ask, stored, arrange}
use Rattle.ec_resolving_defs.specs.Initializers.{PartData}
use Rattle.ec_resolving_defs.specs.Statements.{size_of_type, initial, object_made}

-- the name of an object stands for it: its number, and where it is
abbrev pub begin_object : Place → Bool → Text → Option TyData → Resolving (ℕ × Site)
begin_object at global name before = do
  k ← ask next_number
  checks (declare at name (object k global before))
  site ← stored (next_site global)
  arrange (with_site site)
  pure (k, site)

-- the type of an object is known behind its initializer
abbrev pub known_object : Bool → ℕ → Text → Option TyData → Resolving (Unit {0})
known_object global k name ty = do
  checks (know_better name (object k global ty))
  checks (number_as (type_or_void ty))

abbrev pub end_object : Bool → ℕ × Site → Text → InitOption → Option TyData × List PartData
    → Resolving (List Stm)
end_object global begun name init made = do
  known_object global begun.0 name made.0
  size ← ask (λ w. size_of_type w made.0)
  object_made begun.1 size init made.1

-- an object of this type
abbrev pub object_of : Place → Bool → Option TyData → Text → InitOption → Resolving (List Stm)
object_of at global whole name init = do
  before ← checks (checked.object_rule at (has_init init) whole)
  begun ← begin_object at global name before
  made ← initial at global before init
  end_object global begun name init made
