-- Parts of the rule on functions.
use Rattle.std.specs.Prelude.{ℕ, ◌||◌, List, map, Option, Some, None, is_some}
use Rattle.ec_base.specs.declared.fault.FaultKind.TheVariants.{F10}
use Rattle.ec_ctypes.specs.declared.types.ty.Ty.{Ty}
use Rattle.ec_ctypes.specs.trees.Types.{TyData}
use Rattle.ec_ctypes.specs.trees.Embedded.{EmbData}
use Rattle.ec_ctypes.specs.trees.Units.{FuncData}
use Rattle.ec_typing_defs.specs.Worlds.{Place, EntryData, function, Rule, ◌>>=◌, ◌>>◌, demand, enter, leave, free_name, number_as}
use Rattle.ec_typing_defs.specs.Statements.{type_or_void}
use Rattle.ec_typing_defs.specs.Programs.{is_done, begin_function, know_function, params, may_follow, body_rule}
use Rattle.ec_scopes.specs.Entries.{type_view}

abbrev pub types_view : List (Option Ty) → List (Option TyData)
types_view ts = map type_view ts

abbrev pub numbered_as : Option TyData → Rule (Unit {0})
numbered_as t = number_as (type_or_void t)

-- the name of a function stands for it before its parameters
abbrev pub function_begins : FuncData → Place →
    Option TyData → ℕ → Option EntryData → Rule (Unit {0})
function_begins f at r k before = do
  begin_function f.name (function k (is_done before || is_some f.body) r None)
  free_name at f.name
  numbered_as r

-- the name of a function stands for it with its parameters
abbrev pub function_known : FuncData → Place → Option TyData →
    ℕ → Option EntryData → List (Option TyData) → Rule (Unit {0})
function_known f at r k before ps = do
  know_function f.name (function k (is_done before || is_some f.body) r (Some ps))
  demand at F10 (may_follow (is_some f.body) r ps before)

-- the parameters and the body of a function
abbrev pub function_inside : List EmbData → FuncData → Place →
    Option TyData → ℕ → Option EntryData → Rule (Unit {0})
function_inside es f at r k before = do
  enter
  ps ← params at (is_some f.body) f.params
  function_known f at r k before ps
  body_rule es r f.body
  leave
