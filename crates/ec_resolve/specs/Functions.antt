-- Parts of the rule on functions.
use Rattle.std.specs.Prelude.{ℕ, Bool, ◌||◌, List, [], length, map, Option, None, is_some, option_map}
use Rattle.ec_code.specs.declared.program.ObjectSize.{ObjectSize}
use Rattle.ec_code.specs.Views.{size_view}
use Rattle.ec_ctypes.specs.trees.Types.{TyData}
use Rattle.ec_ctypes.specs.trees.Units.{FuncData}
use Rattle.ec_language.specs.Letters.{Text}
use Rattle.ec_resolving_defs.specs.Expressions.{base}
use Rattle.ec_resolving_defs.specs.Programs as of
use Rattle.ec_resolving_defs.specs.Programs.{in_function}
use Rattle.ec_resolving_defs.specs.Storage.{nowhere, with_site, Resolving, ◌>>=◌, ◌>>◌, checks, ask, arrange, in_block}
use Rattle.ec_typing_defs.specs.Operands.{declared_type}
use Rattle.ec_typing_defs.specs.Tables.{find}
use Rattle.ec_typing_defs.specs.Worlds.{Place, enter, function, leave, next_number, number_as, place}
use Rattle.ec_typing_defs.specs.Programs as checked
use Rattle.ec_typing_defs.specs.Programs.{is_done}
use Rattle.ec_typing_defs.specs.Statements.{type_or_void}
use Rattle.ec_resolve_statements.specs.declared.bodies.Body.{Body}
use Rattle.ec_resolve_statements.specs.Bodies.{body_view}

abbrev pub body_option_view : Option Body → of.Body
body_option_view b = option_map body_view b

-- the sizes of the objects of a block, of which nothing else is found
abbrev pub sizes_alone : List ObjectSize → List ℕ × Unit {0}
sizes_alone sizes = (map size_view sizes, tt)

-- the name of a function stands for it, and its scope begins
abbrev pub function_begun : Text → Option TyData → ℕ → Bool → Resolving (Unit {0})
function_begun name r k done = do
  checks (checked.begin_function name (function k done r None))
  checks (number_as (type_or_void r))
  arrange (with_site nowhere)
  checks enter

-- its name, and its parameters and body in a scope of their own
abbrev pub function_inside : FuncData → Place → Option TyData → ℕ → Bool → Resolving (Unit {0})
function_inside f at r k done = do
  function_begun f.name r k done
  in_block (length f.params) (in_function [] at f k done r)
  checks leave

-- a function with this result
abbrev pub function_of : FuncData → Place → Option TyData → Resolving (Unit {0})
function_of f at r = do
  k ← ask next_number
  done ← ask (λ w. is_done (find f.name w.here.names) || is_some f.body)
  function_inside f at r k done

-- a function: its result, what its name stands for, and its parameters and body
abbrev pub function_parts : FuncData → Resolving (Unit {0})
function_parts f = do
  at ← checks (place f.line)
  b ← base at f.base
  r ← checks (checked.result_rule at (declared_type b f.stars []))
  function_of f at r
