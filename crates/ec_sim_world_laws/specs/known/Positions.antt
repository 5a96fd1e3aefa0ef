-- Which declarations are still to come, where an item of a program stands.
use Rattle.std.specs.Prelude.{◌≡◌, true, Bool, List, ◌∷◌, length, drop}
use Rattle.ec_ctypes.specs.trees.Embedded.{EmbData}
use Rattle.ec_ctypes.specs.trees.Exprs.{BaseData}
use Rattle.ec_ctypes.specs.trees.Units.{FuncData, TopData, func_top, UnitData}
use Rattle.ec_host_defs.specs.Programs.{is_among}
use Rattle.ec_host_defs.specs.sections.Declared.{declared_in_tops, functions_of}
use Rattle.ec_typing_defs.specs.Expressions.{base}
use Rattle.ec_typing_defs.specs.Programs.{start, top_rule}
use Rattle.ec_typing_defs.specs.Worlds.{Place, World}

-- behind the declarations so far stand those of these items
abbrev pub IsBefore : UnitData → List TopData → World → Type 0
IsBefore u ts w = drop (length w.types) (declared_in_tops u.tops) ≡ declared_in_tops ts

abbrev pub StartsBeforeAll : Type 0
StartsBeforeAll = (written : Bool) (u : UnitData) → IsBefore u u.tops (start written u)

-- behind an item stand the others
abbrev pub ItemsArePassed : Type 0
ItemsArePassed = (u : UnitData) (es : List EmbData) (t : TopData) (ts : List TopData) (w : World)
    → IsBefore u (t ∷ ts) w → IsBefore u ts (top_rule es t w).world

-- a function that stands next has the number of one
abbrev pub FunctionsAreNumbered : Type 0
FunctionsAreNumbered = (u : UnitData) (f : FuncData) (ts : List TopData) (w : World)
    → IsBefore u (func_top f ∷ ts) w → is_among (length w.types) (functions_of u) ≡ true

-- a type declares no object and no function
abbrev pub TypesDeclareNone : Type 0
TypesDeclareNone = (at : Place) (b : BaseData) (w : World)
    → (base at b w).world.types ≡ w.types
