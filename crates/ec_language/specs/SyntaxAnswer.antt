-- The tree or the stop of a list of tokens, computed.
use Rattle.std.specs.Prelude.{List, [], ◌∷◌, Option, Some, None, Result, Ok, Err}
use Rattle.ec_base.specs.declared.fault.LimitKind.TheVariants.{L3}
use Rattle.ec_base.specs.declared.stop.Stop.{Stop}
use Rattle.ec_base.specs.declared.stop.Stop.TheVariants.{Limit}
use Rattle.ec_ctypes.specs.trees.Tokens.{TokenData}
use Rattle.ec_ctypes.specs.trees.Units.{UnitData}
use Rattle.ec_language.specs.Productions.{placed, unit}
use Rattle.ec_language.specs.ReadSyntax.{trees, first_stop}
use Rattle.ec_language.specs.Syntax.{limits}

abbrev pub trees_of : List TokenData → List UnitData
trees_of ts = trees limits unit (placed ts)

abbrev pub syntax_stop : List TokenData → Option Stop
syntax_stop ts = first_stop limits [] (placed ts)

-- The tree, or else the stop. Where there is neither, the end is missing.
abbrev pub tree_or_stop : List UnitData → Option Stop → Result UnitData Stop
tree_or_stop (u ∷ us) stop = Ok u
tree_or_stop [] (Some stop) = Err stop
tree_or_stop [] None = Err (Limit L3)

abbrev pub read_syntax : List TokenData → Result UnitData Stop
read_syntax ts = tree_or_stop (trees_of ts) (syntax_stop ts)
