-- Calls that actions make.
use Rattle.ec_ctypes.specs.trees.Exprs.{ExprList, call}
use Rattle.ec_language.specs.Letters.{Text}
use Rattle.ec_typing_defs.specs.Worlds.{Place, Rule, ◌>>◌, pure}
use Rattle.ec_typing_defs.specs.Expressions.{expr}

-- the call of the function of this name, whose value is not used
abbrev pub called : Place → Text → ExprList → Rule (Unit {0})
called at f es = expr at (call f es) >> pure tt
