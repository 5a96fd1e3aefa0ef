-- What holds of the initializer of a declarator, where it has one, as it stands in a source and as it is written.
use Rattle.std.specs.Prelude.{ℕ, Bool, Option}
use Rattle.ec_ctypes.specs.trees.Exprs.{InitOption}
use Rattle.ec_ctypes.specs.trees.Types.{TyData}
use Rattle.ec_expansion_defs.specs.Declarations.{written_initializer}
use Rattle.ec_typing_defs.specs.Worlds.{Place}
use Rattle.ec_typing_defs.specs.Statements as checked
use Rattle.ec_resolving_defs.specs.Agreement.{type_of}
use Rattle.ec_resolving_defs.specs.Statements.{initial}
use Rattle.ec_sim_statement_laws.specs.expression.Alike.{IsAlike}
use Rattle.ec_sim_statement_laws.specs.expression.Lengths.{InitHasLengths}
use Rattle.ec_sim_statement_laws.specs.expression.Silent.{InitializerCallsNone}

-- at a place of a source, and at one of what is written, on whichever line it stands there
abbrev pub OptionalInitializersAreAlike : Type 0
OptionalInitializersAreAlike = (at there : Place) (n : ℕ) (global : Bool) (t : Option TyData)
    (i : InitOption) → InitHasLengths i
    → IsAlike InitializerCallsNone type_of
    (checked.initial at global t i)
    (checked.initial there global t (written_initializer n i))
    (initial at global t i) (initial there global t (written_initializer n i))
