-- What holds of expressions, types, lengths and initializers as they stand in a source and as they are written.
use Rattle.std.specs.Prelude.{ℕ, Bool, Option}
use Rattle.ec_ctypes.specs.trees.Exprs.{ExprData, BaseData, DimList, InitData}
use Rattle.ec_ctypes.specs.trees.Types.{TyData}
use Rattle.ec_expansion_defs.specs.Declarations.{written_expr, written_base, written_dims, written_init}
use Rattle.ec_typing_defs.specs.Worlds.{Place}
use Rattle.ec_typing_defs.specs.Expressions as checked
use Rattle.ec_typing_defs.specs.Initializers as checked_initializers
use Rattle.ec_resolving_defs.specs.Agreement.{itself, operand_of, type_of}
use Rattle.ec_resolving_defs.specs.Expressions.{expr, base, lengths}
use Rattle.ec_resolving_defs.specs.Initializers.{initializer}
use Rattle.ec_sim_statement_laws.specs.expression.Alike.{IsAlike}
use Rattle.ec_sim_statement_laws.specs.expression.Lengths.{HaveLengths, BaseHasLengths, DimsHaveLengths, PartHasLengths}
use Rattle.ec_sim_statement_laws.specs.expression.Silent.{Nothing, FoundCallsNone, InitializerCallsNone}

-- at a place of a source, and at one of what is written, on whichever line it stands there
abbrev pub ExpressionsAreAlike : Type 0
ExpressionsAreAlike = (at there : Place) (n : ℕ) (e : ExprData) → HaveLengths e
    → IsAlike FoundCallsNone operand_of
    (checked.expr at e) (checked.expr there (written_expr n e))
    (expr at e) (expr there (written_expr n e))

abbrev pub TypesAreAlike : Type 0
TypesAreAlike = (at there : Place) (n : ℕ) (b : BaseData) → BaseHasLengths b
    → IsAlike Nothing itself (checked.base at b) (checked.base there (written_base n b))
    (base at b) (base there (written_base n b))

abbrev pub LengthsAreAlike : Type 0
LengthsAreAlike = (at there : Place) (n : ℕ) (ds : DimList) → DimsHaveLengths ds
    → IsAlike Nothing itself (checked.lengths at ds) (checked.lengths there (written_dims n ds))
    (lengths at ds) (lengths there (written_dims n ds))

abbrev pub InitializersAreAlike : Type 0
InitializersAreAlike = (at there : Place) (n : ℕ) (global : Bool) (t : Option TyData)
    (i : InitData) → PartHasLengths i
    → IsAlike InitializerCallsNone type_of
    (checked_initializers.initializer at global t i)
    (checked_initializers.initializer there global t (written_init n i))
    (initializer at global t i) (initializer there global t (written_init n i))
