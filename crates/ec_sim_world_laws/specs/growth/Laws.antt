-- What is known grows by every rule of the checks: the laws, by the parts of a program.
use Rattle.std.specs.Prelude.{ℕ, Bool, List, Option}
use Rattle.ec_ctypes.specs.trees.Types.{TyData}
use Rattle.ec_ctypes.specs.trees.Exprs.{ExprData, ExprList, BaseData, DimList, InitData, DeclData}
use Rattle.ec_ctypes.specs.trees.Stmts.{StmtData, StmtList}
use Rattle.ec_ctypes.specs.trees.Embedded.{EmbData}
use Rattle.ec_ctypes.specs.trees.Units.{FuncData, TopData}
use Rattle.ec_typing_defs.specs.Tables.{Named}
use Rattle.ec_typing_defs.specs.Known.{ArgumentsData}
use Rattle.ec_typing_defs.specs.Worlds.{Place, World}
use Rattle.ec_typing_defs.specs.Expressions.{expr, args, base, lengths}
use Rattle.ec_typing_defs.specs.Initializers.{initializer}
use Rattle.ec_typing_defs.specs.Embedded.{handlers_rule, embedded_rule}
use Rattle.ec_typing_defs.specs.Statements.{Around, declaration, statement, statements}
use Rattle.ec_typing_defs.specs.Programs.{function_rule, tops_rule}
use Rattle.ec_sim_world_laws.specs.growth.Growth.{Grows, GrowsBy}

-- ---- growing, one step after the other

abbrev pub GrowsInNoStep : Type 0
GrowsInNoStep = (w : World) → Grows w w

abbrev pub GrowsInTwoSteps : Type 0
GrowsInTwoSteps = (w x z : World) → Grows w x → Grows x z → Grows w z

-- ---- by the rules

abbrev pub ExpressionsGrow : Type 0
ExpressionsGrow = (at : Place) (e : ExprData) → GrowsBy (expr at e)

abbrev pub ArgumentsGrow : Type 0
ArgumentsGrow = (at : Place) (forms : ArgumentsData) (es : ExprList) → GrowsBy (args at forms es)

abbrev pub TypesGrow : Type 0
TypesGrow = (at : Place) (b : BaseData) → GrowsBy (base at b)

abbrev pub LengthsGrow : Type 0
LengthsGrow = (at : Place) (ds : DimList) → GrowsBy (lengths at ds)

abbrev pub InitializersGrow : Type 0
InitializersGrow = (at : Place) (global : Bool) (t : Option TyData) (i : InitData)
    → GrowsBy (initializer at global t i)

abbrev pub DeclarationsGrow : Type 0
DeclarationsGrow = (global : Bool) (d : DeclData) → GrowsBy (declaration global d)

abbrev pub HandlersGrow : Type 0
HandlersGrow = (es : List EmbData) (in_loop : Bool) (labels : Named (Unit {0})) (at : Place)
    (e : EmbData) → GrowsBy (handlers_rule es in_loop labels at e)

abbrev pub EmbeddedStatementsGrow : Type 0
EmbeddedStatementsGrow = (es : List EmbData) (is_body in_loop : Bool) (labels : Named (Unit {0}))
    (at : Place) (n : ℕ) (e : EmbData) → GrowsBy (embedded_rule es is_body in_loop labels at n e)

abbrev pub StatementsGrow : Type 0
StatementsGrow = (a : Around) (s : StmtData) → GrowsBy (statement a s)

abbrev pub StatementListsGrow : Type 0
StatementListsGrow = (a : Around) (ss : StmtList) → GrowsBy (statements a ss)

abbrev pub FunctionsGrow : Type 0
FunctionsGrow = (es : List EmbData) (f : FuncData) → GrowsBy (function_rule es f)

abbrev pub ProgramsGrow : Type 0
ProgramsGrow = (es : List EmbData) (ts : List TopData) → GrowsBy (tops_rule es ts)
