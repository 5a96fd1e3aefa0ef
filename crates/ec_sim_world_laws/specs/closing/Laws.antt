-- Structs stay closed in their order: the laws, by the parts of a program.
use Rattle.std.specs.Prelude.{ℕ, Bool, List, Option}
use Rattle.ec_ctypes.specs.trees.Types.{TyData}
use Rattle.ec_ctypes.specs.trees.Exprs.{ExprData, ExprList, BaseData, DimList, InitData, DeclData}
use Rattle.ec_ctypes.specs.trees.Stmts.{StmtData, StmtList}
use Rattle.ec_ctypes.specs.trees.Embedded.{EmbData}
use Rattle.ec_ctypes.specs.trees.Units.{FuncData, TopData, UnitData}
use Rattle.ec_typing_defs.specs.Tables.{Named}
use Rattle.ec_typing_defs.specs.Known.{ArgumentsData}
use Rattle.ec_typing_defs.specs.Worlds.{Place, World}
use Rattle.ec_typing_defs.specs.Expressions.{expr, args, base, lengths}
use Rattle.ec_typing_defs.specs.Initializers.{initializer}
use Rattle.ec_typing_defs.specs.Embedded.{handlers_rule, embedded_rule}
use Rattle.ec_typing_defs.specs.Statements.{Around, declaration, statement, statements}
use Rattle.ec_typing_defs.specs.Programs.{function_rule, tops_rule, unit_rule, start}
use Rattle.ec_sim_world_laws.specs.place.Structs.{ClosedAreListed}
use Rattle.ec_sim_world_laws.specs.closing.Closing.{AreInTheirOrder, KeepsOrder, ListedStay, HaveTypes, HaveShapes}

-- ---- at the start, and where all members have types

abbrev pub StartsInOrder : Type 0
StartsInOrder = (written : Bool) (u : UnitData) → AreInTheirOrder (start written u)

abbrev pub StartsWithTypes : Type 0
StartsWithTypes = (written : Bool) (u : UnitData) → HaveTypes (start written u)

abbrev pub WithTypesHaveShapes : Type 0
WithTypesHaveShapes = (w : World) → AreInTheirOrder w → HaveTypes w → HaveShapes w

abbrev pub WithTypesAreListed : Type 0
WithTypesAreListed = (w : World) → AreInTheirOrder w → HaveTypes w → ClosedAreListed w

-- the structs that are listed there stay as they are here
abbrev pub HadTypes : Type 0
HadTypes = (w z : World) → ListedStay w z → HaveTypes z → HaveTypes w

-- ---- by the rules

abbrev pub ExpressionsKeep : Type 0
ExpressionsKeep = (at : Place) (e : ExprData) → KeepsOrder (expr at e)

abbrev pub ArgumentsKeep : Type 0
ArgumentsKeep = (at : Place) (forms : ArgumentsData) (es : ExprList) → KeepsOrder (args at forms es)

abbrev pub TypesKeep : Type 0
TypesKeep = (at : Place) (b : BaseData) → KeepsOrder (base at b)

abbrev pub LengthsKeep : Type 0
LengthsKeep = (at : Place) (ds : DimList) → KeepsOrder (lengths at ds)

abbrev pub InitializersKeep : Type 0
InitializersKeep = (at : Place) (global : Bool) (t : Option TyData) (i : InitData)
    → KeepsOrder (initializer at global t i)

abbrev pub DeclarationsKeep : Type 0
DeclarationsKeep = (global : Bool) (d : DeclData) → KeepsOrder (declaration global d)

abbrev pub HandlersKeep : Type 0
HandlersKeep = (es : List EmbData) (in_loop : Bool) (labels : Named (Unit {0})) (at : Place)
    (e : EmbData) → KeepsOrder (handlers_rule es in_loop labels at e)

abbrev pub EmbeddedStatementsKeep : Type 0
EmbeddedStatementsKeep = (es : List EmbData) (is_body in_loop : Bool) (labels : Named (Unit {0}))
    (at : Place) (n : ℕ) (e : EmbData)
    → KeepsOrder (embedded_rule es is_body in_loop labels at n e)

abbrev pub StatementsKeep : Type 0
StatementsKeep = (a : Around) (s : StmtData) → KeepsOrder (statement a s)

abbrev pub StatementListsKeep : Type 0
StatementListsKeep = (a : Around) (ss : StmtList) → KeepsOrder (statements a ss)

abbrev pub FunctionsKeep : Type 0
FunctionsKeep = (es : List EmbData) (f : FuncData) → KeepsOrder (function_rule es f)

abbrev pub ProgramsKeep : Type 0
ProgramsKeep = (es : List EmbData) (ts : List TopData) → KeepsOrder (tops_rule es ts)

abbrev pub UnitsKeep : Type 0
UnitsKeep = (u : UnitData) → KeepsOrder (unit_rule u)
