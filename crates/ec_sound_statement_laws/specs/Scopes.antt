-- Scopes: each that is entered is left again, and what stands round it is as it was; what a function is known as behind it.
use Rattle.std.specs.Prelude.{◌≡◌, ◌||◌, ℕ, Bool, true, List, [], length, Option, Some, is_some}
use Rattle.ec_ctypes.specs.trees.Exprs.{DeclData}
use Rattle.ec_ctypes.specs.trees.Stmts.{StmtData, StmtList}
use Rattle.ec_ctypes.specs.trees.Embedded.{EmbData}
use Rattle.ec_ctypes.specs.trees.Types.{TyData}
use Rattle.ec_ctypes.specs.trees.Units.{ParamData, FuncData}
use Rattle.ec_typing_defs.specs.Tables.{find, put}
use Rattle.ec_typing_defs.specs.Worlds.{Place, function, World, Rule, scoped}
use Rattle.ec_typing_defs.specs.Statements.{Around, declaration, statement, statements}
use Rattle.ec_typing_defs.specs.Programs.{is_done, may_follow, params, function_rule}

-- the scopes round it are as they were
pub record Keeps {A : Type 0} (m : Rule A) : Type 0 where
  pub outer : (w : World) → (m w).world.outer ≡ w.outer

-- and so is the scope that it stands in
pub record Leaves {A : Type 0} (m : Rule A) : Type 0 where
  pub here : (w : World) → (m w).world.here ≡ w.here
  pub outer : (w : World) → (m w).world.outer ≡ w.outer

abbrev pub DeclarationsKeep : Type 0
DeclarationsKeep = (global : Bool) (d : DeclData) → Keeps (declaration global d)

abbrev pub ParametersKeep : Type 0
ParametersKeep = (at : Place) (defined : Bool) (ps : List ParamData) → Keeps (params at defined ps)

abbrev pub StatementsKeep : Type 0
StatementsKeep = (a : Around) (x : StmtData) → Keeps (statement a x)

abbrev pub ListsKeep : Type 0
ListsKeep = (a : Around) (xs : StmtList) → Keeps (statements a xs)

abbrev pub BodiesLeave : Type 0
BodiesLeave = (a : Around) (x : StmtData) → Leaves (scoped (statement a x))

abbrev pub BlocksLeave : Type 0
BlocksLeave = (a : Around) (xs : StmtList) → Leaves (scoped (statements a xs))

-- Behind a function without a violation its name stands for it, with as many parameters as are written, as it may behind what the name stood for before; any other name of its scope stands for what it stood for.
pub record IsKnownAs (f : FuncData) (w z : World) : Type 0 where
  pub number : ℕ
  pub result : Option TyData
  pub parameters : List (Option TyData)
  pub count : length parameters ≡ length f.params
  pub names : z.here.names
      ≡ put f.name (function number (is_done (find f.name w.here.names) || is_some f.body) result
      (Some parameters)) w.here.names
  pub outer : z.outer ≡ w.outer
  pub follows : may_follow (is_some f.body) result parameters (find f.name w.here.names) ≡ true

abbrev pub FunctionsAreKnown : Type 0
FunctionsAreKnown = (es : List EmbData) (f : FuncData) (w : World)
    → (function_rule es f w).found ≡ [] → IsKnownAs f w (function_rule es f w).world
