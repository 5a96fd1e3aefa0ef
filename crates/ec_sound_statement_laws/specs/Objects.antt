-- What the walk through a program makes of objects: where a block ends, it has made as many as are declared in it.
use Rattle.std.specs.Prelude.{◌≡◌, ℕ, ◌+◌, Bool, true, false, List, [], length, Option}
use Rattle.ec_ctypes.specs.trees.Exprs.{ExprData, ExprList, BaseData, DimList, InitData, DeclData}
use Rattle.ec_ctypes.specs.trees.Stmts.{StmtData, StmtList}
use Rattle.ec_ctypes.specs.trees.Types.{TyData}
use Rattle.ec_ctypes.specs.trees.Units.{ParamData}
use Rattle.ec_typing_defs.specs.Known.{ArgumentsData}
use Rattle.ec_typing_defs.specs.Worlds.{Place, World}
use Rattle.ec_resolving_defs.specs.Storage.{Storage, Resolving, in_block}
use Rattle.ec_resolving_defs.specs.Expressions.{expr, args, base, lengths}
use Rattle.ec_resolving_defs.specs.Initializers.{initializer}
use Rattle.ec_resolving_defs.specs.Statements.{Around, declaration, objects_of_decl, statement, statements, objects_in, objects_in_all}
use Rattle.ec_resolving_defs.specs.Programs.{params}

-- ---- what makes literals and calls of the library alone

-- what stands beside these
abbrev pub apart : Storage → Storage
apart s = record s { literals = []; calls = [] }

pub record Spares {A : Type 0} (m : Resolving A) : Type 0 where
  pub stays : (s : Storage) (w : World) → apart (m s w).storage ≡ apart s

abbrev pub ExpressionsSpare : Type 0
ExpressionsSpare = (at : Place) (e : ExprData) → Spares (expr at e)

abbrev pub ArgumentsSpare : Type 0
ArgumentsSpare = (at : Place) (forms : ArgumentsData) (es : ExprList) → Spares (args at forms es)

abbrev pub TypesSpare : Type 0
TypesSpare = (at : Place) (b : BaseData) → Spares (base at b)

abbrev pub LengthsSpare : Type 0
LengthsSpare = (at : Place) (ds : DimList) → Spares (lengths at ds)

abbrev pub InitializersSpare : Type 0
InitializersSpare = (at : Place) (global : Bool) (t : Option TyData) (i : InitData)
    → Spares (initializer at global t i)

-- ---- what makes objects of the innermost block

-- Where so many objects of the block are still to be made before it, so many are behind it. The block is the same, and no function is made.
pub record Makes (before behind : ℕ) {A : Type 0} (m : Resolving A) : Type 0 where
  pub below : (s : Storage) (w : World) → (m s w).storage.block.below ≡ s.block.below
  pub count : (s : Storage) (w : World) → (m s w).storage.block.count ≡ s.block.count
  pub sizes : (s : Storage) (w : World)
      → length (m s w).storage.block.sizes + behind ≡ length s.block.sizes + before
  pub functions : (s : Storage) (w : World) → (m s w).storage.functions ≡ s.functions
  pub defined : (s : Storage) (w : World) → (m s w).storage.defined ≡ s.defined

abbrev pub DeclarationsMake : Type 0
DeclarationsMake = (n : ℕ) (d : DeclData) → Makes (objects_of_decl d + n) n (declaration false d)

abbrev pub GlobalsMakeNone : Type 0
GlobalsMakeNone = (n : ℕ) (d : DeclData) → Makes n n (declaration true d)

abbrev pub ParametersMake : Type 0
ParametersMake = (n : ℕ) (at : Place) (defined : Bool) (ps : List ParamData)
    → Makes (length ps + n) n (params at defined ps)

abbrev pub StatementsMake : Type 0
StatementsMake = (a : Around) (n : ℕ) (x : StmtData) → Makes (objects_in x + n) n (statement a x)

abbrev pub ListsMake : Type 0
ListsMake = (a : Around) (n : ℕ) (xs : StmtList)
    → Makes (objects_in_all xs + n) n (statements a xs)

-- the block of these statements has so many sizes
abbrev pub BlocksAreFull : Type 0
BlocksAreFull = (a : Around) (xs : StmtList) (s : Storage) (w : World)
    → length (in_block (objects_in_all xs) (statements a xs) s w).answer.0 ≡ objects_in_all xs
