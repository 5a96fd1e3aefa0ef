-- What lists and options of the code's trees stand for.
use Rattle.std.specs.Prelude.{List, map, Option, option_map}
use Rattle.ec_ctypes.specs.declared.tree.stmt.Stmt.{Stmt}
use Rattle.ec_ctypes.specs.declared.tree.unit.Top.{Top}
use Rattle.ec_ctypes.specs.trees.Stmts.{StmtData}
use Rattle.ec_ctypes.specs.trees.Units.{TopData}
use Rattle.ec_ctypes.specs.views.Stmts.{stmt_view}
use Rattle.ec_ctypes.specs.views.Units.{top_view}

abbrev pub each_stmt : List Stmt → List StmtData
each_stmt = map stmt_view

abbrev pub stmt_option : Option Stmt → Option StmtData
stmt_option = option_map stmt_view

-- a block, if there is one
abbrev pub block_option : Option (List Stmt) → Option (List StmtData)
block_option = option_map each_stmt

abbrev pub each_top : List Top → List TopData
each_top = map top_view
