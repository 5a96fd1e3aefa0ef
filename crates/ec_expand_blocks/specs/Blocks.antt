-- The block of a statement, by its call.
use Rattle.std.specs.Prelude.{List, ◌∷◌}
use Rattle.ec_ctypes.specs.trees.Checked.{MarkData}
use Rattle.ec_ctypes.specs.trees.Embedded.{EmbData}
use Rattle.ec_ctypes.specs.trees.Exprs.{ExprData}
use Rattle.ec_ctypes.specs.trees.Stmts.{stmt, StmtKindData, expr_stmt, block_stmt}
use Rattle.ec_typing_defs.specs.statement_parts.Handlers.{action_among}
use Rattle.ec_expansion_defs.specs.Handlers.{tests}
use Rattle.ec_expansion_defs.specs.Statements.{listed_stmts}

abbrev pub block_with : List MarkData → EmbData → ExprData → StmtKindData
block_with handlers e it = block_stmt
    (listed_stmts (stmt e.line (expr_stmt it) ∷ tests e.line (action_among handlers e.place)))
