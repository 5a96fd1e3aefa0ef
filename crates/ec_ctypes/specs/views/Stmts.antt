-- The data of statements.
use Rattle.std.specs.Prelude.{List, [], ◌∷◌, map, Option, Some, None}
use Rattle.ec_ctypes.specs.declared.tree.stmt.Stmt.{Stmt, fold-Stmt}
use Rattle.ec_ctypes.specs.declared.tree.stmt.StmtKind.{StmtKind, fold-StmtKind}
use Rattle.ec_ctypes.specs.declared.tree.stmt.StmtKind.TheOpen.{StmtKind-F, Stmt-F}
use Rattle.ec_ctypes.specs.trees.Stmts.{StmtData, stmt, StmtKindData, empty_stmt, expr_stmt, block_stmt, if_stmt, while_stmt, do_stmt, for_stmt, break_stmt, continue_stmt, return_stmt, goto_stmt, label_stmt, decl_stmt, emb_stmt, mark_stmt, StmtList, no_stmts, stmts, StmtOption, no_stmt, some_stmt}
use Rattle.ec_ctypes.specs.views.Exprs.{expr_view, expr_option_view, decl_view}

abbrev pub stmts_of : List StmtData → StmtList
stmts_of [] = no_stmts
stmts_of (s ∷ ss) = stmts s (stmts_of ss)

abbrev pub stmt_of : Option StmtData → StmtOption
stmt_of None = no_stmt
stmt_of (Some s) = some_stmt s

-- one level of each type, with each statement inside already seen as its data
abbrev pub kind_step : StmtKind-F StmtKindData StmtData → StmtKindData
kind_step StmtKind-F.Empty = empty_stmt
kind_step (StmtKind-F.Expr e) = expr_stmt (expr_view e)
kind_step (StmtKind-F.Block ss) = block_stmt (stmts_of ss)
kind_step (StmtKind-F.If e s other) = if_stmt (expr_view e) s (stmt_of other)
kind_step (StmtKind-F.While e s) = while_stmt (expr_view e) s
kind_step (StmtKind-F.Do s e) = do_stmt s (expr_view e)
kind_step (StmtKind-F.For parts s) = for_stmt (expr_option_view parts.first)
    (expr_option_view parts.condition) (expr_option_view parts.step) s
kind_step StmtKind-F.Break = break_stmt
kind_step StmtKind-F.Continue = continue_stmt
kind_step (StmtKind-F.Return e) = return_stmt (expr_option_view e)
kind_step (StmtKind-F.Goto l) = goto_stmt l
kind_step (StmtKind-F.Label l s) = label_stmt l s
kind_step (StmtKind-F.Decl d) = decl_stmt (decl_view d)
kind_step (StmtKind-F.Emb n) = emb_stmt n
kind_step (StmtKind-F.Mark opens) = mark_stmt opens

abbrev pub stmt_step : Stmt-F StmtKindData StmtData → StmtData
stmt_step s = stmt s.line s.kind

abbrev pub stmt_view : Stmt → StmtData
stmt_view = fold-Stmt StmtKindData StmtData kind_step stmt_step

abbrev pub kind_view : StmtKind → StmtKindData
kind_view = fold-StmtKind StmtKindData StmtData kind_step stmt_step

abbrev pub stmts_view : List Stmt → StmtList
stmts_view ss = stmts_of (map stmt_view ss)

abbrev pub stmt_option_view : Option Stmt → StmtOption
stmt_option_view None = no_stmt
stmt_option_view (Some s) = some_stmt (stmt_view s)
