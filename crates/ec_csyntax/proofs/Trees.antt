-- What shows the view of a tree.
use Rattle.std.proofs.Common.{◌≡◌, List, map, sym, ap, ◌∙◌}
use Rattle.ec_ctypes.specs.declared.tree.decl.Decl.{the_lemmas as decl_lemmas}
use Rattle.ec_ctypes.specs.declared.tree.stmt.Stmt.{Stmt, the_lemmas}
use Rattle.ec_ctypes.specs.declared.tree.stmt.StmtKind.{fold-roll-StmtKind}
use Rattle.ec_ctypes.specs.declared.tree.stmt.StmtKind.TheOpen.{StmtKind-F}
use Rattle.ec_ctypes.specs.declared.tree.stmt.StmtKind.TheVariants as k
use Rattle.ec_ctypes.specs.trees.Stmts.{StmtData, StmtKindData, block_stmt}
use Rattle.ec_ctypes.specs.views.Stmts.{stmts_of, kind_step, stmt_step, kind_view, stmt_view}

pub ruleset statements = (the_lemmas)

pub ruleset declarations = (decl_lemmas)

pub block_view : (ss : List Stmt) → kind_view (k.Block ss) ≡ block_stmt (stmts_of (map stmt_view ss))
block_view ss = ap kind_view (sym (k.rolls-Block ss)) ∙ fold-roll-StmtKind StmtKindData StmtData kind_step stmt_step (StmtKind-F.Block ss)
