-- Statements, as plain data.
use Rattle.std.specs.Prelude.{ℕ, Bool, List, Option}
use Rattle.ec_base.specs.declared.line.Line.{Line}
use Rattle.ec_ctypes.specs.trees.Exprs.{ExprData, DeclData}

mutual
  -- a statement, with its line
  pub data StmtData : Type 0 where
    stmt : Line → StmtKindData → StmtData

  pub data StmtKindData : Type 0 where
    empty_stmt : StmtKindData
    expr_stmt : ExprData → StmtKindData
    block_stmt : StmtList → StmtKindData
    -- with the statement behind `else`
    if_stmt : ExprData → StmtData → StmtOption → StmtKindData
    while_stmt : ExprData → StmtData → StmtKindData
    do_stmt : StmtData → ExprData → StmtKindData
    for_stmt : Option ExprData → Option ExprData → Option ExprData → StmtData → StmtKindData
    break_stmt : StmtKindData
    continue_stmt : StmtKindData
    return_stmt : Option ExprData → StmtKindData
    goto_stmt : List ℕ → StmtKindData
    label_stmt : List ℕ → StmtData → StmtKindData
    decl_stmt : DeclData → StmtKindData
    -- an embedded statement, by its number among those of the unit
    emb_stmt : ℕ → StmtKindData
    -- a mark of a declare section: whether it opens one
    mark_stmt : Bool → StmtKindData

  pub data StmtList : Type 0 where
    no_stmts : StmtList
    stmts : StmtData → StmtList → StmtList

  pub data StmtOption : Type 0 where
    no_stmt : StmtOption
    some_stmt : StmtData → StmtOption
