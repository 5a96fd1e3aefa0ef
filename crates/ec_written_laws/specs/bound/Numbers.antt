-- The embedded statements that stand in the tree of a program, by their numbers, in the order of the text.
use Rattle.std.specs.Prelude.{ℕ, zero, suc, List, [], ◌∷◌, Option, Some, None}
use Rattle.ec_ctypes.specs.trees.Stmts.{StmtData, stmt, StmtKindData, block_stmt, if_stmt, while_stmt, do_stmt, for_stmt, label_stmt, emb_stmt, StmtList, no_stmts, stmts, StmtOption, no_stmt, some_stmt}
use Rattle.ec_ctypes.specs.trees.Units.{FuncData, TopData, directive_top, func_top}

-- those of a part, before those that stand behind it
abbrev mutual
  pub stmt_numbers : StmtData → List ℕ → List ℕ
  stmt_numbers (stmt line kind) ns = kind_numbers kind ns

  pub kind_numbers : StmtKindData → List ℕ → List ℕ
  kind_numbers (block_stmt ss) ns = stmts_numbers ss ns
  kind_numbers (if_stmt e s other) ns = stmt_numbers s (else_numbers other ns)
  kind_numbers (while_stmt e s) ns = stmt_numbers s ns
  kind_numbers (do_stmt s e) ns = stmt_numbers s ns
  kind_numbers (for_stmt x y z s) ns = stmt_numbers s ns
  kind_numbers (label_stmt l s) ns = stmt_numbers s ns
  kind_numbers (emb_stmt n) ns = n ∷ ns
  kind_numbers _ ns = ns

  pub stmts_numbers : StmtList → List ℕ → List ℕ
  stmts_numbers no_stmts ns = ns
  stmts_numbers (stmts s ss) ns = stmt_numbers s (stmts_numbers ss ns)

  pub else_numbers : StmtOption → List ℕ → List ℕ
  else_numbers no_stmt ns = ns
  else_numbers (some_stmt s) ns = stmt_numbers s ns

abbrev pub body_numbers : Option StmtList → List ℕ → List ℕ
body_numbers None ns = ns
body_numbers (Some ss) ns = stmts_numbers ss ns

abbrev pub top_numbers : TopData → List ℕ → List ℕ
top_numbers (directive_top n) ns = n ∷ ns
top_numbers (func_top f) ns = body_numbers f.body ns
top_numbers _ ns = ns

abbrev pub tops_numbers : List TopData → List ℕ → List ℕ
tops_numbers [] ns = ns
tops_numbers (t ∷ ts) ns = top_numbers t (tops_numbers ts ns)

-- so many numbers from this one on
abbrev pub numbers_from : ℕ → ℕ → List ℕ
numbers_from n zero = []
numbers_from n (suc count) = n ∷ numbers_from (suc n) count
