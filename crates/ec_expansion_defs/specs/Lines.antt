-- The line behind a written statement, which begins with a line of its own; it does not depend on the lines before it. And the line behind a written program.
use Rattle.std.specs.Prelude.{ℕ, suc, List, [], ◌∷◌, Option, Some, None}
use Rattle.ec_ctypes.specs.trees.Stmts.{StmtData, stmt, StmtKindData, empty_stmt, expr_stmt, block_stmt, if_stmt, while_stmt, do_stmt, for_stmt, break_stmt, continue_stmt, return_stmt, goto_stmt, label_stmt, decl_stmt, emb_stmt, mark_stmt, StmtList, no_stmts, stmts, StmtOption, no_stmt, some_stmt}
use Rattle.ec_ctypes.specs.trees.Units.{TopData, include_top, directive_top, decl_top, func_top, mark_top}
use Rattle.ec_language.specs.Productions.{line_of}

abbrev mutual
  pub line_after : StmtData → ℕ
  line_after (stmt line kind) = line_after_kind line.0 kind

  -- a statement on this line
  pub line_after_kind : ℕ → StmtKindData → ℕ
  line_after_kind n empty_stmt = suc n
  line_after_kind n (expr_stmt e) = suc n
  line_after_kind n (block_stmt ss) = suc (line_after_all (suc n) ss)
  line_after_kind n (if_stmt e s other) = line_after_else (line_after s) other
  line_after_kind n (while_stmt e s) = line_after s
  line_after_kind n (do_stmt s e) = suc (line_after s)
  line_after_kind n (for_stmt a b c s) = line_after s
  line_after_kind n break_stmt = suc n
  line_after_kind n continue_stmt = suc n
  line_after_kind n (return_stmt e) = suc n
  line_after_kind n (goto_stmt l) = suc n
  line_after_kind n (label_stmt l s) = line_after s
  line_after_kind n (decl_stmt d) = suc n
  line_after_kind n (emb_stmt k) = n
  line_after_kind n (mark_stmt opens) = n

  pub line_after_all : ℕ → StmtList → ℕ
  line_after_all n no_stmts = n
  line_after_all n (stmts s ss) = line_after_all (line_after s) ss

  pub line_after_else : ℕ → StmtOption → ℕ
  line_after_else n no_stmt = n
  line_after_else n (some_stmt s) = line_after s

-- ---- programs

-- behind a function on this line: the braces of its body have lines of their own
abbrev pub line_after_body : ℕ → Option StmtList → ℕ
line_after_body n None = suc n
line_after_body n (Some ss) = suc (line_after_all (suc (suc n)) ss)

abbrev pub line_after_top : ℕ → TopData → ℕ
line_after_top n (include_top bytes) = suc n
line_after_top n (directive_top k) = n
line_after_top n (decl_top d) = suc (line_of d).0
line_after_top n (func_top f) = line_after_body f.line.0 f.body
line_after_top n (mark_top opens line) = n

-- behind what stands at the top level, from this line on
abbrev pub line_after_tops : ℕ → List TopData → ℕ
line_after_tops n [] = n
line_after_tops n (t ∷ ts) = line_after_tops (line_after_top n t) ts
