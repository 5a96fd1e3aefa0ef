-- The line behind a written statement is that to which its text leads.
use Rattle.std.proofs.Common.{◌≡◌, ℕ, suc, List, [], ◌∷◌, ◌++◌, Option, Some, None, refl, ap, sym, ◌∙◌}
use Rattle.std.specs.Prelude.{codes}
use Rattle.ec_ctypes.specs.declared.text.token.Punct.TheVariants as p
use Rattle.ec_ctypes.specs.trees.Exprs.{decl}
use Rattle.ec_ctypes.specs.trees.Stmts.{StmtData, stmt, StmtKindData, empty_stmt, expr_stmt, block_stmt, if_stmt, while_stmt, do_stmt, for_stmt, break_stmt, continue_stmt, return_stmt, goto_stmt, label_stmt, decl_stmt, emb_stmt, mark_stmt, StmtList, no_stmts, stmts, StmtOption, no_stmt, some_stmt}
use Rattle.ec_ctypes.specs.trees.Units.{FuncData, TopData, include_top, directive_top, decl_top, func_top, mark_top}
use Rattle.ec_writing_defs.specs.Chunks.{blank, line_end, line_behind}
use Rattle.ec_writing_defs.specs.Expressions.{mark, word, in_parens, star_chunks, expr_chunks}
use Rattle.ec_writing_defs.specs.Programs.{stmt_chunks, kind_chunks, items_chunks, else_chunks, params_chunks, body_chunks, func_chunks, top_chunks, tops_chunks}
use Rattle.ec_expansion_defs.specs.Lines.{line_after, line_after_kind, line_after_all, line_after_else, line_after_body, line_after_top, line_after_tops}
use Rattle.ec_expansion_defs.proofs.OneLine.{line_append, behind_it, expr_one, parens_one, return_one, head_one, decl_one, base_one, stars_one, params_one}

mutual
  pub stmt_line : (s : StmtData) (n : ℕ) → line_behind n (stmt_chunks s) ≡ line_after s
  stmt_line (stmt line kind) n = kind_line kind line.0

  pub kind_line : (k : StmtKindData) (n : ℕ) → line_behind n (kind_chunks k) ≡ line_after_kind n k
  kind_line empty_stmt n = refl
  kind_line (expr_stmt e) n = behind_it (expr_one e) (mark p.Semicolon ∷ line_end ∷ []) n
  kind_line (block_stmt ss) n =
      line_append (suc n) (items_chunks ss ++ (mark p.RightBrace ∷ [])) (line_end ∷ [])
      ∙ ap suc (line_append (suc n) (items_chunks ss) (mark p.RightBrace ∷ []) ∙ items_line ss (suc n))
  kind_line (if_stmt e s other) n =
      behind_it (parens_one (expr_one e)) (line_end ∷ stmt_chunks s ++ else_chunks other) n
      ∙ line_append (suc n) (stmt_chunks s) (else_chunks other)
      ∙ ap (λ m. line_behind m (else_chunks other)) (stmt_line s (suc n))
      ∙ else_line other (line_after s)
  kind_line (while_stmt e s) n = behind_it (parens_one (expr_one e)) (line_end ∷ stmt_chunks s) n ∙ stmt_line s (suc n)
  kind_line (do_stmt s e) n =
      line_append (suc n) (stmt_chunks s) (word (codes "while") ∷ blank ∷ in_parens (expr_chunks e) ++ (mark p.Semicolon ∷ line_end ∷ []))
      ∙ behind_it (parens_one (expr_one e)) (mark p.Semicolon ∷ line_end ∷ []) (line_behind (suc n) (stmt_chunks s))
      ∙ ap suc (stmt_line s (suc n))
  kind_line (for_stmt a b c s) n = behind_it (head_one a b c) (line_end ∷ stmt_chunks s) n ∙ stmt_line s (suc n)
  kind_line break_stmt n = refl
  kind_line continue_stmt n = refl
  kind_line (return_stmt e) n = behind_it (return_one e) (mark p.Semicolon ∷ line_end ∷ []) n
  kind_line (goto_stmt l) n = refl
  kind_line (label_stmt l s) n = stmt_line s (suc n)
  kind_line (decl_stmt d) n = behind_it (decl_one d) (line_end ∷ []) n
  kind_line (emb_stmt k) n = refl
  kind_line (mark_stmt opens) n = refl

  pub items_line : (ss : StmtList) (n : ℕ) → line_behind n (items_chunks ss) ≡ line_after_all n ss
  items_line no_stmts n = refl
  items_line (stmts s ss) n =
      line_append n (stmt_chunks s) (items_chunks ss)
      ∙ ap (λ m. line_behind m (items_chunks ss)) (stmt_line s n)
      ∙ items_line ss (line_after s)

  else_line : (o : StmtOption) (n : ℕ) → line_behind n (else_chunks o) ≡ line_after_else n o
  else_line no_stmt n = refl
  else_line (some_stmt s) n = stmt_line s (suc n)

-- ---- programs

body_line : (b : Option StmtList) (n : ℕ) → line_behind n (body_chunks b ++ line_end ∷ []) ≡ line_after_body n b
body_line None n = refl
body_line (Some ss) n =
    line_append (suc (suc n)) (items_chunks ss ++ (mark p.RightBrace ∷ [])) (line_end ∷ [])
    ∙ ap suc (line_append (suc (suc n)) (items_chunks ss) (mark p.RightBrace ∷ []) ∙ items_line ss (suc (suc n)))

func_line : (f : FuncData) (n : ℕ) → line_behind n (func_chunks f ++ line_end ∷ []) ≡ line_after_body n f.body
func_line f n =
    line_append n (func_chunks f) (line_end ∷ [])
    ∙ ap suc (behind_it (base_one f.base) (blank ∷ star_chunks f.stars ++ (word f.name ∷ params_chunks f.params ++ body_chunks f.body)) n
    ∙ behind_it (stars_one f.stars) (word f.name ∷ params_chunks f.params ++ body_chunks f.body) n
    ∙ behind_it (params_one f.params) (body_chunks f.body) n)
    ∙ sym (line_append n (body_chunks f.body) (line_end ∷ []))
    ∙ body_line f.body n

top_line : (t : TopData) (n : ℕ) → line_behind n (top_chunks t) ≡ line_after_top n t
top_line (include_top bytes) n = refl
top_line (directive_top k) n = refl
top_line (decl_top (decl b ds section line)) n = behind_it (decl_one (decl b ds section line)) (line_end ∷ []) line.0
top_line (func_top f) n = func_line f f.line.0
top_line (mark_top opens line) n = refl

pub tops_line : (ts : List TopData) (n : ℕ) → line_behind n (tops_chunks ts) ≡ line_after_tops n ts
tops_line [] n = refl
tops_line (t ∷ ts) n =
    line_append n (top_chunks t) (tops_chunks ts)
    ∙ ap (λ m. line_behind m (tops_chunks ts)) (top_line t n)
    ∙ tops_line ts (line_after_top n t)
