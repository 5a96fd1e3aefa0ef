-- How statements, functions and programs are written: each declaration, function and statement behind its line `#line N`, with no indentation.
use Rattle.std.specs.Prelude.{ℕ, List, [], ◌∷◌, ◌++◌, codes, Option, Some, None}
use Rattle.ec_ctypes.specs.declared.text.token.Punct.TheVariants as p
use Rattle.ec_ctypes.specs.trees.Exprs.{ExprData}
use Rattle.ec_ctypes.specs.trees.Stmts.{StmtData, stmt, StmtKindData, empty_stmt, expr_stmt, block_stmt, if_stmt, while_stmt, do_stmt, for_stmt, break_stmt, continue_stmt, return_stmt, goto_stmt, label_stmt, decl_stmt, emb_stmt, mark_stmt, StmtList, no_stmts, stmts, StmtOption, no_stmt, some_stmt}
use Rattle.ec_ctypes.specs.trees.Tokens.{include_token}
use Rattle.ec_ctypes.specs.trees.Units.{ParamData, FuncData, TopData, include_top, decl_top, func_top, UnitData}
use Rattle.ec_language.specs.Letters.{Text}
use Rattle.ec_language.specs.Productions.{line_of}
use Rattle.ec_writing_defs.specs.Chunks.{the, blank, line_end, line_mark, Chunks, text_of, line_behind}
use Rattle.ec_writing_defs.specs.Expressions.{mark, word, in_parens, star_chunks, stars_behind, base_chunks, dims_chunks, decl_chunks, expr_chunks}

-- ---- statements

abbrev pub option_chunks : Option ExprData → Chunks
option_chunks None = []
option_chunks (Some e) = expr_chunks e

abbrev pub return_chunks : Option ExprData → Chunks
return_chunks None = []
return_chunks (Some e) = blank ∷ expr_chunks e

-- an absent part of `for` is empty and the rest stays
abbrev pub head_chunks : Option ExprData → Option ExprData → Option ExprData → Chunks
head_chunks a b c = mark p.LeftParen ∷ (option_chunks a ++ mark p.Semicolon ∷ []) ++ (blank
    ∷ option_chunks b ++ (mark p.Semicolon ∷ blank ∷ option_chunks c ++ mark p.RightParen ∷ []))

abbrev mutual
  pub stmt_chunks : StmtData → Chunks
  stmt_chunks (stmt line kind) = line_mark line.0 ∷ kind_chunks kind

  pub kind_chunks : StmtKindData → Chunks
  kind_chunks empty_stmt = mark p.Semicolon ∷ line_end ∷ []
  kind_chunks (expr_stmt e) = expr_chunks e ++ mark p.Semicolon ∷ line_end ∷ []
  kind_chunks (block_stmt ss) =
      (mark p.LeftBrace ∷ line_end ∷ items_chunks ss ++ mark p.RightBrace ∷ []) ++ line_end ∷ []
  kind_chunks (if_stmt e s other) = word (codes "if") ∷ blank ∷ in_parens (expr_chunks e)
      ++ (line_end ∷ stmt_chunks s ++ else_chunks other)
  kind_chunks (while_stmt e s) =
      word (codes "while") ∷ blank ∷ in_parens (expr_chunks e) ++ (line_end ∷ stmt_chunks s)
  kind_chunks (do_stmt s e) = word (codes "do") ∷ line_end ∷ stmt_chunks s ++
      (word (codes "while") ∷ blank ∷ in_parens (expr_chunks e)
      ++ (mark p.Semicolon ∷ line_end ∷ []))
  kind_chunks (for_stmt a b c s) =
      word (codes "for") ∷ blank ∷ head_chunks a b c ++ (line_end ∷ stmt_chunks s)
  kind_chunks break_stmt = word (codes "break") ∷ mark p.Semicolon ∷ line_end ∷ []
  kind_chunks continue_stmt = word (codes "continue") ∷ mark p.Semicolon ∷ line_end ∷ []
  kind_chunks (return_stmt e) =
      word (codes "return") ∷ return_chunks e ++ mark p.Semicolon ∷ line_end ∷ []
  kind_chunks (goto_stmt l) =
      word (codes "goto") ∷ blank ∷ word l ∷ mark p.Semicolon ∷ line_end ∷ []
  kind_chunks (label_stmt l s) = word l ∷ mark p.Colon ∷ line_end ∷ stmt_chunks s
  kind_chunks (decl_stmt d) = decl_chunks d ++ line_end ∷ []
  -- an embedded statement or a mark is no C and leaves nothing
  kind_chunks (emb_stmt n) = []
  kind_chunks (mark_stmt opens) = []

  pub items_chunks : StmtList → Chunks
  items_chunks no_stmts = []
  items_chunks (stmts s ss) = stmt_chunks s ++ items_chunks ss

  pub else_chunks : StmtOption → Chunks
  else_chunks no_stmt = []
  else_chunks (some_stmt s) = word (codes "else") ∷ line_end ∷ stmt_chunks s

abbrev pub block_chunks : StmtList → Chunks
block_chunks ss = mark p.LeftBrace ∷ line_end ∷ items_chunks ss ++ mark p.RightBrace ∷ []

-- ---- functions and programs

-- stars stand directly before the name, with one blank before the first
abbrev pub param_name : ℕ → Option Text → Chunks
param_name stars None = stars_behind stars
param_name stars (Some x) = blank ∷ star_chunks stars ++ word x ∷ []

abbrev pub param_chunks : ParamData → Chunks
param_chunks q = base_chunks q.base ++ (param_name q.stars q.name ++ dims_chunks q.dims)

abbrev pub more_params_chunks : List ParamData → Chunks
more_params_chunks [] = []
more_params_chunks (q ∷ qs) = mark p.Comma ∷ blank ∷ param_chunks q ++ more_params_chunks qs

abbrev pub some_params_chunks : List ParamData → Chunks
some_params_chunks [] = []
some_params_chunks (q ∷ qs) = param_chunks q ++ more_params_chunks qs

-- a function without parameters has `(void)`
abbrev pub params_inside : List ParamData → Chunks
params_inside [] = word (codes "void") ∷ []
params_inside (q ∷ qs) = some_params_chunks (q ∷ qs)

abbrev pub params_chunks : List ParamData → Chunks
params_chunks qs = mark p.LeftParen ∷ params_inside qs ++ mark p.RightParen ∷ []

abbrev pub body_chunks : Option StmtList → Chunks
body_chunks None = mark p.Semicolon ∷ []
body_chunks (Some ss) = line_end ∷ block_chunks ss

abbrev pub func_chunks : FuncData → Chunks
func_chunks f = base_chunks f.base
    ++ (blank ∷ star_chunks f.stars ++ (word f.name ∷ params_chunks f.params ++ body_chunks f.body))

-- a directive or a mark of a declare section is no C and leaves nothing
abbrev pub top_chunks : TopData → Chunks
top_chunks (decl_top d) = line_mark (line_of d).0 ∷ decl_chunks d ++ line_end ∷ []
top_chunks (func_top f) = line_mark f.line.0 ∷ func_chunks f ++ line_end ∷ []
top_chunks (include_top bytes) = the (include_token bytes) ∷ line_end ∷ []
top_chunks _ = []

abbrev pub tops_chunks : List TopData → Chunks
tops_chunks [] = []
tops_chunks (t ∷ ts) = top_chunks t ++ tops_chunks ts

-- The lines at the head, which are passed over where written C is read.
abbrev pub head_lines : Text
head_lines = codes "#include <ecpglib.h>\n#include <sqlca.h>\n"

-- The text of a program: what is written of it.
abbrev pub written_text : UnitData → Text
written_text u = head_lines ++ text_of (tops_chunks u.tops)

-- the line of that text's end: the first line behind the head is the third
abbrev pub last_line : UnitData → ℕ
last_line u = line_behind 3 (tops_chunks u.tops)
