-- Statements and functions as they are written: a block in the place of each embedded statement, and nothing in that of a directive or a mark of a declare section.
use Rattle.std.specs.Prelude.{ℕ, suc, List, [], ◌∷◌, ◌++◌, map, Option, Some, None, false}
use Rattle.ec_base.specs.declared.line.Line.{Line}
use Rattle.ec_ctypes.specs.trees.Exprs.{DeclData}
use Rattle.ec_ctypes.specs.trees.Stmts.{StmtData, stmt, StmtKindData, empty_stmt, expr_stmt, block_stmt, if_stmt, while_stmt, do_stmt, for_stmt, break_stmt, continue_stmt, return_stmt, goto_stmt, label_stmt, decl_stmt, emb_stmt, mark_stmt, StmtList, no_stmts, stmts, StmtOption, no_stmt, some_stmt}
use Rattle.ec_ctypes.specs.trees.Units.{ParamData, FuncData, TopData, include_top, directive_top, decl_top, func_top, mark_top}
use Rattle.ec_language.specs.Productions.{line_of}
use Rattle.ec_expansion_defs.specs.Lines.{line_after}
use Rattle.ec_expansion_defs.specs.Declarations.{written_expr, written_base, written_dims, written_decl, written_option}

-- the statements of a list, and those behind it
abbrev pub before_stmts : List StmtData → StmtList → StmtList
before_stmts [] ss = ss
before_stmts (s ∷ more) ss = stmts s (before_stmts more ss)

abbrev pub listed_stmts : List StmtData → StmtList
listed_stmts ss = before_stmts ss no_stmts

-- each declaration as a statement on this line
abbrev pub decl_stmts : Line → List DeclData → List StmtData
decl_stmts line [] = []
decl_stmts line (d ∷ ds) = stmt line (decl_stmt d) ∷ decl_stmts line ds

-- the statement, where there is one, on this line
abbrev pub optional_stmt : Line → Option StmtKindData → List StmtData
optional_stmt line None = []
optional_stmt line (Some kind) = stmt line kind ∷ []

abbrev pub or_empty : Option StmtKindData → StmtKindData
or_empty None = empty_stmt
or_empty (Some kind) = kind

-- by what is written in the place of an embedded statement, which is nothing for a directive
module _ (embedded : ℕ → Option StmtKindData) where
  abbrev mutual
    -- a statement that stands alone
    pub written_stmt : StmtData → StmtData
    written_stmt (stmt line kind) = stmt line (written_kind line.0 kind)

    pub written_kind : ℕ → StmtKindData → StmtKindData
    written_kind n empty_stmt = empty_stmt
    written_kind n (expr_stmt e) = expr_stmt (written_expr n e)
    written_kind n (block_stmt ss) = block_stmt (written_items ss)
    written_kind n (if_stmt e s other) =
        if_stmt (written_expr n e) (written_stmt s) (written_else other)
    written_kind n (while_stmt e s) = while_stmt (written_expr n e) (written_stmt s)
    -- the condition stands behind the body
    written_kind n (do_stmt s e) =
        do_stmt (written_stmt s) (written_expr (line_after (written_stmt s)) e)
    written_kind n (for_stmt a b c s) =
        for_stmt (written_option n a) (written_option n b) (written_option n c) (written_stmt s)
    written_kind n break_stmt = break_stmt
    written_kind n continue_stmt = continue_stmt
    written_kind n (return_stmt e) = return_stmt (written_option n e)
    written_kind n (goto_stmt l) = goto_stmt l
    written_kind n (label_stmt l s) = label_stmt l (written_stmt s)
    written_kind n (decl_stmt d) = empty_stmt
    written_kind n (emb_stmt k) = or_empty (embedded k)
    written_kind n (mark_stmt opens) = empty_stmt

    -- what is written of the statements of a block
    pub written_items : StmtList → StmtList
    written_items no_stmts = no_stmts
    written_items (stmts s ss) = before_stmts (written_item s) (written_items ss)

    pub written_item : StmtData → List StmtData
    written_item (stmt line (decl_stmt d)) = decl_stmts line (written_decl line.0 d)
    written_item (stmt line (emb_stmt k)) = optional_stmt line (embedded k)
    written_item (stmt line (mark_stmt opens)) = []
    written_item (stmt line kind) = stmt line (written_kind line.0 kind) ∷ []

    pub written_else : StmtOption → StmtOption
    written_else no_stmt = no_stmt
    written_else (some_stmt s) = some_stmt (written_stmt s)

  abbrev pub written_body : Option StmtList → Option StmtList
  written_body None = None
  written_body (Some ss) = Some (written_items ss)

  abbrev pub written_param : ℕ → ParamData → ParamData
  written_param n q = record {
    base = written_base n q.base;
    stars = q.stars;
    name = q.name;
    dims = written_dims n q.dims;
    section = false;
  }

  abbrev pub written_func : FuncData → FuncData
  written_func f = record {
    base = written_base f.line.0 f.base;
    stars = f.stars;
    name = f.name;
    params = map (written_param f.line.0) f.params;
    body = written_body f.body;
    section = false;
    line = f.line;
  }

  -- what is written of an item of the top level
  abbrev pub written_top : TopData → List TopData
  written_top (include_top bytes) = include_top bytes ∷ []
  written_top (directive_top k) = []
  written_top (decl_top d) = map decl_top (written_decl (line_of d).0 d)
  written_top (func_top f) = func_top (written_func f) ∷ []
  written_top (mark_top opens line) = []

  abbrev pub written_tops : List TopData → List TopData
  written_tops [] = []
  written_tops (t ∷ ts) = written_top t ++ written_tops ts
