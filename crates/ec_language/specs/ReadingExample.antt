-- The tree of a program with a declaration in a section, an embedded statement and a call.
use Rattle.std.specs.Prelude.{ℕ, true, false, [], ◌∷◌, codes, Some}
use Rattle.ec_base.specs.declared.line.Line.{Line}
use Rattle.ec_ctypes.specs.trees.Exprs.{string, call, no_exprs, exprs, no_dims, no_init, declarator, no_declarators, declarators, decl}
use Rattle.ec_ctypes.specs.trees.Stmts.{StmtData, stmt, StmtKindData, expr_stmt, emb_stmt, return_stmt, no_stmts, stmts}
use Rattle.ec_ctypes.specs.trees.Units.{decl_top, func_top, mark_top, UnitData}
use Rattle.ec_language.specs.SyntaxExamples.{int_base, id, int_value}

abbrev pub at_line : ℕ → Line
at_line n = record { 0 = n }

abbrev pub on_line : ℕ → StmtKindData → StmtData
on_line n kind = stmt (at_line n) kind

abbrev pub example_unit : UnitData
example_unit = record {
  tops =
      mark_top true (at_line 1)
      ∷ decl_top (decl int_base (declarators (declarator 0 (codes "x") no_dims no_init)
      no_declarators) true (at_line 1))
      ∷ mark_top false (at_line 1)
      ∷ func_top (record {
        base = int_base;
        stars = 0;
        name = codes "main";
        params = [];
        body = Some (stmts (on_line 3 (emb_stmt 0))
            (stmts (on_line 4 (expr_stmt (call (codes "printf")
            (exprs (string (codes "%d\n")) (exprs (id "x") no_exprs)))))
            (stmts (on_line 5 (return_stmt (Some (int_value 0)))) no_stmts)));
        section = false;
        line = at_line 2;
      })
      ∷ [];
  embs = [];
  last = at_line 7;
}
