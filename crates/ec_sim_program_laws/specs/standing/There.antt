-- Programs whose embedded statements are there: each that stands in the tree is among those of the program, with the line of the statement in which it stands, and one that stands outside of functions is a directive.
use Rattle.std.specs.Prelude.{List, [], ◌∷◌, Option, Some, None}
use Rattle.ec_base.specs.declared.line.Line.{Line}
use Rattle.ec_ctypes.specs.trees.Embedded.{EmbData}
use Rattle.ec_ctypes.specs.trees.Stmts.{StmtData, stmt, StmtKindData, empty_stmt, expr_stmt, block_stmt, if_stmt, while_stmt, do_stmt, for_stmt, break_stmt, continue_stmt, return_stmt, goto_stmt, label_stmt, decl_stmt, emb_stmt, mark_stmt, StmtList, no_stmts, stmts, StmtOption, no_stmt, some_stmt}
use Rattle.ec_ctypes.specs.trees.Units.{TopData, include_top, directive_top, decl_top, func_top, mark_top}
use Rattle.ec_sim_program_laws.specs.program.Shape.{IsThere, IsDirective}

-- by the embedded statements of the program
module _ (es : List EmbData) where
  abbrev mutual
    pub StmtIsThere : StmtData → Type 0
    StmtIsThere (stmt line kind) = KindIsThere line kind

    pub KindIsThere : Line → StmtKindData → Type 0
    KindIsThere line empty_stmt = Unit {0}
    KindIsThere line (expr_stmt e) = Unit {0}
    KindIsThere line (block_stmt ss) = StmtsAreThere ss
    KindIsThere line (if_stmt e s other) = StmtIsThere s × OtherIsThere other
    KindIsThere line (while_stmt e s) = StmtIsThere s
    KindIsThere line (do_stmt s e) = StmtIsThere s
    KindIsThere line (for_stmt x y z s) = StmtIsThere s
    KindIsThere line break_stmt = Unit {0}
    KindIsThere line continue_stmt = Unit {0}
    KindIsThere line (return_stmt e) = Unit {0}
    KindIsThere line (goto_stmt l) = Unit {0}
    KindIsThere line (label_stmt l s) = StmtIsThere s
    KindIsThere line (decl_stmt d) = Unit {0}
    KindIsThere line (emb_stmt n) = IsThere es line n
    KindIsThere line (mark_stmt opens) = Unit {0}

    pub StmtsAreThere : StmtList → Type 0
    StmtsAreThere no_stmts = Unit {0}
    StmtsAreThere (stmts s ss) = StmtIsThere s × StmtsAreThere ss

    pub OtherIsThere : StmtOption → Type 0
    OtherIsThere no_stmt = Unit {0}
    OtherIsThere (some_stmt s) = StmtIsThere s

  abbrev pub BodyIsThere : Option StmtList → Type 0
  BodyIsThere None = Unit {0}
  BodyIsThere (Some ss) = StmtsAreThere ss

  abbrev pub TopIsThere : TopData → Type 0
  TopIsThere (include_top bytes) = Unit {0}
  TopIsThere (directive_top n) = IsDirective es n
  TopIsThere (decl_top d) = Unit {0}
  TopIsThere (func_top f) = BodyIsThere f.body
  TopIsThere (mark_top opens line) = Unit {0}

  abbrev pub TopsAreThere : List TopData → Type 0
  TopsAreThere [] = Unit {0}
  TopsAreThere (t ∷ ts) = TopIsThere t × TopsAreThere ts
