-- Programs in which each VARCHAR ends in a length.
use Rattle.std.specs.Prelude.{List, [], ◌∷◌, Option, Some, None}
use Rattle.ec_ctypes.specs.trees.Stmts.{StmtData, stmt, StmtKindData, empty_stmt, expr_stmt, block_stmt, if_stmt, while_stmt, do_stmt, for_stmt, break_stmt, continue_stmt, return_stmt, goto_stmt, label_stmt, decl_stmt, emb_stmt, mark_stmt, StmtList, no_stmts, stmts, StmtOption, no_stmt, some_stmt}
use Rattle.ec_ctypes.specs.trees.Units.{TopData, include_top, directive_top, decl_top, func_top, mark_top}
use Rattle.ec_sim_statement_laws.specs.expression.Lengths.{HaveLengths, BaseHasLengths, DeclHasLengths}
use Rattle.ec_sim_program_laws.specs.program.Shape.{OptionHasLengths, ParamsHaveLengths}

abbrev mutual
  pub StmtHasLengths : StmtData → Type 0
  StmtHasLengths (stmt line kind) = KindHasLengths kind

  pub KindHasLengths : StmtKindData → Type 0
  KindHasLengths empty_stmt = Unit {0}
  KindHasLengths (expr_stmt e) = HaveLengths e
  KindHasLengths (block_stmt ss) = StmtsHaveLengths ss
  KindHasLengths (if_stmt e s other) = HaveLengths e × StmtHasLengths s × OtherHasLengths other
  KindHasLengths (while_stmt e s) = HaveLengths e × StmtHasLengths s
  KindHasLengths (do_stmt s e) = StmtHasLengths s × HaveLengths e
  KindHasLengths (for_stmt x y z s) =
      OptionHasLengths x × OptionHasLengths y × OptionHasLengths z × StmtHasLengths s
  KindHasLengths break_stmt = Unit {0}
  KindHasLengths continue_stmt = Unit {0}
  KindHasLengths (return_stmt e) = OptionHasLengths e
  KindHasLengths (goto_stmt l) = Unit {0}
  KindHasLengths (label_stmt l s) = StmtHasLengths s
  KindHasLengths (decl_stmt d) = DeclHasLengths d
  KindHasLengths (emb_stmt n) = Unit {0}
  KindHasLengths (mark_stmt opens) = Unit {0}

  pub StmtsHaveLengths : StmtList → Type 0
  StmtsHaveLengths no_stmts = Unit {0}
  StmtsHaveLengths (stmts s ss) = StmtHasLengths s × StmtsHaveLengths ss

  pub OtherHasLengths : StmtOption → Type 0
  OtherHasLengths no_stmt = Unit {0}
  OtherHasLengths (some_stmt s) = StmtHasLengths s

abbrev pub BodyHasLengths : Option StmtList → Type 0
BodyHasLengths None = Unit {0}
BodyHasLengths (Some ss) = StmtsHaveLengths ss

abbrev pub TopHasLengths : TopData → Type 0
TopHasLengths (include_top bytes) = Unit {0}
TopHasLengths (directive_top n) = Unit {0}
TopHasLengths (decl_top d) = DeclHasLengths d
TopHasLengths (func_top f) =
    BaseHasLengths f.base × ParamsHaveLengths f.params × BodyHasLengths f.body
TopHasLengths (mark_top opens line) = Unit {0}

abbrev pub TopsHaveLengths : List TopData → Type 0
TopsHaveLengths [] = Unit {0}
TopsHaveLengths (t ∷ ts) = TopHasLengths t × TopsHaveLengths ts
