-- Initializers, declarations, statements and programs as they are read, without embedded statements.
use Rattle.std.specs.Prelude.{List, [], ◌∷◌, Option, Some, None}
use Rattle.ec_ctypes.specs.trees.Exprs.{ExprData, InitData, one, many, InitList, no_inits, inits, InitOption, no_init, some_init, DeclaratorData, declarator, DeclaratorList, no_declarators, declarators, DeclData, decl}
use Rattle.ec_ctypes.specs.trees.Stmts.{StmtData, stmt, StmtKindData, empty_stmt, expr_stmt, block_stmt, if_stmt, while_stmt, do_stmt, for_stmt, break_stmt, continue_stmt, return_stmt, goto_stmt, label_stmt, decl_stmt, emb_stmt, mark_stmt, StmtList, no_stmts, stmts, StmtOption, no_stmt, some_stmt}
use Rattle.ec_ctypes.specs.trees.Units.{TopData, include_top, directive_top, decl_top, func_top, mark_top}
use Rattle.ec_sound_expression_laws.specs.Plain.{IsPlain}

abbrev pub OptionIsPlain : Option ExprData → Type 0
OptionIsPlain None = Unit {0}
OptionIsPlain (Some e) = IsPlain e

abbrev mutual
  pub PartIsPlain : InitData → Type 0
  PartIsPlain (one e) = IsPlain e
  PartIsPlain (many is) = PartsArePlain is

  pub PartsArePlain : InitList → Type 0
  PartsArePlain no_inits = Unit {0}
  PartsArePlain (inits i is) = PartIsPlain i × PartsArePlain is

abbrev pub InitIsPlain : InitOption → Type 0
InitIsPlain no_init = Unit {0}
InitIsPlain (some_init i) = PartIsPlain i

abbrev pub ItemIsPlain : DeclaratorData → Type 0
ItemIsPlain (declarator stars name ns init) = InitIsPlain init

abbrev pub ItemsArePlain : DeclaratorList → Type 0
ItemsArePlain no_declarators = Unit {0}
ItemsArePlain (declarators d ds) = ItemIsPlain d × ItemsArePlain ds

abbrev pub DeclIsPlain : DeclData → Type 0
DeclIsPlain (decl b items section line) = ItemsArePlain items

abbrev mutual
  pub StmtIsPlain : StmtData → Type 0
  StmtIsPlain (stmt line kind) = KindIsPlain kind

  pub KindIsPlain : StmtKindData → Type 0
  KindIsPlain empty_stmt = Unit {0}
  KindIsPlain (expr_stmt e) = IsPlain e
  KindIsPlain (block_stmt ss) = StmtsArePlain ss
  KindIsPlain (if_stmt e s other) = IsPlain e × StmtIsPlain s × OtherIsPlain other
  KindIsPlain (while_stmt e s) = IsPlain e × StmtIsPlain s
  KindIsPlain (do_stmt s e) = StmtIsPlain s × IsPlain e
  KindIsPlain (for_stmt x y z s) = OptionIsPlain x × OptionIsPlain y × OptionIsPlain z × StmtIsPlain s
  KindIsPlain break_stmt = Unit {0}
  KindIsPlain continue_stmt = Unit {0}
  KindIsPlain (return_stmt e) = OptionIsPlain e
  KindIsPlain (goto_stmt l) = Unit {0}
  KindIsPlain (label_stmt l s) = StmtIsPlain s
  KindIsPlain (decl_stmt d) = DeclIsPlain d
  KindIsPlain (emb_stmt n) = ⊥
  KindIsPlain (mark_stmt opens) = Unit {0}

  pub StmtsArePlain : StmtList → Type 0
  StmtsArePlain no_stmts = Unit {0}
  StmtsArePlain (stmts s ss) = StmtIsPlain s × StmtsArePlain ss

  pub OtherIsPlain : StmtOption → Type 0
  OtherIsPlain no_stmt = Unit {0}
  OtherIsPlain (some_stmt s) = StmtIsPlain s

abbrev pub BodyIsPlain : Option StmtList → Type 0
BodyIsPlain None = Unit {0}
BodyIsPlain (Some ss) = StmtsArePlain ss

-- without directives, which are embedded
abbrev pub TopIsPlain : TopData → Type 0
TopIsPlain (include_top bytes) = Unit {0}
TopIsPlain (directive_top n) = ⊥
TopIsPlain (decl_top d) = DeclIsPlain d
TopIsPlain (func_top f) = BodyIsPlain f.body
TopIsPlain (mark_top opens line) = Unit {0}

abbrev pub TopsArePlain : List TopData → Type 0
TopsArePlain [] = Unit {0}
TopsArePlain (t ∷ ts) = TopIsPlain t × TopsArePlain ts
