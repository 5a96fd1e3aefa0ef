-- Trees in which no list of array lengths is too long.
use Rattle.std.specs.Prelude.{ℕ, suc, ◌≤◌, List, [], ◌∷◌, Option, Some, None}
use Rattle.ec_ctypes.specs.trees.Exprs.{ExprData, integer, character, string, identifier, unary, binary, assign, bump, call, call_other, index, member, arrow, cast, size_type, size_expr, ExprList, no_exprs, exprs, BaseData, words, varchar, tagged, struct_base, DimData, open_dim, dim, DimList, no_dims, dims, InitData, one, many, InitList, no_inits, inits, InitOption, no_init, some_init, DeclaratorData, declarator, DeclaratorList, no_declarators, declarators, DeclData, decl, DeclList, no_decls, decls}
use Rattle.ec_ctypes.specs.trees.Stmts.{StmtData, stmt, StmtKindData, empty_stmt, expr_stmt, block_stmt, if_stmt, while_stmt, do_stmt, for_stmt, break_stmt, continue_stmt, return_stmt, goto_stmt, label_stmt, decl_stmt, emb_stmt, mark_stmt, StmtList, no_stmts, stmts, StmtOption, no_stmt, some_stmt}
use Rattle.ec_ctypes.specs.trees.Units.{ParamData, TopData, include_top, directive_top, decl_top, func_top, mark_top}

-- so many array lengths stand in one declarator at most
abbrev pub max_lengths : ℕ
max_lengths = 64

abbrev pub dims_count : DimList → ℕ
dims_count no_dims = 0
dims_count (dims d ds) = suc (dims_count ds)

abbrev mutual
  pub IsFlat : ExprData → Type 0
  IsFlat (integer n t) = Unit {0}
  IsFlat (character c) = Unit {0}
  IsFlat (string s) = Unit {0}
  IsFlat (identifier x) = Unit {0}
  IsFlat (unary op e) = IsFlat e
  IsFlat (binary op a b) = IsFlat a × IsFlat b
  IsFlat (assign op a b) = IsFlat a × IsFlat b
  IsFlat (bump before up e) = IsFlat e
  IsFlat (call f es) = AreFlat es
  IsFlat (call_other f es) = IsFlat f × AreFlat es
  IsFlat (index a b) = IsFlat a × IsFlat b
  IsFlat (member e m) = IsFlat e
  IsFlat (arrow e m) = IsFlat e
  IsFlat (cast b stars e) = BaseIsFlat b × IsFlat e
  IsFlat (size_type b stars) = BaseIsFlat b
  IsFlat (size_expr e) = IsFlat e

  pub AreFlat : ExprList → Type 0
  AreFlat no_exprs = Unit {0}
  AreFlat (exprs e es) = IsFlat e × AreFlat es

  pub BaseIsFlat : BaseData → Type 0
  BaseIsFlat (words ws) = Unit {0}
  BaseIsFlat varchar = Unit {0}
  BaseIsFlat (tagged t) = Unit {0}
  BaseIsFlat (struct_base t ds) = MembersAreFlat ds

  pub MembersAreFlat : DeclList → Type 0
  MembersAreFlat no_decls = Unit {0}
  MembersAreFlat (decls d ds) = DeclIsFlat d × MembersAreFlat ds

  pub DeclIsFlat : DeclData → Type 0
  DeclIsFlat (decl b items section line) = BaseIsFlat b × ItemsAreFlat items

  pub ItemsAreFlat : DeclaratorList → Type 0
  ItemsAreFlat no_declarators = Unit {0}
  ItemsAreFlat (declarators d ds) = ItemIsFlat d × ItemsAreFlat ds

  pub ItemIsFlat : DeclaratorData → Type 0
  ItemIsFlat (declarator stars name ds init) =
      (dims_count ds ≤ max_lengths) × DimsAreFlat ds × InitIsFlat init

  pub DimsAreFlat : DimList → Type 0
  DimsAreFlat no_dims = Unit {0}
  DimsAreFlat (dims d ds) = DimIsFlat d × DimsAreFlat ds

  pub DimIsFlat : DimData → Type 0
  DimIsFlat open_dim = Unit {0}
  DimIsFlat (dim e) = IsFlat e

  pub InitIsFlat : InitOption → Type 0
  InitIsFlat no_init = Unit {0}
  InitIsFlat (some_init i) = PartIsFlat i

  pub PartIsFlat : InitData → Type 0
  PartIsFlat (one e) = IsFlat e
  PartIsFlat (many is) = PartsAreFlat is

  pub PartsAreFlat : InitList → Type 0
  PartsAreFlat no_inits = Unit {0}
  PartsAreFlat (inits i is) = PartIsFlat i × PartsAreFlat is

abbrev pub OptionIsFlat : Option ExprData → Type 0
OptionIsFlat None = Unit {0}
OptionIsFlat (Some e) = IsFlat e

abbrev mutual
  pub StmtIsFlat : StmtData → Type 0
  StmtIsFlat (stmt line kind) = KindIsFlat kind

  pub KindIsFlat : StmtKindData → Type 0
  KindIsFlat empty_stmt = Unit {0}
  KindIsFlat (expr_stmt e) = IsFlat e
  KindIsFlat (block_stmt ss) = StmtsAreFlat ss
  KindIsFlat (if_stmt e s other) = IsFlat e × StmtIsFlat s × OtherIsFlat other
  KindIsFlat (while_stmt e s) = IsFlat e × StmtIsFlat s
  KindIsFlat (do_stmt s e) = StmtIsFlat s × IsFlat e
  KindIsFlat (for_stmt x y z s) =
      OptionIsFlat x × OptionIsFlat y × OptionIsFlat z × StmtIsFlat s
  KindIsFlat break_stmt = Unit {0}
  KindIsFlat continue_stmt = Unit {0}
  KindIsFlat (return_stmt e) = OptionIsFlat e
  KindIsFlat (goto_stmt l) = Unit {0}
  KindIsFlat (label_stmt l s) = StmtIsFlat s
  KindIsFlat (decl_stmt d) = DeclIsFlat d
  KindIsFlat (emb_stmt n) = Unit {0}
  KindIsFlat (mark_stmt opens) = Unit {0}

  pub StmtsAreFlat : StmtList → Type 0
  StmtsAreFlat no_stmts = Unit {0}
  StmtsAreFlat (stmts s ss) = StmtIsFlat s × StmtsAreFlat ss

  pub OtherIsFlat : StmtOption → Type 0
  OtherIsFlat no_stmt = Unit {0}
  OtherIsFlat (some_stmt s) = StmtIsFlat s

abbrev pub BodyIsFlat : Option StmtList → Type 0
BodyIsFlat None = Unit {0}
BodyIsFlat (Some ss) = StmtsAreFlat ss

abbrev pub ParamsAreFlat : List ParamData → Type 0
ParamsAreFlat [] = Unit {0}
ParamsAreFlat (p ∷ ps) =
    BaseIsFlat p.base × (dims_count p.dims ≤ max_lengths) × DimsAreFlat p.dims × ParamsAreFlat ps

abbrev pub TopIsFlat : TopData → Type 0
TopIsFlat (include_top bytes) = Unit {0}
TopIsFlat (directive_top n) = Unit {0}
TopIsFlat (decl_top d) = DeclIsFlat d
TopIsFlat (func_top f) = BaseIsFlat f.base × ParamsAreFlat f.params × BodyIsFlat f.body
TopIsFlat (mark_top opens line) = Unit {0}

abbrev pub TopsAreFlat : List TopData → Type 0
TopsAreFlat [] = Unit {0}
TopsAreFlat (t ∷ ts) = TopIsFlat t × TopsAreFlat ts
