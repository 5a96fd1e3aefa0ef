-- What the grammar and the tokens give of a tree of written C: constants of arithmetic types, assignments by operators that assign, structs with members, members with declarators, and nothing embedded.
use Rattle.std.specs.Prelude.{◌≡◌, Bool, true, false, ◌&&◌, List, [], ◌∷◌, Option, Some, None}
use Rattle.ec_ctypes.specs.trees.Exprs.{ExprData, integer, character, string, identifier, unary, binary, assign, bump, call, call_other, index, member, arrow, cast, size_type, size_expr, ExprList, no_exprs, exprs, BaseData, words, varchar, tagged, struct_base, DimData, open_dim, dim, DimList, no_dims, dims, InitData, one, many, InitList, no_inits, inits, InitOption, no_init, some_init, DeclaratorData, declarator, DeclaratorList, no_declarators, declarators, DeclData, decl, DeclList, no_decls, decls}
use Rattle.ec_ctypes.specs.trees.Stmts.{StmtData, stmt, StmtKindData, empty_stmt, expr_stmt, block_stmt, if_stmt, while_stmt, do_stmt, for_stmt, break_stmt, continue_stmt, return_stmt, goto_stmt, label_stmt, decl_stmt, emb_stmt, mark_stmt, StmtList, no_stmts, stmts, StmtOption, no_stmt, some_stmt}
use Rattle.ec_ctypes.specs.trees.Tokens.{TokData, integer_token, emb_token, section_start, section_end, TokenData}
use Rattle.ec_ctypes.specs.trees.Types.{TyData, arithmetic}
use Rattle.ec_ctypes.specs.trees.Units.{ParamData, TopData, include_top, directive_top, decl_top, func_top, mark_top}
use Rattle.ec_sound_form_laws.specs.Laws.{assigns}
use Rattle.ec_sound_expression_laws.specs.Plain.{IsArithmetic}

-- ---- tokens

abbrev pub is_arithmetic : TyData → Bool
is_arithmetic (arithmetic a) = true
is_arithmetic _ = false

-- a token of written C
abbrev pub is_read_tok : TokData → Bool
is_read_tok (integer_token n t) = is_arithmetic t
is_read_tok (emb_token n executed) = false
is_read_tok section_start = false
is_read_tok section_end = false
is_read_tok _ = true

abbrev pub are_read_tokens : List TokenData → Bool
are_read_tokens [] = true
are_read_tokens (t ∷ ts) = is_read_tok t.tok && are_read_tokens ts

-- ---- expressions and declarations

abbrev mutual
  pub ReadExpr : ExprData → Type 0
  ReadExpr (integer n t) = IsArithmetic t
  ReadExpr (character c) = Unit {0}
  ReadExpr (string s) = Unit {0}
  ReadExpr (identifier x) = Unit {0}
  ReadExpr (unary op a) = ReadExpr a
  ReadExpr (binary op a b) = ReadExpr a × ReadExpr b
  ReadExpr (assign None a b) = ReadExpr a × ReadExpr b
  ReadExpr (assign (Some op) a b) = (assigns op ≡ true) × ReadExpr a × ReadExpr b
  ReadExpr (bump before up a) = ReadExpr a
  ReadExpr (call f es) = ReadExprs es
  ReadExpr (call_other f es) = ReadExpr f × ReadExprs es
  ReadExpr (index a b) = ReadExpr a × ReadExpr b
  ReadExpr (member a m) = ReadExpr a
  ReadExpr (arrow a m) = ReadExpr a
  ReadExpr (cast b stars a) = ReadBase b × ReadExpr a
  ReadExpr (size_type b stars) = ReadBase b
  ReadExpr (size_expr a) = ReadExpr a

  pub ReadExprs : ExprList → Type 0
  ReadExprs no_exprs = Unit {0}
  ReadExprs (exprs e es) = ReadExpr e × ReadExprs es

  pub ReadBase : BaseData → Type 0
  ReadBase (words ws) = Unit {0}
  ReadBase varchar = Unit {0}
  ReadBase (tagged t) = Unit {0}
  ReadBase (struct_base t no_decls) = ⊥
  ReadBase (struct_base t (decls m ms)) = ReadMember m × ReadMembers ms

  pub ReadMembers : DeclList → Type 0
  ReadMembers no_decls = Unit {0}
  ReadMembers (decls m ms) = ReadMember m × ReadMembers ms

  pub ReadMember : DeclData → Type 0
  ReadMember (decl b no_declarators section line) = ⊥
  ReadMember (decl b (declarators d ds) section line) =
      ReadBase b × ReadDeclarator d × ReadDeclarators ds

  pub ReadDim : DimData → Type 0
  ReadDim open_dim = Unit {0}
  ReadDim (dim e) = ReadExpr e

  pub ReadDims : DimList → Type 0
  ReadDims no_dims = Unit {0}
  ReadDims (dims d ds) = ReadDim d × ReadDims ds

  pub ReadInit : InitData → Type 0
  ReadInit (one e) = ReadExpr e
  ReadInit (many is) = ReadInits is

  pub ReadInits : InitList → Type 0
  ReadInits no_inits = Unit {0}
  ReadInits (inits i is) = ReadInit i × ReadInits is

  pub ReadInitializer : InitOption → Type 0
  ReadInitializer no_init = Unit {0}
  ReadInitializer (some_init i) = ReadInit i

  pub ReadDeclarator : DeclaratorData → Type 0
  ReadDeclarator (declarator stars name ds i) = ReadDims ds × ReadInitializer i

  pub ReadDeclarators : DeclaratorList → Type 0
  ReadDeclarators no_declarators = Unit {0}
  ReadDeclarators (declarators d ds) = ReadDeclarator d × ReadDeclarators ds

abbrev pub ReadDecl : DeclData → Type 0
ReadDecl (decl b ds section line) = ReadBase b × ReadDeclarators ds

-- ---- statements

abbrev pub ReadOption : Option ExprData → Type 0
ReadOption None = Unit {0}
ReadOption (Some e) = ReadExpr e

abbrev mutual
  pub ReadStmt : StmtData → Type 0
  ReadStmt (stmt line kind) = ReadKind kind

  pub ReadKind : StmtKindData → Type 0
  ReadKind empty_stmt = Unit {0}
  ReadKind (expr_stmt e) = ReadExpr e
  ReadKind (block_stmt ss) = ReadStmts ss
  ReadKind (if_stmt e s other) = ReadExpr e × ReadStmt s × ReadOther other
  ReadKind (while_stmt e s) = ReadExpr e × ReadStmt s
  ReadKind (do_stmt s e) = ReadStmt s × ReadExpr e
  ReadKind (for_stmt x y z s) = ReadOption x × ReadOption y × ReadOption z × ReadStmt s
  ReadKind break_stmt = Unit {0}
  ReadKind continue_stmt = Unit {0}
  ReadKind (return_stmt e) = ReadOption e
  ReadKind (goto_stmt l) = Unit {0}
  ReadKind (label_stmt l s) = ReadStmt s
  ReadKind (decl_stmt d) = ReadDecl d
  ReadKind (emb_stmt n) = ⊥
  ReadKind (mark_stmt opens) = ⊥

  pub ReadStmts : StmtList → Type 0
  ReadStmts no_stmts = Unit {0}
  ReadStmts (stmts s ss) = ReadStmt s × ReadStmts ss

  pub ReadOther : StmtOption → Type 0
  ReadOther no_stmt = Unit {0}
  ReadOther (some_stmt s) = ReadStmt s

-- ---- programs

abbrev pub ReadParam : ParamData → Type 0
ReadParam q = ReadBase q.base × ReadDims q.dims

abbrev pub ReadParams : List ParamData → Type 0
ReadParams [] = Unit {0}
ReadParams (q ∷ qs) = ReadParam q × ReadParams qs

abbrev pub ReadBody : Option StmtList → Type 0
ReadBody None = Unit {0}
ReadBody (Some ss) = ReadStmts ss

abbrev pub ReadTop : TopData → Type 0
ReadTop (include_top bytes) = Unit {0}
ReadTop (directive_top n) = ⊥
ReadTop (decl_top d) = ReadDecl d
ReadTop (func_top f) = ReadBase f.base × ReadParams f.params × ReadBody f.body
ReadTop (mark_top opens line) = ⊥

abbrev pub ReadTops : List TopData → Type 0
ReadTops [] = Unit {0}
ReadTops (t ∷ ts) = ReadTop t × ReadTops ts
