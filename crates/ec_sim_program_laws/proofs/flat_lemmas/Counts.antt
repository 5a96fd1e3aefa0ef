-- How many structs a part of a tree makes, at most: one for each struct with its members, and one for each declarator and parameter, which may be a VARCHAR.
use Rattle.std.proofs.Common.{◌≡◌, ℕ, suc, ◌+◌, List, [], ◌∷◌, Option, Some, None, arith}
use Rattle.ec_ctypes.specs.trees.Exprs.{ExprData, integer, character, string, identifier, unary, binary, assign, bump, call, call_other, index, member, arrow, cast, size_type, size_expr, ExprList, no_exprs, exprs, BaseData, words, varchar, tagged, struct_base, DimData, open_dim, dim, DimList, no_dims, dims, InitData, one, many, InitList, no_inits, inits, InitOption, no_init, some_init, DeclaratorData, declarator, DeclaratorList, no_declarators, declarators, DeclData, decl, DeclList, no_decls, decls}
use Rattle.ec_ctypes.specs.trees.Stmts.{StmtData, stmt, StmtKindData, empty_stmt, expr_stmt, block_stmt, if_stmt, while_stmt, do_stmt, for_stmt, break_stmt, continue_stmt, return_stmt, goto_stmt, label_stmt, decl_stmt, emb_stmt, mark_stmt, StmtList, no_stmts, stmts, StmtOption, no_stmt, some_stmt}
use Rattle.ec_ctypes.specs.trees.Units.{ParamData, TopData, include_top, directive_top, decl_top, func_top, mark_top}

abbrev mutual
  pub expr_structs : ExprData → ℕ
  expr_structs (integer n t) = 0
  expr_structs (character c) = 0
  expr_structs (string s) = 0
  expr_structs (identifier x) = 0
  expr_structs (unary op e) = expr_structs e
  expr_structs (binary op a b) = expr_structs a + expr_structs b
  expr_structs (assign op a b) = expr_structs a + expr_structs b
  expr_structs (bump before up e) = expr_structs e
  expr_structs (call f es) = exprs_structs es
  expr_structs (call_other f es) = expr_structs f + exprs_structs es
  expr_structs (index a b) = expr_structs a + expr_structs b
  expr_structs (member e m) = expr_structs e
  expr_structs (arrow e m) = expr_structs e
  expr_structs (cast b stars e) = base_structs b + expr_structs e
  expr_structs (size_type b stars) = base_structs b
  expr_structs (size_expr e) = expr_structs e

  pub exprs_structs : ExprList → ℕ
  exprs_structs no_exprs = 0
  exprs_structs (exprs e es) = expr_structs e + exprs_structs es

  pub base_structs : BaseData → ℕ
  base_structs (words ws) = 0
  base_structs varchar = 0
  base_structs (tagged t) = 0
  base_structs (struct_base t ds) = suc (members_structs ds)

  pub members_structs : DeclList → ℕ
  members_structs no_decls = 0
  members_structs (decls d ds) = decl_structs d + members_structs ds

  pub decl_structs : DeclData → ℕ
  decl_structs (decl b items section line) = base_structs b + items_structs items

  pub items_structs : DeclaratorList → ℕ
  items_structs no_declarators = 0
  items_structs (declarators d ds) = item_structs d + items_structs ds

  pub item_structs : DeclaratorData → ℕ
  item_structs (declarator stars name ds init) = suc (dims_structs ds + init_structs init)

  pub dims_structs : DimList → ℕ
  dims_structs no_dims = 0
  dims_structs (dims d ds) = dim_structs d + dims_structs ds

  pub dim_structs : DimData → ℕ
  dim_structs open_dim = 0
  dim_structs (dim e) = expr_structs e

  pub init_structs : InitOption → ℕ
  init_structs no_init = 0
  init_structs (some_init i) = part_structs i

  pub part_structs : InitData → ℕ
  part_structs (one e) = expr_structs e
  part_structs (many is) = parts_structs is

  pub parts_structs : InitList → ℕ
  parts_structs no_inits = 0
  parts_structs (inits i is) = part_structs i + parts_structs is

abbrev pub option_structs : Option ExprData → ℕ
option_structs None = 0
option_structs (Some e) = expr_structs e

abbrev mutual
  pub stmt_structs : StmtData → ℕ
  stmt_structs (stmt line kind) = kind_structs kind

  pub kind_structs : StmtKindData → ℕ
  kind_structs empty_stmt = 0
  kind_structs (expr_stmt e) = expr_structs e
  kind_structs (block_stmt ss) = stmts_structs ss
  kind_structs (if_stmt e s other) = expr_structs e + (stmt_structs s + other_structs other)
  kind_structs (while_stmt e s) = expr_structs e + stmt_structs s
  kind_structs (do_stmt s e) = stmt_structs s + expr_structs e
  kind_structs (for_stmt x y z s) = option_structs x + (option_structs y + (option_structs z + stmt_structs s))
  kind_structs break_stmt = 0
  kind_structs continue_stmt = 0
  kind_structs (return_stmt e) = option_structs e
  kind_structs (goto_stmt l) = 0
  kind_structs (label_stmt l s) = stmt_structs s
  kind_structs (decl_stmt d) = decl_structs d
  kind_structs (emb_stmt n) = 0
  kind_structs (mark_stmt opens) = 0

  pub stmts_structs : StmtList → ℕ
  stmts_structs no_stmts = 0
  stmts_structs (stmts s ss) = stmt_structs s + stmts_structs ss

  pub other_structs : StmtOption → ℕ
  other_structs no_stmt = 0
  other_structs (some_stmt s) = stmt_structs s

abbrev pub body_structs : Option StmtList → ℕ
body_structs None = 0
body_structs (Some ss) = stmts_structs ss

abbrev pub param_structs : ParamData → ℕ
param_structs p = suc (base_structs p.base + dims_structs p.dims)

abbrev pub params_structs : List ParamData → ℕ
params_structs [] = 0
params_structs (p ∷ ps) = param_structs p + params_structs ps

abbrev pub top_structs : TopData → ℕ
top_structs (include_top bytes) = 0
top_structs (directive_top n) = 0
top_structs (decl_top d) = decl_structs d
top_structs (func_top f) = base_structs f.base + (params_structs f.params + body_structs f.body)
top_structs (mark_top opens line) = 0

abbrev pub tops_structs : List TopData → ℕ
tops_structs [] = 0
tops_structs (t ∷ ts) = top_structs t + tops_structs ts

-- ---- the last length and the others

abbrev pub last_structs : DimList → ℕ
last_structs no_dims = 0
last_structs (dims d no_dims) = dim_structs d
last_structs (dims d (dims e ds)) = last_structs (dims e ds)

abbrev pub outer_structs : DimList → ℕ
outer_structs no_dims = 0
outer_structs (dims d no_dims) = 0
outer_structs (dims d (dims e ds)) = dim_structs d + outer_structs (dims e ds)

pub all_dims : (ds : DimList) → last_structs ds + outer_structs ds ≡ dims_structs ds
all_dims no_dims = omega arith
all_dims (dims d no_dims) = omega arith
all_dims (dims d (dims e ds)) = omega (arith, all_dims (dims e ds))
