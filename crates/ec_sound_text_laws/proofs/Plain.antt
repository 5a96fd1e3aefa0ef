-- What is read is plain.
use Rattle.std.proofs.Common.{List, [], ◌∷◌, Option, Some, None}
use Rattle.ec_ctypes.specs.trees.Exprs.{ExprData, integer, character, string, identifier, unary, binary, assign, bump, call, call_other, index, member, arrow, cast, size_type, size_expr, ExprList, no_exprs, exprs, InitData, one, many, InitList, no_inits, inits, InitOption, no_init, some_init, DeclaratorData, declarator, DeclaratorList, no_declarators, declarators, DeclData, decl}
use Rattle.ec_ctypes.specs.trees.Stmts.{StmtData, stmt, StmtKindData, empty_stmt, expr_stmt, block_stmt, if_stmt, while_stmt, do_stmt, for_stmt, break_stmt, continue_stmt, return_stmt, goto_stmt, label_stmt, decl_stmt, emb_stmt, mark_stmt, StmtList, no_stmts, stmts, StmtOption, no_stmt, some_stmt}
use Rattle.ec_ctypes.specs.trees.Units.{TopData, include_top, directive_top, decl_top, func_top, mark_top}
use Rattle.ec_sound_expression_laws.specs.Plain.{IsPlain, ArePlain}
use Rattle.ec_sound_program_laws.specs.Plain.{OptionIsPlain, PartIsPlain, PartsArePlain, InitIsPlain, ItemIsPlain, ItemsArePlain, DeclIsPlain, StmtIsPlain, KindIsPlain, StmtsArePlain, OtherIsPlain, BodyIsPlain, TopIsPlain, TopsArePlain}
use Rattle.ec_sound_text_laws.specs.Read.{ReadExpr, ReadExprs, ReadInit, ReadInits, ReadInitializer, ReadDeclarator, ReadDeclarators, ReadDecl, ReadOption, ReadStmt, ReadKind, ReadStmts, ReadOther, ReadBody, ReadTop, ReadTops}

mutual
  expr_plain : (e : ExprData) → ReadExpr e → IsPlain e
  expr_plain (integer n t) h = h
  expr_plain (character c) h = tt
  expr_plain (string s) h = tt
  expr_plain (identifier x) h = tt
  expr_plain (unary op a) h = expr_plain a h
  expr_plain (binary op a b) h = (expr_plain a h.0, expr_plain b h.1)
  expr_plain (assign None a b) h = (expr_plain a h.0, expr_plain b h.1)
  expr_plain (assign (Some op) a b) h = (h.0, expr_plain a h.1, expr_plain b h.2)
  expr_plain (bump before up a) h = expr_plain a h
  expr_plain (call f es) h = exprs_plain es h
  expr_plain (call_other f es) h = (expr_plain f h.0, exprs_plain es h.1)
  expr_plain (index a b) h = (expr_plain a h.0, expr_plain b h.1)
  expr_plain (member a m) h = expr_plain a h
  expr_plain (arrow a m) h = expr_plain a h
  expr_plain (cast b stars a) h = expr_plain a h.1
  expr_plain (size_type b stars) h = tt
  expr_plain (size_expr a) h = expr_plain a h

  exprs_plain : (es : ExprList) → ReadExprs es → ArePlain es
  exprs_plain no_exprs h = tt
  exprs_plain (exprs e es) h = (expr_plain e h.0, exprs_plain es h.1)

mutual
  part_plain : (i : InitData) → ReadInit i → PartIsPlain i
  part_plain (one e) h = expr_plain e h
  part_plain (many is) h = parts_plain is h

  parts_plain : (is : InitList) → ReadInits is → PartsArePlain is
  parts_plain no_inits h = tt
  parts_plain (inits i is) h = (part_plain i h.0, parts_plain is h.1)

init_plain : (i : InitOption) → ReadInitializer i → InitIsPlain i
init_plain no_init h = tt
init_plain (some_init i) h = part_plain i h

item_plain : (d : DeclaratorData) → ReadDeclarator d → ItemIsPlain d
item_plain (declarator stars name ds i) h = init_plain i h.1

items_plain : (ds : DeclaratorList) → ReadDeclarators ds → ItemsArePlain ds
items_plain no_declarators h = tt
items_plain (declarators d ds) h = (item_plain d h.0, items_plain ds h.1)

pub decl_plain : (d : DeclData) → ReadDecl d → DeclIsPlain d
decl_plain (decl b ds section line) h = items_plain ds h.1

option_plain : (e : Option ExprData) → ReadOption e → OptionIsPlain e
option_plain None h = tt
option_plain (Some e) h = expr_plain e h

mutual
  stmt_plain : (s : StmtData) → ReadStmt s → StmtIsPlain s
  stmt_plain (stmt line kind) h = kind_plain kind h

  kind_plain : (kind : StmtKindData) → ReadKind kind → KindIsPlain kind
  kind_plain empty_stmt h = tt
  kind_plain (expr_stmt e) h = expr_plain e h
  kind_plain (block_stmt ss) h = stmts_plain ss h
  kind_plain (if_stmt e s other) h = (expr_plain e h.0, stmt_plain s h.1, other_plain other h.2)
  kind_plain (while_stmt e s) h = (expr_plain e h.0, stmt_plain s h.1)
  kind_plain (do_stmt s e) h = (stmt_plain s h.0, expr_plain e h.1)
  kind_plain (for_stmt x y z s) h = (option_plain x h.0, option_plain y h.1, option_plain z h.2, stmt_plain s h.3)
  kind_plain break_stmt h = tt
  kind_plain continue_stmt h = tt
  kind_plain (return_stmt e) h = option_plain e h
  kind_plain (goto_stmt l) h = tt
  kind_plain (label_stmt l s) h = stmt_plain s h
  kind_plain (decl_stmt d) h = decl_plain d h
  kind_plain (emb_stmt n) h = h
  kind_plain (mark_stmt opens) h = tt

  pub stmts_plain : (ss : StmtList) → ReadStmts ss → StmtsArePlain ss
  stmts_plain no_stmts h = tt
  stmts_plain (stmts s ss) h = (stmt_plain s h.0, stmts_plain ss h.1)

  other_plain : (o : StmtOption) → ReadOther o → OtherIsPlain o
  other_plain no_stmt h = tt
  other_plain (some_stmt s) h = stmt_plain s h

body_plain : (b : Option StmtList) → ReadBody b → BodyIsPlain b
body_plain None h = tt
body_plain (Some ss) h = stmts_plain ss h

top_plain : (t : TopData) → ReadTop t → TopIsPlain t
top_plain (include_top bytes) h = tt
top_plain (directive_top n) h = h
top_plain (decl_top d) h = decl_plain d h
top_plain (func_top f) h = body_plain f.body h.2
top_plain (mark_top opens line) h = tt

pub tops_plain : (ts : List TopData) → ReadTops ts → TopsArePlain ts
tops_plain [] h = tt
tops_plain (t ∷ ts) h = (top_plain t h.0, tops_plain ts h.1)
