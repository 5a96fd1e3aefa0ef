-- Braces round no initializer stand in no declaration of a source.
use Rattle.std.proofs.Common.{◌≡◌, Bool, true, false, ◌&&◌, ◌||◌, List, [], ◌∷◌, Option, Some, None}
use Rattle.ec_ctypes.specs.trees.Exprs.{one, many, no_inits, inits, InitOption, no_init, some_init, DeclaratorData, declarator, DeclaratorList, no_declarators, declarators, DeclData, decl}
use Rattle.ec_ctypes.specs.trees.Stmts.{StmtData, stmt, StmtKindData, empty_stmt, expr_stmt, block_stmt, if_stmt, while_stmt, do_stmt, for_stmt, break_stmt, continue_stmt, return_stmt, goto_stmt, label_stmt, decl_stmt, emb_stmt, mark_stmt, StmtList, no_stmts, stmts, StmtOption, no_stmt, some_stmt}
use Rattle.ec_ctypes.specs.trees.Units.{FuncData, TopData, include_top, directive_top, decl_top, func_top, mark_top}
use Rattle.ec_written_laws.specs.source.SourceShape.{is_source_expr, is_source_base, is_source_initializer, are_source_dims, is_source_declarator, are_source_declarators, is_source_decl, is_item_alone, is_source_option, is_source_stmt, is_source_kind, is_source_else, are_source_items, is_source_item, are_source_params, is_source_body, is_source_func, is_source_top, are_source_tops}
use Rattle.ec_writing_defs.specs.Shapes.{is_plain_name, is_line, is_open, is_void_list}
use Rattle.std.specs.Prelude.{not}
use Rattle.ec_sim_world_laws.proofs.closing_lemmas.Lists.{false_not}
use Rattle.ec_sim_host_laws.proofs.table_lemmas.Fitting.{first_true, second_true}

abbrev pub IsFullInit : InitOption → Type 0
IsFullInit no_init = Unit {0}
IsFullInit (some_init (one e)) = Unit {0}
IsFullInit (some_init (many no_inits)) = ⊥
IsFullInit (some_init (many (inits i is))) = Unit {0}

abbrev pub IsFullItem : DeclaratorData → Type 0
IsFullItem (declarator stars name ns init) = IsFullInit init

abbrev pub AreFullItems : DeclaratorList → Type 0
AreFullItems no_declarators = Unit {0}
AreFullItems (declarators d ds) = IsFullItem d × AreFullItems ds

abbrev pub IsFullDecl : DeclData → Type 0
IsFullDecl (decl b items section line) = AreFullItems items

abbrev mutual
  pub IsFullStmt : StmtData → Type 0
  IsFullStmt (stmt line kind) = IsFullKind kind

  pub IsFullKind : StmtKindData → Type 0
  IsFullKind empty_stmt = Unit {0}
  IsFullKind (expr_stmt e) = Unit {0}
  IsFullKind (block_stmt ss) = AreFullStmts ss
  IsFullKind (if_stmt e s other) = IsFullStmt s × IsFullElse other
  IsFullKind (while_stmt e s) = IsFullStmt s
  IsFullKind (do_stmt s e) = IsFullStmt s
  IsFullKind (for_stmt x y z s) = IsFullStmt s
  IsFullKind break_stmt = Unit {0}
  IsFullKind continue_stmt = Unit {0}
  IsFullKind (return_stmt e) = Unit {0}
  IsFullKind (goto_stmt l) = Unit {0}
  IsFullKind (label_stmt l s) = IsFullStmt s
  IsFullKind (decl_stmt d) = IsFullDecl d
  IsFullKind (emb_stmt n) = Unit {0}
  IsFullKind (mark_stmt opens) = Unit {0}

  pub AreFullStmts : StmtList → Type 0
  AreFullStmts no_stmts = Unit {0}
  AreFullStmts (stmts s ss) = IsFullStmt s × AreFullStmts ss

  pub IsFullElse : StmtOption → Type 0
  IsFullElse no_stmt = Unit {0}
  IsFullElse (some_stmt s) = IsFullStmt s

abbrev pub IsFullBody : Option StmtList → Type 0
IsFullBody None = Unit {0}
IsFullBody (Some ss) = AreFullStmts ss

abbrev pub IsFullTop : TopData → Type 0
IsFullTop (include_top bytes) = Unit {0}
IsFullTop (directive_top n) = Unit {0}
IsFullTop (decl_top d) = IsFullDecl d
IsFullTop (func_top f) = IsFullBody f.body
IsFullTop (mark_top opens line) = Unit {0}

abbrev pub AreFullTops : List TopData → Type 0
AreFullTops [] = Unit {0}
AreFullTops (t ∷ ts) = IsFullTop t × AreFullTops ts

-- ---- the trees of sources

init_full : (i : InitOption) → is_source_initializer i ≡ true → IsFullInit i
init_full no_init e = tt
init_full (some_init (one x)) e = tt
init_full (some_init (many no_inits)) e = false_not e
init_full (some_init (many (inits i is))) e = tt

item_full : (d : DeclaratorData) → is_source_declarator d ≡ true → IsFullItem d
item_full (declarator stars name ns i) e =
    init_full i (second_true (are_source_dims ns) (is_source_initializer i) (second_true (is_plain_name name) (are_source_dims ns && is_source_initializer i) e))

items_full : (ds : DeclaratorList) → are_source_declarators ds ≡ true → AreFullItems ds
items_full no_declarators e = tt
items_full (declarators d ds) e =
    (item_full d (first_true (is_source_declarator d) (are_source_declarators ds) e), items_full ds (second_true (is_source_declarator d) (are_source_declarators ds) e))

decl_full : (d : DeclData) → is_source_decl d ≡ true → IsFullDecl d
decl_full (decl b ds section line) e =
    items_full ds (second_true (is_source_base b) (are_source_declarators ds) (second_true (is_line line.0) (is_source_base b && are_source_declarators ds) e))

alone_full : (k : StmtKindData) → is_item_alone k ≡ true → IsFullKind k
alone_full empty_stmt e = tt
alone_full (expr_stmt x) e = tt
alone_full (block_stmt ss) e = false_not e
alone_full (if_stmt x s other) e = false_not e
alone_full (while_stmt x s) e = false_not e
alone_full (do_stmt s x) e = false_not e
alone_full (for_stmt x y z s) e = false_not e
alone_full break_stmt e = tt
alone_full continue_stmt e = tt
alone_full (return_stmt x) e = tt
alone_full (goto_stmt l) e = tt
alone_full (label_stmt l s) e = false_not e
alone_full (decl_stmt d) e = decl_full d e
alone_full (emb_stmt n) e = tt
alone_full (mark_stmt opens) e = tt

either_full : (k : StmtKindData) (a b : Bool) → (a ≡ true → IsFullKind k) → (b ≡ true → IsFullKind k) → (a || b) ≡ true → IsFullKind k
either_full k true b f g e = f e
either_full k false b f g e = g e

mutual
  stmt_full : (s : StmtData) → is_source_stmt s ≡ true → IsFullStmt s
  stmt_full (stmt line k) e = kind_full k (second_true (is_line line.0) (is_source_kind k) e)

  kind_full : (k : StmtKindData) → is_source_kind k ≡ true → IsFullKind k
  kind_full empty_stmt e = tt
  kind_full (expr_stmt x) e = tt
  kind_full (block_stmt ss) e = stmts_full ss e
  kind_full (if_stmt x s other) e =
      let more = second_true (is_source_expr x) (is_source_stmt s && is_source_else (is_open s) other) e in
      (stmt_full s (first_true (is_source_stmt s) (is_source_else (is_open s) other) more), else_full (is_open s) other (second_true (is_source_stmt s) (is_source_else (is_open s) other) more))
  kind_full (while_stmt x s) e = stmt_full s (second_true (is_source_expr x) (is_source_stmt s) e)
  kind_full (do_stmt s x) e = stmt_full s (first_true (is_source_stmt s) (is_source_expr x) e)
  kind_full (for_stmt x y z s) e = stmt_full s (second_true (is_source_option x && (is_source_option y && is_source_option z)) (is_source_stmt s) e)
  kind_full break_stmt e = tt
  kind_full continue_stmt e = tt
  kind_full (return_stmt x) e = tt
  kind_full (goto_stmt l) e = tt
  kind_full (label_stmt l s) e = stmt_full s (second_true (is_plain_name l) (is_source_stmt s) e)
  kind_full (decl_stmt d) e = false_not e
  kind_full (emb_stmt n) e = tt
  kind_full (mark_stmt opens) e = tt

  else_full : (opens : Bool) (o : StmtOption) → is_source_else opens o ≡ true → IsFullElse o
  else_full opens no_stmt e = tt
  else_full opens (some_stmt s) e = stmt_full s (second_true (not opens) (is_source_stmt s) e)

  stmts_full : (ss : StmtList) → are_source_items ss ≡ true → AreFullStmts ss
  stmts_full no_stmts e = tt
  stmts_full (stmts s ss) e = (one_full s (first_true (is_source_item s) (are_source_items ss) e), stmts_full ss (second_true (is_source_item s) (are_source_items ss) e))

  one_full : (s : StmtData) → is_source_item s ≡ true → IsFullStmt s
  one_full (stmt line k) e =
      either_full k (is_item_alone k) (is_source_kind k) (alone_full k) (λ h. kind_full k h) (second_true (is_line line.0) (is_item_alone k || is_source_kind k) e)

body_full : (b : Option StmtList) → is_source_body b ≡ true → IsFullBody b
body_full None e = tt
body_full (Some ss) e = stmts_full ss e

func_full : (f : FuncData) → is_source_func f ≡ true → IsFullBody f.body
func_full f e =
    body_full f.body (second_true (are_source_params f.params && not (is_void_list f.params)) (is_source_body f.body)
    (second_true (is_source_base f.base && is_plain_name f.name) ((are_source_params f.params && not (is_void_list f.params)) && is_source_body f.body)
    (second_true (is_line f.line.0) ((is_source_base f.base && is_plain_name f.name) && ((are_source_params f.params && not (is_void_list f.params)) && is_source_body f.body)) e)))

top_full : (t : TopData) → is_source_top t ≡ true → IsFullTop t
top_full (include_top bytes) e = tt
top_full (directive_top n) e = tt
top_full (decl_top d) e = decl_full d e
top_full (func_top f) e = func_full f e
top_full (mark_top opens line) e = tt

pub tops_full : (ts : List TopData) → are_source_tops ts ≡ true → AreFullTops ts
tops_full [] e = tt
tops_full (t ∷ ts) e = (top_full t (first_true (is_source_top t) (are_source_tops ts) e), tops_full ts (second_true (is_source_top t) (are_source_tops ts) e))
