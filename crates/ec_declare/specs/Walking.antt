-- The places of a tree, fed one after the other: what is kept behind it.
use Rattle.std.specs.Prelude.{List, [], ◌∷◌, Option, Some, None}
use Rattle.ec_base.specs.declared.line.Line.{Line}
use Rattle.ec_ctypes.specs.trees.Exprs.{ExprData, integer, character, string, identifier, unary, binary, assign, bump, call, call_other, index, member, arrow, cast, size_type, size_expr, ExprList, no_exprs, exprs, BaseData, words, varchar, tagged, struct_base, DimData, open_dim, dim, DimList, no_dims, dims, InitData, one, many, InitList, no_inits, inits, InitOption, no_init, some_init, DeclaratorData, declarator, DeclaratorList, no_declarators, declarators, DeclData, decl, DeclList, no_decls, decls}
use Rattle.ec_ctypes.specs.trees.Stmts.{StmtData, stmt, StmtKindData, empty_stmt, expr_stmt, block_stmt, if_stmt, while_stmt, do_stmt, for_stmt, break_stmt, continue_stmt, return_stmt, goto_stmt, label_stmt, decl_stmt, emb_stmt, mark_stmt, StmtList, no_stmts, stmts, StmtOption, no_stmt, some_stmt}
use Rattle.ec_ctypes.specs.trees.Units.{ParamData, FuncData, TopData, include_top, directive_top, decl_top, func_top, mark_top}
use Rattle.ec_declare.specs.Scanning.{ScanData, step}
use Rattle.ec_host_defs.specs.sections.Places.{holds, mark, last_mark}
use Rattle.ec_host_defs.specs.sections.Uses.{◌&◌, in_base, in_declarators, in_kind, in_function}

abbrev mutual
  pub walk_expr : ExprData → ScanData → ScanData
  walk_expr (integer n t) w = w
  walk_expr (character c) w = w
  walk_expr (string s) w = w
  walk_expr (identifier x) w = w
  walk_expr (unary op e) w = walk_expr e w
  walk_expr (binary op a b) w = walk_expr b (walk_expr a w)
  walk_expr (assign op a b) w = walk_expr b (walk_expr a w)
  walk_expr (bump before up e) w = walk_expr e w
  walk_expr (call f es) w = walk_exprs es w
  walk_expr (call_other f es) w = walk_exprs es (walk_expr f w)
  walk_expr (index a b) w = walk_expr b (walk_expr a w)
  walk_expr (member e m) w = walk_expr e w
  walk_expr (arrow e m) w = walk_expr e w
  walk_expr (cast b stars e) w = walk_expr e (walk_base b w)
  walk_expr (size_type b stars) w = walk_base b w
  walk_expr (size_expr e) w = walk_expr e w

  pub walk_exprs : ExprList → ScanData → ScanData
  walk_exprs no_exprs w = w
  walk_exprs (exprs e es) w = walk_exprs es (walk_expr e w)

  pub walk_base : BaseData → ScanData → ScanData
  walk_base (words ws) w = w
  walk_base varchar w = w
  walk_base (tagged t) w = w
  walk_base (struct_base t ds) w = walk_decls ds w

  pub walk_decls : DeclList → ScanData → ScanData
  walk_decls no_decls w = w
  walk_decls (decls d ds) w = walk_decls ds (walk_decl d w)

  pub walk_decl : DeclData → ScanData → ScanData
  walk_decl (decl b items section line) w =
      walk_declarators items
      (walk_base b (step (holds None line (in_base b & in_declarators b items)) w))

  pub walk_declarators : DeclaratorList → ScanData → ScanData
  walk_declarators no_declarators w = w
  walk_declarators (declarators d ds) w = walk_declarators ds (walk_declarator d w)

  pub walk_declarator : DeclaratorData → ScanData → ScanData
  walk_declarator (declarator stars name ds init) w = walk_init_option init (walk_dims ds w)

  pub walk_dims : DimList → ScanData → ScanData
  walk_dims no_dims w = w
  walk_dims (dims d ds) w = walk_dims ds (walk_dim d w)

  pub walk_dim : DimData → ScanData → ScanData
  walk_dim open_dim w = w
  walk_dim (dim e) w = walk_expr e w

  pub walk_init_option : InitOption → ScanData → ScanData
  walk_init_option no_init w = w
  walk_init_option (some_init i) w = walk_init i w

  pub walk_init : InitData → ScanData → ScanData
  walk_init (one e) w = walk_expr e w
  walk_init (many is) w = walk_inits is w

  pub walk_inits : InitList → ScanData → ScanData
  walk_inits no_inits w = w
  walk_inits (inits i is) w = walk_inits is (walk_init i w)

abbrev pub walk_option : Option ExprData → ScanData → ScanData
walk_option None w = w
walk_option (Some e) w = walk_expr e w

abbrev mutual
  pub walk_stmt : StmtData → ScanData → ScanData
  walk_stmt (stmt line kind) w = walk_kind line kind w

  pub walk_kind : Line → StmtKindData → ScanData → ScanData
  walk_kind line empty_stmt w = step (holds None line (in_kind empty_stmt)) w
  walk_kind line (expr_stmt e) w = walk_expr e (step (holds None line (in_kind (expr_stmt e))) w)
  walk_kind line (block_stmt ss) w = walk_stmts ss (step (holds None line (in_kind (block_stmt ss))) w)
  walk_kind line (if_stmt e s other) w = walk_stmt_option other
      (walk_stmt s (walk_expr e (step (holds None line (in_kind (if_stmt e s other))) w)))
  walk_kind line (while_stmt e s) w =
      walk_stmt s (walk_expr e (step (holds None line (in_kind (while_stmt e s))) w))
  walk_kind line (do_stmt s e) w =
      walk_expr e (walk_stmt s (step (holds (last_mark s) line (in_kind (do_stmt s e))) w))
  walk_kind line (for_stmt x y z s) w =
      walk_stmt s (walk_option z
      (walk_option y (walk_option x (step (holds None line (in_kind (for_stmt x y z s))) w))))
  walk_kind line break_stmt w = step (holds None line (in_kind break_stmt)) w
  walk_kind line continue_stmt w = step (holds None line (in_kind continue_stmt)) w
  walk_kind line (return_stmt e) w = walk_option e (step (holds None line (in_kind (return_stmt e))) w)
  walk_kind line (goto_stmt l) w = step (holds None line (in_kind (goto_stmt l))) w
  walk_kind line (label_stmt l s) w = walk_stmt s (step (holds None line (in_kind (label_stmt l s))) w)
  walk_kind line (decl_stmt d) w = walk_decl d w
  walk_kind line (emb_stmt n) w = step (holds None line (in_kind (emb_stmt n))) w
  walk_kind line (mark_stmt opens) w = step (mark opens line) w

  pub walk_stmts : StmtList → ScanData → ScanData
  walk_stmts no_stmts w = w
  walk_stmts (stmts s ss) w = walk_stmts ss (walk_stmt s w)

  pub walk_stmt_option : StmtOption → ScanData → ScanData
  walk_stmt_option no_stmt w = w
  walk_stmt_option (some_stmt s) w = walk_stmt s w

abbrev pub walk_params : List ParamData → ScanData → ScanData
walk_params [] w = w
walk_params (p ∷ ps) w = walk_params ps (walk_dims p.dims (walk_base p.base w))

abbrev pub walk_body : Option StmtList → ScanData → ScanData
walk_body None w = w
walk_body (Some ss) w = walk_stmts ss w

abbrev pub walk_function : FuncData → ScanData → ScanData
walk_function f w =
    walk_body f.body
    (walk_params f.params (walk_base f.base (step (holds None f.line (in_function f)) w)))

abbrev pub walk_top : TopData → ScanData → ScanData
walk_top (include_top bytes) w = w
walk_top (directive_top n) w = w
walk_top (decl_top d) w = walk_decl d w
walk_top (func_top f) w = walk_function f w
walk_top (mark_top opens line) w = step (mark opens line) w

abbrev pub walk_tops : List TopData → ScanData → ScanData
walk_tops [] w = w
walk_tops (t ∷ ts) w = walk_tops ts (walk_top t w)
