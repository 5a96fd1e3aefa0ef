-- That a tree is walked as its places are fed one after the other.
use Rattle.std.proofs.Common.{◌≡◌, List, [], ◌∷◌, ◌++◌, Option, Some, None, refl, sym, ap, ◌∙◌}
use Rattle.ec_base.specs.declared.line.Line.{Line}
use Rattle.ec_ctypes.specs.trees.Exprs.{ExprData, integer, character, string, identifier, unary, binary, assign, bump, call, call_other, index, member, arrow, cast, size_type, size_expr, ExprList, no_exprs, exprs, BaseData, words, varchar, tagged, struct_base, DimData, open_dim, dim, DimList, no_dims, dims, InitData, one, many, InitList, no_inits, inits, InitOption, no_init, some_init, DeclaratorData, declarator, DeclaratorList, no_declarators, declarators, DeclData, decl, DeclList, no_decls, decls}
use Rattle.ec_ctypes.specs.trees.Stmts.{StmtData, stmt, StmtKindData, empty_stmt, expr_stmt, block_stmt, if_stmt, while_stmt, do_stmt, for_stmt, break_stmt, continue_stmt, return_stmt, goto_stmt, label_stmt, decl_stmt, emb_stmt, mark_stmt, StmtList, no_stmts, stmts, StmtOption, no_stmt, some_stmt}
use Rattle.ec_ctypes.specs.trees.Units.{ParamData, FuncData, TopData, include_top, directive_top, decl_top, func_top, mark_top}
use Rattle.ec_declare.specs.Scanning.{ScanData, step, feed}
use Rattle.ec_declare.specs.Walking.{walk_expr, walk_exprs, walk_base, walk_decls, walk_decl, walk_declarators, walk_declarator, walk_dims, walk_dim, walk_init_option, walk_init, walk_inits, walk_option, walk_stmt, walk_kind, walk_stmts, walk_stmt_option, walk_params, walk_body, walk_function, walk_top, walk_tops}
use Rattle.ec_host_defs.specs.sections.Places.{Places, holds, mark, last_mark, of_expr, of_exprs, of_base, of_decls, of_decl, of_declarators, of_declarator, of_dims, of_dim, of_init_option, of_init, of_inits, of_option, of_stmt, of_kind, of_stmts, of_stmt_option, of_params, of_body, of_function, of_top, of_tops}
use Rattle.ec_host_defs.specs.sections.Uses.{◌&◌, in_base, in_declarators, in_kind, in_function}
use Rattle.ec_declare.proofs.Feeding.{fed}

joined : (ps qs : Places) (w x y : ScanData) → x ≡ feed ps w → y ≡ feed qs x → y ≡ feed (ps ++ qs) w
joined ps qs w x y h k = k ∙ ap (feed qs) h ∙ sym (fed ps qs w)

mutual
  pub walked_expr : (e : ExprData) (w : ScanData) → walk_expr e w ≡ feed (of_expr e) w
  walked_expr (integer n t) w = refl
  walked_expr (character c) w = refl
  walked_expr (string s) w = refl
  walked_expr (identifier x) w = refl
  walked_expr (unary op e) w = walked_expr e w
  walked_expr (binary op a b) w = joined (of_expr a) (of_expr b) w (walk_expr a w) (walk_expr b (walk_expr a w)) (walked_expr a w) (walked_expr b (walk_expr a w))
  walked_expr (assign op a b) w = joined (of_expr a) (of_expr b) w (walk_expr a w) (walk_expr b (walk_expr a w)) (walked_expr a w) (walked_expr b (walk_expr a w))
  walked_expr (bump before up e) w = walked_expr e w
  walked_expr (call f es) w = walked_exprs es w
  walked_expr (call_other f es) w = joined (of_expr f) (of_exprs es) w (walk_expr f w) (walk_exprs es (walk_expr f w)) (walked_expr f w) (walked_exprs es (walk_expr f w))
  walked_expr (index a b) w = joined (of_expr a) (of_expr b) w (walk_expr a w) (walk_expr b (walk_expr a w)) (walked_expr a w) (walked_expr b (walk_expr a w))
  walked_expr (member e m) w = walked_expr e w
  walked_expr (arrow e m) w = walked_expr e w
  walked_expr (cast b stars e) w = joined (of_base b) (of_expr e) w (walk_base b w) (walk_expr e (walk_base b w)) (walked_base b w) (walked_expr e (walk_base b w))
  walked_expr (size_type b stars) w = walked_base b w
  walked_expr (size_expr e) w = walked_expr e w

  pub walked_exprs : (es : ExprList) (w : ScanData) → walk_exprs es w ≡ feed (of_exprs es) w
  walked_exprs no_exprs w = refl
  walked_exprs (exprs e es) w = joined (of_expr e) (of_exprs es) w (walk_expr e w) (walk_exprs es (walk_expr e w)) (walked_expr e w) (walked_exprs es (walk_expr e w))

  pub walked_base : (b : BaseData) (w : ScanData) → walk_base b w ≡ feed (of_base b) w
  walked_base (words ws) w = refl
  walked_base varchar w = refl
  walked_base (tagged t) w = refl
  walked_base (struct_base t ds) w = walked_decls ds w

  pub walked_decls : (ds : DeclList) (w : ScanData) → walk_decls ds w ≡ feed (of_decls ds) w
  walked_decls no_decls w = refl
  walked_decls (decls d ds) w = joined (of_decl d) (of_decls ds) w (walk_decl d w) (walk_decls ds (walk_decl d w)) (walked_decl d w) (walked_decls ds (walk_decl d w))

  pub walked_decl : (d : DeclData) (w : ScanData) → walk_decl d w ≡ feed (of_decl d) w
  walked_decl (decl b items section line) w =
      let x = step (holds None line (in_base b & in_declarators b items)) w in
      joined (of_base b) (of_declarators items) x (walk_base b x) (walk_declarators items (walk_base b x)) (walked_base b x) (walked_declarators items (walk_base b x))

  pub walked_declarators : (ds : DeclaratorList) (w : ScanData) → walk_declarators ds w ≡ feed (of_declarators ds) w
  walked_declarators no_declarators w = refl
  walked_declarators (declarators d ds) w = joined (of_declarator d) (of_declarators ds) w (walk_declarator d w) (walk_declarators ds (walk_declarator d w)) (walked_declarator d w) (walked_declarators ds (walk_declarator d w))

  pub walked_declarator : (d : DeclaratorData) (w : ScanData) → walk_declarator d w ≡ feed (of_declarator d) w
  walked_declarator (declarator stars name ds init) w = joined (of_dims ds) (of_init_option init) w (walk_dims ds w) (walk_init_option init (walk_dims ds w)) (walked_dims ds w) (walked_init_option init (walk_dims ds w))

  pub walked_dims : (ds : DimList) (w : ScanData) → walk_dims ds w ≡ feed (of_dims ds) w
  walked_dims no_dims w = refl
  walked_dims (dims d ds) w = joined (of_dim d) (of_dims ds) w (walk_dim d w) (walk_dims ds (walk_dim d w)) (walked_dim d w) (walked_dims ds (walk_dim d w))

  pub walked_dim : (d : DimData) (w : ScanData) → walk_dim d w ≡ feed (of_dim d) w
  walked_dim open_dim w = refl
  walked_dim (dim e) w = walked_expr e w

  pub walked_init_option : (i : InitOption) (w : ScanData) → walk_init_option i w ≡ feed (of_init_option i) w
  walked_init_option no_init w = refl
  walked_init_option (some_init i) w = walked_init i w

  pub walked_init : (i : InitData) (w : ScanData) → walk_init i w ≡ feed (of_init i) w
  walked_init (one e) w = walked_expr e w
  walked_init (many is) w = walked_inits is w

  pub walked_inits : (is : InitList) (w : ScanData) → walk_inits is w ≡ feed (of_inits is) w
  walked_inits no_inits w = refl
  walked_inits (inits i is) w = joined (of_init i) (of_inits is) w (walk_init i w) (walk_inits is (walk_init i w)) (walked_init i w) (walked_inits is (walk_init i w))

walked_option : (o : Option ExprData) (w : ScanData) → walk_option o w ≡ feed (of_option o) w
walked_option None w = refl
walked_option (Some e) w = walked_expr e w

mutual
  pub walked_stmt : (s : StmtData) (w : ScanData) → walk_stmt s w ≡ feed (of_stmt s) w
  walked_stmt (stmt line kind) w = walked_kind line kind w

  pub walked_kind : (line : Line) (k : StmtKindData) (w : ScanData) → walk_kind line k w ≡ feed (of_kind line k) w
  walked_kind line empty_stmt w = refl
  walked_kind line (expr_stmt e) w = walked_expr e (step (holds None line (in_kind (expr_stmt e))) w)
  walked_kind line (block_stmt ss) w = walked_stmts ss (step (holds None line (in_kind (block_stmt ss))) w)
  walked_kind line (if_stmt e s other) w =
      let x = step (holds None line (in_kind (if_stmt e s other))) w in
      joined (of_expr e) (of_stmt s ++ of_stmt_option other) x (walk_expr e x) (walk_stmt_option other (walk_stmt s (walk_expr e x))) (walked_expr e x)
      (joined (of_stmt s) (of_stmt_option other) (walk_expr e x) (walk_stmt s (walk_expr e x)) (walk_stmt_option other (walk_stmt s (walk_expr e x))) (walked_stmt s (walk_expr e x)) (walked_stmt_option other (walk_stmt s (walk_expr e x))))
  walked_kind line (while_stmt e s) w =
      let x = step (holds None line (in_kind (while_stmt e s))) w in
      joined (of_expr e) (of_stmt s) x (walk_expr e x) (walk_stmt s (walk_expr e x)) (walked_expr e x) (walked_stmt s (walk_expr e x))
  walked_kind line (do_stmt s e) w =
      let x = step (holds (last_mark s) line (in_kind (do_stmt s e))) w in
      joined (of_stmt s) (of_expr e) x (walk_stmt s x) (walk_expr e (walk_stmt s x)) (walked_stmt s x) (walked_expr e (walk_stmt s x))
  walked_kind line (for_stmt a b c s) w =
      let x = step (holds None line (in_kind (for_stmt a b c s))) w in
      let y = walk_option a x in
      let z = walk_option b y in
      let v = walk_option c z in
      joined (of_option a) (of_option b ++ (of_option c ++ of_stmt s)) x y (walk_stmt s v) (walked_option a x)
      (joined (of_option b) (of_option c ++ of_stmt s) y z (walk_stmt s v) (walked_option b y)
      (joined (of_option c) (of_stmt s) z v (walk_stmt s v) (walked_option c z) (walked_stmt s v)))
  walked_kind line break_stmt w = refl
  walked_kind line continue_stmt w = refl
  walked_kind line (return_stmt e) w = walked_option e (step (holds None line (in_kind (return_stmt e))) w)
  walked_kind line (goto_stmt l) w = refl
  walked_kind line (label_stmt l s) w = walked_stmt s (step (holds None line (in_kind (label_stmt l s))) w)
  walked_kind line (decl_stmt d) w = walked_decl d w
  walked_kind line (emb_stmt n) w = refl
  walked_kind line (mark_stmt opens) w = refl

  pub walked_stmts : (ss : StmtList) (w : ScanData) → walk_stmts ss w ≡ feed (of_stmts ss) w
  walked_stmts no_stmts w = refl
  walked_stmts (stmts s ss) w = joined (of_stmt s) (of_stmts ss) w (walk_stmt s w) (walk_stmts ss (walk_stmt s w)) (walked_stmt s w) (walked_stmts ss (walk_stmt s w))

  pub walked_stmt_option : (o : StmtOption) (w : ScanData) → walk_stmt_option o w ≡ feed (of_stmt_option o) w
  walked_stmt_option no_stmt w = refl
  walked_stmt_option (some_stmt s) w = walked_stmt s w

walked_params : (ps : List ParamData) (w : ScanData) → walk_params ps w ≡ feed (of_params ps) w
walked_params [] w = refl
walked_params (p ∷ ps) w =
    let x = walk_base p.base w in
    let y = walk_dims p.dims x in
    joined (of_base p.base ++ of_dims p.dims) (of_params ps) w y (walk_params ps y) (joined (of_base p.base) (of_dims p.dims) w x y (walked_base p.base w) (walked_dims p.dims x)) (walked_params ps y)

walked_body : (b : Option StmtList) (w : ScanData) → walk_body b w ≡ feed (of_body b) w
walked_body None w = refl
walked_body (Some ss) w = walked_stmts ss w

walked_function : (f : FuncData) (w : ScanData) → walk_function f w ≡ feed (of_function f) w
walked_function f w =
    let x = step (holds None f.line (in_function f)) w in
    let y = walk_base f.base x in
    let z = walk_params f.params y in
    joined (of_base f.base) (of_params f.params ++ of_body f.body) x y (walk_body f.body z) (walked_base f.base x) (joined (of_params f.params) (of_body f.body) y z (walk_body f.body z) (walked_params f.params y) (walked_body f.body z))

walked_top : (t : TopData) (w : ScanData) → walk_top t w ≡ feed (of_top t) w
walked_top (include_top bytes) w = refl
walked_top (directive_top n) w = refl
walked_top (decl_top d) w = walked_decl d w
walked_top (func_top f) w = walked_function f w
walked_top (mark_top opens line) w = refl

pub walked_tops : (ts : List TopData) (w : ScanData) → walk_tops ts w ≡ feed (of_tops ts) w
walked_tops [] w = refl
walked_tops (t ∷ ts) w = joined (of_top t) (of_tops ts) w (walk_top t w) (walk_tops ts (walk_top t w)) (walked_top t w) (walked_tops ts (walk_top t w))
