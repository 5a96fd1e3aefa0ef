-- Trees that can be written so that they are read back have nothing embedded in them either.
use Rattle.std.proofs.Common.{◌≡◌, ℕ, suc, ◌==◌, Bool, true, false, not, ◌&&◌, ◌||◌, List, [], ◌∷◌, refl, Option, Some, None}
use Rattle.ec_ctypes.specs.declared.tree.expr.BinOp.{BinOp}
use Rattle.ec_ctypes.specs.declared.tree.expr.BinOp.TheVariants as bin
use Rattle.ec_ctypes.specs.trees.Types.{TyData, void, arithmetic, pointer, array, structure}
use Rattle.ec_ctypes.specs.trees.Exprs.{ExprData, integer, character, string, identifier, unary, binary, assign, bump, call, call_other, index, member, arrow, cast, size_type, size_expr, ExprList, no_exprs, exprs, BaseData, words, varchar, tagged, struct_base, DimData, open_dim, dim, DimList, no_dims, dims, InitData, one, many, InitList, no_inits, inits, InitOption, no_init, some_init, DeclaratorData, declarator, DeclaratorList, no_declarators, declarators, DeclData, decl, DeclList, no_decls, decls}
use Rattle.ec_ctypes.specs.trees.Stmts.{StmtData, stmt, StmtKindData, empty_stmt, expr_stmt, block_stmt, if_stmt, while_stmt, do_stmt, for_stmt, break_stmt, continue_stmt, return_stmt, goto_stmt, label_stmt, decl_stmt, emb_stmt, mark_stmt, StmtList, no_stmts, stmts, StmtOption, no_stmt, some_stmt}
use Rattle.ec_ctypes.specs.trees.Units.{ParamData, FuncData, TopData, include_top, directive_top, decl_top, func_top, mark_top, UnitData}
use Rattle.ec_language.specs.Productions.{line_of}
use Rattle.ec_sound_form_laws.specs.Laws.{assigns}
use Rattle.ec_sound_expression_laws.specs.Plain.{IsArithmetic}
use Rattle.ec_sound_text_laws.proofs.Bound.{both}
use Rattle.ec_sound_text_laws.specs.Read.{ReadExpr, ReadExprs, ReadBase, ReadMembers, ReadMember, ReadDim, ReadDims, ReadInit, ReadInits, ReadInitializer, ReadDeclarator, ReadDeclarators, ReadDecl, ReadOption, ReadStmt, ReadKind, ReadStmts, ReadOther, ReadParams, ReadBody, ReadTop, ReadTops}
use Rattle.ec_writing_defs.specs.Chunks.{line_behind}
use Rattle.ec_writing_defs.specs.Programs.{stmt_chunks}
use Rattle.ec_writing_defs.specs.Shapes.{is_constant_type, is_assignable, is_free_name, is_no_name, is_plain_name, is_tag_option, is_written_expr, are_written_exprs, is_written_base, are_written_members, is_written_member, is_written_dim, are_written_dims, is_written_init, are_some_inits, are_written_inits, is_written_initializer, is_written_declarator, are_written_declarators, is_written_decl, is_line, is_written_option, is_open, is_declaration, is_written_stmt, is_written_kind, is_written_else, are_written_items, is_written_item, is_written_name, is_written_param, are_written_params, is_void_list, is_written_body, is_written_func, is_written_top, are_written_tops, none_embedded, is_written_shape}

constant_type : (t : TyData) → is_constant_type t ≡ true → IsArithmetic t
constant_type void e = cc
constant_type (arithmetic a) e = tt
constant_type (pointer t) e = cc
constant_type (array t n) e = cc
constant_type (structure k) e = cc

assigned : (op : BinOp) → is_assignable (Some op) ≡ true → assigns op ≡ true
assigned bin.Add e = e
assigned _ e = e

-- ---- expressions and declarations

module _ (n : ℕ) where
  mutual
    pub expr_read : (e : ExprData) → is_written_expr n e ≡ true → ReadExpr e
    expr_read (integer v t) h = constant_type t (both (is_constant_type t) _ h).0
    expr_read (character c) h = tt
    expr_read (string s) h = tt
    expr_read (identifier x) h = tt
    expr_read (unary op a) h = expr_read a h
    expr_read (binary op a b) h = let p = both (is_written_expr n a) (is_written_expr n b) h in (expr_read a p.0, expr_read b p.1)
    expr_read (assign None a b) h = let p = both (is_written_expr n a) (is_written_expr n b) h in (expr_read a p.0, expr_read b p.1)
    expr_read (assign (Some op) a b) h =
        let p = both (is_assignable (Some op)) (is_written_expr n a && is_written_expr n b) h in
        let q = both (is_written_expr n a) (is_written_expr n b) p.1 in
        (assigned op p.0, expr_read a q.0, expr_read b q.1)
    expr_read (bump before up a) h = expr_read a h
    expr_read (call f es) h = exprs_read es (both (is_free_name f) (are_written_exprs n es) h).1
    expr_read (call_other f es) h =
        let p = both (is_no_name f) (is_written_expr n f && are_written_exprs n es) h in
        let q = both (is_written_expr n f) (are_written_exprs n es) p.1 in
        (expr_read f q.0, exprs_read es q.1)
    expr_read (index a b) h = let p = both (is_written_expr n a) (is_written_expr n b) h in (expr_read a p.0, expr_read b p.1)
    expr_read (member a m) h = expr_read a (both (is_plain_name m) (is_written_expr n a) h).1
    expr_read (arrow a m) h = expr_read a (both (is_plain_name m) (is_written_expr n a) h).1
    expr_read (cast b stars a) h = let p = both (is_written_base n b) (is_written_expr n a) h in (base_read b p.0, expr_read a p.1)
    expr_read (size_type b stars) h = base_read b h
    expr_read (size_expr a) h = expr_read a h

    exprs_read : (es : ExprList) → are_written_exprs n es ≡ true → ReadExprs es
    exprs_read no_exprs h = tt
    exprs_read (exprs e es) h = let p = both (is_written_expr n e) (are_written_exprs n es) h in (expr_read e p.0, exprs_read es p.1)

    pub base_read : (b : BaseData) → is_written_base n b ≡ true → ReadBase b
    base_read (words ws) h = tt
    base_read varchar h = tt
    base_read (tagged t) h = tt
    base_read (struct_base t no_decls) h = cc
    base_read (struct_base t (decls m ms)) h =
        let p = both (is_tag_option t) (is_written_member n m && are_written_members n ms) h in
        let q = both (is_written_member n m) (are_written_members n ms) p.1 in
        (member_read m q.0, members_read ms q.1)

    members_read : (ms : DeclList) → are_written_members n ms ≡ true → ReadMembers ms
    members_read no_decls h = tt
    members_read (decls m ms) h = let p = both (is_written_member n m) (are_written_members n ms) h in (member_read m p.0, members_read ms p.1)

    member_read : (d : DeclData) → is_written_member n d ≡ true → ReadMember d
    member_read (decl b no_declarators section line) h = cc
    member_read (decl b (declarators d ds) section line) h =
        let p = both (not section && line.0 == n) (is_written_base n b && (is_written_declarator n d && are_written_declarators n ds)) h in
        let q = both (is_written_base n b) (is_written_declarator n d && are_written_declarators n ds) p.1 in
        let r = both (is_written_declarator n d) (are_written_declarators n ds) q.1 in
        (base_read b q.0, declarator_read d r.0, declarators_read ds r.1)

    dim_read : (d : DimData) → is_written_dim n d ≡ true → ReadDim d
    dim_read open_dim h = tt
    dim_read (dim e) h = expr_read e h

    pub dims_read : (ds : DimList) → are_written_dims n ds ≡ true → ReadDims ds
    dims_read no_dims h = tt
    dims_read (dims d ds) h = let p = both (is_written_dim n d) (are_written_dims n ds) h in (dim_read d p.0, dims_read ds p.1)

    init_read : (i : InitData) → is_written_init n i ≡ true → ReadInit i
    init_read (one e) h = expr_read e h
    init_read (many is) h = some_inits_read is h

    some_inits_read : (is : InitList) → are_some_inits n is ≡ true → ReadInits is
    some_inits_read no_inits h = tt
    some_inits_read (inits i is) h = let p = both (is_written_init n i) (are_written_inits n is) h in (init_read i p.0, inits_read is p.1)

    inits_read : (is : InitList) → are_written_inits n is ≡ true → ReadInits is
    inits_read no_inits h = tt
    inits_read (inits i is) h = let p = both (is_written_init n i) (are_written_inits n is) h in (init_read i p.0, inits_read is p.1)

    initializer_read : (i : InitOption) → is_written_initializer n i ≡ true → ReadInitializer i
    initializer_read no_init h = tt
    initializer_read (some_init i) h = init_read i h

    declarator_read : (d : DeclaratorData) → is_written_declarator n d ≡ true → ReadDeclarator d
    declarator_read (declarator stars name ds i) h =
        let p = both (is_plain_name name) (are_written_dims n ds && is_written_initializer n i) h in
        let q = both (are_written_dims n ds) (is_written_initializer n i) p.1 in
        (dims_read ds q.0, initializer_read i q.1)

    pub declarators_read : (ds : DeclaratorList) → are_written_declarators n ds ≡ true → ReadDeclarators ds
    declarators_read no_declarators h = tt
    declarators_read (declarators d ds) h =
        let p = both (is_written_declarator n d) (are_written_declarators n ds) h in
        (declarator_read d p.0, declarators_read ds p.1)

  pub decl_read : (d : DeclData) → is_written_decl n d ≡ true → ReadDecl d
  decl_read (decl b ds section line) h =
      let p = both (not section && line.0 == n) (is_written_base n b && are_written_declarators n ds) h in
      let q = both (is_written_base n b) (are_written_declarators n ds) p.1 in
      (base_read b q.0, declarators_read ds q.1)

  pub option_read : (e : Option ExprData) → is_written_option n e ≡ true → ReadOption e
  option_read None h = tt
  option_read (Some e) h = expr_read e h

-- ---- statements

either : (x y : Bool) {A : Type 0} → (x ≡ true → A) → (y ≡ true → A) → (x || y) ≡ true → A
either true y f g e = f refl
either false y f g e = g e

declared : (n : ℕ) (kind : StmtKindData) → is_declaration n kind ≡ true → ReadKind kind
declared n (decl_stmt d) h = decl_read n d h
declared n _ h = absurd (cc)

mutual
  stmt_read : (s : StmtData) → is_written_stmt s ≡ true → ReadStmt s
  stmt_read (stmt line kind) h = kind_read line.0 kind (both (is_line line.0) (is_written_kind line.0 kind) h).1

  kind_read : (n : ℕ) (kind : StmtKindData) → is_written_kind n kind ≡ true → ReadKind kind
  kind_read n empty_stmt h = tt
  kind_read n (expr_stmt e) h = expr_read n e h
  kind_read n (block_stmt ss) h = items_read ss h
  kind_read n (if_stmt e s other) h =
      let p = both (is_written_expr n e) (is_written_stmt s && is_written_else (is_open s) other) h in
      let q = both (is_written_stmt s) (is_written_else (is_open s) other) p.1 in
      (expr_read n e p.0, stmt_read s q.0, else_read (is_open s) other q.1)
  kind_read n (while_stmt e s) h = let p = both (is_written_expr n e) (is_written_stmt s) h in (expr_read n e p.0, stmt_read s p.1)
  kind_read n (do_stmt s e) h =
      let m = line_behind (suc n) (stmt_chunks s) in
      let p = both (is_written_stmt s) (is_written_expr m e) h in
      (stmt_read s p.0, expr_read m e p.1)
  kind_read n (for_stmt x y z s) h =
      let p = both (is_written_option n x && (is_written_option n y && is_written_option n z)) (is_written_stmt s) h in
      let q = both (is_written_option n x) (is_written_option n y && is_written_option n z) p.0 in
      let r = both (is_written_option n y) (is_written_option n z) q.1 in
      (option_read n x q.0, option_read n y r.0, option_read n z r.1, stmt_read s p.1)
  kind_read n break_stmt h = tt
  kind_read n continue_stmt h = tt
  kind_read n (return_stmt e) h = option_read n e h
  kind_read n (goto_stmt l) h = tt
  kind_read n (label_stmt l s) h = stmt_read s (both (is_plain_name l) (is_written_stmt s) h).1
  kind_read n (decl_stmt d) h = absurd (cc)
  kind_read n (emb_stmt m) h = cc
  kind_read n (mark_stmt opens) h = cc

  else_read : (opens : Bool) (o : StmtOption) → is_written_else opens o ≡ true → ReadOther o
  else_read opens no_stmt h = tt
  else_read opens (some_stmt s) h = stmt_read s (both (not opens) (is_written_stmt s) h).1

  pub items_read : (ss : StmtList) → are_written_items ss ≡ true → ReadStmts ss
  items_read no_stmts h = tt
  items_read (stmts s ss) h = let p = both (is_written_item s) (are_written_items ss) h in (item_read s p.0, items_read ss p.1)

  item_read : (s : StmtData) → is_written_item s ≡ true → ReadStmt s
  item_read (stmt line kind) h =
      either (is_declaration line.0 kind) (is_written_kind line.0 kind) (λ d. declared line.0 kind d) (λ k. kind_read line.0 kind k)
      (both (is_line line.0) (is_declaration line.0 kind || is_written_kind line.0 kind) h).1

-- ---- programs

params_read : (n : ℕ) (qs : List ParamData) → are_written_params n qs ≡ true → ReadParams qs
params_read n [] h = tt
params_read n (q ∷ qs) h =
    let p = both (is_written_param n q) (are_written_params n qs) h in
    let r = both (not q.section && is_written_base n q.base) (is_written_name q.name && are_written_dims n q.dims) p.0 in (
      (base_read n q.base (both (not q.section) (is_written_base n q.base) r.0).1, dims_read n q.dims (both (is_written_name q.name) (are_written_dims n q.dims) r.1).1),
      params_read n qs p.1,
    )

body_read : (b : Option StmtList) → is_written_body b ≡ true → ReadBody b
body_read None h = tt
body_read (Some ss) h = items_read ss h

func_read : (f : FuncData) → is_written_func f ≡ true → ReadTop (func_top f)
func_read f h =
    let n = f.line.0 in
    let p = both (not f.section && is_line n) ((is_written_base n f.base && is_plain_name f.name) && ((are_written_params n f.params && not (is_void_list f.params)) && is_written_body f.body)) h in
    let q = both (is_written_base n f.base && is_plain_name f.name) ((are_written_params n f.params && not (is_void_list f.params)) && is_written_body f.body) p.1 in
    let r = both (are_written_params n f.params && not (is_void_list f.params)) (is_written_body f.body) q.1 in (
      base_read n f.base (both (is_written_base n f.base) (is_plain_name f.name) q.0).0,
      params_read n f.params (both (are_written_params n f.params) (not (is_void_list f.params)) r.0).0,
      body_read f.body r.1,
    )

top_read : (t : TopData) → is_written_top t ≡ true → ReadTop t
top_read (include_top bytes) h = tt
top_read (directive_top k) h = cc
top_read (decl_top d) h = decl_read (line_of d).0 d (both (is_line (line_of d).0) (is_written_decl (line_of d).0 d) h).1
top_read (func_top f) h = func_read f h
top_read (mark_top opens line) h = cc

tops_read : (ts : List TopData) → are_written_tops ts ≡ true → ReadTops ts
tops_read [] h = tt
tops_read (t ∷ ts) h = let p = both (is_written_top t) (are_written_tops ts) h in (top_read t p.0, tops_read ts p.1)

pub shape_read : (u : UnitData) → is_written_shape u ≡ true → ReadTops u.tops
shape_read u h = tops_read u.tops (both (are_written_tops u.tops) (none_embedded u.embs) h).0
