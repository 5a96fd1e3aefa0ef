-- What is written of a flat tree is flat.
use Rattle.std.proofs.Common.{◌≤◌, ℕ, List, [], ◌∷◌, ◌++◌, map, arith, Option, Some, None}
use Rattle.ec_base.specs.declared.line.Line.{Line}
use Rattle.ec_ctypes.specs.trees.Exprs.{ExprData, integer, character, string, identifier, unary, binary, assign, bump, call, call_other, index, member, arrow, cast, size_type, size_expr, ExprList, no_exprs, exprs, BaseData, words, varchar, tagged, struct_base, DimData, open_dim, dim, DimList, no_dims, dims, InitData, one, many, InitList, no_inits, inits, InitOption, no_init, some_init, DeclaratorData, declarator, DeclaratorList, no_declarators, declarators, DeclData, decl, DeclList, no_decls, decls}
use Rattle.ec_ctypes.specs.trees.Stmts.{StmtData, stmt, StmtKindData, empty_stmt, expr_stmt, block_stmt, if_stmt, while_stmt, do_stmt, for_stmt, break_stmt, continue_stmt, return_stmt, goto_stmt, label_stmt, decl_stmt, emb_stmt, mark_stmt, StmtList, no_stmts, stmts, StmtOption, no_stmt, some_stmt}
use Rattle.ec_ctypes.specs.trees.Units.{ParamData, TopData, include_top, directive_top, decl_top, func_top, mark_top}
use Rattle.ec_expansion_defs.specs.Declarations.{varchar_tag, outer_dims, last_dim, joined_decls, varchar_decl, written_expr, written_exprs, written_base, written_members, written_member, varchar_members_of, varchar_member, written_dim, written_dims, written_init, written_inits, written_initializer, written_declarator, written_declarators, varchar_objects, written_decl, written_option}
use Rattle.ec_expansion_defs.specs.Lines.{line_after}
use Rattle.ec_expansion_defs.specs.Statements.{before_stmts, decl_stmts, optional_stmt, or_empty, written_stmt, written_kind, written_items, written_item, written_else, written_body, written_param, written_top, written_tops}
use Rattle.ec_language.specs.Letters.{Text}
use Rattle.ec_language.specs.Productions.{line_of}
use Rattle.ec_sim_program_laws.specs.types.Flat.{max_lengths, dims_count, IsFlat, AreFlat, BaseIsFlat, MembersAreFlat, DeclIsFlat, ItemsAreFlat, ItemIsFlat, DimsAreFlat, DimIsFlat, InitIsFlat, PartIsFlat, PartsAreFlat, OptionIsFlat, StmtIsFlat, KindIsFlat, StmtsAreFlat, OtherIsFlat, BodyIsFlat, ParamsAreFlat, TopIsFlat, TopsAreFlat}
use Rattle.ec_sound_text_laws.proofs.Blocks.{MayBeFlat}

-- ---- lengths

outer_count : (ds : DimList) → dims_count (outer_dims ds) ≤ dims_count ds
outer_count no_dims = omega arith
outer_count (dims d no_dims) = omega arith
outer_count (dims d (dims e es)) = let h = outer_count (dims e es) in omega (arith, h)

outer_flat : (ds : DimList) → DimsAreFlat ds → DimsAreFlat (outer_dims ds)
outer_flat no_dims h = tt
outer_flat (dims d no_dims) h = tt
outer_flat (dims d (dims e es)) h = (h.0, outer_flat (dims e es) h.1)

last_flat : (ds : DimList) → DimsAreFlat ds → DimsAreFlat (last_dim ds)
last_flat no_dims h = tt
last_flat (dims d no_dims) h = h
last_flat (dims d (dims e es)) h = last_flat (dims e es) h.1

last_count : (ds : DimList) → dims_count (last_dim ds) ≤ 1
last_count no_dims = omega arith
last_count (dims d no_dims) = omega arith
last_count (dims d (dims e es)) = last_count (dims e es)

joined_flat : (ds es : DeclList) → MembersAreFlat ds → MembersAreFlat es → MembersAreFlat (joined_decls ds es)
joined_flat no_decls es h k = k
joined_flat (decls d ds) es h k = (h.0, joined_flat ds es h.1 k)

varchar_flat : (n : ℕ) (tag : Option Text) (stars : ℕ) (name : Text) (ds : DimList) (init : InitOption) → dims_count ds ≤ max_lengths → DimsAreFlat ds → InitIsFlat init → DeclIsFlat (varchar_decl n tag stars name ds init)
varchar_flat n tag stars name ds init few h k =
    let last = last_count ds in
    let outer = outer_count ds in (
      ((tt, ((omega (arith), tt, tt), tt)), ((tt, ((omega (arith, last), last_flat ds h, tt), tt)), tt)),
      ((omega (arith, outer, few), outer_flat ds h, k), tt),
    )

-- ---- expressions and declarations

dims_same : (n : ℕ) (ds : DimList) → dims_count (written_dims n ds) ≤ dims_count ds
dims_same n no_dims = omega arith
dims_same n (dims d ds) = let h = dims_same n ds in omega (arith, h)

few_written : (n : ℕ) (ds : DimList) → dims_count ds ≤ max_lengths → dims_count (written_dims n ds) ≤ max_lengths
few_written n ds h = let k = dims_same n ds in omega (arith, h, k)

abbrev DeclsAreFlat : List DeclData → Type 0
DeclsAreFlat [] = Unit {0}
DeclsAreFlat (d ∷ ds) = DeclIsFlat d × DeclsAreFlat ds

module _ (n : ℕ) where
  mutual
    pub expr_flat : (e : ExprData) → IsFlat e → IsFlat (written_expr n e)
    expr_flat (integer v t) h = tt
    expr_flat (character c) h = tt
    expr_flat (string s) h = tt
    expr_flat (identifier x) h = tt
    expr_flat (unary op e) h = expr_flat e h
    expr_flat (binary op a b) h = (expr_flat a h.0, expr_flat b h.1)
    expr_flat (assign op a b) h = (expr_flat a h.0, expr_flat b h.1)
    expr_flat (bump before up e) h = expr_flat e h
    expr_flat (call f es) h = exprs_flat es h
    expr_flat (call_other f es) h = (expr_flat f h.0, exprs_flat es h.1)
    expr_flat (index a b) h = (expr_flat a h.0, expr_flat b h.1)
    expr_flat (member e m) h = expr_flat e h
    expr_flat (arrow e m) h = expr_flat e h
    expr_flat (cast b stars e) h = (base_flat b h.0, expr_flat e h.1)
    expr_flat (size_type b stars) h = base_flat b h
    expr_flat (size_expr e) h = expr_flat e h

    exprs_flat : (es : ExprList) → AreFlat es → AreFlat (written_exprs n es)
    exprs_flat no_exprs h = tt
    exprs_flat (exprs e es) h = (expr_flat e h.0, exprs_flat es h.1)

    pub base_flat : (b : BaseData) → BaseIsFlat b → BaseIsFlat (written_base n b)
    base_flat (words ws) h = tt
    base_flat varchar h = tt
    base_flat (tagged t) h = tt
    base_flat (struct_base t ds) h = members_flat ds h

    members_flat : (ds : DeclList) → MembersAreFlat ds → MembersAreFlat (written_members n ds)
    members_flat no_decls h = tt
    members_flat (decls d ds) h = joined_flat (written_member n d) (written_members n ds) (member_flat d h.0) (members_flat ds h.1)

    member_flat : (d : DeclData) → DeclIsFlat d → MembersAreFlat (written_member n d)
    member_flat (decl varchar ds section line) h = varchar_members_flat ds h.1
    member_flat (decl (words ws) ds section line) h = ((tt, items_flat ds h.1), tt)
    member_flat (decl (tagged t) ds section line) h = ((tt, items_flat ds h.1), tt)
    member_flat (decl (struct_base t ms) ds section line) h = ((members_flat ms h.0, items_flat ds h.1), tt)

    varchar_members_flat : (ds : DeclaratorList) → ItemsAreFlat ds → MembersAreFlat (varchar_members_of n ds)
    varchar_members_flat no_declarators h = tt
    varchar_members_flat (declarators d ds) h = (varchar_member_flat d h.0, varchar_members_flat ds h.1)

    varchar_member_flat : (d : DeclaratorData) → ItemIsFlat d → DeclIsFlat (varchar_member n d)
    varchar_member_flat (declarator stars name ds init) h =
        varchar_flat n None stars name (written_dims n ds) (written_initializer n init) (few_written n ds h.0) (dims_flat ds h.1) (initializer_flat init h.2)

    dim_flat : (d : DimData) → DimIsFlat d → DimIsFlat (written_dim n d)
    dim_flat open_dim h = tt
    dim_flat (dim e) h = expr_flat e h

    pub dims_flat : (ds : DimList) → DimsAreFlat ds → DimsAreFlat (written_dims n ds)
    dims_flat no_dims h = tt
    dims_flat (dims d ds) h = (dim_flat d h.0, dims_flat ds h.1)

    init_flat : (i : InitData) → PartIsFlat i → PartIsFlat (written_init n i)
    init_flat (one e) h = expr_flat e h
    init_flat (many is) h = inits_flat is h

    inits_flat : (is : InitList) → PartsAreFlat is → PartsAreFlat (written_inits n is)
    inits_flat no_inits h = tt
    inits_flat (inits i is) h = (init_flat i h.0, inits_flat is h.1)

    pub initializer_flat : (i : InitOption) → InitIsFlat i → InitIsFlat (written_initializer n i)
    initializer_flat no_init h = tt
    initializer_flat (some_init i) h = init_flat i h

    item_flat : (d : DeclaratorData) → ItemIsFlat d → ItemIsFlat (written_declarator n d)
    item_flat (declarator stars name ds init) h = (few_written n ds h.0, dims_flat ds h.1, initializer_flat init h.2)

    pub items_flat : (ds : DeclaratorList) → ItemsAreFlat ds → ItemsAreFlat (written_declarators n ds)
    items_flat no_declarators h = tt
    items_flat (declarators d ds) h = (item_flat d h.0, items_flat ds h.1)

  objects_flat : (ds : DeclaratorList) → ItemsAreFlat ds → DeclsAreFlat (varchar_objects n ds)
  objects_flat no_declarators h = tt
  objects_flat (declarators (declarator stars name ds init) more) h =
      (varchar_flat n (Some (varchar_tag name)) stars name (written_dims n ds) (written_initializer n init) (few_written n ds h.0.0) (dims_flat ds h.0.1) (initializer_flat init h.0.2), objects_flat more h.1)

  pub decl_flat : (d : DeclData) → DeclIsFlat d → DeclsAreFlat (written_decl n d)
  decl_flat (decl varchar ds section line) h = objects_flat ds h.1
  decl_flat (decl (words ws) ds section line) h = ((tt, items_flat ds h.1), tt)
  decl_flat (decl (tagged t) ds section line) h = ((tt, items_flat ds h.1), tt)
  decl_flat (decl (struct_base t ms) ds section line) h = ((base_flat (struct_base t ms) h.0, items_flat ds h.1), tt)

  pub option_flat : (e : Option ExprData) → OptionIsFlat e → OptionIsFlat (written_option n e)
  option_flat None h = tt
  option_flat (Some e) h = expr_flat e h

-- ---- statements

abbrev ListIsFlat : List StmtData → Type 0
ListIsFlat [] = Unit {0}
ListIsFlat (s ∷ ss) = StmtIsFlat s × ListIsFlat ss

before_flat : (xs : List StmtData) (ss : StmtList) → ListIsFlat xs → StmtsAreFlat ss → StmtsAreFlat (before_stmts xs ss)
before_flat [] ss h k = k
before_flat (x ∷ xs) ss h k = (h.0, before_flat xs ss h.1 k)

decls_flat : (line : Line) (ds : List DeclData) → DeclsAreFlat ds → ListIsFlat (decl_stmts line ds)
decls_flat line [] h = tt
decls_flat line (d ∷ ds) h = (h.0, decls_flat line ds h.1)

optional_flat : (line : Line) (kind : Option StmtKindData) → MayBeFlat kind → ListIsFlat (optional_stmt line kind)
optional_flat line None h = tt
optional_flat line (Some kind) h = (h, tt)

or_empty_flat : (kind : Option StmtKindData) → MayBeFlat kind → KindIsFlat (or_empty kind)
or_empty_flat None h = tt
or_empty_flat (Some kind) h = h

module _ (embedded : ℕ → Option StmtKindData) (flat : (n : ℕ) → MayBeFlat (embedded n)) where
  mutual
    stmt_flat : (s : StmtData) → StmtIsFlat s → StmtIsFlat (written_stmt embedded s)
    stmt_flat (stmt line kind) h = kind_flat line.0 kind h

    kind_flat : (n : ℕ) (kind : StmtKindData) → KindIsFlat kind → KindIsFlat (written_kind embedded n kind)
    kind_flat n empty_stmt h = tt
    kind_flat n (expr_stmt e) h = expr_flat n e h
    kind_flat n (block_stmt ss) h = stmts_flat ss h
    kind_flat n (if_stmt e s other) h = (expr_flat n e h.0, stmt_flat s h.1, else_flat other h.2)
    kind_flat n (while_stmt e s) h = (expr_flat n e h.0, stmt_flat s h.1)
    kind_flat n (do_stmt s e) h = (stmt_flat s h.0, expr_flat (line_after (written_stmt embedded s)) e h.1)
    kind_flat n (for_stmt x y z s) h = (option_flat n x h.0, option_flat n y h.1, option_flat n z h.2, stmt_flat s h.3)
    kind_flat n break_stmt h = tt
    kind_flat n continue_stmt h = tt
    kind_flat n (return_stmt e) h = option_flat n e h
    kind_flat n (goto_stmt l) h = tt
    kind_flat n (label_stmt l s) h = stmt_flat s h
    kind_flat n (decl_stmt d) h = tt
    kind_flat n (emb_stmt k) h = or_empty_flat (embedded k) (flat k)
    kind_flat n (mark_stmt opens) h = tt

    stmts_flat : (ss : StmtList) → StmtsAreFlat ss → StmtsAreFlat (written_items embedded ss)
    stmts_flat no_stmts h = tt
    stmts_flat (stmts s ss) h = before_flat (written_item embedded s) (written_items embedded ss) (list_flat s h.0) (stmts_flat ss h.1)

    list_flat : (s : StmtData) → StmtIsFlat s → ListIsFlat (written_item embedded s)
    list_flat (stmt line (decl_stmt d)) h = decls_flat line (written_decl line.0 d) (decl_flat line.0 d h)
    list_flat (stmt line (emb_stmt k)) h = optional_flat line (embedded k) (flat k)
    list_flat (stmt line (mark_stmt opens)) h = tt
    list_flat (stmt line empty_stmt) h = (tt, tt)
    list_flat (stmt line (expr_stmt e)) h = (expr_flat line.0 e h, tt)
    list_flat (stmt line (block_stmt ss)) h = (stmts_flat ss h, tt)
    list_flat (stmt line (if_stmt e s other)) h = ((expr_flat line.0 e h.0, stmt_flat s h.1, else_flat other h.2), tt)
    list_flat (stmt line (while_stmt e s)) h = ((expr_flat line.0 e h.0, stmt_flat s h.1), tt)
    list_flat (stmt line (do_stmt s e)) h = ((stmt_flat s h.0, expr_flat (line_after (written_stmt embedded s)) e h.1), tt)
    list_flat (stmt line (for_stmt x y z s)) h = ((option_flat line.0 x h.0, option_flat line.0 y h.1, option_flat line.0 z h.2, stmt_flat s h.3), tt)
    list_flat (stmt line break_stmt) h = (tt, tt)
    list_flat (stmt line continue_stmt) h = (tt, tt)
    list_flat (stmt line (return_stmt e)) h = (option_flat line.0 e h, tt)
    list_flat (stmt line (goto_stmt l)) h = (tt, tt)
    list_flat (stmt line (label_stmt l s)) h = (stmt_flat s h, tt)

    else_flat : (o : StmtOption) → OtherIsFlat o → OtherIsFlat (written_else embedded o)
    else_flat no_stmt h = tt
    else_flat (some_stmt s) h = stmt_flat s h

  -- ---- programs

  body_flat : (b : Option StmtList) → BodyIsFlat b → BodyIsFlat (written_body embedded b)
  body_flat None h = tt
  body_flat (Some ss) h = stmts_flat ss h

  params_flat : (n : ℕ) (ps : List ParamData) → ParamsAreFlat ps → ParamsAreFlat (map (written_param embedded n) ps)
  params_flat n [] h = tt
  params_flat n (p ∷ ps) h = (base_flat n p.base h.0, few_written n p.dims h.1, dims_flat n p.dims h.2, params_flat n ps h.3)

  both_flat : (xs ys : List TopData) → TopsAreFlat xs → TopsAreFlat ys → TopsAreFlat (xs ++ ys)
  both_flat [] ys h k = k
  both_flat (x ∷ xs) ys h k = (h.0, both_flat xs ys h.1 k)

  decl_tops_flat : (ds : List DeclData) → DeclsAreFlat ds → TopsAreFlat (map decl_top ds)
  decl_tops_flat [] h = tt
  decl_tops_flat (d ∷ ds) h = (h.0, decl_tops_flat ds h.1)

  top_flat : (t : TopData) → TopIsFlat t → TopsAreFlat (written_top embedded t)
  top_flat (include_top bytes) h = (tt, tt)
  top_flat (directive_top k) h = tt
  top_flat (decl_top d) h = decl_tops_flat (written_decl (line_of d).0 d) (decl_flat (line_of d).0 d h)
  top_flat (func_top f) h = ((base_flat f.line.0 f.base h.0, params_flat f.line.0 f.params h.1, body_flat f.body h.2), tt)
  top_flat (mark_top opens line) h = tt

  pub tops_flat : (ts : List TopData) → TopsAreFlat ts → TopsAreFlat (written_tops embedded ts)
  tops_flat [] h = tt
  tops_flat (t ∷ ts) h = both_flat (written_top embedded t) (written_tops embedded ts) (top_flat t h.0) (tops_flat ts h.1)
