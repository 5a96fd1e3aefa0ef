-- Where no struct stands, what is written is what was read.
use Rattle.std.proofs.Common.{◌≡◌, ℕ, Bool, true, false, refl, sym, ap, ap₂, ◌∙◌, subst}
use Rattle.std.specs.Prelude.{◌||◌}
use Rattle.ec_ctypes.specs.trees.Exprs.{ExprData, integer, character, string, identifier, unary, binary, assign, bump, call, call_other, index, member, arrow, cast, size_type, size_expr, ExprList, no_exprs, exprs, BaseData, words, varchar, tagged, struct_base, DimData, open_dim, dim, DimList, no_dims, dims, InitData, one, many, InitList, no_inits, inits, InitOption, no_init, some_init, DeclaratorData, declarator, DeclaratorList, no_declarators, declarators}
use Rattle.ec_language.specs.Letters.{Text}
use Rattle.ec_cwrite.specs.Writes.{Writes}
use Rattle.ec_expansion_defs.specs.Declarations.{written_expr, written_exprs, written_base, written_dim, written_dims, written_init, written_inits, written_initializer, written_declarator, written_declarators}
use Rattle.ec_write_parts.specs.Structs.{is_struct, has_struct, any_has_struct, dim_has_struct, any_dim_has_struct, init_has_struct, any_init_has_struct, initializer_has_struct, declarator_has_struct, any_declarator_has_struct}
use Rattle.ec_writing_defs.specs.Expressions.{base_chunks}

neither : (a b : Bool) → a || b ≡ false → (a ≡ false) × (b ≡ false)
neither false b e = (refl, e)
neither true b e = absurd (cc (e))

module _ (n : ℕ) where
  base_same : (b : BaseData) → is_struct b ≡ false → written_base n b ≡ b
  base_same (words ws) e = refl
  base_same varchar e = refl
  base_same (tagged t) e = refl
  base_same (struct_base t ms) e = absurd (cc (e))

  mutual
    pub expr_same : (e : ExprData) → has_struct e ≡ false → written_expr n e ≡ e
    expr_same (integer v t) p = refl
    expr_same (character c) p = refl
    expr_same (string s) p = refl
    expr_same (identifier x) p = refl
    expr_same (unary op a) p = ap (unary op) (expr_same a p)
    expr_same (binary op a b) p = let q = neither (has_struct a) (has_struct b) p in ap₂ (binary op) (expr_same a q.0) (expr_same b q.1)
    expr_same (assign op a b) p = let q = neither (has_struct a) (has_struct b) p in ap₂ (assign op) (expr_same a q.0) (expr_same b q.1)
    expr_same (bump before up a) p = ap (bump before up) (expr_same a p)
    expr_same (call f es) p = ap (call f) (exprs_same es p)
    expr_same (call_other f es) p = let q = neither (has_struct f) (any_has_struct es) p in ap₂ call_other (expr_same f q.0) (exprs_same es q.1)
    expr_same (index a b) p = let q = neither (has_struct a) (has_struct b) p in ap₂ index (expr_same a q.0) (expr_same b q.1)
    expr_same (member a m) p = ap (λ e. member e m) (expr_same a p)
    expr_same (arrow a m) p = ap (λ e. arrow e m) (expr_same a p)
    expr_same (cast b stars a) p = let q = neither (is_struct b) (has_struct a) p in ap₂ (λ c e. cast c stars e) (base_same b q.0) (expr_same a q.1)
    expr_same (size_type b stars) p = ap (λ c. size_type c stars) (base_same b p)
    expr_same (size_expr a) p = ap size_expr (expr_same a p)

    exprs_same : (es : ExprList) → any_has_struct es ≡ false → written_exprs n es ≡ es
    exprs_same no_exprs p = refl
    exprs_same (exprs e es) p = let q = neither (has_struct e) (any_has_struct es) p in ap₂ exprs (expr_same e q.0) (exprs_same es q.1)

  dim_same : (d : DimData) → dim_has_struct d ≡ false → written_dim n d ≡ d
  dim_same open_dim p = refl
  dim_same (dim e) p = ap dim (expr_same e p)

  pub dims_same : (ds : DimList) → any_dim_has_struct ds ≡ false → written_dims n ds ≡ ds
  dims_same no_dims p = refl
  dims_same (dims d ds) p = let q = neither (dim_has_struct d) (any_dim_has_struct ds) p in ap₂ dims (dim_same d q.0) (dims_same ds q.1)

  mutual
    init_same : (i : InitData) → init_has_struct i ≡ false → written_init n i ≡ i
    init_same (one e) p = ap one (expr_same e p)
    init_same (many is) p = ap many (inits_same is p)

    inits_same : (is : InitList) → any_init_has_struct is ≡ false → written_inits n is ≡ is
    inits_same no_inits p = refl
    inits_same (inits i is) p = let q = neither (init_has_struct i) (any_init_has_struct is) p in ap₂ inits (init_same i q.0) (inits_same is q.1)

  initializer_same : (i : InitOption) → initializer_has_struct i ≡ false → written_initializer n i ≡ i
  initializer_same no_init p = refl
  initializer_same (some_init i) p = ap some_init (init_same i p)

  declarator_same : (d : DeclaratorData) → declarator_has_struct d ≡ false → written_declarator n d ≡ d
  declarator_same (declarator stars name ds i) p =
      let q = neither (any_dim_has_struct ds) (initializer_has_struct i) p in
      ap₂ (λ es j. declarator stars name es j) (dims_same ds q.0) (initializer_same i q.1)

  pub declarators_same : (ds : DeclaratorList) → any_declarator_has_struct ds ≡ false → written_declarators n ds ≡ ds
  declarators_same no_declarators p = refl
  declarators_same (declarators d ds) p = let q = neither (declarator_has_struct d) (any_declarator_has_struct ds) p in ap₂ declarators (declarator_same d q.0) (declarators_same ds q.1)

  pub base_as_read : {old new : Text} (b : BaseData) → is_struct b ≡ false → Writes old new (base_chunks b) → Writes old new (base_chunks (written_base n b))
  base_as_read {old} {new} b p w = subst (λ x. Writes old new (base_chunks x)) (sym (base_same b p)) w
