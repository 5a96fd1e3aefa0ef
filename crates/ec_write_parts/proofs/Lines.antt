-- The line on which an expression is written stands only in its tree: its text is the same on each.
use Rattle.std.proofs.Common.{◌≡◌, ℕ, false, [], ◌∷◌, ◌++◌, nat_lt, true, None, refl, sym, ap, ap₂, ◌∙◌, subst, append_assoc}
use Rattle.std.specs.Prelude.{codes}
use Rattle.ec_ctypes.specs.declared.text.token.Punct.TheVariants as p
use Rattle.ec_ctypes.specs.trees.Exprs.{ExprData, integer, character, string, identifier, unary, binary, assign, bump, call, call_other, index, member, arrow, cast, size_type, size_expr, ExprList, no_exprs, exprs, BaseData, words, varchar, tagged, struct_base, DimData, open_dim, dim, DimList, no_dims, dims, InitData, one, many, InitList, no_inits, inits, InitOption, no_init, some_init, DeclaratorData, declarator, DeclaratorList, no_declarators, declarators, DeclData, decl, DeclList, no_decls, decls}
use Rattle.ec_language.specs.Letters.{Text}
use Rattle.ec_language.specs.Productions.{or_rank}
use Rattle.ec_cwrite.specs.Writes.{Writes}
use Rattle.ec_expansion_defs.specs.Declarations.{joined_decls, outer_dims, last_dim, written_expr, written_exprs, written_base, written_members, written_member, varchar_members_of, varchar_member, written_dim, written_dims, written_init, written_inits, written_initializer, written_declarator, written_declarators}
use Rattle.ec_writing_defs.specs.Chunks.{blank, Chunks}
use Rattle.ec_writing_defs.specs.Expressions.{Level, ranked, postfixed, tighter, rank_of, height, level, binary_mark, assign_mark, unary_mark, mark, word, in_parens, at_place, before_dot, star_chunks, typed, bumped_chunks, arguments, struct_head, expr_chunks, list_chunks, more_chunks, base_chunks, members_chunks, dim_chunks, dims_chunks, init_chunks, inits_chunks, more_inits_chunks, initializer_chunks, declarator_chunks, more_declarators_chunks, declarators_chunks, decl_chunks}

joined_chunks : (as' bs : DeclList) → members_chunks (joined_decls as' bs) ≡ members_chunks as' ++ members_chunks bs
joined_chunks no_decls bs = refl
joined_chunks (decls a as') bs = ap (λ cs. blank ∷ decl_chunks a ++ cs) (joined_chunks as' bs) ∙ sym (append_assoc (blank ∷ decl_chunks a) (members_chunks as') (members_chunks bs))

-- a VARCHAR as a member, by the length of its text, its other array lengths and its initializer
abbrev varchar_chunks : ℕ → Text → Chunks → Chunks → Chunks → Chunks
varchar_chunks stars name length outer initializer =
    (word (codes "struct") ∷ (blank ∷ mark p.LeftBrace
    ∷ (blank ∷ ((word (codes "int") ∷ []) ++ ((blank ∷ (word (codes "len") ∷ []) ++ []) ++ mark p.Semicolon ∷ []))
    ++ (blank ∷ ((word (codes "char") ∷ []) ++ ((blank ∷ (word (codes "arr") ∷ length ++ []) ++ []) ++ mark p.Semicolon ∷ [])) ++ []))
    ++ (blank ∷ mark p.RightBrace ∷ [])))
    ++ ((blank ∷ (star_chunks stars ++ (word name ∷ outer ++ initializer)) ++ []) ++ mark p.Semicolon ∷ [])

module _ (n m : ℕ) where
  level_lines : (e : ExprData) → level (written_expr n e) ≡ level (written_expr m e)
  level_lines (integer v t) = refl
  level_lines (character c) = refl
  level_lines (string s) = refl
  level_lines (identifier x) = refl
  level_lines (unary op a) = refl
  level_lines (binary op a b) = refl
  level_lines (assign op a b) = refl
  level_lines (bump before up a) = refl
  level_lines (call f es) = refl
  level_lines (call_other f es) = refl
  level_lines (index a b) = refl
  level_lines (member a x) = refl
  level_lines (arrow a x) = refl
  level_lines (cast b stars a) = refl
  level_lines (size_type b stars) = refl
  level_lines (size_expr a) = refl

  place_lines : (place : Level) (e : ExprData) {cs ds : Chunks} → cs ≡ ds → at_place place (written_expr n e) cs ≡ at_place place (written_expr m e) ds
  place_lines place e q = ap₂ (λ l x. elim (nat_lt (height l) (height place)) [ true ↦ in_parens x | false ↦ x ]) (level_lines e) q

  dot_lines : (e : ExprData) {cs ds : Chunks} → cs ≡ ds → before_dot (written_expr n e) cs ≡ before_dot (written_expr m e) ds
  dot_lines (integer v t) q = ap in_parens q
  dot_lines (character c) q = place_lines postfixed (character c) q
  dot_lines (string s) q = place_lines postfixed (string s) q
  dot_lines (identifier x) q = place_lines postfixed (identifier x) q
  dot_lines (unary op a) q = place_lines postfixed (unary op a) q
  dot_lines (binary op a b) q = place_lines postfixed (binary op a b) q
  dot_lines (assign op a b) q = place_lines postfixed (assign op a b) q
  dot_lines (bump before up a) q = place_lines postfixed (bump before up a) q
  dot_lines (call f es) q = place_lines postfixed (call f es) q
  dot_lines (call_other f es) q = place_lines postfixed (call_other f es) q
  dot_lines (index a b) q = place_lines postfixed (index a b) q
  dot_lines (member a x) q = place_lines postfixed (member a x) q
  dot_lines (arrow a x) q = place_lines postfixed (arrow a x) q
  dot_lines (cast b stars a) q = place_lines postfixed (cast b stars a) q
  dot_lines (size_type b stars) q = place_lines postfixed (size_type b stars) q
  dot_lines (size_expr a) q = place_lines postfixed (size_expr a) q

  mutual
    pub expr_lines : (e : ExprData) → expr_chunks (written_expr n e) ≡ expr_chunks (written_expr m e)
    expr_lines (integer v t) = refl
    expr_lines (character c) = refl
    expr_lines (string s) = refl
    expr_lines (identifier x) = refl
    expr_lines (unary op a) = ap (λ x. mark (unary_mark op) ∷ x) (place_lines postfixed a (expr_lines a))
    expr_lines (binary op a b) =
        ap₂ (λ x y. x ++ blank ∷ mark (binary_mark op) ∷ blank ∷ y) (place_lines (ranked (rank_of op)) a (expr_lines a)) (place_lines (tighter (rank_of op)) b (expr_lines b))
    expr_lines (assign op a b) = ap₂ (λ x y. x ++ blank ∷ mark (assign_mark op) ∷ blank ∷ y) (place_lines (ranked or_rank) a (expr_lines a)) (expr_lines b)
    expr_lines (bump before up a) = ap (bumped_chunks before up) (place_lines postfixed a (expr_lines a))
    expr_lines (call f es) = ap (λ x. word f ∷ arguments x) (list_lines es)
    expr_lines (call_other f es) = ap₂ (λ x y. x ++ arguments y) (place_lines postfixed f (expr_lines f)) (list_lines es)
    expr_lines (index a b) = ap₂ (λ x y. x ++ (mark p.LeftBracket ∷ y ++ mark p.RightBracket ∷ [])) (place_lines postfixed a (expr_lines a)) (expr_lines b)
    expr_lines (member a x) = ap (λ y. y ++ mark p.Dot ∷ word x ∷ []) (dot_lines a (expr_lines a))
    expr_lines (arrow a x) = ap (λ y. y ++ mark p.Arrow ∷ word x ∷ []) (place_lines postfixed a (expr_lines a))
    expr_lines (cast b stars a) = ap₂ (λ x y. typed x stars ++ y) (base_lines b) (place_lines postfixed a (expr_lines a))
    expr_lines (size_type b stars) = ap (λ x. word (codes "sizeof") ∷ typed x stars) (base_lines b)
    expr_lines (size_expr a) = ap (λ x. word (codes "sizeof") ∷ blank ∷ x) (place_lines postfixed a (expr_lines a))

    list_lines : (es : ExprList) → list_chunks (written_exprs n es) ≡ list_chunks (written_exprs m es)
    list_lines no_exprs = refl
    list_lines (exprs e es) = ap₂ (λ x y. x ++ y) (expr_lines e) (more_lines es)

    more_lines : (es : ExprList) → more_chunks (written_exprs n es) ≡ more_chunks (written_exprs m es)
    more_lines no_exprs = refl
    more_lines (exprs e es) = ap₂ (λ x y. mark p.Comma ∷ blank ∷ x ++ y) (expr_lines e) (more_lines es)

    base_lines : (b : BaseData) → base_chunks (written_base n b) ≡ base_chunks (written_base m b)
    base_lines (words ws) = refl
    base_lines varchar = refl
    base_lines (tagged t) = refl
    base_lines (struct_base t ms) = ap (λ x. struct_head t ++ (blank ∷ mark p.LeftBrace ∷ x ++ (blank ∷ mark p.RightBrace ∷ []))) (members_lines ms)

    members_lines : (ms : DeclList) → members_chunks (written_members n ms) ≡ members_chunks (written_members m ms)
    members_lines no_decls = refl
    members_lines (decls d ds) =
        joined_chunks (written_member n d) (written_members n ds) ∙ ap₂ (λ x y. x ++ y) (member_lines d) (members_lines ds)
        ∙ sym (joined_chunks (written_member m d) (written_members m ds))

    member_lines : (d : DeclData) → members_chunks (written_member n d) ≡ members_chunks (written_member m d)
    member_lines (decl (words ws) ds section line) = ap (λ y. blank ∷ (base_chunks (words ws) ++ (y ++ mark p.Semicolon ∷ [])) ++ []) (declarators_lines ds)
    member_lines (decl varchar ds section line) = varchars_lines ds
    member_lines (decl (tagged t) ds section line) = ap (λ y. blank ∷ (base_chunks (tagged t) ++ (y ++ mark p.Semicolon ∷ [])) ++ []) (declarators_lines ds)
    member_lines (decl (struct_base t ms) ds section line) = ap₂ (λ x y. blank ∷ (x ++ (y ++ mark p.Semicolon ∷ [])) ++ []) (base_lines (struct_base t ms)) (declarators_lines ds)

    varchars_lines : (ds : DeclaratorList) → members_chunks (varchar_members_of n ds) ≡ members_chunks (varchar_members_of m ds)
    varchars_lines no_declarators = refl
    varchars_lines (declarators d ds) = ap₂ (λ x y. blank ∷ x ++ y) (varchar_lines d) (varchars_lines ds)

    varchar_lines : (d : DeclaratorData) → decl_chunks (varchar_member n d) ≡ decl_chunks (varchar_member m d)
    varchar_lines (declarator stars name ds i) = ap₂ (λ f z. f z) (ap₂ (varchar_chunks stars name) (last_lines ds) (outer_lines ds)) (initializer_lines i)

    last_lines : (ds : DimList) → dims_chunks (last_dim (written_dims n ds)) ≡ dims_chunks (last_dim (written_dims m ds))
    last_lines no_dims = refl
    last_lines (dims d no_dims) = ap (λ x. (mark p.LeftBracket ∷ x ++ mark p.RightBracket ∷ []) ++ []) (dim_lines d)
    last_lines (dims d (dims e es)) = last_lines (dims e es)

    outer_lines : (ds : DimList) → dims_chunks (outer_dims (written_dims n ds)) ≡ dims_chunks (outer_dims (written_dims m ds))
    outer_lines no_dims = refl
    outer_lines (dims d no_dims) = refl
    outer_lines (dims d (dims e es)) = ap₂ (λ x y. (mark p.LeftBracket ∷ x ++ mark p.RightBracket ∷ []) ++ y) (dim_lines d) (outer_lines (dims e es))

    dim_lines : (d : DimData) → dim_chunks (written_dim n d) ≡ dim_chunks (written_dim m d)
    dim_lines open_dim = refl
    dim_lines (dim e) = place_lines (ranked or_rank) e (expr_lines e)

    dims_lines : (ds : DimList) → dims_chunks (written_dims n ds) ≡ dims_chunks (written_dims m ds)
    dims_lines no_dims = refl
    dims_lines (dims d ds) = ap₂ (λ x y. (mark p.LeftBracket ∷ x ++ mark p.RightBracket ∷ []) ++ y) (dim_lines d) (dims_lines ds)

    init_lines : (i : InitData) → init_chunks (written_init n i) ≡ init_chunks (written_init m i)
    init_lines (one e) = expr_lines e
    init_lines (many is) = ap (λ x. mark p.LeftBrace ∷ x ++ mark p.RightBrace ∷ []) (inits_lines is)

    inits_lines : (is : InitList) → inits_chunks (written_inits n is) ≡ inits_chunks (written_inits m is)
    inits_lines no_inits = refl
    inits_lines (inits i is) = ap₂ (λ x y. x ++ y) (init_lines i) (more_inits_lines is)

    more_inits_lines : (is : InitList) → more_inits_chunks (written_inits n is) ≡ more_inits_chunks (written_inits m is)
    more_inits_lines no_inits = refl
    more_inits_lines (inits i is) = ap₂ (λ x y. mark p.Comma ∷ blank ∷ x ++ y) (init_lines i) (more_inits_lines is)

    initializer_lines : (i : InitOption) → initializer_chunks (written_initializer n i) ≡ initializer_chunks (written_initializer m i)
    initializer_lines no_init = refl
    initializer_lines (some_init i) = ap (λ x. blank ∷ mark p.Assign ∷ blank ∷ x) (init_lines i)

    declarator_lines : (d : DeclaratorData) → declarator_chunks (written_declarator n d) ≡ declarator_chunks (written_declarator m d)
    declarator_lines (declarator stars name ds i) = ap₂ (λ x y. star_chunks stars ++ (word name ∷ x ++ y)) (dims_lines ds) (initializer_lines i)

    more_declarators_lines : (ds : DeclaratorList) → more_declarators_chunks (written_declarators n ds) ≡ more_declarators_chunks (written_declarators m ds)
    more_declarators_lines no_declarators = refl
    more_declarators_lines (declarators d ds) = ap₂ (λ x y. mark p.Comma ∷ blank ∷ x ++ y) (declarator_lines d) (more_declarators_lines ds)

    declarators_lines : (ds : DeclaratorList) → declarators_chunks (written_declarators n ds) ≡ declarators_chunks (written_declarators m ds)
    declarators_lines no_declarators = refl
    declarators_lines (declarators d ds) = ap₂ (λ x y. blank ∷ x ++ y) (declarator_lines d) (more_declarators_lines ds)

  -- a condition that is written as on one line is written so on each
  pub condition_lines : {old new : Text} (e : ExprData) → Writes old new (blank ∷ in_parens (expr_chunks (written_expr n e))) → Writes old new (blank ∷ in_parens (expr_chunks (written_expr m e)))
  condition_lines {old} {new} e w = subst (λ cs. Writes old new (blank ∷ in_parens cs)) (expr_lines e) w
