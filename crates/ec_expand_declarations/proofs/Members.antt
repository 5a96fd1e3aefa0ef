-- Lists of trees that grow at their end, as the trees of another list are written one by one.
use Rattle.std.proofs.Common.{◌≡◌, refl, ap, sym, ◌∙◌, List, [], ◌∷◌, ◌++◌, map, Option, Some, None, ℕ, true, false}
use Rattle.std.proofs.lemmas.List.{map-append, append_assoc, append-nil}
use Rattle.ec_ctypes.specs.declared.tree.expr.Expr.{Expr}
use Rattle.ec_ctypes.specs.declared.tree.decl.Init.{Init}
use Rattle.ec_ctypes.specs.declared.tree.decl.Decl.{Decl}
use Rattle.ec_ctypes.specs.declared.tree.decl.Declarator.{Declarator}
use Rattle.ec_ctypes.specs.trees.Exprs.{ExprData, exprs, words, varchar, tagged, struct_base, dims, InitData, inits, DeclaratorData, declarator, DeclaratorList, declarators, DeclData, decl, DeclList, no_decls, decls}
use Rattle.ec_ctypes.specs.views.Exprs.{exprs_of, dim_of, dims_of, inits_of, declarators_of, decls_of, exprs_view, dims_view, inits_view, declarators_view, decls_view, expr_view, init_view, declarator_view, decl_view, expr_option_view}
use Rattle.ec_expansion_defs.specs.Declarations as written
use Rattle.ec_expansion_defs.specs.Declarations.{joined_decls}
use Rattle.ec_expand_declarations.specs.Lists.{varchar_of, IsBehind, plain_decl, is_varchar_decl, items_of}

-- ---- a tree for each

-- what is done so far and what is left are the whole
abbrev pub Whole : {X A : Type 0} → (X → A) → (A → A) → List X → List X → List X → Type 0
Whole v f done left all = map v done ++ map f (map v left) ≡ map f (map v all)

pub one_more : {X A : Type 0} (v : X → A) (f : A → A) (done : List X) (x y : X) (left all rest : List X) → rest ≡ x ∷ left → v y ≡ f (v x) → Whole v f done rest all → Whole v f (done ++ y ∷ []) left all
one_more v f done x y left all rest r e whole =
    ap (λ ys. ys ++ map f (map v left)) (map-append v done (y ∷ []))
    ∙ append_assoc (map v done) (v y ∷ []) (map f (map v left))
    ∙ ap (λ z. map v done ++ z ∷ map f (map v left)) e
    ∙ ap (λ xs. map v done ++ map f (map v xs)) (sym r)
    ∙ whole

pub all_done : {X A : Type 0} (v : X → A) (f : A → A) (done all rest : List X) → rest ≡ [] → Whole v f done rest all → map v done ≡ map f (map v all)
all_done v f done all rest r whole = sym (append-nil (map v done)) ∙ ap (λ xs. map v done ++ map f (map v xs)) (sym r) ∙ whole

module _ (n : ℕ) where
  exprs_written : (xs : List ExprData) → exprs_of (map (written.written_expr n) xs) ≡ written.written_exprs n (exprs_of xs)
  exprs_written [] = refl
  exprs_written (x ∷ xs) = ap (exprs (written.written_expr n x)) (exprs_written xs)

  inits_written : (xs : List InitData) → inits_of (map (written.written_init n) xs) ≡ written.written_inits n (inits_of xs)
  inits_written [] = refl
  inits_written (x ∷ xs) = ap (inits (written.written_init n x)) (inits_written xs)

  declarators_written : (xs : List DeclaratorData) → declarators_of (map (written.written_declarator n) xs) ≡ written.written_declarators n (declarators_of xs)
  declarators_written [] = refl
  declarators_written (x ∷ xs) = ap (declarators (written.written_declarator n x)) (declarators_written xs)

  dims_written : (xs : List (Option ExprData)) → dims_of (map (written.written_option n) xs) ≡ written.written_dims n (dims_of xs)
  dims_written [] = refl
  dims_written (None ∷ xs) = ap (dims (dim_of None)) (dims_written xs)
  dims_written (Some e ∷ xs) = ap (dims (dim_of (Some (written.written_expr n e)))) (dims_written xs)

  pub exprs_done : (done all rest : List Expr) → rest ≡ [] → Whole expr_view (written.written_expr n) done rest all → exprs_view done ≡ written.written_exprs n (exprs_view all)
  exprs_done done all rest r w = ap exprs_of (all_done expr_view (written.written_expr n) done all rest r w) ∙ exprs_written (map expr_view all)

  pub inits_done : (done all rest : List Init) → rest ≡ [] → Whole init_view (written.written_init n) done rest all → inits_view done ≡ written.written_inits n (inits_view all)
  inits_done done all rest r w = ap inits_of (all_done init_view (written.written_init n) done all rest r w) ∙ inits_written (map init_view all)

  pub declarators_done : (done all rest : List Declarator) → rest ≡ [] → Whole declarator_view (written.written_declarator n) done rest all → declarators_view done ≡ written.written_declarators n (declarators_view all)
  declarators_done done all rest r w = ap declarators_of (all_done declarator_view (written.written_declarator n) done all rest r w) ∙ declarators_written (map declarator_view all)

  pub dims_done : (done all rest : List (Option Expr)) → rest ≡ [] → Whole expr_option_view (written.written_option n) done rest all → dims_view done ≡ written.written_dims n (dims_view all)
  dims_done done all rest r w = ap dims_of (all_done expr_option_view (written.written_option n) done all rest r w) ∙ dims_written (map expr_option_view all)

  -- ---- members

  pub varchar_is : (d : DeclaratorData) → varchar_of n None (written.written_declarator n d) ≡ written.varchar_member n d
  varchar_is (declarator stars name ds init) = refl

joined_behind : (xs : List DeclData) (d : DeclData) (rest : DeclList) → joined_decls (decls_of (xs ++ d ∷ [])) rest ≡ joined_decls (decls_of xs) (decls d rest)
joined_behind [] d rest = refl
joined_behind (x ∷ xs) d rest = ap (decls x) (joined_behind xs d rest)

pub joined_assoc : (as' bs cs : DeclList) → joined_decls (joined_decls as' bs) cs ≡ joined_decls as' (joined_decls bs cs)
joined_assoc no_decls bs cs = refl
joined_assoc (decls a as') bs cs = ap (decls a) (joined_assoc as' bs cs)

pub joined_none : (as' : DeclList) → joined_decls as' no_decls ≡ as'
joined_none no_decls = refl
joined_none (decls a as') = ap (decls a) (joined_none as')

-- one declaration more
pub pushed : (list : List Decl) (d : Decl) (rest : DeclList) → joined_decls (decls_view (list ++ d ∷ [])) rest ≡ joined_decls (decls_view list) (decls (decl_view d) rest)
pushed list d rest = ap (λ ds. joined_decls (decls_of ds) rest) (map-append decl_view list (d ∷ [])) ∙ joined_behind (map decl_view list) (decl_view d) rest

pub pushed_last : (list : List Decl) (d : Decl) → decls_view (list ++ d ∷ []) ≡ joined_decls (decls_view list) (decls (decl_view d) no_decls)
pushed_last list d = sym (joined_none (decls_view (list ++ d ∷ []))) ∙ pushed list d no_decls

-- ---- members, by what they are

module _ (n : ℕ) where
  plain_is : (m : DeclData) → is_varchar_decl m ≡ false → written.written_member n m ≡ decls (plain_decl n m) no_decls
  plain_is (decl (words ws) ds section line) p = refl
  plain_is (decl varchar ds section line) p = cc
  plain_is (decl (tagged t) ds section line) p = refl
  plain_is (decl (struct_base t ms) ds section line) p = refl

  varchars_are : (m : DeclData) → is_varchar_decl m ≡ true → written.written_member n m ≡ written.varchar_members_of n (items_of m)
  varchars_are (decl (words ws) ds section line) p = cc
  varchars_are (decl varchar ds section line) p = refl
  varchars_are (decl (tagged t) ds section line) p = cc
  varchars_are (decl (struct_base t ms) ds section line) p = cc

  pub plain_pushed : (list new : List Decl) (d : Decl) (m : DeclData) → new ≡ list ++ d ∷ [] → decl_view d ≡ plain_decl n m → is_varchar_decl m ≡ false → IsBehind list new (written.written_member n m)
  plain_pushed list new d m e v p =
      ap decls_view e ∙ pushed_last list d ∙ ap (λ x. joined_decls (decls_view list) (decls x no_decls)) v ∙ ap (joined_decls (decls_view list)) (sym (plain_is m p))

  pub varchars_pushed : (list new : List Decl) (m : DeclData) (items : DeclaratorList) → items ≡ items_of m → IsBehind list new (written.varchar_members_of n items) → is_varchar_decl m ≡ true → IsBehind list new (written.written_member n m)
  varchars_pushed list new m items i b p = b ∙ ap (joined_decls (decls_view list)) (ap (written.varchar_members_of n) i ∙ sym (varchars_are m p))

  -- one VARCHAR more
  pub varchar_step : (list new : List Decl) (d : Decl) (x y : Declarator) (left rest : List Declarator) (whole : DeclList)
      → new ≡ list ++ d ∷ [] → decl_view d ≡ varchar_of n None (declarator_view y) → declarator_view y ≡ written.written_declarator n (declarator_view x) → rest ≡ x ∷ left
      → joined_decls (decls_view list) (written.varchar_members_of n (declarators_view rest)) ≡ whole
      → joined_decls (decls_view new) (written.varchar_members_of n (declarators_view left)) ≡ whole
  varchar_step list new d x y left rest whole e v w r h =
      ap (λ l. joined_decls (decls_view l) (written.varchar_members_of n (declarators_view left))) e
      ∙ pushed list d (written.varchar_members_of n (declarators_view left))
      ∙ ap (λ z. joined_decls (decls_view list) (decls z (written.varchar_members_of n (declarators_view left)))) (v ∙ ap (varchar_of n None) w ∙ varchar_is n (declarator_view x))
      ∙ ap (λ l. joined_decls (decls_view list) (written.varchar_members_of n (declarators_view l))) (sym r)
      ∙ h

  -- one member more
  pub member_step : (list new : List Decl) (x : Decl) (left rest : List Decl) (whole : DeclList)
      → IsBehind list new (written.written_member n (decl_view x)) → rest ≡ x ∷ left
      → joined_decls (decls_view list) (written.written_members n (decls_view rest)) ≡ whole
      → joined_decls (decls_view new) (written.written_members n (decls_view left)) ≡ whole
  member_step list new x left rest whole b r h =
      ap (λ ds. joined_decls ds (written.written_members n (decls_view left))) b
      ∙ joined_assoc (decls_view list) (written.written_member n (decl_view x)) (written.written_members n (decls_view left))
      ∙ ap (λ l. joined_decls (decls_view list) (written.written_members n (decls_view l))) (sym r)
      ∙ h

  pub members_end : (list : List Decl) (rest : List Decl) (whole : DeclList) → rest ≡ [] → joined_decls (decls_view list) (written.written_members n (decls_view rest)) ≡ whole → decls_view list ≡ whole
  members_end list rest whole r h = sym (joined_none (decls_view list)) ∙ ap (λ l. joined_decls (decls_view list) (written.written_members n (decls_view l))) (sym r) ∙ h

  pub varchars_end : (list : List Decl) (rest : List Declarator) (whole : DeclList) → rest ≡ [] → joined_decls (decls_view list) (written.varchar_members_of n (declarators_view rest)) ≡ whole → decls_view list ≡ whole
  varchars_end list rest whole r h = sym (joined_none (decls_view list)) ∙ ap (λ l. joined_decls (decls_view list) (written.varchar_members_of n (declarators_view l))) (sym r) ∙ h
