-- Expressions and declarations from their data.
use Rattle.std.proofs.Common.{◌≡◌, refl, ◌∙◌, ap, subst, List, [], ◌∷◌, map}
use Rattle.std.specs.Prelude.{Option, Some, None}
use Rattle.ec_ctypes.specs.declared.tree.decl.Base.{Base, roll-Base, map-Base, fold-roll-Base, ind-Base}
use Rattle.ec_ctypes.specs.declared.tree.decl.Base.TheOpen.{Base-F, Init-F, Expr-F, Decl-F, Declarator-F}
use Rattle.ec_ctypes.specs.declared.tree.decl.Base.TheShapes.{former-Declarator-dims-at-1, former-Declarator-init}
use Rattle.ec_ctypes.specs.declared.tree.decl.Decl.{Decl, roll-Decl, map-Decl, fold-roll-Decl, ind-Decl}
use Rattle.ec_ctypes.specs.declared.tree.decl.Declarator.{Declarator, roll-Declarator, map-Declarator, fold-roll-Declarator, ind-Declarator}
use Rattle.ec_ctypes.specs.declared.tree.decl.Init.{Init, roll-Init, map-Init, fold-roll-Init, ind-Init}
use Rattle.ec_ctypes.specs.declared.tree.expr.Expr.{Expr, roll-Expr, map-Expr, fold-roll-Expr, ind-Expr}
use Rattle.ec_ctypes.specs.trees.Exprs.{ExprData, integer, character, string, identifier, unary, binary, assign, bump, call, call_other, index, member, arrow, cast, size_type, size_expr, ExprList, no_exprs, exprs, BaseData, words, varchar, tagged, struct_base, DimData, open_dim, dim, DimList, no_dims, dims, InitData, one, many, InitList, no_inits, inits, InitOption, no_init, some_init, DeclaratorData, declarator, DeclaratorList, no_declarators, declarators, DeclData, decl, DeclList, no_decls, decls}
use Rattle.ec_ctypes.specs.views.Exprs.{exprs_of, dim_of, dims_of, inits_of, init_of, declarators_of, decls_of, base_step, init_step, expr_step, decl_step, declarator_step, base_view, init_view, expr_view, decl_view, declarator_view, expr_option_view, exprs_view, dims_view, inits_view, init_option_view, declarators_view, decls_view}
use Rattle.ec_ctypes.proofs.Undone.{undone_same}
use Rattle.ec_ctypes.proofs.TypesBack.{ty_back, ty_undone}

-- the tree that has this data
abbrev mutual
  pub expr_back : ExprData → Expr
  expr_back (integer n t) = roll-Expr (Expr-F.Int n (ty_back t))
  expr_back (character c) = roll-Expr (Expr-F.Char c)
  expr_back (string s) = roll-Expr (Expr-F.Str s)
  expr_back (identifier x) = roll-Expr (Expr-F.Name x)
  expr_back (unary op a) = roll-Expr (Expr-F.Unary op (expr_back a))
  expr_back (binary op a b) = roll-Expr (Expr-F.Binary op (expr_back a) (expr_back b))
  expr_back (assign op a b) = roll-Expr (Expr-F.Assign op (expr_back a) (expr_back b))
  expr_back (bump before up a) = roll-Expr (Expr-F.Bump before up (expr_back a))
  expr_back (call f es) = roll-Expr (Expr-F.Call f (exprs_back es))
  expr_back (call_other f es) = roll-Expr (Expr-F.CallOther (expr_back f) (exprs_back es))
  expr_back (index a b) = roll-Expr (Expr-F.Index (expr_back a) (expr_back b))
  expr_back (member a m) = roll-Expr (Expr-F.Member (expr_back a) m)
  expr_back (arrow a m) = roll-Expr (Expr-F.Arrow (expr_back a) m)
  expr_back (cast b stars a) = roll-Expr (Expr-F.Cast (base_back b) stars (expr_back a))
  expr_back (size_type b stars) = roll-Expr (Expr-F.SizeType (base_back b) stars)
  expr_back (size_expr a) = roll-Expr (Expr-F.SizeExpr (expr_back a))

  pub exprs_back : ExprList → List Expr
  exprs_back no_exprs = []
  exprs_back (exprs e es) = expr_back e ∷ exprs_back es

  pub base_back : BaseData → Base
  base_back (words ws) = roll-Base (Base-F.Words ws)
  base_back varchar = roll-Base Base-F.Varchar
  base_back (tagged t) = roll-Base (Base-F.Tag t)
  base_back (struct_base t ds) = roll-Base (Base-F.Struct t (decls_back ds))

  pub dim_back : DimData → Option Expr
  dim_back open_dim = None
  dim_back (dim e) = Some (expr_back e)

  pub dims_back : DimList → List (Option Expr)
  dims_back no_dims = []
  dims_back (dims d ds) = dim_back d ∷ dims_back ds

  pub init_back : InitData → Init
  init_back (one e) = roll-Init (Init-F.One (expr_back e))
  init_back (many is) = roll-Init (Init-F.Many (inits_back is))

  pub inits_back : InitList → List Init
  inits_back no_inits = []
  inits_back (inits i is) = init_back i ∷ inits_back is

  pub init_option_back : InitOption → Option Init
  init_option_back no_init = None
  init_option_back (some_init i) = Some (init_back i)

  pub declarator_back : DeclaratorData → Declarator
  declarator_back (declarator stars name ds i) = roll-Declarator (record { stars = stars; name = name; dims = dims_back ds; init = init_option_back i })

  pub declarators_back : DeclaratorList → List Declarator
  declarators_back no_declarators = []
  declarators_back (declarators d ds) = declarator_back d ∷ declarators_back ds

  pub decl_back : DeclData → Decl
  decl_back (decl b ds section line) = roll-Decl (record { base = base_back b; items = declarators_back ds; section = section; line = line })

  pub decls_back : DeclList → List Decl
  decls_back no_decls = []
  decls_back (decls d ds) = decl_back d ∷ decls_back ds

-- the view of this tree can be undone
abbrev BaseUndone : Base → Type 0
BaseUndone b = base_back (base_view b) ≡ b

abbrev InitUndone : Init → Type 0
InitUndone x = init_back (init_view x) ≡ x

abbrev ExprUndone : Expr → Type 0
ExprUndone e = expr_back (expr_view e) ≡ e

abbrev DeclUndone : Decl → Type 0
DeclUndone d = decl_back (decl_view d) ≡ d

abbrev DeclaratorUndone : Declarator → Type 0
DeclaratorUndone d = declarator_back (declarator_view d) ≡ d

-- a tree, with the proof that its view can be undone
abbrev BaseSuch : Type 0
BaseSuch = (b : Base) × BaseUndone b

abbrev InitSuch : Type 0
InitSuch = (x : Init) × InitUndone x

abbrev ExprSuch : Type 0
ExprSuch = (e : Expr) × ExprUndone e

abbrev DeclSuch : Type 0
DeclSuch = (d : Decl) × DeclUndone d

abbrev DeclaratorSuch : Type 0
DeclaratorSuch = (d : Declarator) × DeclaratorUndone d

-- lists and options, from those of trees with their proofs
exprs_such : (es : List ExprSuch) → exprs_back (exprs_of (map expr_view (map (λ e. e.0) es))) ≡ map (λ e. e.0) es
exprs_such [] = refl
exprs_such (e ∷ es) = λ i. e.1 i ∷ exprs_such es i

-- the optional array lengths and initializers of a declarator, as a fold goes through them
abbrev dim_map : (X : Type 0) → (Y : Type 0) → (X → Y) → Option X → Option Y
dim_map = former-Declarator-dims-at-1.map

abbrev init_map : (X : Type 0) → (Y : Type 0) → (X → Y) → Option X → Option Y
init_map = former-Declarator-init.map

dim_such : (d : Option ExprSuch) → dim_back (dim_of (dim_map Expr ExprData expr_view (dim_map ExprSuch Expr (λ e. e.0) d))) ≡ dim_map ExprSuch Expr (λ e. e.0) d
dim_such None = refl
dim_such (Some e) = λ i. Some (e.1 i)

dims_such : (ds : List (Option ExprSuch)) → dims_back (dims_of (map (dim_map Expr ExprData expr_view) (map (dim_map ExprSuch Expr (λ e. e.0)) ds))) ≡ map (dim_map ExprSuch Expr (λ e. e.0)) ds
dims_such [] = refl
dims_such (d ∷ ds) = λ i. dim_such d i ∷ dims_such ds i

inits_such : (xs : List InitSuch) → inits_back (inits_of (map init_view (map (λ e. e.0) xs))) ≡ map (λ e. e.0) xs
inits_such [] = refl
inits_such (x ∷ xs) = λ i. x.1 i ∷ inits_such xs i

init_such : (x : Option InitSuch) → init_option_back (init_of (init_map Init InitData init_view (init_map InitSuch Init (λ e. e.0) x))) ≡ init_map InitSuch Init (λ e. e.0) x
init_such None = refl
init_such (Some x) = λ i. Some (x.1 i)

declarators_such : (ds : List DeclaratorSuch) → declarators_back (declarators_of (map declarator_view (map (λ e. e.0) ds))) ≡ map (λ e. e.0) ds
declarators_such [] = refl
declarators_such (d ∷ ds) = λ i. d.1 i ∷ declarators_such ds i

decls_such : (ds : List DeclSuch) → decls_back (decls_of (map decl_view (map (λ e. e.0) ds))) ≡ map (λ e. e.0) ds
decls_such [] = refl
decls_such (d ∷ ds) = λ i. d.1 i ∷ decls_such ds i

-- a layer of trees without their proofs
abbrev bare_base : Base-F BaseSuch InitSuch ExprSuch DeclSuch DeclaratorSuch → Base-F Base Init Expr Decl Declarator
bare_base = map-Base BaseSuch InitSuch ExprSuch DeclSuch DeclaratorSuch Base Init Expr Decl Declarator (λ e. e.0) (λ e. e.0) (λ e. e.0) (λ e. e.0) (λ e. e.0)

abbrev bare_init : Init-F BaseSuch InitSuch ExprSuch DeclSuch DeclaratorSuch → Init-F Base Init Expr Decl Declarator
bare_init = map-Init BaseSuch InitSuch ExprSuch DeclSuch DeclaratorSuch Base Init Expr Decl Declarator (λ e. e.0) (λ e. e.0) (λ e. e.0) (λ e. e.0) (λ e. e.0)

abbrev bare_expr : Expr-F BaseSuch InitSuch ExprSuch DeclSuch DeclaratorSuch → Expr-F Base Init Expr Decl Declarator
bare_expr = map-Expr BaseSuch InitSuch ExprSuch DeclSuch DeclaratorSuch Base Init Expr Decl Declarator (λ e. e.0) (λ e. e.0) (λ e. e.0) (λ e. e.0) (λ e. e.0)

abbrev bare_decl : Decl-F BaseSuch InitSuch ExprSuch DeclSuch DeclaratorSuch → Decl-F Base Init Expr Decl Declarator
bare_decl = map-Decl BaseSuch InitSuch ExprSuch DeclSuch DeclaratorSuch Base Init Expr Decl Declarator (λ e. e.0) (λ e. e.0) (λ e. e.0) (λ e. e.0) (λ e. e.0)

abbrev bare_declarator : Declarator-F BaseSuch InitSuch ExprSuch DeclSuch DeclaratorSuch → Declarator-F Base Init Expr Decl Declarator
bare_declarator = map-Declarator BaseSuch InitSuch ExprSuch DeclSuch DeclaratorSuch Base Init Expr Decl Declarator (λ e. e.0) (λ e. e.0) (λ e. e.0) (λ e. e.0) (λ e. e.0)

-- a layer of data, from one of trees
abbrev seen_base : Base-F Base Init Expr Decl Declarator → Base-F BaseData InitData ExprData DeclData DeclaratorData
seen_base = map-Base Base Init Expr Decl Declarator BaseData InitData ExprData DeclData DeclaratorData base_view init_view expr_view decl_view declarator_view

abbrev seen_init : Init-F Base Init Expr Decl Declarator → Init-F BaseData InitData ExprData DeclData DeclaratorData
seen_init = map-Init Base Init Expr Decl Declarator BaseData InitData ExprData DeclData DeclaratorData base_view init_view expr_view decl_view declarator_view

abbrev seen_expr : Expr-F Base Init Expr Decl Declarator → Expr-F BaseData InitData ExprData DeclData DeclaratorData
seen_expr = map-Expr Base Init Expr Decl Declarator BaseData InitData ExprData DeclData DeclaratorData base_view init_view expr_view decl_view declarator_view

abbrev seen_decl : Decl-F Base Init Expr Decl Declarator → Decl-F BaseData InitData ExprData DeclData DeclaratorData
seen_decl = map-Decl Base Init Expr Decl Declarator BaseData InitData ExprData DeclData DeclaratorData base_view init_view expr_view decl_view declarator_view

abbrev seen_declarator : Declarator-F Base Init Expr Decl Declarator → Declarator-F BaseData InitData ExprData DeclData DeclaratorData
seen_declarator = map-Declarator Base Init Expr Decl Declarator BaseData InitData ExprData DeclData DeclaratorData base_view init_view expr_view decl_view declarator_view

-- one layer of each type
base_layer : (y : Base-F BaseSuch InitSuch ExprSuch DeclSuch DeclaratorSuch) → base_back (base_step (seen_base (bare_base y))) ≡ roll-Base (bare_base y)
base_layer (Base-F.Words ws) = refl
base_layer Base-F.Varchar = refl
base_layer (Base-F.Tag t) = refl
base_layer (Base-F.Struct t ds) = λ i. roll-Base (Base-F.Struct t (decls_such ds i))

init_layer : (y : Init-F BaseSuch InitSuch ExprSuch DeclSuch DeclaratorSuch) → init_back (init_step (seen_init (bare_init y))) ≡ roll-Init (bare_init y)
init_layer (Init-F.One e) = λ i. roll-Init (Init-F.One (e.1 i))
init_layer (Init-F.Many xs) = λ i. roll-Init (Init-F.Many (inits_such xs i))

expr_layer : (y : Expr-F BaseSuch InitSuch ExprSuch DeclSuch DeclaratorSuch) → expr_back (expr_step (seen_expr (bare_expr y))) ≡ roll-Expr (bare_expr y)
expr_layer (Expr-F.Int n t) = λ i. roll-Expr (Expr-F.Int n (ty_undone t i))
expr_layer (Expr-F.Char c) = refl
expr_layer (Expr-F.Str s) = refl
expr_layer (Expr-F.Name x) = refl
expr_layer (Expr-F.Unary op a) = λ i. roll-Expr (Expr-F.Unary op (a.1 i))
expr_layer (Expr-F.Binary op a b) = λ i. roll-Expr (Expr-F.Binary op (a.1 i) (b.1 i))
expr_layer (Expr-F.Assign op a b) = λ i. roll-Expr (Expr-F.Assign op (a.1 i) (b.1 i))
expr_layer (Expr-F.Bump before up a) = λ i. roll-Expr (Expr-F.Bump before up (a.1 i))
expr_layer (Expr-F.Call f es) = λ i. roll-Expr (Expr-F.Call f (exprs_such es i))
expr_layer (Expr-F.CallOther f es) = λ i. roll-Expr (Expr-F.CallOther (f.1 i) (exprs_such es i))
expr_layer (Expr-F.Index a b) = λ i. roll-Expr (Expr-F.Index (a.1 i) (b.1 i))
expr_layer (Expr-F.Member a m) = λ i. roll-Expr (Expr-F.Member (a.1 i) m)
expr_layer (Expr-F.Arrow a m) = λ i. roll-Expr (Expr-F.Arrow (a.1 i) m)
expr_layer (Expr-F.Cast b stars a) = λ i. roll-Expr (Expr-F.Cast (b.1 i) stars (a.1 i))
expr_layer (Expr-F.SizeType b stars) = λ i. roll-Expr (Expr-F.SizeType (b.1 i) stars)
expr_layer (Expr-F.SizeExpr a) = λ i. roll-Expr (Expr-F.SizeExpr (a.1 i))

decl_layer : (y : Decl-F BaseSuch InitSuch ExprSuch DeclSuch DeclaratorSuch) → decl_back (decl_step (seen_decl (bare_decl y))) ≡ roll-Decl (bare_decl y)
decl_layer y = λ i. roll-Decl (record { base = y.base.1 i; items = declarators_such y.items i; section = y.section; line = y.line })

declarator_layer : (y : Declarator-F BaseSuch InitSuch ExprSuch DeclSuch DeclaratorSuch) → declarator_back (declarator_step (seen_declarator (bare_declarator y))) ≡ roll-Declarator (bare_declarator y)
declarator_layer y = λ i. roll-Declarator (record { stars = y.stars; name = y.name; dims = dims_such y.dims i; init = init_such y.init i })

-- the steps of the induction
base_rolled : (x : Base-F Base Init Expr Decl Declarator) → (y : Base-F BaseSuch InitSuch ExprSuch DeclSuch DeclaratorSuch) → bare_base y ≡ x → BaseUndone (roll-Base x)
base_rolled x y is = subst (λ z. BaseUndone (roll-Base z)) is (ap base_back (fold-roll-Base BaseData InitData ExprData DeclData DeclaratorData base_step init_step expr_step decl_step declarator_step (bare_base y)) ∙ base_layer y)

init_rolled : (x : Init-F Base Init Expr Decl Declarator) → (y : Init-F BaseSuch InitSuch ExprSuch DeclSuch DeclaratorSuch) → bare_init y ≡ x → InitUndone (roll-Init x)
init_rolled x y is = subst (λ z. InitUndone (roll-Init z)) is (ap init_back (fold-roll-Init BaseData InitData ExprData DeclData DeclaratorData base_step init_step expr_step decl_step declarator_step (bare_init y)) ∙ init_layer y)

expr_rolled : (x : Expr-F Base Init Expr Decl Declarator) → (y : Expr-F BaseSuch InitSuch ExprSuch DeclSuch DeclaratorSuch) → bare_expr y ≡ x → ExprUndone (roll-Expr x)
expr_rolled x y is = subst (λ z. ExprUndone (roll-Expr z)) is (ap expr_back (fold-roll-Expr BaseData InitData ExprData DeclData DeclaratorData base_step init_step expr_step decl_step declarator_step (bare_expr y)) ∙ expr_layer y)

decl_rolled : (x : Decl-F Base Init Expr Decl Declarator) → (y : Decl-F BaseSuch InitSuch ExprSuch DeclSuch DeclaratorSuch) → bare_decl y ≡ x → DeclUndone (roll-Decl x)
decl_rolled x y is = subst (λ z. DeclUndone (roll-Decl z)) is (ap decl_back (fold-roll-Decl BaseData InitData ExprData DeclData DeclaratorData base_step init_step expr_step decl_step declarator_step (bare_decl y)) ∙ decl_layer y)

declarator_rolled : (x : Declarator-F Base Init Expr Decl Declarator) → (y : Declarator-F BaseSuch InitSuch ExprSuch DeclSuch DeclaratorSuch) → bare_declarator y ≡ x → DeclaratorUndone (roll-Declarator x)
declarator_rolled x y is = subst (λ z. DeclaratorUndone (roll-Declarator z)) is (ap declarator_back (fold-roll-Declarator BaseData InitData ExprData DeclData DeclaratorData base_step init_step expr_step decl_step declarator_step (bare_declarator y)) ∙ declarator_layer y)

-- the data of a tree has no other tree
pub base_undone : (b : Base) → base_back (base_view b) ≡ b
base_undone = ind-Base BaseUndone InitUndone ExprUndone DeclUndone DeclaratorUndone base_rolled init_rolled expr_rolled decl_rolled declarator_rolled

pub init_undone : (x : Init) → init_back (init_view x) ≡ x
init_undone = ind-Init BaseUndone InitUndone ExprUndone DeclUndone DeclaratorUndone base_rolled init_rolled expr_rolled decl_rolled declarator_rolled

pub expr_undone : (e : Expr) → expr_back (expr_view e) ≡ e
expr_undone = ind-Expr BaseUndone InitUndone ExprUndone DeclUndone DeclaratorUndone base_rolled init_rolled expr_rolled decl_rolled declarator_rolled

pub decl_undone : (d : Decl) → decl_back (decl_view d) ≡ d
decl_undone = ind-Decl BaseUndone InitUndone ExprUndone DeclUndone DeclaratorUndone base_rolled init_rolled expr_rolled decl_rolled declarator_rolled

pub declarator_undone : (d : Declarator) → declarator_back (declarator_view d) ≡ d
declarator_undone = ind-Declarator BaseUndone InitUndone ExprUndone DeclUndone DeclaratorUndone base_rolled init_rolled expr_rolled decl_rolled declarator_rolled

-- lists and options of them
abbrev pub expr_option_back : Option ExprData → Option Expr
expr_option_back None = None
expr_option_back (Some e) = Some (expr_back e)

pub expr_option_undone : (e : Option Expr) → expr_option_back (expr_option_view e) ≡ e
expr_option_undone None = refl
expr_option_undone (Some e) = λ i. Some (expr_undone e i)

pub exprs_undone : (es : List Expr) → exprs_back (exprs_view es) ≡ es
exprs_undone [] = refl
exprs_undone (e ∷ es) = λ i. expr_undone e i ∷ exprs_undone es i

pub dims_undone : (ds : List (Option Expr)) → dims_back (dims_view ds) ≡ ds
dims_undone [] = refl
dims_undone (None ∷ ds) = λ i. None ∷ dims_undone ds i
dims_undone (Some e ∷ ds) = λ i. Some (expr_undone e i) ∷ dims_undone ds i

pub inits_undone : (xs : List Init) → inits_back (inits_view xs) ≡ xs
inits_undone [] = refl
inits_undone (x ∷ xs) = λ i. init_undone x i ∷ inits_undone xs i

pub init_option_undone : (x : Option Init) → init_option_back (init_option_view x) ≡ x
init_option_undone None = refl
init_option_undone (Some x) = λ i. Some (init_undone x i)

pub declarators_undone : (ds : List Declarator) → declarators_back (declarators_view ds) ≡ ds
declarators_undone [] = refl
declarators_undone (d ∷ ds) = λ i. declarator_undone d i ∷ declarators_undone ds i

pub decls_undone : (ds : List Decl) → decls_back (decls_view ds) ≡ ds
decls_undone [] = refl
decls_undone (d ∷ ds) = λ i. decl_undone d i ∷ decls_undone ds i

-- where two have one view, they are one
pub same_base : (a : Base) → (b : Base) → base_view a ≡ base_view b → a ≡ b
same_base = undone_same base_view base_back base_undone

pub same_init : (a : Init) → (b : Init) → init_view a ≡ init_view b → a ≡ b
same_init = undone_same init_view init_back init_undone

pub same_expr : (a : Expr) → (b : Expr) → expr_view a ≡ expr_view b → a ≡ b
same_expr = undone_same expr_view expr_back expr_undone

pub same_decl : (a : Decl) → (b : Decl) → decl_view a ≡ decl_view b → a ≡ b
same_decl = undone_same decl_view decl_back decl_undone

pub same_declarator : (a : Declarator) → (b : Declarator) → declarator_view a ≡ declarator_view b → a ≡ b
same_declarator = undone_same declarator_view declarator_back declarator_undone

pub same_expr_option : (a : Option Expr) → (b : Option Expr) → expr_option_view a ≡ expr_option_view b → a ≡ b
same_expr_option = undone_same expr_option_view expr_option_back expr_option_undone

pub same_exprs : (a : List Expr) → (b : List Expr) → exprs_view a ≡ exprs_view b → a ≡ b
same_exprs = undone_same exprs_view exprs_back exprs_undone

pub same_dims : (a : List (Option Expr)) → (b : List (Option Expr)) → dims_view a ≡ dims_view b → a ≡ b
same_dims = undone_same dims_view dims_back dims_undone

pub same_inits : (a : List Init) → (b : List Init) → inits_view a ≡ inits_view b → a ≡ b
same_inits = undone_same inits_view inits_back inits_undone

pub same_init_option : (a : Option Init) → (b : Option Init) → init_option_view a ≡ init_option_view b → a ≡ b
same_init_option = undone_same init_option_view init_option_back init_option_undone

pub same_declarators : (a : List Declarator) → (b : List Declarator) → declarators_view a ≡ declarators_view b → a ≡ b
same_declarators = undone_same declarators_view declarators_back declarators_undone

pub same_decls : (a : List Decl) → (b : List Decl) → decls_view a ≡ decls_view b → a ≡ b
same_decls = undone_same decls_view decls_back decls_undone
