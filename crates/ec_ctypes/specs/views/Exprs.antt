-- The data of expressions and declarations.
use Rattle.std.specs.Prelude.{List, [], ◌∷◌, map, Option, Some, None}
use Rattle.ec_ctypes.specs.declared.tree.decl.Base.{Base, fold-Base}
use Rattle.ec_ctypes.specs.declared.tree.decl.Base.TheOpen.{Base-F, Init-F, Expr-F, Decl-F, Declarator-F}
use Rattle.ec_ctypes.specs.declared.tree.decl.Decl.{Decl, fold-Decl}
use Rattle.ec_ctypes.specs.declared.tree.decl.Declarator.{Declarator, fold-Declarator}
use Rattle.ec_ctypes.specs.declared.tree.decl.Init.{Init, fold-Init}
use Rattle.ec_ctypes.specs.declared.tree.expr.Expr.{Expr, fold-Expr}
use Rattle.ec_ctypes.specs.trees.Exprs.{ExprData, integer, character, string, identifier, unary, binary, assign, bump, call, call_other, index, member, arrow, cast, size_type, size_expr, ExprList, no_exprs, exprs, BaseData, words, varchar, tagged, struct_base, DimData, open_dim, dim, DimList, no_dims, dims, InitData, one, many, InitList, no_inits, inits, InitOption, no_init, some_init, DeclaratorData, declarator, DeclaratorList, no_declarators, declarators, DeclData, decl, DeclList, no_decls, decls}
use Rattle.ec_ctypes.specs.views.Types.{ty_view}

abbrev pub exprs_of : List ExprData → ExprList
exprs_of [] = no_exprs
exprs_of (e ∷ es) = exprs e (exprs_of es)

abbrev pub dim_of : Option ExprData → DimData
dim_of None = open_dim
dim_of (Some e) = dim e

abbrev pub dims_of : List (Option ExprData) → DimList
dims_of [] = no_dims
dims_of (d ∷ ds) = dims (dim_of d) (dims_of ds)

abbrev pub inits_of : List InitData → InitList
inits_of [] = no_inits
inits_of (i ∷ is) = inits i (inits_of is)

abbrev pub init_of : Option InitData → InitOption
init_of None = no_init
init_of (Some i) = some_init i

abbrev pub declarators_of : List DeclaratorData → DeclaratorList
declarators_of [] = no_declarators
declarators_of (d ∷ ds) = declarators d (declarators_of ds)

abbrev pub decls_of : List DeclData → DeclList
decls_of [] = no_decls
decls_of (d ∷ ds) = decls d (decls_of ds)

-- one level of each type, with each tree inside already seen as its data
abbrev pub base_step : Base-F BaseData InitData ExprData DeclData DeclaratorData → BaseData
base_step (Base-F.Words ws) = words ws
base_step Base-F.Varchar = varchar
base_step (Base-F.Tag t) = tagged t
base_step (Base-F.Struct t ds) = struct_base t (decls_of ds)

abbrev pub init_step : Init-F BaseData InitData ExprData DeclData DeclaratorData → InitData
init_step (Init-F.One e) = one e
init_step (Init-F.Many is) = many (inits_of is)

abbrev pub expr_step : Expr-F BaseData InitData ExprData DeclData DeclaratorData → ExprData
expr_step (Expr-F.Int n t) = integer n (ty_view t)
expr_step (Expr-F.Char c) = character c
expr_step (Expr-F.Str s) = string s
expr_step (Expr-F.Name x) = identifier x
expr_step (Expr-F.Unary op a) = unary op a
expr_step (Expr-F.Binary op a b) = binary op a b
expr_step (Expr-F.Assign op a b) = assign op a b
expr_step (Expr-F.Bump before up a) = bump before up a
expr_step (Expr-F.Call f es) = call f (exprs_of es)
expr_step (Expr-F.CallOther f es) = call_other f (exprs_of es)
expr_step (Expr-F.Index a b) = index a b
expr_step (Expr-F.Member a m) = member a m
expr_step (Expr-F.Arrow a m) = arrow a m
expr_step (Expr-F.Cast b stars a) = cast b stars a
expr_step (Expr-F.SizeType b stars) = size_type b stars
expr_step (Expr-F.SizeExpr a) = size_expr a

abbrev pub decl_step : Decl-F BaseData InitData ExprData DeclData DeclaratorData → DeclData
decl_step d = decl d.base (declarators_of d.items) d.section d.line

abbrev pub declarator_step : Declarator-F BaseData InitData ExprData DeclData DeclaratorData →
    DeclaratorData
declarator_step d = declarator d.stars d.name (dims_of d.dims) (init_of d.init)

abbrev pub expr_view : Expr → ExprData
expr_view =
    fold-Expr BaseData InitData ExprData DeclData DeclaratorData
    base_step init_step expr_step decl_step declarator_step

abbrev pub base_view : Base → BaseData
base_view =
    fold-Base BaseData InitData ExprData DeclData DeclaratorData
    base_step init_step expr_step decl_step declarator_step

abbrev pub init_view : Init → InitData
init_view =
    fold-Init BaseData InitData ExprData DeclData DeclaratorData
    base_step init_step expr_step decl_step declarator_step

abbrev pub decl_view : Decl → DeclData
decl_view =
    fold-Decl BaseData InitData ExprData DeclData DeclaratorData
    base_step init_step expr_step decl_step declarator_step

abbrev pub declarator_view : Declarator → DeclaratorData
declarator_view =
    fold-Declarator BaseData InitData ExprData DeclData DeclaratorData
    base_step init_step expr_step decl_step declarator_step

-- lists and options of them
abbrev pub expr_option_view : Option Expr → Option ExprData
expr_option_view None = None
expr_option_view (Some e) = Some (expr_view e)

abbrev pub exprs_view : List Expr → ExprList
exprs_view es = exprs_of (map expr_view es)

abbrev pub dims_view : List (Option Expr) → DimList
dims_view ds = dims_of (map expr_option_view ds)

abbrev pub inits_view : List Init → InitList
inits_view is = inits_of (map init_view is)

abbrev pub init_option_view : Option Init → InitOption
init_option_view None = no_init
init_option_view (Some i) = some_init (init_view i)

abbrev pub declarators_view : List Declarator → DeclaratorList
declarators_view ds = declarators_of (map declarator_view ds)

abbrev pub decls_view : List Decl → DeclList
decls_view ds = decls_of (map decl_view ds)
