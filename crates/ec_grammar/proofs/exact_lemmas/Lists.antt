-- The lists of trees, seen as lists.
use Rattle.std.proofs.Common.{◌≡◌, List, [], ◌∷◌, Option, Some, None, refl, ap}
use Rattle.ec_ctypes.specs.trees.Exprs.{ExprData, ExprList, no_exprs, exprs, DimData, open_dim, dim, DimList, no_dims, dims, InitData, InitList, no_inits, inits, InitOption, no_init, some_init, DeclaratorData, DeclaratorList, no_declarators, declarators, DeclData, DeclList, no_decls, decls}
use Rattle.ec_ctypes.specs.trees.Stmts.{StmtData, StmtList, no_stmts, stmts}
use Rattle.ec_ctypes.specs.views.Exprs.{exprs_of, dim_of, dims_of, inits_of, init_of, declarators_of, decls_of}
use Rattle.ec_ctypes.specs.views.Stmts.{stmts_of}

abbrev pub exprs_in : ExprList → List ExprData
exprs_in no_exprs = []
exprs_in (exprs e es) = e ∷ exprs_in es

pub exprs_back : (es : ExprList) → exprs_of (exprs_in es) ≡ es
exprs_back no_exprs = refl
exprs_back (exprs e es) = ap (exprs e) (exprs_back es)

abbrev pub dim_in : DimData → Option ExprData
dim_in open_dim = None
dim_in (dim e) = Some e

abbrev pub dims_in : DimList → List (Option ExprData)
dims_in no_dims = []
dims_in (dims d ds) = dim_in d ∷ dims_in ds

dim_back : (d : DimData) → dim_of (dim_in d) ≡ d
dim_back open_dim = refl
dim_back (dim e) = refl

pub dims_back : (ds : DimList) → dims_of (dims_in ds) ≡ ds
dims_back no_dims = refl
dims_back (dims d ds) = λ i. dims (dim_back d i) (dims_back ds i)

abbrev pub inits_in : InitList → List InitData
inits_in no_inits = []
inits_in (inits x xs) = x ∷ inits_in xs

pub inits_back : (xs : InitList) → inits_of (inits_in xs) ≡ xs
inits_back no_inits = refl
inits_back (inits x xs) = ap (inits x) (inits_back xs)

abbrev pub init_in : InitOption → Option InitData
init_in no_init = None
init_in (some_init x) = Some x

pub init_back : (x : InitOption) → init_of (init_in x) ≡ x
init_back no_init = refl
init_back (some_init x) = refl

abbrev pub declarators_in : DeclaratorList → List DeclaratorData
declarators_in no_declarators = []
declarators_in (declarators x xs) = x ∷ declarators_in xs

pub declarators_back : (xs : DeclaratorList) → declarators_of (declarators_in xs) ≡ xs
declarators_back no_declarators = refl
declarators_back (declarators x xs) = ap (declarators x) (declarators_back xs)

abbrev pub decls_in : DeclList → List DeclData
decls_in no_decls = []
decls_in (decls x xs) = x ∷ decls_in xs

pub decls_back : (xs : DeclList) → decls_of (decls_in xs) ≡ xs
decls_back no_decls = refl
decls_back (decls x xs) = ap (decls x) (decls_back xs)

abbrev pub stmts_in : StmtList → List StmtData
stmts_in no_stmts = []
stmts_in (stmts x xs) = x ∷ stmts_in xs

pub stmts_back : (xs : StmtList) → stmts_of (stmts_in xs) ≡ xs
stmts_back no_stmts = refl
stmts_back (stmts x xs) = ap (stmts x) (stmts_back xs)
