-- The last of several array lengths, and those before it.
use Rattle.std.proofs.Common.{◌≡◌, refl, ap, sym, ◌∙◌, List, [], ◌∷◌, ◌++◌, map, Option}
use Rattle.std.proofs.lemmas.List.{map-append}
use Rattle.ec_ctypes.specs.declared.tree.expr.Expr.{Expr}
use Rattle.ec_ctypes.specs.trees.Exprs.{ExprData, dims, no_dims}
use Rattle.ec_ctypes.specs.views.Exprs.{dim_of, dims_of, dims_view, expr_option_view}
use Rattle.ec_expansion_defs.specs.Declarations.{outer_dims, last_dim}

outer_behind : (xs : List (Option ExprData)) → (x : Option ExprData) → outer_dims (dims_of (xs ++ x ∷ [])) ≡ dims_of xs
outer_behind [] x = refl
outer_behind (y ∷ []) x = refl
outer_behind (y ∷ z ∷ zs) x = ap (dims (dim_of y)) (outer_behind (z ∷ zs) x)

last_behind : (xs : List (Option ExprData)) → (x : Option ExprData) → last_dim (dims_of (xs ++ x ∷ [])) ≡ dims (dim_of x) no_dims
last_behind [] x = refl
last_behind (y ∷ []) x = refl
last_behind (y ∷ z ∷ zs) x = last_behind (z ∷ zs) x

views_behind : (xs : List (Option Expr)) → (x : Option Expr) → dims_view (xs ++ x ∷ []) ≡ dims_of (map expr_option_view xs ++ expr_option_view x ∷ [])
views_behind xs x = ap dims_of (map-append expr_option_view xs (x ∷ []))

pub outer_popped : (old new : List (Option Expr)) → (x : Option Expr) → old ≡ new ++ x ∷ [] → dims_view new ≡ outer_dims (dims_view old)
outer_popped old new x e = sym (ap (λ ds. outer_dims (dims_view ds)) e ∙ ap outer_dims (views_behind new x) ∙ outer_behind (map expr_option_view new) (expr_option_view x))

pub last_popped : (old new : List (Option Expr)) → (x : Option Expr) → old ≡ new ++ x ∷ [] → dims_view (x ∷ []) ≡ last_dim (dims_view old)
last_popped old new x e = sym (ap (λ ds. last_dim (dims_view ds)) e ∙ ap last_dim (views_behind new x) ∙ last_behind (map expr_option_view new) (expr_option_view x))
