-- Trees as their views show them.
use Rattle.std.proofs.Common.{◌≡◌, ◌∙◌, List, [], ◌∷◌, map, Option, Some, None, refl, ap, rules}
use Rattle.ec_ctypes.specs.declared.tree.decl.Decl.{Decl}
use Rattle.ec_ctypes.specs.declared.tree.decl.Decl as a
use Rattle.ec_ctypes.specs.declared.tree.decl.Declarator.{Declarator}
use Rattle.ec_ctypes.specs.declared.tree.decl.Declarator as b
use Rattle.ec_ctypes.specs.declared.tree.decl.Base.TheShapes.{former-Declarator-dims-at-1, former-Declarator-init}
use Rattle.ec_ctypes.specs.declared.tree.expr.Expr.{Expr}
use Rattle.ec_ctypes.specs.declared.tree.decl.Init.{Init}
use Rattle.ec_ctypes.specs.trees.Exprs.{ExprData, InitData, dims, DeclData, decl, DeclaratorData, declarator}
use Rattle.ec_ctypes.specs.views.Exprs.{expr_view, dims_of, dims_view, init_of, init_view, init_option_view, base_view, decl_view, declarator_view, declarators_view, dim_of}

-- ---- declarations and declarators, seen

pub decl_seen : (d : Decl) → decl_view d ≡ decl (base_view (a.out-Decl d).base) (declarators_view (a.out-Decl d).items) (a.out-Decl d).section (a.out-Decl d).line
decl_seen d = search (rules, a.the_lemmas)

dims_seen : (ds : List (Option Expr)) → dims_of (map (former-Declarator-dims-at-1.map Expr ExprData expr_view) ds) ≡ dims_view ds
dims_seen [] = refl
dims_seen (None ∷ ds) = ap (dims (dim_of None)) (dims_seen ds)
dims_seen (Some e ∷ ds) = ap (dims (dim_of (Some (expr_view e)))) (dims_seen ds)

init_seen : (x : Option Init) → init_of (former-Declarator-init.map Init InitData init_view x) ≡ init_option_view x
init_seen None = refl
init_seen (Some x) = refl

pub declarator_seen : (d : Declarator) → declarator_view d ≡ declarator (b.out-Declarator d).stars (b.out-Declarator d).name (dims_view (b.out-Declarator d).dims) (init_option_view (b.out-Declarator d).init)
declarator_seen d =
    let o = b.out-Declarator d in
    let step : declarator_view d ≡ declarator o.stars o.name (dims_of (map (former-Declarator-dims-at-1.map Expr ExprData expr_view) o.dims)) (init_of (former-Declarator-init.map Init InitData init_view o.init)) = search (rules, b.the_lemmas) in
    step ∙ (λ i. declarator o.stars o.name (dims_seen o.dims i) (init_seen o.init i))

pub ruleset seeing = (decl_seen, declarator_seen)
