-- Declarations and statements, seen.
use Rattle.std.proofs.Common.{◌≡◌, ◌∙◌, ◌≤◌, List, [], ◌∷◌, map, length, Option, Some, None, refl, ap, rules, arith}
use Rattle.ec_ctypes.specs.declared.tree.decl.Decl.{Decl}
use Rattle.ec_ctypes.specs.declared.tree.decl.Decl as a
use Rattle.ec_ctypes.specs.declared.tree.decl.Declarator.{Declarator}
use Rattle.ec_ctypes.specs.declared.tree.decl.Declarator as b
use Rattle.ec_ctypes.specs.declared.tree.decl.Base.TheShapes.{former-Declarator-dims-at-1, former-Declarator-init}
use Rattle.ec_ctypes.specs.declared.tree.expr.Expr.{Expr}
use Rattle.ec_ctypes.specs.declared.tree.decl.Init.{Init}
use Rattle.ec_ctypes.specs.declared.tree.stmt.Stmt.{Stmt}
use Rattle.ec_ctypes.specs.declared.tree.stmt.StmtKind as k
use Rattle.ec_ctypes.specs.declared.tree.stmt.StmtKind.TheVariants as kinds
use Rattle.ec_ctypes.specs.trees.Exprs.{ExprData, InitData, BaseData, words, varchar, tagged, struct_base, dims, decl, declarator}
use Rattle.ec_ctypes.specs.trees.Stmts.{StmtData, StmtOption, if_stmt}
use Rattle.ec_ctypes.specs.views.Exprs.{expr_view, dims_of, dims_view, init_of, init_view, init_option_view, base_view, decl_view, declarator_view, declarators_view, dim_of}
use Rattle.ec_ctypes.specs.views.Stmts.{stmt_view, kind_view, stmt_option_view}
use Rattle.ec_typing_defs.specs.Worlds.{Place, Rule, ◌>>◌, scoped}
use Rattle.ec_typing_defs.specs.Expressions.{base}
use Rattle.ec_typing_defs.specs.Statements.{Around, specifier, condition, statement, otherwise}

pub decl_seen : (d : Decl) → decl_view d ≡ decl (base_view (a.out-Decl d).base) (declarators_view (a.out-Decl d).items) (a.out-Decl d).section (a.out-Decl d).line
decl_seen d = search (rules, a.the_lemmas)

dims_seen : (ds : List (Option Expr)) → dims_of (map (former-Declarator-dims-at-1.map Expr ExprData expr_view) ds) ≡ dims_view ds
dims_seen [] = refl
dims_seen (None ∷ ds) = ap (dims (dim_of None)) (dims_seen ds)
dims_seen (Some e ∷ ds) = ap (dims (dim_of (Some (expr_view e)))) (dims_seen ds)

init_seen : (x : Option Init) → init_of (former-Declarator-init.map Init InitData init_view x) ≡ init_option_view x
init_seen None = refl
init_seen (Some x) = refl

pub declarator_seen : (d : Declarator) → declarator_view d ≡ declarator (b.out-Declarator d).stars (b.out-Declarator d).name (dims_view (b.out-Declarator d).dims) (init_option_view (b.out-Declarator d).init)
declarator_seen d =
    let o = b.out-Declarator d in
    let step : declarator_view d ≡ declarator o.stars o.name (dims_of (map (former-Declarator-dims-at-1.map Expr ExprData expr_view) o.dims)) (init_of (former-Declarator-init.map Init InitData init_view o.init)) = search (rules, b.the_lemmas) in
    step ∙ (λ i. declarator o.stars o.name (dims_seen o.dims i) (init_seen o.init i))

pub ruleset seeing = (decl_seen, declarator_seen)

-- where there are declarators, a declaration begins with a type
pub specifier_base : (at : Place) (b : BaseData) (ds : List Declarator) → 1 ≤ length ds → base at b ≡ specifier at b (declarators_view ds)
specifier_base at (words ws) ds h = refl
specifier_base at varchar ds h = refl
specifier_base at (tagged t) [] h = absurd (omega arith)
specifier_base at (tagged t) (d ∷ ds) h = refl
specifier_base at (struct_base t ms) ds h = refl

pub if_seen : (e : Expr) (s : Stmt) (other : Option Stmt) → kind_view (kinds.If e s other) ≡ if_stmt (expr_view e) (stmt_view s) (stmt_option_view other)
if_seen e s None = search (rules, k.the_lemmas)
if_seen e s (Some o) = search (rules, k.the_lemmas)

-- an `if` with what stands round its two statements
abbrev pub if_parts : Place → ExprData → StmtData → StmtOption → Around → Around → Rule (Unit {0})
if_parts at e s other x y = scoped (condition at e >> (scoped (statement x s) >> otherwise y other))
