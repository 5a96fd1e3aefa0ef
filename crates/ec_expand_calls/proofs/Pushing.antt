-- Arguments that are pushed one behind the other.
use Rattle.std.proofs.Common.{◌≡◌, refl, ap, sym, ◌∙◌, List, [], ◌∷◌, ◌++◌, map}
use Rattle.std.proofs.lemmas.List.{map-append, append_assoc, append-nil}
use Rattle.ec_ctypes.specs.declared.tree.expr.Expr.{Expr}
use Rattle.ec_ctypes.specs.trees.Exprs.{ExprData, exprs}
use Rattle.ec_ctypes.specs.views.Exprs.{expr_view, exprs_view, exprs_of}
use Rattle.ec_arguments.specs.Arguments.{Arg}
use Rattle.ec_expansion_defs.specs.Calls.{argument_expr, argument_exprs}
use Rattle.ec_expand_calls.specs.Pushed.{Pushes}

abbrev pub Before : Type 0
Before = List (Arg ExprData) → List (Arg ExprData)

-- one argument
pub one : (old new : List Expr) (x : Expr) (a : Arg ExprData) → new ≡ old ++ x ∷ [] → expr_view x ≡ argument_expr a → Pushes old new (λ rest. a ∷ rest)
one old new x a e v = record {
  is = λ rest.
      ap (λ l. map expr_view l ++ map argument_expr rest) e
      ∙ ap (λ l. l ++ map argument_expr rest) (map-append expr_view old (x ∷ []))
      ∙ append_assoc (map expr_view old) (expr_view x ∷ []) (map argument_expr rest)
      ∙ ap (λ y. map expr_view old ++ y ∷ map argument_expr rest) v;
}

-- one behind another
pub after : {old mid new : List Expr} {f g : Before} → Pushes old mid f → Pushes mid new g → Pushes old new (λ rest. f (g rest))
after {old} {mid} {new} {f} {g} p q = record { is = λ rest. q.is rest ∙ p.is (g rest) }

arguments_are : (xs : List (Arg ExprData)) → exprs_of (map argument_expr xs) ≡ argument_exprs xs
arguments_are [] = refl
arguments_are (x ∷ xs) = ap (exprs (argument_expr x)) (arguments_are xs)

-- all arguments of a call
pub made : {args : List Expr} {f : Before} → Pushes [] args f → exprs_view args ≡ argument_exprs (f [])
made {args} {f} p = ap exprs_of (sym (append-nil (map expr_view args)) ∙ p.is []) ∙ arguments_are (f [])
