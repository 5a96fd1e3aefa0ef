-- Arguments, one by one.
use Rattle.std.proofs.Common.{◌≡◌, ◌≢◌, ℕ, zero, suc, ◌-◌, List, [], ◌∷◌, drop, Option, Some, None, map, refl, ap, arith}
use Rattle.ec_ctypes.specs.declared.tree.expr.Expr.{Expr}
use Rattle.ec_ctypes.specs.views.Exprs.{exprs_view}
use Rattle.ec_ctypes.specs.trees.Types.{TyData}
use Rattle.ec_meaning_defs.specs.functions.Functions.{Known}
use Rattle.ec_resolving_defs.specs.Operands as of
use Rattle.ec_resolve_expressions.specs.call_forms.Printing.{with_parameters}

-- without arguments there are none
pub none_argued : (es : List Expr) → of.arguments_of_call (exprs_view es) [] ≡ []
none_argued [] = refl
none_argued (e ∷ es) = refl

pub none_dropped : {A : Type 0} (n : ℕ) → ◌≡◌ {A = List A} (drop n []) []
none_dropped zero = refl
none_dropped (suc n) = refl

-- one is passed over
pub one_dropped : {A : Type 0} (n : ℕ) (x : A) (xs : List A) → n ≢ 0 → drop n (x ∷ xs) ≡ drop (n - 1) xs
one_dropped zero x xs h = absurd (h refl)
one_dropped (suc n) x xs h = let e : n ≡ suc n - 1 = omega arith in ap (λ m. drop m xs) e

-- the parameters of a known function have types
pub parameters_typed : (k : Option Known) (ps : List TyData) (fs : List of.Found) → with_parameters k (map Some ps) fs ≡ of.plain_call k ps fs
parameters_typed None ps fs = refl
parameters_typed (Some k) ps fs = refl
