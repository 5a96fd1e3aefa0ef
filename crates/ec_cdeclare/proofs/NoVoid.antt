-- Parameters that are not `void` alone.
use Rattle.std.proofs.Common.{◌≡◌, ℕ, zero, suc, false, List, [], ◌∷◌, Option, Some, None, refl}
use Rattle.ec_ctypes.specs.declared.tree.expr.Expr.{Expr}
use Rattle.ec_ctypes.specs.trees.Exprs.{BaseData, words, varchar, tagged, struct_base, DimList}
use Rattle.ec_ctypes.specs.views.Exprs.{dims_view}
use Rattle.ec_language.specs.Letters.{Text}
use Rattle.ec_language.specs.Productions.{is_void}

pub stars_no_void : (b : BaseData) (n : ℕ) (x : Option Text) (ds : DimList) → (n ≡ 0 → ⊥) → is_void b n x ds ≡ false
stars_no_void (words []) n x ds some = refl
stars_no_void (words (w ∷ [])) zero x ds some = absurd (some refl)
stars_no_void (words (w ∷ [])) (suc n) x ds some = refl
stars_no_void (words (w ∷ v ∷ ws)) n x ds some = refl
stars_no_void varchar n x ds some = refl
stars_no_void (tagged t) n x ds some = refl
stars_no_void (struct_base t ms) n x ds some = refl

pub lengths_no_void : (b : BaseData) (n : ℕ) (x : Option Text) (ds : List (Option Expr)) → (ds ≡ [] → ⊥) → is_void b n x (dims_view ds) ≡ false
lengths_no_void b n x [] some = absurd (some refl)
lengths_no_void (words []) n x (d ∷ ds) some = refl
lengths_no_void (words (w ∷ [])) zero None (d ∷ ds) some = refl
lengths_no_void (words (w ∷ [])) zero (Some x) (d ∷ ds) some = refl
lengths_no_void (words (w ∷ [])) (suc n) x (d ∷ ds) some = refl
lengths_no_void (words (w ∷ v ∷ ws)) n x (d ∷ ds) some = refl
lengths_no_void varchar n x (d ∷ ds) some = refl
lengths_no_void (tagged t) n x (d ∷ ds) some = refl
lengths_no_void (struct_base t ms) n x (d ∷ ds) some = refl
