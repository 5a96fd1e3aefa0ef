-- Names among those of the library, and the arguments of its calls, beside loops over them.
use Rattle.std.proofs.Common.{◌≡◌, ◌∙◌, ℕ, ◌+◌, ◌<◌, ◌≤◌, Bool, true, false, List, [], ◌∷◌, ◌++◌, drop, length, get_or, Option, Some, cond, refl, sym, ap, add-one}
use Rattle.std.proofs.Math.Seq.{drop-cons}
use Rattle.std.proofs.lemmas.List.{drop_all, append-nil}
use Rattle.ec_arguments.specs.Arguments.{Arg}
use Rattle.ec_ctypes.specs.declared.tree.expr.Expr.{Expr}
use Rattle.ec_ctypes.specs.declared.types.ty.Ty.{Ty}
use Rattle.ec_ctypes.specs.views.Exprs.{exprs_view}
use Rattle.ec_language.specs.Letters.{Text, same_text}
use Rattle.ec_typing_defs.specs.Library.{named_among, arguments_of_call}
use Rattle.ec_known_calls.specs.Taking.{types_view}
use Rattle.ec_known.proofs.Tables.{same_text_sym}

module _ {A : Type 0} (text : A → Text) (xs : List A) (i : ℕ) (d : A) (name : Text) where
  named_here : i < length xs → named_among text name (drop i xs) ≡ cond (same_text name (text (get_or xs i d))) (Some (get_or xs i d)) (named_among text name (drop (i + 1) xs))
  named_here lt =
      ap (named_among text name) (drop-cons xs i d lt)
      ∙ ap (λ k. cond (same_text name (text (get_or xs i d))) (Some (get_or xs i d)) (named_among text name (drop k xs))) (sym (add-one i))

  pub named_found : (whole : Option A) → i < length xs → whole ≡ named_among text name (drop i xs) → true ≡ same_text (text (get_or xs i d)) name → Some (get_or xs i d) ≡ whole
  named_found whole lt before is =
      sym (before ∙ named_here lt ∙ ap (λ b. cond b (Some (get_or xs i d)) (named_among text name (drop (i + 1) xs))) (same_text_sym name _ ∙ sym is))

  pub named_passed : (whole : Option A) → i < length xs → whole ≡ named_among text name (drop i xs) → false ≡ same_text (text (get_or xs i d)) name → whole ≡ named_among text name (drop (i + 1) xs)
  named_passed whole lt before is =
      before ∙ named_here lt ∙ ap (λ b. cond b (Some (get_or xs i d)) (named_among text name (drop (i + 1) xs))) (same_text_sym name _ ∙ sym is)

no_types : (es : List Expr) → arguments_of_call (exprs_view es) [] ≡ []
no_types [] = refl
no_types (e ∷ es) = refl

-- there are no more arguments than forms, and no more than types
pub all_forms : (es : List Expr) (ts : List (Option Ty)) (i : ℕ) (list whole : List (Arg Bool)) → length es ≤ i
    → list ++ arguments_of_call (exprs_view (drop i es)) (types_view (drop i ts)) ≡ whole → list ≡ whole
all_forms es ts i list whole done rest =
    sym (append-nil list) ∙ ap (λ xs. list ++ arguments_of_call (exprs_view xs) (types_view (drop i ts))) (sym (drop_all i es done)) ∙ rest

pub all_types : (es : List Expr) (ts : List (Option Ty)) (i : ℕ) (list whole : List (Arg Bool)) → length ts ≤ i
    → list ++ arguments_of_call (exprs_view (drop i es)) (types_view (drop i ts)) ≡ whole → list ≡ whole
all_types es ts i list whole done rest =
    sym (append-nil list) ∙ ap (λ xs. list ++ xs) (sym (no_types (drop i es)))
    ∙ ap (λ xs. list ++ arguments_of_call (exprs_view (drop i es)) (types_view xs)) (sym (drop_all i ts done)) ∙ rest
