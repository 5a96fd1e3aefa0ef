-- Tables of words and functions, and lists of arguments.
use Rattle.std.proofs.Common.{◌≡◌, ◌∙◌, ℕ, zero, suc, ◌+◌, ◌<◌, Bool, true, false, ◌||◌, nat_eq, List, [], ◌∷◌, map, drop, length, get_or, Bor, Option, Some, None, option_map, slice_get, is_some, cond, refl, sym, ap, arith, add-one}
use Rattle.std.specs.Option.{option_and_then}
use Rattle.std.proofs.Math.Seq.{drop-cons}
use Rattle.ec_ctypes.specs.declared.tree.expr.Expr.{Expr}
use Rattle.ec_ctypes.specs.views.Exprs.{expr_view, exprs_view}
use Rattle.ec_language.specs.Letters.{Text, same_text}
use Rattle.ec_typing_defs.specs.Tables.{Named, find, is_one_of}
use Rattle.ec_typing_defs.specs.Known.{KnownData, names_in, literal_in, literal_at}
use Rattle.ec_known.specs.declared.functions.Signature.{Signature}
use Rattle.ec_known.specs.Functions.{signature_view, row_view}

nat_eq_sym : (b c : ℕ) → nat_eq b c ≡ nat_eq c b
nat_eq_sym b c = grind arith

pub same_text_sym : (s t : Text) → same_text s t ≡ same_text t s
same_text_sym [] [] = refl
same_text_sym [] (c ∷ t) = refl
same_text_sym (b ∷ s) [] = refl
same_text_sym (b ∷ s) (c ∷ t) = grind (arith, nat_eq_sym b c, same_text_sym s t)

found_step : {V : Type 0} (v : V) (a b : Bool) (o : Option V) (t : Bool) → a ≡ b → is_some o ≡ t → is_some (cond a (Some v) o) ≡ (b || t)
found_step v true true o t e h = refl
found_step v false false o t e h = h
found_step v true false o t e h = cc
found_step v false true o t e h = cc

pub found_among : {V : Type 0} (rows : Named V) (t : Text) → is_some (find t rows) ≡ is_one_of (names_in rows) t
found_among [] t = refl
found_among (r ∷ rows) t = found_step r.1 (same_text t r.0) (same_text r.0 t) _ _ (same_text_sym t r.0) (found_among rows t)

pub literal_of : (n : ℕ) (es : List Expr) → literal_at n (exprs_view es) ≡ option_and_then (λ e. literal_in (expr_view e)) (slice_get es n)
literal_of n [] = refl
literal_of zero (e ∷ es) = refl
literal_of (suc n) (e ∷ es) = literal_of n es

pub is_some-map : {A B : Type 0} (f : A → B) (o : Option A) → is_some o ≡ is_some (option_map f o)
is_some-map f None = refl
is_some-map f (Some a) = refl

-- ---- rows

row_here : (rows : List (Bor Text × Signature)) (i : ℕ) (d : Bor Text × Signature) (name : Text) → i < length rows
    → find name (map row_view (drop i rows)) ≡ cond (same_text name (get_or rows i d).0.now) (Some (signature_view (get_or rows i d).1)) (find name (map row_view (drop (i + 1) rows)))
row_here rows i d name lt =
    ap (λ xs. find name (map row_view xs)) (drop-cons rows i d lt)
    ∙ ap (λ k. cond (same_text name (get_or rows i d).0.now) (Some (signature_view (get_or rows i d).1)) (find name (map row_view (drop k rows)))) (sym (add-one i))

pub row_found : (rows : List (Bor Text × Signature)) (i : ℕ) (d : Bor Text × Signature) (name : Text) (whole : Option KnownData) → i < length rows
    → whole ≡ find name (map row_view (drop i rows)) → true ≡ same_text (get_or rows i d).0.now name → Some (signature_view (get_or rows i d).1) ≡ whole
row_found rows i d name whole lt inv is =
    sym (inv ∙ row_here rows i d name lt ∙ ap (λ b. cond b (Some (signature_view (get_or rows i d).1)) (find name (map row_view (drop (i + 1) rows)))) (same_text_sym name _ ∙ sym is))

pub row_passed : (rows : List (Bor Text × Signature)) (i : ℕ) (d : Bor Text × Signature) (name : Text) (whole : Option KnownData) → i < length rows
    → whole ≡ find name (map row_view (drop i rows)) → false ≡ same_text (get_or rows i d).0.now name → whole ≡ find name (map row_view (drop (i + 1) rows))
row_passed rows i d name whole lt inv is =
    inv ∙ row_here rows i d name lt ∙ ap (λ b. cond b (Some (signature_view (get_or rows i d).1)) (find name (map row_view (drop (i + 1) rows)))) (same_text_sym name _ ∙ sym is)
