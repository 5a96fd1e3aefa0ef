-- Loops that write.
use Rattle.std.proofs.Common.{◌≡◌, ℕ, suc, zero, ◌+◌, ◌-◌, ◌<◌, List, [], ◌∷◌, ◌++◌, drop, length, refl, ap, sym, ◌∙◌, subst, arith, append_assoc, get_or, drop-cons, add-one, Option}
use Rattle.std.specs.Prelude.{nat_lt, Bool, true, false}
use Rattle.std.proofs.lemmas.Bool.Decides.{nat_tests}
use Rattle.ec_language.specs.Letters.{Text}
use Rattle.ec_ctypes.specs.declared.text.token.Punct.{Punct}
use Rattle.ec_ctypes.specs.declared.tree.expr.Expr.{Expr}
use Rattle.ec_ctypes.specs.trees.Exprs.{ExprData}
use Rattle.ec_writing_defs.specs.Chunks.{Chunks, text_of}
use Rattle.ec_writing_defs.specs.Expressions.{star_chunks, at_height, expr_chunks, mark}
use Rattle.ec_cwrite.specs.Lists.{dim_part}
use Rattle.ec_cwrite.specs.Writes.{Writes}
use Rattle.ec_cwrite.proofs.Writing.{both, text_append}

pub star_step : (n i : ℕ) {a b : Text} → i < n → Writes a b (star_chunks 1) → b ++ text_of (star_chunks (n - (i + 1))) ≡ a ++ text_of (star_chunks (n - i))
star_step n i {a} {b} l w =
    let e : n - i ≡ suc (n - (i + 1)) = omega arith in
    ap (λ t. t ++ text_of (star_chunks (n - (i + 1)))) w.is ∙ append_assoc a (text_of (star_chunks 1)) (text_of (star_chunks (n - (i + 1)))) ∙ ap (λ k. a ++ text_of (star_chunks k)) (sym e)

grow : {a c : Text} {cs : Chunks} (ds : Chunks) → Writes a c cs → c ++ text_of ds ≡ a ++ text_of (cs ++ ds)
grow {a} {c} {cs} ds w = ap (λ t. t ++ text_of ds) w.is ∙ append_assoc a (text_of cs) (text_of ds) ∙ ap (λ t. a ++ t) (sym (text_append cs ds))

pub drop_item : {A : Type 0} (xs : List A) (i : ℕ) (x : A) → i < length xs → x ≡ get_or xs i x → drop i xs ≡ x ∷ drop (i + 1) xs
drop_item xs i x h e = drop-cons xs i x h ∙ ap (λ y. y ∷ drop (suc i) xs) (sym e) ∙ ap (λ n. x ∷ drop n xs) (sym (add-one i))

later : (i : ℕ) → (nat_lt 0 i ≡ true → 0 < i) × (nat_lt 0 i ≡ false → i ≡ 0)
later i = (yes i, zero_then i)
  where
    yes : (i : ℕ) → nat_lt 0 i ≡ true → 0 < i
    yes i e = grind (arith, nat_tests)

    zero_then : (i : ℕ) → nat_lt 0 i ≡ false → i ≡ 0
    zero_then i e = grind (arith, nat_tests)

-- A list that is written in one way for each element.
module _ {A : Type 0} (item : A → Chunks) (all : List A → Chunks) (step : (x : A) (xs : List A) → all (x ∷ xs) ≡ item x ++ all xs) where
  pub each_kept : (i : ℕ) (xs : List A) (x : A) {a b : Text} → drop i xs ≡ x ∷ drop (i + 1) xs → Writes a b (item x) → b ++ text_of (all (drop (i + 1) xs)) ≡ a ++ text_of (all (drop i xs))
  each_kept i xs x {a} d w =
      grow (all (drop (i + 1) xs)) w ∙ ap (λ cs. a ++ text_of cs) (sym (step x (drop (i + 1) xs))) ∙ ap (λ l. a ++ text_of (all l)) (sym d)

-- A list whose first element has something else before it than the others.
module _ {A : Type 0} (lead : Bool → Chunks) (item : A → Chunks) (from : ℕ → List A → Chunks) (first : (x : A) (xs : List A) → from 0 (x ∷ xs) ≡ lead false ++ (item x ++ from 1 xs))
    (next : (k : ℕ) (x : A) (xs : List A) → from (suc k) (x ∷ xs) ≡ lead true ++ (item x ++ from (suc (suc k)) xs)) where
  list_step : (i : ℕ) (x : A) (xs : List A) {a b c : Text} (t : Bool) → (t ≡ true → 0 < i) → (t ≡ false → i ≡ 0) → Writes a b (lead t) → Writes b c (item x)
      → c ++ text_of (from (suc i) xs) ≡ a ++ text_of (from i (x ∷ xs))
  list_step zero x xs {a} false e f v w = grow (from 1 xs) (both v w) ∙ ap (λ cs. a ++ text_of cs) (append_assoc (lead false) (item x) (from 1 xs) ∙ sym (first x xs))
  list_step zero x xs true e f v w = absurd (let k = e refl in omega (arith, k))
  list_step (suc i) x xs {a} true e f v w = grow (from (suc (suc i)) xs) (both v w) ∙ ap (λ cs. a ++ text_of cs) (append_assoc (lead true) (item x) (from (suc (suc i)) xs) ∙ sym (next i x xs))
  list_step (suc i) x xs false e f v w = absurd (let k = f refl in omega (arith, k))

  pub list_kept : (i : ℕ) (xs : List A) (x : A) {a b c : Text} → drop i xs ≡ x ∷ drop (i + 1) xs → Writes a b (lead (nat_lt 0 i)) → Writes b c (item x)
      → c ++ text_of (from (i + 1) (drop (i + 1) xs)) ≡ a ++ text_of (from i (drop i xs))
  list_kept i xs x {a} {b} {c} d v w =
      let k : i + 1 ≡ suc i = omega arith in
      ap (λ j. c ++ text_of (from j (drop (i + 1) xs))) k ∙ list_step i x (drop (i + 1) xs) (nat_lt 0 i) (later i).0 (later i).1 v w ∙ ap (λ l. a ++ text_of (from i l)) (sym d)

pub mark_told : {a b : Text} {m n : Punct} → m ≡ n → Writes a b (mark m ∷ []) → Writes a b (mark n ∷ [])
mark_told {a} {b} e w = subst (λ k. Writes a b (mark k ∷ [])) e w

pub at_told : {a b : Text} {h k : ℕ} (e : ExprData) → h ≡ k → Writes a b (at_height h e (expr_chunks e)) → Writes a b (at_height k e (expr_chunks e))
at_told {a} {b} e p w = subst (λ j. Writes a b (at_height j e (expr_chunks e))) p w

pub dim_told : {a b d : Text} (x y : Option Expr) → x ≡ y → b ≡ d → Writes a d (dim_part y) → Writes a b (dim_part x)
dim_told {a} {b} {d} x y e f w = subst (λ z. Writes a z (dim_part x)) (sym f) (subst (λ z. Writes a d (dim_part z)) (sym e) w)
