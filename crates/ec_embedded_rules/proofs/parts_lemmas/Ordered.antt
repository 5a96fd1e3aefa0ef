-- Statements of which each stands behind the one before it stand in the order of the text.
use Rattle.std.proofs.Common.{◌≡◌, ◌∙◌, ℕ, zero, suc, ◌-◌, ◌<◌, ◌≤◌, Bool, true, false, ◌&&◌, nat_lt, List, [], ◌∷◌, length, take, drop, map, get_or, refl, sym, ap, arith}
use Rattle.std.proofs.lemmas.Bool.Decides.{nat_tests}
use Rattle.ec_ctypes.specs.declared.embedded.emb.Emb.{Emb}
use Rattle.ec_ctypes.specs.trees.Embedded.{EmbData}
use Rattle.ec_ctypes.specs.views.Embedded.{emb_view}
use Rattle.ec_whenever.specs.Tables.{is_behind, are_in_order}

less_more : (p q x : ℕ) → nat_lt p q ≡ true → nat_lt q x ≡ true → nat_lt p x ≡ true
less_more p q x a b = grind (arith, nat_tests)

behind_more : (p q : ℕ) (es : List EmbData) → nat_lt p q ≡ true → is_behind q es ≡ true → is_behind p es ≡ true
behind_more p q [] a h = refl
behind_more p q (e ∷ es) a h = by (nat_lt q e.place) refl h (behind_more p q es a)
  where
    by : (b : Bool) → nat_lt q e.place ≡ b → (b && is_behind q es) ≡ true → (is_behind q es ≡ true → is_behind p es ≡ true) → (nat_lt p e.place && is_behind p es) ≡ true
    by true t r ih = ap (λ b. b && is_behind p es) (less_more p q e.place a t) ∙ ih r
    by false t r ih = cc

-- two statements more, of which the first doesn't stand before the second
pub not_in_order : (e f : EmbData) (es : List EmbData) → nat_lt e.place f.place ≡ false → are_in_order (e ∷ f ∷ es) ≡ false
not_in_order e f es h = ap (λ b. (b && is_behind e.place es) && are_in_order (f ∷ es)) h

pub in_order : (e f : EmbData) (es : List EmbData) → nat_lt e.place f.place ≡ true → are_in_order (e ∷ f ∷ es) ≡ are_in_order (f ∷ es)
in_order e f es h = by (is_behind f.place es) refl
  where
    by : (b : Bool) → is_behind f.place es ≡ b → ((nat_lt e.place f.place && is_behind e.place es) && (is_behind f.place es && are_in_order es)) ≡ (is_behind f.place es && are_in_order es)
    by true t = ap (λ b. (b && is_behind e.place es) && (is_behind f.place es && are_in_order es)) h ∙ ap (λ b. b && (is_behind f.place es && are_in_order es)) (behind_more e.place f.place es h t)
    by false t = ap (λ b. (nat_lt e.place f.place && is_behind e.place es) && (b && are_in_order es)) t ∙ no_more (nat_lt e.place f.place && is_behind e.place es) ∙ sym (ap (λ b. b && are_in_order es) t)
      where
        no_more : (b : Bool) → (b && false) ≡ false
        no_more true = refl
        no_more false = refl

-- ---- one statement on

two_first : {A : Type 0} (xs : List A) (x y : A) → 2 ≤ length xs → x ≡ get_or xs 0 x → y ≡ get_or xs 1 y → xs ≡ x ∷ y ∷ drop 2 xs
two_first [] x y h a b = absurd (omega (arith, h))
two_first (u ∷ []) x y h a b = absurd (omega (arith, h))
two_first (u ∷ v ∷ us) x y h a b = λ i. sym a i ∷ sym b i ∷ us

take_all : {A : Type 0} (xs : List A) (n : ℕ) → length xs ≤ n → take n xs ≡ xs
take_all [] zero le = refl
take_all [] (suc n) le = refl
take_all (x ∷ xs) zero le = absurd (omega arith)
take_all (x ∷ xs) (suc n) le = ap (λ ys. x ∷ ys) (take_all xs n (omega arith))

rest_is : {A : Type 0} (xs : List A) → take (length xs - 1) (drop 1 xs) ≡ drop 1 xs
rest_is [] = refl
rest_is (x ∷ xs) = take_all xs (length (x ∷ xs) - 1) (omega arith)

pub one_on : (es whole : List Emb) (x y : Emb) → 2 ≤ length es → x ≡ get_or es 0 x → y ≡ get_or es 1 y → nat_lt x.place y.place ≡ true
    → are_in_order (map emb_view es) ≡ are_in_order (map emb_view whole) → are_in_order (map emb_view (take (length es - 1) (drop 1 es))) ≡ are_in_order (map emb_view whole)
one_on es whole x y h a b lt so_far =
    let is = two_first es x y h a b in
    let all : take (length es - 1) (drop 1 es) ≡ drop 1 es = rest_is es in
    ap (λ l. are_in_order (map emb_view l)) (all ∙ ap (drop 1) is) ∙ sym (in_order (emb_view x) (emb_view y) (map emb_view (drop 2 es)) lt)
    ∙ sym (ap (λ l. are_in_order (map emb_view l)) is) ∙ so_far

pub few_in_order : (es whole : List Emb) → length es < 2 → are_in_order (map emb_view es) ≡ are_in_order (map emb_view whole) → true ≡ are_in_order (map emb_view whole)
few_in_order [] whole h so_far = so_far
few_in_order (x ∷ []) whole h so_far = so_far
few_in_order (x ∷ y ∷ es) whole h so_far = absurd (omega (arith, h))
