-- Whether nothing but blanks stands on a line, by its last byte.
use Rattle.std.proofs.Common.{◌≡◌, ℕ, suc, ◌+◌, ◌-◌, ◌<◌, ◌≤◌, Bool, true, false, ◌&&◌, ◌||◌, [], ◌∷◌, ◌++◌, length, take, drop, get_or, refl, sym, ap, ◌∙◌, arith, eq-eqb, ne_eqb}
use Rattle.std.specs.Prelude.{◌==◌}
use Rattle.ec_language.specs.Letters.{Text, newline, is_blank}
use Rattle.ec_language.specs.Lexemes.{is_fresh_after}
use Rattle.ec_split.proofs.Steps.{at_place}
use Rattle.ec_clex.proofs.ItemSteps.{take_then}
use Rattle.ec_clex.proofs.Rests.{fresh_append}

last_is : (f : Bool) (t : Text) (n : ℕ) → 0 < n → n ≤ length t
    → (get_or t (n - 1) 0 == newline || (is_fresh_after f (take (n - 1) t) && is_blank (get_or t (n - 1) 0))) ≡ is_fresh_after f (take n t)
last_is f t n h k =
    let b = get_or t (n - 1) 0 in
    let m : suc (n - 1) ≡ n = omega arith in
    let cut : take (suc (n - 1)) t ≡ take (n - 1) t ++ b ∷ [] = take_then (n - 1) t b (drop (n - 1 + 1) t) (at_place t (n - 1) (omega arith)) in
    sym (ap (λ j. is_fresh_after f (take j t)) (sym m) ∙ ap (is_fresh_after f) cut ∙ fresh_append (take (n - 1) t) (b ∷ []) f)

pub fresh_newline : (f : Bool) (t : Text) (n : ℕ) → 0 < n → n ≤ length t → get_or t (n - 1) 0 ≡ newline → true ≡ is_fresh_after f (take n t)
fresh_newline f t n h k e = sym (ap (λ z. z || (is_fresh_after f (take (n - 1) t) && is_blank (get_or t (n - 1) 0))) (eq-eqb (get_or t (n - 1) 0) newline e)) ∙ last_is f t n h k

both_false : (x y z : Bool) → x ≡ false → z ≡ false → false ≡ (x || (y && z))
both_false true y z p q = sym p
both_false false true z p q = sym q
both_false false false z p q = refl

first_true : (x y z : Bool) → x ≡ false → z ≡ true → y ≡ (x || (y && z))
first_true x y z p q = ones y ∙ (λ i. sym p i || (y && sym q i))
  where
    ones : (y : Bool) → y ≡ (y && true)
    ones true = refl
    ones false = refl

pub fresh_other : (f : Bool) (t : Text) (n : ℕ) → 0 < n → n ≤ length t → (get_or t (n - 1) 0 ≡ newline → ⊥) → is_blank (get_or t (n - 1) 0) ≡ false → false ≡ is_fresh_after f (take n t)
fresh_other f t n h k e p = both_false (get_or t (n - 1) 0 == newline) (is_fresh_after f (take (n - 1) t)) (is_blank (get_or t (n - 1) 0)) (ne_eqb (get_or t (n - 1) 0) newline e) p ∙ last_is f t n h k

pub fresh_blank : (f : Bool) (t : Text) (n : ℕ) → 0 < n → n ≤ length t → (get_or t (n - 1) 0 ≡ newline → ⊥) → is_blank (get_or t (n - 1) 0) ≡ true
    → is_fresh_after f (take (n - 1) t) ≡ is_fresh_after f (take n t)
fresh_blank f t n h k e p = first_true (get_or t (n - 1) 0 == newline) (is_fresh_after f (take (n - 1) t)) (is_blank (get_or t (n - 1) 0)) (ne_eqb (get_or t (n - 1) 0) newline e) p ∙ last_is f t n h k
