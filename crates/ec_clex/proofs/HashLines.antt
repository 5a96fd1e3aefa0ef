-- Lines that begin with `#`.
use Rattle.std.proofs.Common.{◌≡◌, ℕ, zero, suc, ◌+◌, ◌-◌, ◌*◌, ◌^◌, ◌<◌, ◌≤◌, true, [], ◌∷◌, length, take, drop, sym, ap, ◌∙◌, arith}
use Rattle.std.proofs.lemmas.Bool.Decides.{nat_tests}
use Rattle.ec_language.specs.Letters.{Text, is_digit, is_not_newline, each}
use Rattle.ec_language.specs.Constants.{digit_value, digits_value}
use Rattle.ec_language.specs.ReadPieces.{behind_all, front}
use Rattle.ec_language.proofs.Ends.{both}
use Rattle.ec_clex.specs.Lines.{line_of}
use Rattle.ec_clex.proofs.Digits.{value_from}
use Rattle.ec_split.proofs.Walks.{front_slice}

-- ---- the number of a line

abbrev tens : ℕ → ℕ → ℕ
tens zero p = p
tens (suc k) p = tens k (p * 10)

tens_more : (k p : ℕ) → p ≤ tens k p
tens_more zero p = omega arith
tens_more (suc k) p = omega (arith, tens_more k (p * 10))

digit_small : (b : ℕ) → is_digit b ≡ true → digit_value b ≤ 9
digit_small b e = rw e (below b e)
  where
    below : (b : ℕ) → is_digit b ≡ true → b - 48 ≤ 9
    below b e = grind (arith, nat_tests)

value_small : (k p n : ℕ) (ds : Text) → each is_digit ds ≡ true → length ds ≤ k → n < p → value_from 10 n ds < tens k p
value_small k p n [] e h l = omega (arith, tens_more k p)
value_small zero p n (b ∷ ds) e h l = absurd (omega arith)
value_small (suc k) p n (b ∷ ds) e h l =
    let parts = both (is_digit b) (each is_digit ds) e in
    let small = digit_small b parts.0 in
    value_small k (p * 10) (n * 10 + digit_value b) ds parts.1 (omega arith) (omega (arith, small))

pub line_small : (ds : Text) → each is_digit ds ≡ true → length ds ≤ 9 → digits_value 10 ds < 10 ^ 9
line_small ds e h = value_small 9 1 0 ds e h (omega arith)

-- ---- the line at an index

pub line_slice : (t : Text) (at end : ℕ) → at ≤ end → end ≤ length t → drop end t ≡ behind_all is_not_newline (drop at t) → line_of (drop at t) ≡ take (end - at) (drop at t)
line_slice t at end h k e = ap (front (drop at t)) (sym e) ∙ front_slice t at end h k
