-- One more digit.
use Rattle.std.proofs.Common.{◌≡◌, ◌≢◌, ◌∙◌, refl, ap, sym, ℕ, zero, suc, ◌/◌, ◌%◌, ◌<◌, Bool, List, [], ◌∷◌, length, drop, arith}
use Rattle.std.specs.Prelude.{slice_set}
use Rattle.ec_meaning_defs.specs.functions.Printing.{digit_byte, digits_before}

-- what stands from a place on that is written
pub drop_set : (xs : List ℕ) (k d : ℕ) → k < length xs → drop k (slice_set xs k d) ≡ d ∷ drop (suc k) xs
drop_set [] k d l = absurd (omega arith)
drop_set (x ∷ xs) zero d l = refl
drop_set (x ∷ xs) (suc k) d l = drop_set xs k d (omega arith)

by_quotient : (places base : ℕ) (capital : Bool) (n : ℕ) (behind : List ℕ) (q : ℕ) → n / base ≡ q → q ≢ 0 → digits_before (suc places) base capital n behind ≡ digits_before places base capital (n / base) (digit_byte capital (n % base) ∷ behind)
by_quotient places base capital n behind zero e h = absurd (h refl)
by_quotient places base capital n behind (suc q) e h = λ i. elim (e i) [
  | zero ↦ digit_byte capital (n % base) ∷ behind
  | suc q ↦ digits_before places base capital (n / base) (digit_byte capital (n % base) ∷ behind)
]

pub digit_more : (at places base : ℕ) (capital : Bool) (n : ℕ) (behind : List ℕ) → at ≡ suc places → n / base ≢ 0 → digits_before places base capital (n / base) (digit_byte capital (n % base) ∷ behind) ≡ digits_before at base capital n behind
digit_more at places base capital n behind e h =
    sym (by_quotient places base capital n behind (n / base) refl h) ∙ ap (λ k. digits_before k base capital n behind) (sym e)

pub digit_last : (at places base : ℕ) (capital : Bool) (n : ℕ) (behind : List ℕ) → at ≡ suc places → n / base ≡ 0 → digit_byte capital (n % base) ∷ behind ≡ digits_before at base capital n behind
digit_last at places base capital n behind e h =
    sym (λ i. elim (h i) [
      | zero ↦ digit_byte capital (n % base) ∷ behind
      | suc q ↦ digits_before places base capital (n / base) (digit_byte capital (n % base) ∷ behind)
    ])
    ∙ ap (λ k. digits_before k base capital n behind) (sym e)
