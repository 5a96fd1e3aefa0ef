-- Products and remainders of numbers that words hold.
use Rattle.std.proofs.Common.{◌≡◌, ◌∙◌, sym, ap, Bool, true, false, Result, Ok, Err, ◌≢◌, ℕ, zero, suc, ◌≤◌, ◌-◌, ◌^◌, ℤ, pos, negsuc, neg_ℤ, ◌≤ℤ◌, ◌<ℤ◌, ◌*ℤ◌, unsigned_abs, arith, rules, refl}
use Rattle.std.specs.Prelude.{FitsSigned, int_rem, int_div}
use Rattle.std.specs.Int.{w128}
use Rattle.std.proofs.lemmas.Int.{ints, to_z-of_z, fits_signed_mul}
use lib.Signed.{mag, mag_rem}
use mir.Val.{to_z, of_z, SFits}
use Rattle.ec_base.specs.declared.stop.Trap.{Trap}
use Rattle.ec_base.specs.declared.stop.Trap.TheVariants.{Shift, Zero}
use Rattle.ec_ctypes.specs.declared.types.arith.Arith.{Arith}
use Rattle.ec_ctypes.specs.Arithmetic.{width}
use Rattle.ec_memory_defs.specs.Memory.{and_then}
use Rattle.ec_meaning_defs.specs.resolved.Operations.{is_amount, is_zero, quotient, result_of, remainder_of, shifted, shifted_left}
use Rattle.ec_values.specs.Words.{HasWord}

opposite_bounds : (x n : ℕ) → mag (neg_ℤ (pos x)) ≤ n → HasWord (negsuc n) → HasWord (neg_ℤ (pos x))
opposite_bounds zero n few h = (omega (arith, ints), omega (arith, ints))
opposite_bounds (suc x) n few h = (omega (arith, ints, h.0), omega (arith, ints))

pub rest_bounds : (a b : ℤ) → HasWord a → HasWord (int_rem a b)
rest_bounds (pos n) b h = let few = mag_rem (pos n) b in (omega (arith, ints), omega (arith, ints, h.1))
rest_bounds (negsuc n) b h = opposite_bounds _ n (mag_rem (negsuc n) b) h

abs_small : (a : ℤ) → HasWord a → unsigned_abs a ≤ 2 ^ 64 - 1
abs_small (pos n) h = omega (arith, ints, h.1)
abs_small (negsuc n) h = omega (arith, ints, h.0)

abs_negative : (a : ℤ) → HasWord a → a <ℤ pos 0 → unsigned_abs a ≤ 2 ^ 63
abs_negative (pos n) h l = omega (arith, ints, l)
abs_negative (negsuc n) h l = omega (arith, ints, h.0)

abs_power : (a : ℤ) → pos 0 ≤ℤ a → a ≤ℤ pos (2 ^ 63) → unsigned_abs a ≤ 2 ^ 63
abs_power (pos n) low high = omega (arith, ints, high)
abs_power (negsuc n) low high = omega (arith, ints, low)

pub negative_fits : (a b : ℤ) → HasWord a → HasWord b → a <ℤ pos 0 → FitsSigned w128 (a *ℤ b)
negative_fits a b g h l = fits_signed_mul w128 a b (2 ^ 63) (2 ^ 64 - 1) (abs_negative a g l) (abs_small b h) (omega arith)

pub fits_negative : (a b : ℤ) → HasWord a → HasWord b → b <ℤ pos 0 → FitsSigned w128 (a *ℤ b)
fits_negative a b g h l = fits_signed_mul w128 a b (2 ^ 64 - 1) (2 ^ 63) (abs_small a g) (abs_negative b h l) (omega arith)

pub power_fits : (a b : ℤ) → HasWord a → pos 0 ≤ℤ b → b ≤ℤ pos (2 ^ 63) → FitsSigned w128 (a *ℤ b)
power_fits a b g low high = fits_signed_mul w128 a b (2 ^ 64 - 1) (2 ^ 63) (abs_small a g) (abs_power b low high) (omega arith)

-- what the code's product gives
pub times_is : (a b : ℤ) → SFits w128 a → SFits w128 b → SFits w128 (a *ℤ b) → to_z w128 (of_z w128 (to_z w128 (of_z w128 a) *ℤ to_z w128 (of_z w128 b))) ≡ a *ℤ b
times_is a b f g h = rw (to_z-of_z w128 a f) (rw (to_z-of_z w128 b g) (to_z-of_z w128 (a *ℤ b) h))

-- a divisor that is not 0
not_zero : (b : ℤ) → b ≢ pos 0 → is_zero b ≡ false
not_zero (pos zero) h = absurd (h refl)
not_zero (pos (suc n)) h = grind (arith, ints)
not_zero (negsuc n) h = refl

divided_by : (t : Arith) (a b o : ℤ) → b ≢ pos 0 → o ≡ int_div a b → quotient t a b ≡ result_of t o
divided_by t a b o h e =
    (λ i. elim (not_zero b h i) [ true ↦ Err Zero | false ↦ result_of t (int_div a b) ]) ∙ ap (result_of t) (sym e)

pub quotient_is : (t : Arith) (a b o : ℤ) (r : Result ℤ Trap) → b ≢ pos 0 → o ≡ int_div a b → r ≡ result_of t o → r ≡ quotient t a b
quotient_is t a b o r h e is = is ∙ sym (divided_by t a b o h e)

pub remainder_ok : (t : Arith) (a b o q r : ℤ) → b ≢ pos 0 → o ≡ int_div a b → Ok q ≡ result_of t o → r ≡ int_rem a b → Ok r ≡ remainder_of t a b
remainder_ok t a b o q r h e is rest =
    ap Ok rest ∙ ap (λ x. and_then x (λ q. Ok (int_rem a b))) (is ∙ sym (divided_by t a b o h e))

pub remainder_err : (t : Arith) (a b o : ℤ) (u : Trap) → b ≢ pos 0 → o ≡ int_div a b → Err u ≡ result_of t o → Err u ≡ remainder_of t a b
remainder_err t a b o u h e is = ap (λ x. and_then x (λ q. Ok (int_rem a b))) (is ∙ sym (divided_by t a b o h e))

-- an amount that the type allows
pub amount_tested : (t : Arith) (n : ℤ) → pos 0 ≤ℤ n → n <ℤ pos (width t) → is_amount t n ≡ true
amount_tested t n low high = grind (arith, ints)

pub left_is : (t : Arith) (a n : ℤ) (k : ℕ) (r : Result ℤ Trap) → r ≡ shifted t a (pos k) → n ≡ pos k → is_amount t n ≡ true → r ≡ shifted_left t a n
left_is t a n k r is e test = is ∙ ap (shifted t a) (sym e) ∙ sym (λ i. elim (test i) [ true ↦ shifted t a n | false ↦ Err Shift ])
