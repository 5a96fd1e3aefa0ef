-- Conversions to integer types: the definition follows the rule, and the rule has one answer.
use Rattle.std.proofs.Common.{◌≡◌, ℕ, zero, suc, ◌+◌, ◌-◌, ◌*◌, ◌/◌, ◌%◌, ◌^◌, ◌<◌, ◌≤◌, Bool, true, false, cond, ℤ, pos, negsuc, ◌+ℤ◌, ◌-ℤ◌, ◌*ℤ◌, neg_ℤ, ◌≤ℤ◌, ◌<ℤ◌, refl, sym, ap, ◌∙◌, arith, ◌⊎◌, inl, inr, int_le, pow_pos, ◌≢◌, lit≤}
use Rattle.std.specs.Int.{int_rem_euclid}
use Rattle.std.proofs.lemmas.Int.{ints}
use Rattle.std.proofs.lemmas.Bool.{cases_order}
use Rattle.std.proofs.Math.Nat.{mul-le-mul_right, div-add-mod', mod-lt}
use Rattle.std.proofs.Math.IntN.{pred_ℤ, pred_ℤ-*ℤ}
use borrow.Author.Differences.{up, down}
use Rattle.ec_ctypes.specs.declared.types.arith.Arith.{Arith}
use Rattle.ec_ctypes.specs.declared.types.arith.Arith.TheVariants.{Bool as Boolean, Char, UChar, Short, UShort, Int, UInt, Long, ULong, LLong, ULLong}
use Rattle.ec_ctypes.specs.Arithmetic.{width, least, greatest, IsValue, wrapped_unsigned, wrapped_signed, converted, Converts}
use Rattle.ec_ctypes.specs.Arithmetic.Converts.{false_value, true_value, wraps}

-- how many times the modulus is added to a number to get its remainder
abbrev rest_times : ℤ → ℕ → ℤ
rest_times (pos a) m = neg_ℤ (pos (a / m))
rest_times (negsuc a) m = pos (a / m + 1)

-- a natural number less a multiple
less_times : (r a q m : ℕ) → r + q * m ≡ a → pos r ≡ pos a +ℤ (neg_ℤ (pos q) *ℤ pos m)
less_times r a zero m e = omega (arith, ints)
less_times r a (suc q) m e = omega (arith, ints)

-- the remainder differs from the number by a multiple of the modulus
rest_is : (z : ℤ) (m : ℕ) → 0 < m → int_rem_euclid z (pos m) ≡ z +ℤ (rest_times z m *ℤ pos m)
rest_is (pos a) m some = let split = div-add-mod' a m in less_times (a % m) a (a / m) m (omega arith)
rest_is (negsuc a) m some = let split = div-add-mod' a m in let small = mod-lt a some in omega (arith, ints)

-- the remainder is below the modulus
rest_in : (z : ℤ) (m : ℕ) → 0 < m → (pos 0 ≤ℤ int_rem_euclid z (pos m)) × (int_rem_euclid z (pos m) <ℤ pos m)
rest_in (pos a) m some = let small = mod-lt a some in (omega (arith, ints), omega (arith, ints))
rest_in (negsuc a) m some = (omega (arith, ints), omega (arith, ints))

-- two numbers less than a modulus apart that differ from a third by multiples of it are equal
same_rest : (m : ℕ) (low a b v s t : ℤ) → a ≡ v +ℤ (s *ℤ pos m) → b ≡ v +ℤ (t *ℤ pos m) → low ≤ℤ a → a <ℤ (low +ℤ pos m) → low ≤ℤ b → b <ℤ (low +ℤ pos m) → a ≡ b
same_rest m low a b v s t is-a is-b above-a below-a above-b below-b = from (cases_order (up s + down t) (up t + down s))
  where
    from : (up s + down t ≡ up t + down s) ⊎ ((up s + down t < up t + down s) ⊎ (up t + down s < up s + down t)) → a ≡ b
    from (inl e) = let same : s ≡ t = omega (arith, ints) in is-a ∙ (ap (λ k. v +ℤ (k *ℤ pos m)) same ∙ sym is-b)
    from (inr (inl l)) = let more = mul-le-mul_right m l in absurd (omega (arith, ints))
    from (inr (inr l)) = let more = mul-le-mul_right m l in absurd (omega (arith, ints))

-- a value of a type is below its least value and the modulus
in_range : (to : Arith) (z : ℤ) → IsValue to z → z <ℤ (least to +ℤ pos (2 ^ width to))
in_range Boolean z h = omega (arith, ints, h.1)
in_range Char z h = omega (arith, ints, h.1)
in_range UChar z h = omega (arith, ints, h.1)
in_range Short z h = omega (arith, ints, h.1)
in_range UShort z h = omega (arith, ints, h.1)
in_range Int z h = omega (arith, ints, h.1)
in_range UInt z h = omega (arith, ints, h.1)
in_range Long z h = omega (arith, ints, h.1)
in_range ULong z h = omega (arith, ints, h.1)
in_range LLong z h = omega (arith, ints, h.1)
in_range ULLong z h = omega (arith, ints, h.1)

-- a remainder is a value of an unsigned type
unsigned_in : (bits : ℕ) (z : ℤ) → (pos 0 ≤ℤ wrapped_unsigned bits z) × (wrapped_unsigned bits z ≤ℤ pos (2 ^ bits - 1))
unsigned_in bits z = let h = rest_in z (2 ^ bits) (pow_pos bits) in (h.0, omega (arith, ints, h.1))

-- a remainder, less the modulus where it is above the greatest value, is between the least and the greatest
either_in : (m half : ℕ) (r : ℤ) → m ≡ 2 * half → 0 < half → pos 0 ≤ℤ r → r <ℤ pos m → (t : Bool) → int_le r (pos (half - 1)) ≡ t → (negsuc (half - 1) ≤ℤ cond t r (r -ℤ pos m)) × (cond t r (r -ℤ pos m) ≤ℤ pos (half - 1))
either_in m half r twice some above below true e = (omega (arith, ints), omega (arith, ints))
either_in m half r twice some above below false e = (omega (arith, ints), omega (arith, ints))

-- less the modulus or not, it differs from the number by a multiple of the modulus
either_times : (m : ℕ) (r z k : ℤ) → r ≡ z +ℤ (k *ℤ pos m) → (t : Bool) → (times : ℤ) × (cond t r (r -ℤ pos m) ≡ z +ℤ (times *ℤ pos m))
either_times m r z k e true = (k, e)
either_times m r z k e false = (pred_ℤ k, rw (pred_ℤ-*ℤ k (pos m)) (omega (arith, ints)))

-- what is wrapped is a value of a signed type
signed_in : (bits : ℕ) (z : ℤ) → 2 ^ bits ≡ 2 * 2 ^ (bits - 1) → (negsuc (2 ^ (bits - 1) - 1) ≤ℤ wrapped_signed bits z) × (wrapped_signed bits z ≤ℤ pos (2 ^ (bits - 1) - 1))
signed_in bits z twice =
    let h = rest_in z (2 ^ bits) (pow_pos bits) in
    either_in (2 ^ bits) (2 ^ (bits - 1)) (wrapped_unsigned bits z) twice (pow_pos (bits - 1)) h.0 h.1 (int_le (wrapped_unsigned bits z) (pos (2 ^ (bits - 1) - 1))) refl

-- what is wrapped differs from the number by a multiple of the modulus
signed_times : (bits : ℕ) (z : ℤ) → (times : ℤ) × (wrapped_signed bits z ≡ z +ℤ (times *ℤ pos (2 ^ bits)))
signed_times bits z =
    either_times (2 ^ bits) (wrapped_unsigned bits z) z (rest_times z (2 ^ bits)) (rest_is z (2 ^ bits) (pow_pos bits)) (int_le (wrapped_unsigned bits z) (pos (2 ^ (bits - 1) - 1)))

-- of a type but bool, the definition gives a value that differs from the number by a multiple of the modulus
record Wrapped (to : Arith) (z : ℤ) : Type 0 where
  value : IsValue to (converted to z)
  times : ℤ
  is : converted to z ≡ z +ℤ (times *ℤ pos (2 ^ width to))

-- each type but bool has it
wrapped : (to : Arith) (z : ℤ) → to ≢ Boolean → Wrapped to z
wrapped Boolean z ne = absurd (ne refl)
wrapped Char z ne = record { value = signed_in 8 z refl; times = (signed_times 8 z).0; is = (signed_times 8 z).1 }
wrapped UChar z ne = record { value = unsigned_in 8 z; times = rest_times z (2 ^ 8); is = rest_is z (2 ^ 8) (pow_pos 8) }
wrapped Short z ne = record { value = signed_in 16 z refl; times = (signed_times 16 z).0; is = (signed_times 16 z).1 }
wrapped UShort z ne = record { value = unsigned_in 16 z; times = rest_times z (2 ^ 16); is = rest_is z (2 ^ 16) (pow_pos 16) }
wrapped Int z ne = record { value = signed_in 32 z refl; times = (signed_times 32 z).0; is = (signed_times 32 z).1 }
wrapped UInt z ne = record { value = unsigned_in 32 z; times = rest_times z (2 ^ 32); is = rest_is z (2 ^ 32) (pow_pos 32) }
wrapped Long z ne = record { value = signed_in 64 z refl; times = (signed_times 64 z).0; is = (signed_times 64 z).1 }
wrapped ULong z ne = record { value = unsigned_in 64 z; times = rest_times z (2 ^ 64); is = rest_is z (2 ^ 64) (pow_pos 64) }
wrapped LLong z ne = record { value = signed_in 64 z refl; times = (signed_times 64 z).0; is = (signed_times 64 z).1 }
wrapped ULLong z ne = record { value = unsigned_in 64 z; times = rest_times z (2 ^ 64); is = rest_is z (2 ^ 64) (pow_pos 64) }

-- so it follows the rule for these types
from_wrapped : (to : Arith) (z : ℤ) → to ≢ Boolean → Converts to z (converted to z)
from_wrapped to z ne = let w = wrapped to z ne in wraps ne w.value w.times w.is

-- the definition follows the rule
pub follows_rule : (to : Arith) (value : ℤ) → Converts to value (converted to value)
follows_rule Boolean (pos zero) = false_value
follows_rule Boolean (pos (suc n)) = true_value (λ e. cc)
follows_rule Boolean (negsuc n) = true_value (λ e. cc)
follows_rule Char value = from_wrapped Char value (λ e. cc)
follows_rule UChar value = from_wrapped UChar value (λ e. cc)
follows_rule Short value = from_wrapped Short value (λ e. cc)
follows_rule UShort value = from_wrapped UShort value (λ e. cc)
follows_rule Int value = from_wrapped Int value (λ e. cc)
follows_rule UInt value = from_wrapped UInt value (λ e. cc)
follows_rule Long value = from_wrapped Long value (λ e. cc)
follows_rule ULong value = from_wrapped ULong value (λ e. cc)
follows_rule LLong value = from_wrapped LLong value (λ e. cc)
follows_rule ULLong value = from_wrapped ULLong value (λ e. cc)

-- a number but 0 is 1 as a bool
truth : (z : ℤ) → z ≢ pos 0 → pos 1 ≡ converted Boolean z
truth (pos zero) ne = absurd (ne refl)
truth (pos (suc n)) ne = refl
truth (negsuc n) ne = refl

-- a number converts to what the definition says, and to nothing else
pub one_result : (to : Arith) (value result : ℤ) → Converts to value result → result ≡ converted to value
one_result _ _ _ false_value = refl
one_result _ _ _ (true_value ne) = truth _ ne
one_result to value result (wraps ne is_value times is) =
    let w = wrapped to value ne in
    same_rest (2 ^ width to) (least to) result (converted to value) value times w.times is w.is is_value.0 (in_range to result is_value) w.value.0 (in_range to (converted to value) w.value)

-- what the definition says follows the rule
pub as_rule : (to : Arith) (value result : ℤ) → result ≡ converted to value → Converts to value result
as_rule to value result e = rw e (follows_rule to value)

-- no modulus has more than 65 bits
pub modulus_small : (to : Arith) → 2 ^ width to ≤ 2 ^ 64
modulus_small Boolean = lit≤ tt
modulus_small Char = lit≤ tt
modulus_small UChar = lit≤ tt
modulus_small Short = lit≤ tt
modulus_small UShort = lit≤ tt
modulus_small Int = lit≤ tt
modulus_small UInt = lit≤ tt
modulus_small Long = lit≤ tt
modulus_small ULong = lit≤ tt
modulus_small LLong = lit≤ tt
modulus_small ULLong = lit≤ tt

-- a remainder above the greatest value of a signed type is lowered
lowered_signed : (bits : ℕ) (z : ℤ) → pos (2 ^ (bits - 1) - 1) <ℤ wrapped_unsigned bits z → wrapped_unsigned bits z -ℤ pos (2 ^ bits) ≡ wrapped_signed bits z
lowered_signed bits z above = let test : int_le (wrapped_unsigned bits z) (pos (2 ^ (bits - 1) - 1)) ≡ false = grind (arith, ints) in rw test refl

-- no remainder is above the greatest value of an unsigned type
none_above : {P : Type 0} (bits : ℕ) (z : ℤ) → pos (2 ^ bits - 1) <ℤ wrapped_unsigned bits z → P
none_above bits z above = let h = unsigned_in bits z in absurd (omega (arith, ints, h.1))

-- a remainder above the greatest value less the modulus is what the definition says
pub lowered : (to : Arith) (z : ℤ) → to ≢ Boolean → greatest to <ℤ wrapped_unsigned (width to) z → wrapped_unsigned (width to) z -ℤ pos (2 ^ width to) ≡ converted to z
lowered Boolean z ne above = absurd (ne refl)
lowered Char z ne above = lowered_signed 8 z above
lowered UChar z ne above = none_above 8 z above
lowered Short z ne above = lowered_signed 16 z above
lowered UShort z ne above = none_above 16 z above
lowered Int z ne above = lowered_signed 32 z above
lowered UInt z ne above = none_above 32 z above
lowered Long z ne above = lowered_signed 64 z above
lowered ULong z ne above = none_above 64 z above
lowered LLong z ne above = lowered_signed 64 z above
lowered ULLong z ne above = none_above 64 z above
