-- A number in decimal, read back as a field.
use Rattle.std.proofs.Common.{◌≡◌, ◌∙◌, ℕ, suc, ◌^◌, Bool, true, false, List, [], ◌∷◌, refl, ap, arith, Some, Ok}
use Rattle.std.specs.Prelude.{ℤ, pos, negsuc, neg_ℤ, ◌≤ℤ◌, int_le, ◌-◌, ◌==◌}
use Rattle.std.specs.Fmt.{decimal, signed_decimal}
use Rattle.std.specs.Int.{IsInRange}
use Rattle.std.specs.Str.Parse.{IsNumeral, digits_value}
use Rattle.std.proofs.lemmas.Bool.Decides.{nat_tests}
use Rattle.std.proofs.lemmas.Int.{ints}
use Rattle.std.proofs.lemmas.Fmt.{decimal_is_IsNumeral}
use Rattle.std.proofs.lemmas.Str.Parse.{digit_at}
use Rattle.ec_ctypes.specs.declared.types.arith.Arith.{Arith}
use Rattle.ec_ctypes.specs.declared.types.arith.Arith.TheVariants.{Bool as Boolean, Char, UChar, Short, UShort, Int, UInt, Long, ULong, LLong, ULLong}
use Rattle.ec_ctypes.specs.Arithmetic.{least, greatest, IsValue}
use Rattle.ec_convert.proofs.FieldNumbers.{digits_to}
use Rattle.ec_transfer_defs.specs.Conversion.{field_number, fits, integer_bytes, number_bytes, field_bytes}
use Rattle.ec_transfer_defs.specs.Hosts.{integer}

-- digits without a sign
plain : (ds : List ℕ) (n : ℕ) → IsNumeral 10 ds → digits_value 10 ds ≡ n → field_number ds ≡ Some (pos n)
plain [] n numeral e = absurd (omega (arith, numeral.0))
plain (d ∷ ds) n numeral e =
    let digit : IsInRange 48 57 d = digit_at (d ∷ ds) 0 numeral.1 (omega arith) in
    tested (d == 45) (d == 43) refl refl digit
  where
    tested : (minus plus : Bool) → (d == 45) ≡ minus → (d == 43) ≡ plus → IsInRange 48 57 d → field_number (d ∷ ds) ≡ Some (pos n)
    tested true plus m p digit = absurd (grind (arith, nat_tests))
    tested false true m p digit = absurd (grind (arith, nat_tests))
    tested false false m p digit = rw (m, p, digits_to (d ∷ ds) numeral) (ap (λ k. Some (pos k)) e)

-- digits behind a minus
negative : (ds : List ℕ) (n : ℕ) → IsNumeral 10 ds → digits_value 10 ds ≡ suc n → field_number (45 ∷ ds) ≡ Some (negsuc n)
negative ds n numeral e = rw (digits_to ds numeral) (ap (λ k. Some (neg_ℤ (pos k))) e)

-- a number of less than 64 bits
small : (z : ℤ) → negsuc (2 ^ 63 - 1) ≤ℤ z → z ≤ℤ pos (2 ^ 64 - 1) → field_number (signed_decimal z) ≡ Some z
small (pos n) low high = let d = decimal_is_IsNumeral n (omega (arith, ints)) in plain (decimal n) n d.0 d.1
small (negsuc n) low high = let d = decimal_is_IsNumeral (suc n) (omega (arith, ints)) in negative (decimal (suc n)) n d.0 d.1

-- each type is within 64 bits
low : (t : Arith) (z : ℤ) → IsValue t z → negsuc (2 ^ 63 - 1) ≤ℤ z
low Boolean z v = omega (arith, ints, v.0, v.1)
low Char z v = omega (arith, ints, v.0, v.1)
low UChar z v = omega (arith, ints, v.0, v.1)
low Short z v = omega (arith, ints, v.0, v.1)
low UShort z v = omega (arith, ints, v.0, v.1)
low Int z v = omega (arith, ints, v.0, v.1)
low UInt z v = omega (arith, ints, v.0, v.1)
low Long z v = omega (arith, ints, v.0, v.1)
low ULong z v = omega (arith, ints, v.0, v.1)
low LLong z v = omega (arith, ints, v.0, v.1)
low ULLong z v = omega (arith, ints, v.0, v.1)

high : (t : Arith) (z : ℤ) → IsValue t z → z ≤ℤ pos (2 ^ 64 - 1)
high Boolean z v = omega (arith, ints, v.0, v.1)
high Char z v = omega (arith, ints, v.0, v.1)
high UChar z v = omega (arith, ints, v.0, v.1)
high Short z v = omega (arith, ints, v.0, v.1)
high UShort z v = omega (arith, ints, v.0, v.1)
high Int z v = omega (arith, ints, v.0, v.1)
high UInt z v = omega (arith, ints, v.0, v.1)
high Long z v = omega (arith, ints, v.0, v.1)
high ULong z v = omega (arith, ints, v.0, v.1)
high LLong z v = omega (arith, ints, v.0, v.1)
high ULLong z v = omega (arith, ints, v.0, v.1)

at_most_test : (a b : ℤ) → a ≤ℤ b → int_le a b ≡ true
at_most_test a b h = grind (arith, ints)

-- a number of the type passes its test
passes : (t : Arith) (z : ℤ) → IsValue t z → fits t z ≡ true
passes t z v = rw (at_most_test (least t) z v.0, at_most_test z (greatest t) v.1) refl

pub back_again : (t : Arith) (z : ℤ) → IsValue t z → field_bytes (integer t) (signed_decimal z) ≡ Ok (integer_bytes t z)
back_again t z v = ap (number_bytes t) (small z (low t z v) (high t z v)) ∙ rw (passes t z v) refl
