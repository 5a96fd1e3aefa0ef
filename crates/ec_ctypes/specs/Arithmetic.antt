-- The integer types: their values, their ranks, and the conversions between them (ISO/IEC 9899:1999, 6.2.5, 6.2.6.2, 6.3.1).
use Rattle.std.specs.Prelude.{◌≡◌, ◌≢◌, ℕ, zero, suc, ◌-◌, ◌^◌, Bool, true, false, ◌&&◌, if◌then◌else◌, nat_le, ℤ, pos, negsuc, ◌+ℤ◌, ◌-ℤ◌, ◌*ℤ◌, ◌≤ℤ◌, int_le}
use Rattle.std.specs.Int.{int_rem_euclid}
use Rattle.ec_ctypes.specs.declared.types.arith.Arith.{Arith}
use Rattle.ec_ctypes.specs.declared.types.arith.Arith.TheVariants.{Bool as Boolean, Char, UChar, Short, UShort, Int, UInt, Long, ULong, LLong, ULLong}

-- whether values may be negative
abbrev pub is_signed : Arith → Bool
is_signed Boolean = false
is_signed Char = true
is_signed UChar = false
is_signed Short = true
is_signed UShort = false
is_signed Int = true
is_signed UInt = false
is_signed Long = true
is_signed ULong = false
is_signed LLong = true
is_signed ULLong = false

-- the width: how many bits say what the value is, with its sign (6.2.6.2)
abbrev pub width : Arith → ℕ
width Boolean = 1
width Char = 8
width UChar = 8
width Short = 16
width UShort = 16
width Int = 32
width UInt = 32
width Long = 64
width ULong = 64
width LLong = 64
width ULLong = 64

-- the least and the greatest value
abbrev pub least : Arith → ℤ
least t = if is_signed t then negsuc (2 ^ (width t - 1) - 1) else pos 0

abbrev pub greatest : Arith → ℤ
greatest t = if is_signed t then pos (2 ^ (width t - 1) - 1) else pos (2 ^ width t - 1)

-- the number is a value of the type
abbrev pub IsValue : Arith → ℤ → Type 0
IsValue t z = (least t ≤ℤ z) × (z ≤ℤ greatest t)

-- whether each value of the second type is one of the first
abbrev pub represents_all : Arith → Arith → Bool
represents_all wide narrow =
    int_le (least wide) (least narrow) && int_le (greatest narrow) (greatest wide)

-- the conversion rank (6.3.1.1, 1)
abbrev pub rank : Arith → ℕ
rank Boolean = 0
rank Char = 1
rank UChar = 1
rank Short = 2
rank UShort = 2
rank Int = 3
rank UInt = 3
rank Long = 4
rank ULong = 4
rank LLong = 5
rank ULLong = 5

-- the unsigned type that corresponds to a type (6.2.5, 6)
abbrev pub unsigned_type : Arith → Arith
unsigned_type Boolean = Boolean
unsigned_type Char = UChar
unsigned_type UChar = UChar
unsigned_type Short = UShort
unsigned_type UShort = UShort
unsigned_type Int = UInt
unsigned_type UInt = UInt
unsigned_type Long = ULong
unsigned_type ULong = ULong
unsigned_type LLong = ULLong
unsigned_type ULLong = ULLong

-- the integer promotions (6.3.1.1, 2): a type of at most the rank of int becomes int, if int represents all its values, and else unsigned int
abbrev pub promoted : Arith → Arith
promoted t = if nat_le (rank t) (rank Int) then (if represents_all Int t then Int else UInt) else t

-- the common type of an unsigned and a signed type, both promoted (6.3.1.8, 1)
abbrev pub mixed : Arith → Arith → Arith
mixed unsigned signed =
    if nat_le (rank signed) (rank unsigned) then unsigned
    else (if represents_all signed unsigned then signed else unsigned_type signed)

-- the common type of two promoted types (6.3.1.8, 1)
abbrev pub common : Arith → Arith → Arith
common a b = if is_signed a then (if is_signed b then higher a b else mixed b a)
    else (if is_signed b then mixed a b else higher a b)
  where
    higher : Arith → Arith → Arith
    higher x y = if nat_le (rank y) (rank x) then x else y

-- the usual arithmetic conversions (6.3.1.8)
abbrev pub usual_type : Arith → Arith → Arith
usual_type a b = common (promoted a) (promoted b)

-- the number that is a value of a type of so many bits, and differs from z by a multiple of 2 ^ bits
abbrev pub wrapped_unsigned : ℕ → ℤ → ℤ
wrapped_unsigned bits z = int_rem_euclid z (pos (2 ^ bits))

abbrev pub wrapped_signed : ℕ → ℤ → ℤ
wrapped_signed bits z =
    let r = wrapped_unsigned bits z in
    if int_le r (pos (2 ^ (bits - 1) - 1)) then r else r -ℤ pos (2 ^ bits)

-- a number as a value of a type (6.3.1.2, 6.3.1.3)
abbrev pub converted : Arith → ℤ → ℤ
converted Boolean (pos zero) = pos 0
converted Boolean (pos (suc n)) = pos 1
converted Boolean (negsuc n) = pos 1
converted t z = if is_signed t then wrapped_signed (width t) z else wrapped_unsigned (width t) z

-- `result` is what the number `value` is as a value of the type `to`: for bool it is 0 where the value is 0 and else 1 (6.3.1.2), and for any other type it is the value of that type that differs from the number by a multiple of 2 to the type's width (6.3.1.3)
pub data Converts : Arith → ℤ → ℤ → Type 0 where
  false_value : Converts Boolean (pos 0) (pos 0)
  true_value : {value : ℤ} → value ≢ pos 0 → Converts Boolean value (pos 1)
  wraps : {to : Arith} {value result : ℤ} → to ≢ Boolean → IsValue to result →
      (times : ℤ) → result ≡ value +ℤ (times *ℤ pos (2 ^ width to)) → Converts to value result

-- the numbers from `low` to `high` are values of the type, and the next ones wrap round to the other end
abbrev pub WrapsBetween : Arith → ℤ → ℤ → Type 0
WrapsBetween t low high =
    (converted t low ≡ low) × (converted t high ≡ high)
    × (converted t (high +ℤ pos 1) ≡ low) × (converted t (low -ℤ pos 1) ≡ high)
