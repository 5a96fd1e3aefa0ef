-- Operations on values whose types are known: what they give, and when they trap (ISO/IEC 9899:1999, 6.3.1, 6.3.2.3, 6.5.3 and 6.5.5 to 6.5.12).
use Rattle.std.specs.Prelude.{ℕ, ◌^◌, Bool, true, false, not, ◌&&◌, if◌then◌else◌, ℤ, pos, negsuc, ◌+ℤ◌, ◌-ℤ◌, ◌*ℤ◌, neg_ℤ, int_le, int_lt, int_div, int_rem, unsigned_abs, bit_and, bit_or, bit_xor, Result, Ok, Err}
use Rattle.std.specs.Int.{int_rem_euclid, int_div_euclid}
use Rattle.ec_base.specs.declared.stop.Trap.{Trap}
use Rattle.ec_base.specs.declared.stop.Trap.TheVariants.{Overflow, Shift, Zero}
use Rattle.ec_ctypes.specs.declared.types.arith.Arith.{Arith}
use Rattle.ec_ctypes.specs.declared.types.arith.Arith.TheVariants.{ULong}
use Rattle.ec_ctypes.specs.Arithmetic.{is_signed, width, least, greatest, converted}
use Rattle.ec_memory_defs.specs.Memory.{Memory, and_then, ValueData, number, address, number_of, ScalarType, integer_type, pointer_type, moved, difference}

-- ---- values

abbrev pub is_zero : ℤ → Bool
is_zero z = int_le z (pos 0) && int_le (pos 0) z

-- whether a value counts as true: a number or a pointer that is not 0
abbrev pub is_true : ValueData → Bool
is_true v = not (is_zero (number_of v))

abbrev pub truth : Bool → ValueData
truth true = number (pos 1)
truth false = number (pos 0)

-- a value as one of another type. A number becomes a pointer, and a pointer a number, by way of unsigned long (6.3.2.3)
abbrev pub value_as : ScalarType → ValueData → ValueData
value_as (integer_type t) v = number (converted t (number_of v))
value_as pointer_type (number z) = address (unsigned_abs (converted ULong z))
value_as pointer_type (address a) = address a

-- ---- integers, of one promoted type

abbrev pub fits : Arith → ℤ → Bool
fits t z = int_le (least t) z && int_le z (greatest t)

-- a result as a value of the type: a signed one that doesn't fit traps, an unsigned one wraps (6.2.5, 6.5)
abbrev pub result_of : Arith → ℤ → Result ℤ Trap
result_of t z = if is_signed t then (if fits t z then Ok z else Err Overflow)
    else Ok (converted t z)

-- operators whose operands and result have one type
pub data IntegerOperator : Type 0 where
  plus : IntegerOperator
  minus : IntegerOperator
  times : IntegerOperator
  divided : IntegerOperator
  remainder : IntegerOperator
  bits_and : IntegerOperator
  bits_or : IntegerOperator
  bits_xor : IntegerOperator

pub data Comparison : Type 0 where
  equal : Comparison
  unequal : Comparison
  less : Comparison
  greater : Comparison
  at_most : Comparison
  at_least : Comparison

abbrev pub compares : Comparison → ℤ → ℤ → Bool
compares equal a b = int_le a b && int_le b a
compares unequal a b = not (int_le a b && int_le b a)
compares less a b = int_lt a b
compares greater a b = int_lt b a
compares at_most a b = int_le a b
compares at_least a b = int_le b a

-- the quotient cut towards zero (6.5.5)
abbrev pub quotient : Arith → ℤ → ℤ → Result ℤ Trap
quotient t a b = elim (is_zero b) [ true ↦ Err Zero | false ↦ result_of t (int_div a b) ]

-- the remainder has the sign of the left operand (6.5.5). One whose quotient doesn't fit traps too
abbrev pub remainder_of : Arith → ℤ → ℤ → Result ℤ Trap
remainder_of t a b = and_then (quotient t a b) (λ q. Ok (int_rem a b))

-- the bits of a value of the type, as a number
abbrev pub bits_of : Arith → ℤ → ℕ
bits_of t z = unsigned_abs (int_rem_euclid z (pos (2 ^ width t)))

abbrev pub calculated : Arith → IntegerOperator → ℤ → ℤ → Result ℤ Trap
calculated t plus a b = result_of t (a +ℤ b)
calculated t minus a b = result_of t (a -ℤ b)
calculated t times a b = result_of t (a *ℤ b)
calculated t divided a b = quotient t a b
calculated t remainder a b = remainder_of t a b
calculated t bits_and a b = Ok (converted t (pos (bit_and (bits_of t a) (bits_of t b))))
calculated t bits_or a b = Ok (converted t (pos (bit_or (bits_of t a) (bits_of t b))))
calculated t bits_xor a b = Ok (converted t (pos (bit_xor (bits_of t a) (bits_of t b))))

-- whether an amount is one by which a value of the type is shifted
abbrev pub is_amount : Arith → ℤ → Bool
is_amount t n = int_le (pos 0) n && int_lt n (pos (width t))

-- a left shift, of an amount that the type allows. A negative value, or a result that doesn't fit, traps where the type is signed (6.5.7)
abbrev pub shifted : Arith → ℤ → ℤ → Result ℤ Trap
shifted t a n = if is_signed t && int_lt a (pos 0) then Err Overflow
    else result_of t (a *ℤ pos (2 ^ unsigned_abs n))

-- the amount is tested before all else
abbrev pub shifted_left : Arith → ℤ → ℤ → Result ℤ Trap
shifted_left t a n = elim (is_amount t n) [ true ↦ shifted t a n | false ↦ Err Shift ]

-- a right shift of a negative value keeps its sign
abbrev pub shifted_right : Arith → ℤ → ℤ → Result ℤ Trap
shifted_right t a n = elim (is_amount t n) [
  | true ↦ Ok (int_div_euclid a (pos (2 ^ unsigned_abs n)))
  | false ↦ Err Shift
]

-- `-a` and `~a`
abbrev pub negated : Arith → ℤ → Result ℤ Trap
negated t a = result_of t (neg_ℤ a)

abbrev pub flipped : Arith → ℤ → ℤ
flipped t a = converted t (negsuc 0 -ℤ a)

-- ---- operations on two values

-- what an operator does, once its operands are converted. Sizes are those of the elements that a pointer leads to
pub data Operation : Type 0 where
  -- both operands and the result have this type
  integers : Arith → IntegerOperator → Operation
  -- the type is that of the left operand and of the result
  shift_left : Arith → Operation
  shift_right : Arith → Operation
  -- numbers of one type, or pointers by their numbers
  compare : Comparison → Operation
  -- a pointer and a number, a number and a pointer
  pointer_plus : ℕ → Operation
  plus_pointer : ℕ → Operation
  pointer_minus : ℕ → Operation
  pointers_apart : ℕ → Operation

-- what an operation gives or how it traps; or that its operands are not of its types
pub data Worked : Type 0 where
  gives : ValueData → Worked
  traps : Trap → Worked
  misfit : Worked

abbrev pub number_worked : Result ℤ Trap → Worked
number_worked (Ok z) = gives (number z)
number_worked (Err trap) = traps trap

abbrev pub address_worked : Result ℕ Trap → Worked
address_worked (Ok p) = gives (address p)
address_worked (Err trap) = traps trap

abbrev pub on_numbers : (ℤ → ℤ → Worked) → ValueData → ValueData → Worked
on_numbers k (number a) (number b) = k a b
on_numbers k (number a) (address q) = misfit
on_numbers k (address p) b = misfit

abbrev pub on_pointer : (ℕ → ℤ → Worked) → ValueData → ValueData → Worked
on_pointer k (address p) (number n) = k p n
on_pointer k (address p) (address q) = misfit
on_pointer k (number n) b = misfit

abbrev pub compared : Comparison → ValueData → ValueData → Worked
compared c (number a) (number b) = gives (truth (compares c a b))
compared c (address p) (address q) = gives (truth (compares c (pos p) (pos q)))
compared c (number a) (address q) = misfit
compared c (address p) (number b) = misfit

abbrev pub pointers_worked : ℕ → ValueData → ValueData → Worked
pointers_worked size (address p) (address q) = number_worked (difference p q size)
pointers_worked size (address p) (number b) = misfit
pointers_worked size (number a) b = misfit

-- the operation on two values, in a memory: pointers move within their objects
abbrev pub worked : Operation → Memory → ValueData → ValueData → Worked
worked (integers t op) m a b = on_numbers (λ x y. number_worked (calculated t op x y)) a b
worked (shift_left t) m a b = on_numbers (λ x y. number_worked (shifted_left t x y)) a b
worked (shift_right t) m a b = on_numbers (λ x y. number_worked (shifted_right t x y)) a b
worked (compare c) m a b = compared c a b
worked (pointer_plus size) m a b = on_pointer (λ p n. address_worked (moved m p n size)) a b
worked (plus_pointer size) m a b = on_pointer (λ p n. address_worked (moved m p n size)) b a
worked (pointer_minus size) m a b =
    on_pointer (λ p n. address_worked (moved m p (neg_ℤ n) size)) a b
worked (pointers_apart size) m a b = pointers_worked size a b
