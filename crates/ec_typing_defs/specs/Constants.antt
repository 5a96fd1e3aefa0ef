-- The values of integer constant expressions (ISO/IEC 9899:1999, 6.6). One whose evaluation would trap is no constant.
use Rattle.std.specs.Prelude.{ℕ, zero, suc, ◌^◌, Bool, true, false, not, ◌&&◌, ◌||◌, nat_lt, ℤ, pos, negsuc, ◌+ℤ◌, ◌-ℤ◌, ◌*ℤ◌, int_le, int_lt, int_div, int_rem, unsigned_abs, bit_and, bit_or, bit_xor, Option, Some, None, if◌then◌else◌}
use Rattle.std.specs.Int.{int_rem_euclid, int_div_euclid}
use Rattle.ec_ctypes.specs.declared.types.arith.Arith.{Arith}
use Rattle.ec_ctypes.specs.declared.tree.expr.BinOp.{BinOp}
use Rattle.ec_ctypes.specs.declared.tree.expr.BinOp.TheVariants.{Or, And, BitOr, BitXor, BitAnd, Eq, Ne, Lt, Gt, Le, Ge, Shl, Shr, Add, Sub, Mul, Div, Rem}
use Rattle.ec_ctypes.specs.declared.tree.expr.UnOp.{UnOp}
use Rattle.ec_ctypes.specs.declared.tree.expr.UnOp.TheVariants.{Addr, Deref, Plus, Minus, Not, Flip}
use Rattle.ec_ctypes.specs.Arithmetic.{is_signed, width, least, greatest, promoted, usual_type, converted}

-- what an expression is as a constant: one with something else in it than constants, one whose evaluation traps, or one with a value
pub data ConstData : Type 0 where
  variable : ConstData
  trapping : ConstData
  known : ℤ → ConstData

abbrev pub is_zero : ℤ → Bool
is_zero (pos zero) = true
is_zero (pos (suc n)) = false
is_zero (negsuc n) = false

-- 0 or 1
abbrev pub truth : Bool → ℤ
truth true = pos 1
truth false = pos 0

-- ---- operations of integers. None is a trap

-- The exact result of an operation in this type: it is reduced to an unsigned type, and has to fit a signed one (6.2.5, 9; 6.5, 5).
abbrev pub result_in : Arith → ℤ → Option ℤ
result_in t z = if is_signed t then
    (if int_le (least t) z && int_le z (greatest t) then Some z else None) else Some (converted t z)

-- the bits of a value, as a number that is not negative
abbrev pub bits_of : Arith → ℤ → ℕ
bits_of t z = unsigned_abs (int_rem_euclid z (pos (2 ^ width t)))

-- an operation on bits (6.5.10 to 6.5.12)
abbrev pub bitwise : (ℕ → ℕ → ℕ) → Arith → ℤ → ℤ → Option ℤ
bitwise f t x y = Some (converted t (pos (f (bits_of t x) (bits_of t y))))

-- The quotient is cut towards zero (6.5.5, 6).
abbrev pub divided : Arith → ℤ → ℤ → Option ℤ
divided t x y = if is_zero y then None else result_in t (int_div x y)

-- what remains, where there is a quotient
abbrev pub remainder_by : Option ℤ → ℤ → ℤ → Option ℤ
remainder_by None x y = None
remainder_by (Some q) x y = Some (int_rem x y)

abbrev pub remainder : Arith → ℤ → ℤ → Option ℤ
remainder t x y = remainder_by (divided t x y) x y

-- two values of one type, which is the common type of the operands
abbrev pub operated : BinOp → Arith → ℤ → ℤ → Option ℤ
operated Add t x y = result_in t (x +ℤ y)
operated Sub t x y = result_in t (x -ℤ y)
operated Mul t x y = result_in t (x *ℤ y)
operated Div t x y = divided t x y
operated Rem t x y = remainder t x y
operated BitAnd t x y = bitwise bit_and t x y
operated BitOr t x y = bitwise bit_or t x y
operated BitXor t x y = bitwise bit_xor t x y
operated Eq t x y = Some (truth (int_le x y && int_le y x))
operated Ne t x y = Some (truth (not (int_le x y && int_le y x)))
operated Lt t x y = Some (truth (int_lt x y))
operated Gt t x y = Some (truth (int_lt y x))
operated Le t x y = Some (truth (int_le x y))
operated Ge t x y = Some (truth (int_le y x))
operated And t x y = Some (truth (not (is_zero x || is_zero y)))
operated Or t x y = Some (truth (not (is_zero x && is_zero y)))
operated Shl t x y = None
operated Shr t x y = None

-- A value is moved up by so many bits: if it is signed, it is not negative and the result fits (6.5.7, 4).
abbrev pub shifted_up : Arith → ℤ → ℕ → Option ℤ
shifted_up t (pos m) n = result_in t (pos m *ℤ pos (2 ^ n))
shifted_up t (negsuc m) n = None

-- A value is moved down by so many bits. The bits of a negative one are filled with ones, which 6.5.7, 5 leaves to the implementation.
abbrev pub shifted_down : ℤ → ℕ → Option ℤ
shifted_down x n = Some (int_div_euclid x (pos (2 ^ n)))

abbrev pub shifted_by : BinOp → Arith → ℤ → ℕ → Option ℤ
shifted_by Shl t x n = shifted_up t x n
shifted_by _ t x n = shifted_down x n

-- The amount is not negative and below the width (6.5.7, 3).
abbrev pub shifted : BinOp → Arith → ℤ → ℤ → Option ℤ
shifted op t x (pos n) = if nat_lt n (width t) then shifted_by op t x n else None
shifted op t x (negsuc n) = None

abbrev pub common_operated : BinOp → Arith → ℤ → ℤ → Option ℤ
common_operated op t x y = operated op t (converted t x) (converted t y)

-- a binary operation on values of these types
abbrev pub binary_value : BinOp → Arith → ℤ → Arith → ℤ → Option ℤ
binary_value Shl a x b y = shifted Shl (promoted a) x y
binary_value Shr a x b y = shifted Shr (promoted a) x y
binary_value op a x b y = common_operated op (usual_type a b) x y

-- a unary operation on a value of this type (6.5.3.3)
abbrev pub unary_value : UnOp → Arith → ℤ → Option ℤ
unary_value Plus a x = Some x
unary_value Minus a x = result_in (promoted a) (pos 0 -ℤ x)
unary_value Flip a x = Some (converted (promoted a) (negsuc 0 -ℤ x))
unary_value Not a x = Some (truth (is_zero x))
unary_value Addr a x = None
unary_value Deref a x = None

-- ---- constants

abbrev pub constant_of : Option ℤ → ConstData
constant_of None = trapping
constant_of (Some z) = known z

-- `&&` evaluates its right side only where the left one is not 0 (6.5.13, 4)
abbrev pub and_constant : ConstData → ConstData → ConstData
and_constant variable b = variable
and_constant trapping variable = variable
and_constant trapping trapping = trapping
and_constant trapping (known y) = trapping
and_constant (known x) variable = variable
and_constant (known x) trapping = if is_zero x then known (pos 0) else trapping
and_constant (known x) (known y) = known (truth (not (is_zero x || is_zero y)))

-- `||` evaluates its right side only where the left one is 0 (6.5.14, 4)
abbrev pub or_constant : ConstData → ConstData → ConstData
or_constant variable b = variable
or_constant trapping variable = variable
or_constant trapping trapping = trapping
or_constant trapping (known y) = trapping
or_constant (known x) variable = variable
or_constant (known x) trapping = if is_zero x then trapping else known (pos 1)
or_constant (known x) (known y) = known (truth (not (is_zero x && is_zero y)))

abbrev pub strict_constant : BinOp → Arith → Arith → ConstData → ConstData → ConstData
strict_constant op a b variable y = variable
strict_constant op a b trapping variable = variable
strict_constant op a b trapping trapping = trapping
strict_constant op a b trapping (known y) = trapping
strict_constant op a b (known x) variable = variable
strict_constant op a b (known x) trapping = trapping
strict_constant op a b (known x) (known y) = constant_of (binary_value op a x b y)

abbrev pub binary_constant : BinOp → Arith → Arith → ConstData → ConstData → ConstData
binary_constant And a b x y = and_constant x y
binary_constant Or a b x y = or_constant x y
binary_constant op a b x y = strict_constant op a b x y

abbrev pub unary_constant : UnOp → Arith → ConstData → ConstData
unary_constant op a variable = variable
unary_constant op a trapping = trapping
unary_constant op a (known x) = constant_of (unary_value op a x)

-- a cast to an integer type (6.3.1.2, 6.3.1.3)
abbrev pub cast_constant : Arith → ConstData → ConstData
cast_constant to variable = variable
cast_constant to trapping = trapping
cast_constant to (known x) = known (converted to x)

abbrev pub is_known : ConstData → Bool
is_known variable = false
is_known trapping = false
is_known (known x) = true

abbrev pub is_known_zero : ConstData → Bool
is_known_zero variable = false
is_known_zero trapping = false
is_known_zero (known x) = is_zero x
