-- Values of integer types.
use Rattle.std.specs.Prelude.{◌≤◌, ◌^◌, ℤ, unsigned_abs}
use Rattle.ec_ctypes.specs.declared.types.arith.Arith.{Arith}
use Rattle.ec_ctypes.specs.declared.types.arith.Arith.TheVariants.{Int}
use Rattle.ec_ctypes.specs.Arithmetic.{IsValue, rank}

-- a type to which an operand may be promoted: its rank is at least that of int
abbrev pub IsWide : Arith → Type 0
IsWide t = rank Int ≤ rank t

-- both numbers are values of the type
abbrev pub AreValues : Arith → ℤ → ℤ → Type 0
AreValues t x y = IsValue t x × IsValue t y

-- the number is no larger than the values of integer types are, whatever its sign
abbrev pub IsSmall : ℤ → Type 0
IsSmall z = unsigned_abs z ≤ 2 ^ 64
