-- Operations on numbers of one type, as examples write them.
use Rattle.std.specs.Prelude.{ℕ, ℤ, [], ◌∷◌, Some}
use Rattle.ec_ctypes.specs.declared.types.arith.Arith.{Arith}
use Rattle.ec_memory_defs.specs.Memory.{Memory, ValueData, number, alive, ended, pointer_to}
use Rattle.ec_meaning_defs.specs.resolved.Operations.{IntegerOperator, Comparison, Operation, integers, shift_left, shift_right, compare, Worked, worked}

abbrev pub on : Arith → IntegerOperator → ℤ → ℤ → Worked
on t op a b = worked (integers t op) [] (number a) (number b)

abbrev pub left : Arith → ℤ → ℤ → Worked
left t a n = worked (shift_left t) [] (number a) (number n)

abbrev pub right : Arith → ℤ → ℤ → Worked
right t a n = worked (shift_right t) [] (number a) (number n)

abbrev pub order : Comparison → ℤ → ℤ → Worked
order c a b = worked (compare c) [] (number a) (number b)

-- an object of four bytes, and one that has ended
abbrev pub two_objects : Memory
two_objects = alive (Some 1 ∷ Some 2 ∷ Some 3 ∷ Some 4 ∷ []) ∷ ended ∷ []

abbrev pub first : ℕ
first = pointer_to 1 0

abbrev pub second : ℕ
second = pointer_to 2 0

abbrev pub with : Operation → ValueData → ValueData → Worked
with op a b = worked op two_objects a b
