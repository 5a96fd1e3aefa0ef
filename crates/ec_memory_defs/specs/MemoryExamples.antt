-- Three objects: one of four bytes, of which the third is unset; one that has ended; and the text "h".
use Rattle.std.specs.Prelude.{ℕ, [], ◌∷◌, Some, None}
use Rattle.ec_memory_defs.specs.Memory.{Memory, alive, ended, pointer_to}

abbrev pub three_objects : Memory
three_objects =
    alive (Some 1 ∷ Some 2 ∷ None ∷ Some 4 ∷ []) ∷ ended ∷ alive (Some 104 ∷ Some 0 ∷ []) ∷ []

-- pointers to their first bytes
abbrev pub first : ℕ
first = pointer_to 1 0

abbrev pub second : ℕ
second = pointer_to 2 0

abbrev pub third : ℕ
third = pointer_to 3 0
