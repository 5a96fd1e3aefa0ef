-- Values in machine words, as values of the definition.
use Rattle.std.specs.Prelude.{◌^◌, ◌<◌, ◌-◌, ℤ, pos, negsuc, ◌≤ℤ◌, ◌<ℤ◌, Result, Ok, Err}
use Rattle.ec_base.specs.declared.stop.Trap.{Trap}
use Rattle.ec_ctypes.specs.declared.types.arith.Arith.{Arith}
use Rattle.ec_memory_defs.specs.Memory.{ValueData, number, address}
use Rattle.ec_meaning_defs.specs.resolved.Operations.{Worked, gives, traps, misfit, number_worked, negated, flipped}
use Rattle.ec_values.specs.declared.word.Stop.{Stop}
use Rattle.ec_values.specs.declared.word.Stop.TheVariants as stop
use Rattle.ec_values.specs.declared.word.Word.{Word}
use Rattle.ec_values.specs.declared.word.Word.TheVariants as word

abbrev pub word_view : Word → ValueData
word_view (word.Signed z) = number z
word_view (word.Unsigned n) = number (pos n)
word_view (word.Address p) = address p.0

-- the numbers that words hold: those of the signed and of the unsigned type of 64 bits
abbrev pub HasWord : ℤ → Type 0
HasWord z = (negsuc (2 ^ 63 - 1) ≤ℤ z) × (z ≤ℤ pos (2 ^ 64 - 1))

-- what an operation gave, or how it stopped
abbrev pub worked_by : Result Word Stop → Worked
worked_by (Ok w) = gives (word_view w)
worked_by (Err (stop.Trap t)) = traps t
worked_by (Err stop.Misfit) = misfit

-- `-a` and `~a` of a value: a pointer has none
abbrev pub negated_word : Arith → ValueData → Worked
negated_word t (number z) = number_worked (negated t z)
negated_word t (address p) = misfit

abbrev pub flipped_word : Arith → ValueData → Worked
flipped_word t (number z) = gives (number (flipped t z))
flipped_word t (address p) = misfit
