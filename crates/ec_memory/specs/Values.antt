-- The values that are loaded and stored.
use Rattle.std.specs.Prelude.{ℤ, pos}
use Rattle.ec_memory.specs.declared.value.Value.{Value}
use Rattle.ec_memory.specs.declared.value.Value.TheVariants as of
use Rattle.ec_memory_defs.specs.Memory.{ValueData, number, address}

-- the value of the definition
abbrev pub value_view : Value → ValueData
value_view (of.Int z) = number z
value_view (of.Ptr p) = address p.0

-- the number that a value is, where it is one
abbrev pub number_in : ValueData → ℤ
number_in (number z) = z
number_in (address a) = pos 0
