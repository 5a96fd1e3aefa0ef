-- Parts of a format one after the other.
use Rattle.std.specs.Prelude.{ℕ, ℤ, pos, List, [], ◌∷◌, ◌++◌, Option, Some, None, Result, Ok, Err}
use Rattle.ec_base.specs.declared.stop.Trap.{Trap}
use Rattle.ec_meaning_defs.specs.functions.Formats.{Amount, absent, given, from_argument}
use Rattle.ec_meaning_defs.specs.functions.Printing.{Put}
use Rattle.ec_memory_defs.specs.Memory.{ValueData, number, address}

-- the number at the front of the arguments
abbrev pub number_taken : List ValueData → Option (ℤ × List ValueData)
number_taken [] = None
number_taken (number z ∷ vs) = Some (z, vs)
number_taken (address p ∷ vs) = None

-- the pointer at the front of the arguments
abbrev pub address_taken : List ValueData → Option (ℕ × List ValueData)
address_taken [] = None
address_taken (number z ∷ vs) = None
address_taken (address p ∷ vs) = Some (p, vs)

-- a width or a precision
abbrev pub amount_taken : Amount → ℤ → List ValueData → Option (ℤ × List ValueData)
amount_taken absent otherwise vs = Some (otherwise, vs)
amount_taken (given n) otherwise vs = Some (pos n, vs)
amount_taken from_argument otherwise vs = number_taken vs

-- what is put so far, with what a part puts behind it
abbrev pub behind : List ℕ → Put → Put
behind front None = None
behind front (Some (Ok bytes, vs)) = Some (Ok (front ++ bytes), vs)
behind front (Some (Err trap, vs)) = Some (Err trap, vs)

-- whether a part was put, and how it failed
abbrev pub put_result : Put → Option (Result (List ℕ) Trap)
put_result None = None
put_result (Some done) = Some done.0
