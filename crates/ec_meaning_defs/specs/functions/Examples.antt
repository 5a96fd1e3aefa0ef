-- A memory for examples, and formats printed over it.
use Rattle.std.specs.Prelude.{ℕ, List, [], ◌∷◌, ◌++◌, replicate, Option, Some, Result, Ok, Err, codes}
use Prim.Native.String.{String}
use Rattle.std.specs.Option.{option_and_then}
use Rattle.ec_base.specs.declared.stop.Trap.{Trap}
use Rattle.ec_memory_defs.specs.Cells.{Cell, set_cells, unset_cells}
use Rattle.ec_memory_defs.specs.Memory.{Memory, ObjectData, alive, ended, ValueData, pointer_to, little_endian_bytes}
use Rattle.ec_meaning_defs.specs.functions.Formats.{format_parts}
use Rattle.ec_meaning_defs.specs.functions.Functions.{Known, Effect, effect_of}
use Rattle.ec_meaning_defs.specs.functions.Printing.{printed}

abbrev pub text_object : String → ObjectData
text_object t = alive (set_cells (codes t ++ 0 ∷ []))

-- the last error has this length, and its message begins so
abbrev pub error_object : ℕ → String → ObjectData
error_object size t = alive (unset_cells 24 ++ set_cells (little_endian_bytes 4 size ++ codes t))

-- the same with 149 bytes, which are all that there is
abbrev pub long_error : ℕ → ObjectData
long_error size =
    alive (unset_cells 24 ++ set_cells (little_endian_bytes 4 size ++ replicate 149 120))

-- sqlca with an error; the texts "abc", "abd", "xyz" without its zero byte, and "a" before cells that are unset; an object that has ended; six unset cells
abbrev pub objects : Memory
objects =
    error_object 3 "bad!" ∷ text_object "abc" ∷ text_object "abd" ∷ alive (set_cells (codes "xyz"))
    ∷ alive (set_cells (97 ∷ []) ++ unset_cells 2)
    ∷ ended ∷ alive (unset_cells 6) ∷ []

abbrev pub abc : ℕ
abc = pointer_to 2 0

abbrev pub abd : ℕ
abd = pointer_to 3 0

abbrev pub xyz : ℕ
xyz = pointer_to 4 0

abbrev pub a_unset : ℕ
a_unset = pointer_to 5 0

abbrev pub gone : ℕ
gone = pointer_to 6 0

abbrev pub room : ℕ
room = pointer_to 7 0

-- what a format puts with these arguments
abbrev pub shown : String → List ValueData → Option (Result (List ℕ) Trap)
shown t vs = option_and_then (λ parts. printed objects parts vs) (format_parts (codes t))

abbrev pub puts_text : String → Option (Result (List ℕ) Trap)
puts_text t = Some (Ok (codes t))

abbrev pub puts_trap : Trap → Option (Result (List ℕ) Trap)
puts_trap trap = Some (Err trap)

-- a call over these objects
abbrev pub called : Known → List ValueData → Effect
called f vs = effect_of f objects vs

-- the objects with the last one changed
abbrev pub with_room : List Cell → Memory
with_room cells =
    error_object 3 "bad!" ∷ text_object "abc" ∷ text_object "abd" ∷ alive (set_cells (codes "xyz"))
    ∷ alive (set_cells (97 ∷ []) ++ unset_cells 2)
    ∷ ended ∷ alive cells ∷ []
