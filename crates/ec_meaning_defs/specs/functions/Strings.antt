-- The functions of string.h (ISO/IEC 9899:1999, 7.21), over a memory.
use Rattle.std.specs.Prelude.{ℕ, zero, suc, ◌+◌, ◌-◌, Bool, true, false, ◌==◌, nat_lt, if◌then◌else◌, ℤ, pos, negsuc, List, [], ◌∷◌, ◌++◌, drop, length, replicate, Some, None, Result, Ok, Err}
use Rattle.ec_base.specs.declared.stop.Trap.{Trap}
use Rattle.ec_base.specs.declared.stop.Trap.TheVariants.{Outside, Unset}
use Rattle.ec_memory_defs.specs.Cells.{Cell}
use Rattle.ec_memory_defs.specs.Memory.{Memory, and_then, object_cells, object_of, offset_of, text_at, text_up_to, put, copy, fill}

abbrev pub cell_reads : List Cell → List (Result ℕ Trap)
cell_reads [] = Err Outside ∷ []
cell_reads (None ∷ cells) = Err Unset ∷ []
cell_reads (Some b ∷ cells) = Ok b ∷ cell_reads cells

abbrev pub reads_of : Result (List Cell) Trap → ℕ → List (Result ℕ Trap)
reads_of (Err trap) at = Err trap ∷ []
reads_of (Ok cells) at = cell_reads (drop at cells)

-- what the bytes from a pointer on read as, each an access of its own, up to and with the first that traps
abbrev pub reads_from : Memory → ℕ → List (Result ℕ Trap)
reads_from m p = reads_of (object_cells m (object_of p)) (offset_of p)

-- two bytes against one another
abbrev pub order_of : ℕ → ℕ → ℤ
order_of a b = if nat_lt a b then negsuc 0 else pos 1

-- at most so many bytes are compared, the first one's before the second one's. It ends at the first difference, and where a text is compared at a zero byte (7.21.4)
abbrev pub compared : Bool → ℕ → List (Result ℕ Trap) → List (Result ℕ Trap) → Result ℤ Trap
compared texts zero xs ys = Ok (pos 0)
compared texts (suc n) [] ys = Err Outside
compared texts (suc n) (Err trap ∷ xs) ys = Err trap
compared texts (suc n) (Ok a ∷ xs) [] = Err Outside
compared texts (suc n) (Ok a ∷ xs) (Err trap ∷ ys) = Err trap
compared texts (suc n) (Ok a ∷ xs) (Ok b ∷ ys) =
    elim (a == b) [
      | true ↦ elim texts [
        | true ↦ elim a [ zero ↦ Ok (pos 0) | suc c ↦ compared texts n xs ys ]
        | false ↦ compared texts n xs ys
      ]
      | false ↦ Ok (order_of a b)
    ]

-- strcmp: the first text ends, or it traps, within what can be read of it
abbrev pub texts_compared : Memory → ℕ → ℕ → Result ℤ Trap
texts_compared m p q = compared true (length (reads_from m p)) (reads_from m p) (reads_from m q)

-- strncmp
abbrev pub fronts_compared : Memory → ℕ → ℕ → ℕ → Result ℤ Trap
fronts_compared m p q n = compared true n (reads_from m p) (reads_from m q)

-- memcmp
abbrev pub bytes_compared : Memory → ℕ → ℕ → ℕ → Result ℤ Trap
bytes_compared m p q n = compared false n (reads_from m p) (reads_from m q)

-- strlen
abbrev pub text_length : Memory → ℕ → Result ℤ Trap
text_length m p = and_then (text_at m p) (λ bytes. Ok (pos (length bytes)))

-- strcpy: the source is read wholly, and then it and its zero byte are written as one access
abbrev pub text_copied : Memory → ℕ → ℕ → Result Memory Trap
text_copied m to from = and_then (text_at m from) (λ bytes. put m to (bytes ++ 0 ∷ []))

-- strncpy: exactly n bytes are written, of which those behind the text are zero
abbrev pub front_copied : Memory → ℕ → ℕ → ℕ → Result Memory Trap
front_copied m to from n =
    and_then (text_up_to m from n) (λ bytes. put m to (bytes ++ replicate (n - length bytes) 0))

-- strcat: the text at the destination is read first
abbrev pub text_appended : Memory → ℕ → ℕ → Result Memory Trap
text_appended m to from =
    and_then (text_at m to) (λ front. and_then (text_at m from) (λ bytes.
    put m (to + length front) (bytes ++ 0 ∷ [])))

-- memcpy
abbrev pub bytes_copied : Memory → ℕ → ℕ → ℕ → Result Memory Trap
bytes_copied m to from n = copy m to from n

-- memset
abbrev pub bytes_filled : Memory → ℕ → ℕ → ℕ → Result Memory Trap
bytes_filled m to byte n = fill m to n byte
