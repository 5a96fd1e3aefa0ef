-- A number is added to the int at a pointer.
use Rattle.std.specs.Prelude.{◌≡◌, ◌+ℤ◌, ℕ, ℤ, List, Result, Ok}
use Rattle.ec_base.specs.declared.stop.Trap.{Trap}
use Rattle.ec_ctypes.specs.Arithmetic.{IsValue}
use Rattle.ec_ctypes.specs.declared.types.arith.Arith.TheVariants as arith
use Rattle.ec_memory_defs.specs.Cells.{Cell, bytes_of, part_of, set_cells, written}
use Rattle.ec_memory_defs.specs.Kinds.{kind_type}
use Rattle.ec_memory_defs.specs.declared.kind.Kind.TheVariants as kind
use Rattle.ec_memory_defs.specs.Memory.{Memory, ValueData, and_then, decoded, encoded, load, number, or_unset, store}

-- the number from before is read as an int, and the sum is stored as one, which has it
pub record Adds (m : Memory) (p : ℕ) (before by : ℤ) (n : Memory) : Type 0 where
  pub found : load m p (kind_type kind.Int) ≡ Ok (number before)
  pub fits : IsValue arith.Int (before +ℤ by)
  pub stored : store m p (kind_type kind.Int) (number (before +ℤ by)) ≡ Ok n

-- whatever is read as an int, int doesn't have its sum
abbrev pub HasNoSum : Memory → ℕ → ℤ → Type 0
HasNoSum m p by = (before : ℤ) → load m p (kind_type kind.Int) ≡ Ok (number before)
    → IsValue arith.Int (before +ℤ by) → ⊥

-- what the cells from a place on hold as an int
abbrev pub int_at : List Cell → ℕ → Result ValueData Trap
int_at cells at = and_then (or_unset (bytes_of (part_of cells at 4))) (λ bytes. Ok (decoded (kind_type kind.Int) bytes))

-- a number is added to the int that cells hold from a place on, and these are the cells after it
pub record AddsAt (cells : List Cell) (at : ℕ) (before by : ℤ) (after : List Cell) : Type 0 where
  pub found : int_at cells at ≡ Ok (number before)
  pub fits : IsValue arith.Int (before +ℤ by)
  pub stored : after ≡ written cells at (set_cells (encoded (kind_type kind.Int) (number (before +ℤ by))))

-- whatever they hold there as an int, int doesn't have its sum
abbrev pub HasNoSumAt : List Cell → ℕ → ℤ → Type 0
HasNoSumAt cells at by = (before : ℤ) → int_at cells at ≡ Ok (number before)
    → IsValue arith.Int (before +ℤ by) → ⊥
