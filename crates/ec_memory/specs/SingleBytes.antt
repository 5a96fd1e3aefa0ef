-- A byte so many places behind a pointer.
use Rattle.std.specs.Prelude.{ℕ, ◌+◌, ◌-◌, length, slice_get, Option, Some, None, Result, Ok, Err}
use Rattle.ec_base.specs.declared.stop.Trap.{Trap}
use Rattle.ec_base.specs.declared.stop.Trap.TheVariants.{Outside, Unset}
use Rattle.ec_memory_defs.specs.Cells.{Cell}
use Rattle.ec_memory_defs.specs.Memory.{Memory, and_then, object_cells, object_of, offset_of}

-- what a cell reads as, where there is one
abbrev pub cell_read : Option Cell → Result ℕ Trap
cell_read None = Err Outside
cell_read (Some None) = Err Unset
cell_read (Some (Some b)) = Ok b

-- the byte `behind` places behind a pointer, in the pointer's object
abbrev pub byte_behind : Memory → ℕ → ℕ → Result ℕ Trap
byte_behind m p behind = and_then (object_cells m (object_of p))
    (λ cells. cell_read (slice_get cells (offset_of p + behind)))

-- how many cells of a pointer's object stand from the pointer on
abbrev pub cells_left : Memory → ℕ → Result ℕ Trap
cells_left m p = and_then (object_cells m (object_of p)) (λ cells. Ok (length cells - offset_of p))
