-- Room for further objects, and the cells of one that is an int.
use Rattle.std.specs.Prelude.{◌<◌, ◌≤◌, ◌+◌, ◌*◌, ◌^◌, ℕ, ℤ, List, length}
use Rattle.ec_memory_defs.specs.Cells.{Cell, set_cells}
use Rattle.ec_memory_defs.specs.Kinds.{kind_type}
use Rattle.ec_memory_defs.specs.declared.kind.Kind.TheVariants as kind
use Rattle.ec_memory_defs.specs.Memory.{Memory, encoded, live_bytes, number}

-- so many more objects of at most 8 bytes each can be made
abbrev pub HasRoom : Memory → ℕ → Type 0
HasRoom m count = (length m + count < 2 ^ 32) × (live_bytes m + 8 * count ≤ 2 ^ 28)

-- the cells of an int with this value
abbrev pub int_cells : ℤ → List Cell
int_cells z = set_cells (encoded (kind_type kind.Int) (number z))
