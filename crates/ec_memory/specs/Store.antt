-- What a call on a memory gives, as the definition of memory gives it.
use Rattle.std.specs.Prelude.{ℕ, Bool, true, false, List, Result, Ok, Err}
use Rattle.ec_base.specs.declared.stop.Trap.{Trap}
use Rattle.ec_memory_defs.specs.Cells.{Cell, filled_cells, unset_cells}
use Rattle.ec_memory_defs.specs.Memory.{Memory}

-- the memory behind a call that changes it, or the trap
abbrev pub outcome : {A : Type 0} → Result A Trap → Memory → Result Memory Trap
outcome (Ok _) memory = Ok memory
outcome (Err trap) memory = Err trap

-- what a call gives, seen as something else, or the trap
abbrev pub seen : {A B : Type 0} → (A → B) → Result A Trap → Result B Trap
seen view (Ok it) = Ok (view it)
seen view (Err trap) = Err trap

-- the cells of a new object: zero bytes, or unset
abbrev pub first_cells : Bool → ℕ → List Cell
first_cells true size = filled_cells size 0
first_cells false size = unset_cells size
