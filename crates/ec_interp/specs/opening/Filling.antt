-- An object that was just made, and holds these bytes.
use Rattle.std.specs.Prelude.{◌≡◌, ℕ, suc, List, [], ◌∷◌, ◌++◌, length}
use Rattle.ec_memory_defs.specs.Cells.{set_cells}
use Rattle.ec_memory_defs.specs.Memory.{Memory, alive, pointer_to}

-- the last object of a memory has these bytes, and this is the pointer to it
pub record IsLast (m : Memory) (p : ℕ) (before : Memory) (bytes : List ℕ) : Type 0 where
  pub memory : m ≡ before ++ alive (set_cells bytes) ∷ []
  pub pointer : p ≡ pointer_to (suc (length before)) 0
