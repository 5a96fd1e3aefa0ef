-- How many bytes an object may have.
use Rattle.std.proofs.Common.{◌≡◌, ℕ, zero, suc, ◌-◌, ◌≤◌, List, [], ◌∷◌, length, slice_get, Option, Some, None, Ok, sym, ap, arith}
use Rattle.ec_memory_defs.specs.Cells.{Cell}
use Rattle.ec_memory_defs.specs.Memory.{ObjectData, alive, ended, Memory, object_cells, cells_found, live_bytes}

-- an object's cells are among those that are alive
pub live_within : (m : Memory) (i : ℕ) (cells : List Cell) → slice_get m i ≡ Some (alive cells) → length cells ≤ live_bytes m
live_within [] i cells e = cc
live_within (object ∷ m) zero cells e = let is : object ≡ alive cells = cc in rw is (omega arith)
live_within (alive others ∷ m) (suc i) cells e = omega (arith, live_within m i cells e)
live_within (ended ∷ m) (suc i) cells e = live_within m i cells e

-- what is found under a number is at the index below it
pub object_found : (m : Memory) (n : ℕ) (cells : List Cell) → object_cells m n ≡ Ok cells → slice_get m (n - 1) ≡ Some (alive cells)
object_found m zero cells e = cc
object_found m (suc n) cells e = let same : suc n - 1 ≡ n = omega arith in rw same (at_index (slice_get m n) e)
  where
    at_index : (o : Option ObjectData) → cells_found o ≡ Ok cells → o ≡ Some (alive cells)
    at_index None e = cc
    at_index (Some (alive others)) e = let same : others ≡ cells = cc in ap (λ c. Some (alive c)) same
    at_index (Some ended) e = cc

-- an object's size is at most the bytes that are alive
pub few_cells : (m : Memory) (n : ℕ) (cells : List Cell) → Ok cells ≡ object_cells m n → length cells ≤ live_bytes m
few_cells m n cells found = live_within m (n - 1) cells (object_found m n cells (sym found))
