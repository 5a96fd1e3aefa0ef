-- What is left where the objects of a program were to be made.
use Rattle.std.specs.Prelude.{◌≡◌, ℕ, List, map, Result, Ok, Err}
use Rattle.ec_base.specs.declared.stop.Trap.TheVariants.{Spent}
use Rattle.ec_meaning_defs.specs.evaluation.Results.{Res, over}
use Rattle.ec_meaning_defs.specs.evaluation.State.{State, trapped}
use Rattle.ec_meaning_defs.specs.evaluation.Whole.{opened}
use Rattle.ec_memory.specs.declared.store.MakeStop.{MakeStop}
use Rattle.ec_memory.specs.declared.store.MakeStop.TheVariants as makes
use Rattle.ec_memory_defs.specs.Cells.{set_cells}
use Rattle.ec_memory_defs.specs.Memory.{Memory, alive}

-- a state with this memory
abbrev pub at : State → Memory → State
at s m = record s { memory = m }

-- objects with these bytes
abbrev pub objects_with : List (List ℕ) → Memory
objects_with objects = map (λ bytes. alive (set_cells bytes)) objects

-- The run goes on with the memory behind them; or there was no room for one of them, and it is over; or there was no memory
abbrev pub Opens : List (List ℕ) → Result (Unit {0}) MakeStop → Memory → Memory → Type 0
Opens objects (Ok v) old new =
    (s : State) (go : State → Res) → opened objects (at s old) go ≡ go (at s new)
Opens objects (Err makes.Spent) old new =
    (s : State) (go : State → Res)
    → opened objects (at s old) go ≡ over (trapped Spent 1) (at s new)
Opens objects (Err makes.OutOfMemory) old new = Unit {0}
