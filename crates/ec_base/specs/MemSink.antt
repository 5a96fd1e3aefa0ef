-- What a sink in memory holds and still takes.
use Rattle.std.specs.Prelude.{◌≡◌, ◌⊎◌, ℕ, ◌-◌, ◌<◌, List, [], ◌++◌, length, take, min, Contains}
use Rattle.ec_base.specs.Causes.{one_more}

-- the bytes that it has taken, how many it can hold, the most that one put takes, the puts that fail, each by its number, the number of the next put, and how many failed
pub record Store : Type 0 where
  pub held : List ℕ
  pub room : ℕ
  pub chunk : ℕ
  pub failing : List ℕ
  pub call : ℕ
  pub faults : ℕ

-- a store into which nothing is put
abbrev pub new_store : ℕ → ℕ → List ℕ → Store
new_store room chunk failing =
    record { held = []; room = room; chunk = chunk; failing = failing; call = 0; faults = 0 }

-- a put of `piece` took its first `count` bytes
pub record Takes (old : Store) (piece : List ℕ) (count : ℕ) (new : Store) : Type 0 where
  pub unnamed : ¬ Contains old.failing old.call
  pub space : length old.held < old.room
  pub amount : count ≡ min old.chunk (min (length piece) (old.room - length old.held))
  pub after : new ≡ record old { held = old.held ++ take count piece; call = one_more old.call }

-- a put failed
pub record FailsToTake (old new : Store) : Type 0 where
  pub named_or_full : Contains old.failing old.call ⊎ (length old.held ≡ old.room)
  pub after : new ≡ record old { call = one_more old.call; faults = one_more old.faults }
