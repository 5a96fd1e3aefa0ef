-- What a source in memory still gives.
use Rattle.std.specs.Prelude.{◌≡◌, ℕ, List, length, drop, min, Contains}
use Rattle.ec_base.specs.Causes.{one_more}

-- the bytes that are left, the most that one read gives, the reads that fail, each by its number, the number of the next read, and how many failed
pub record Supply : Type 0 where
  pub left : List ℕ
  pub chunk : ℕ
  pub failing : List ℕ
  pub call : ℕ
  pub faults : ℕ

-- a supply of which nothing is read
abbrev pub new_supply : List ℕ → ℕ → List ℕ → Supply
new_supply bytes chunk failing =
    record { left = bytes; chunk = chunk; failing = failing; call = 0; faults = 0 }

-- a read into `wanted` bytes gave `count`
pub record Gives (old : Supply) (wanted count : ℕ) (new : Supply) : Type 0 where
  pub unnamed : ¬ Contains old.failing old.call
  pub amount : count ≡ min old.chunk (min wanted (length old.left))
  pub after : new ≡ record old { left = drop count old.left; call = one_more old.call }

-- a read failed
pub record FailsToGive (old new : Supply) : Type 0 where
  pub named : Contains old.failing old.call
  pub after : new ≡ record old { call = one_more old.call; faults = one_more old.faults }
