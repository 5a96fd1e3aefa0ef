-- What putting bytes into a sink leaves there. `held` and `faults` are the members of the sink.
use Rattle.std.specs.Prelude.{◌≡◌, ℕ, List, ◌++◌, ◌≤◌, Option}
use Rattle.std.specs.Io.KnownBytes.{Appends}
use Rattle.ec_base.specs.Causes.{Rose}

-- the sink took `bytes`, and its count of faults is the same
pub record Puts {S : Type 0} (held : S → Option (List ℕ))
    (faults : S → ℕ) (old new : S) (bytes : List ℕ) : Type 0 where
  pub taken : Appends (held old) (held new) bytes
  pub steady : faults new ≡ faults old

-- the sink took `bytes`, and may have failed behind them
pub record Took {S : Type 0} (held : S → Option (List ℕ))
    (faults : S → ℕ) (old new : S) (bytes : List ℕ) : Type 0 where
  pub taken : Appends (held old) (held new) bytes
  pub later : faults old ≤ faults new

-- the sink took the front of `bytes`, and failed
pub record PutsPart {S : Type 0} (held : S → Option (List ℕ))
    (faults : S → ℕ) (old new : S) (bytes : List ℕ) : Type 0 where
  pub front : List ℕ
  pub rest : List ℕ
  pub split : bytes ≡ front ++ rest
  pub took : Took held faults old new front
  pub failed : Rose (faults old) (faults new)
