-- What reading a source to its end gives and takes. `left` and `faults` are the members of the source.
use Rattle.std.specs.Prelude.{◌≡◌, ℕ, List, ◌+◌, ◌<◌, ◌≤◌, length, Option}
use Rattle.std.specs.Io.KnownBytes.{Consumes, IsAtEnd}
use Rattle.ec_base.specs.declared.stop.InputStop.{InputStop}
use Rattle.ec_base.specs.declared.stop.InputStop.TheVariants.{Fault, TooLong, OutOfMemory}
use Rattle.ec_base.specs.Causes.{Rose}

-- the most bytes that one read is asked for
abbrev pub block : ℕ
block = 8192

-- the source gave `bytes`, and its count of faults is the same
pub record Reads {S : Type 0} (left : S → Option (List ℕ))
    (faults : S → ℕ) (old new : S) (bytes : List ℕ) : Type 0 where
  pub taken : Consumes (left old) (left new) bytes
  pub steady : faults new ≡ faults old

-- the source gave `bytes`, at most `limit` of them, and is at its end
pub record ReadsAll {S : Type 0} (left : S → Option (List ℕ))
    (faults : S → ℕ) (old new : S) (limit : ℕ) (bytes : List ℕ) : Type 0 where
  pub reads : Reads left faults old new bytes
  pub ended : IsAtEnd (left new)
  pub within : length bytes ≤ limit

-- What is behind each reason to stop, with so many bytes that came. A read that failed gave none. The read by which more
-- than `limit` bytes came is the last one, and so is the one whose bytes there was no memory for.
abbrev pub IsReason : InputStop → (before now limit count : ℕ) → Type 0
IsReason Fault before now limit count = Rose before now × (count ≤ limit)
IsReason TooLong before now limit count = (now ≡ before) × (limit < count) × (count ≤ limit + block)
IsReason OutOfMemory before now limit count = (now ≡ before) × (count ≤ limit + block)

-- the source gave some bytes, and reading stopped there
pub record ReadsPart {S : Type 0} (left : S → Option (List ℕ))
    (faults : S → ℕ) (old new : S) (limit : ℕ) (stop : InputStop) : Type 0 where
  pub bytes : List ℕ
  pub taken : Consumes (left old) (left new) bytes
  pub later : faults old ≤ faults new
  pub reason : IsReason stop (faults old) (faults new) limit (length bytes)
