-- What is promised of a call that reads a text: what it took from its input, and when it refuses it.
use Rattle.std.specs.Prelude.{ℕ, ◌+◌, ◌^◌, ◌<◌, ◌≤◌, List, length, Option}
use Rattle.std.specs.Io.KnownBytes.{Consumes, IsAtEnd}
use Rattle.ec_base.specs.declared.fault.FaultKind.{FaultKind}
use Rattle.ec_base.specs.Reading.{block}

-- an input was read to its end, and had this text
pub record IsRead (before after : Option (List ℕ)) (text : List ℕ) : Type 0 where
  pub taken : Consumes before after text
  pub ended : IsAtEnd after
  pub within : length text ≤ 2 ^ 24

-- no more of an input was read than the limit and the bytes of one read behind it
pub record ReadsWithin (before after : Option (List ℕ)) : Type 0 where
  pub bytes : List ℕ
  pub taken : Consumes before after bytes
  pub bounded : length bytes ≤ 2 ^ 24 + block

-- more than 2^24 bytes of the input came, and the read by which they came was the last
pub record IsTooLong (before after : Option (List ℕ)) : Type 0 where
  pub bytes : List ℕ
  pub taken : Consumes before after bytes
  pub long : 2 ^ 24 < length bytes
  pub bounded : length bytes ≤ 2 ^ 24 + block

-- the input was read to its end, and has its fault at this line
pub record RefusesAt (IsFault : List ℕ → FaultKind → ℕ → Type 0)
    (input input' : Option (List ℕ)) (kind : FaultKind) (line : ℕ) : Type 0 where
  pub text : List ℕ
  pub read : IsRead input input' text
  pub fault : IsFault text kind line
