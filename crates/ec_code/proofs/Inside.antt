-- Parts that lie in an object.
use Rattle.std.proofs.Common.{ℕ, ◌+◌, ◌≤◌, List, [], ◌∷◌, ◌++◌, length}
use Rattle.ec_code.specs.declared.program.Stored.{Stored}
use Rattle.ec_code.specs.Objects.{AreInside}

-- one part more
pub one_inside : (size : ℕ) (ss : List Stored) (s : Stored) → AreInside size ss → s.at + length s.bytes ≤ size → AreInside size (ss ++ s ∷ [])
one_inside size [] s h lt = (lt, tt)
one_inside size (t ∷ ss) s h lt = (h.0, one_inside size ss s h.1 lt)
