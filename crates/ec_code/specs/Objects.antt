-- The objects that a program begins with.
use Rattle.std.specs.Prelude.{ℕ, ◌+◌, ◌≤◌, List, [], ◌∷◌, length}
use Rattle.ec_code.specs.declared.program.Stored.{Stored}

abbrev pub stored_view : Stored → ℕ × List ℕ
stored_view s = (s.at, s.bytes)

-- each part lies in an object of this size
abbrev pub AreInside : ℕ → List Stored → Type 0
AreInside size [] = Unit {0}
AreInside size (s ∷ ss) = (s.at + length s.bytes ≤ size) × AreInside size ss
