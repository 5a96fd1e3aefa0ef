-- The last length of an array.
use Rattle.std.specs.Prelude.{ℕ, List, [], ◌∷◌, Option, None}

-- of one length or none
abbrev pub last_length_of : List (Option ℕ) → Option ℕ
last_length_of (n ∷ []) = n
last_length_of _ = None
