-- Numbers that are found by flags, one for each number up to the greatest.
use Rattle.std.specs.Prelude.{ℕ, zero, suc, Bool, true, false, List, [], ◌∷◌, slice_get, Option, Some, None}

-- with the flag of this number set
abbrev pub mark : ℕ → List Bool → List Bool
mark zero [] = true ∷ []
mark zero (b ∷ bs) = true ∷ bs
mark (suc n) [] = false ∷ mark n []
mark (suc n) (b ∷ bs) = b ∷ mark n bs

-- with those of all these numbers
abbrev pub marked : List ℕ → List Bool → List Bool
marked [] fs = fs
marked (n ∷ ns) fs = marked ns (mark n fs)

abbrev pub is_set : Option Bool → Bool
is_set None = false
is_set (Some b) = b

-- the flag of this number
abbrev pub flag_at : List Bool → ℕ → Bool
flag_at fs k = is_set (slice_get fs k)
