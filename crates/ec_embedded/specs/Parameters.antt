-- The parameters of a text that is sent (PostgreSQL manual, "PREPARE": parameters are `$1`, `$2` and so on).
use Rattle.std.specs.Prelude.{ℕ, zero, suc, ◌+◌, List, [], ◌∷◌, ◌++◌, codes, decimal}
use Rattle.ec_language.specs.Letters.{Text, dollar}

-- so many parameters from this number on, with a comma and a blank between them
abbrev pub parameters : ℕ → ℕ → Text
parameters first zero = []
parameters first (suc zero) = dollar ∷ decimal first
parameters first (suc (suc count)) =
    dollar ∷ (decimal first ++ (codes ", " ++ parameters (suc first) (suc count)))
