-- Lines of a text.
use Rattle.std.specs.Prelude.{ℕ, ◌+◌, [], ◌∷◌, ◌==◌, if◌then◌else◌}
use Rattle.ec_language.specs.Letters.{Text, newline}

-- how many newlines stand in it
abbrev pub newlines : Text → ℕ
newlines [] = 0
newlines (b ∷ bs) = (if b == newline then 1 else 0) + newlines bs

-- the line of a byte is one more than the number of newlines before it
abbrev pub line_after : Text → ℕ
line_after before = 1 + newlines before
