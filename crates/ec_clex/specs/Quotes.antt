-- Words for quoted text.
use Rattle.std.specs.Prelude.{ℕ, [], ◌∷◌, drop, Option, None}
use Rattle.ec_language.specs.Letters.{Text}
use Rattle.ec_language.specs.Constants.{first_byte}
use Rattle.ec_clex.specs.declared.escapes.Escaped.{Escaped}

-- a byte, and the text behind what stands for it
abbrev pub escaped_view : Text → Escaped → ℕ × Text
escaped_view text e = (e.byte, drop e.end text)

-- the first byte that quoted text stands for
abbrev pub first_of : Text → Option (ℕ × Text)
first_of [] = None
first_of (b ∷ bs) = first_byte b bs
