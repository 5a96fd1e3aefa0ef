-- Words for lines that begin with `#`.
use Rattle.std.specs.Prelude.{ℕ, Option, Some, None, if◌then◌else◌}
use Rattle.ec_language.specs.Letters.{Text, is_not_newline}
use Rattle.ec_language.specs.Constants.{digits_value}
use Rattle.ec_language.specs.Lexemes.{is_line_number}
use Rattle.ec_language.specs.ReadPieces.{behind_all, front}

-- the line that a text begins with, without its newline
abbrev pub line_of : Text → Text
line_of text = front text (behind_all is_not_newline text)

-- the number of a line, if these digits are one
abbrev pub number_of : Text → Option ℕ
number_of digits = if is_line_number digits then Some (digits_value 10 digits) else None
