-- The tokens of an embedded statement (PostgreSQL manual, 4.1, Lexical Structure), each with whether a gap stands before it.
use Rattle.std.specs.Prelude.{◌≡◌, ℕ, ◌+◌, Bool, true, false, not, ◌&&◌, ◌||◌, List, [], ◌∷◌, ◌++◌, take, drop, codes, Option, Some, None, if◌then◌else◌}
use Rattle.std.specs.List.{list_any, concat}
use Rattle.ec_language.specs.Letters.{Text, dollar, same_text, same_word}
use Rattle.ec_language.specs.Line.{newlines}
use Rattle.ec_language.specs.SqlText.{is_sql_word, is_sql_number, is_sql_quoted, is_escaped, is_sql_gap, SqlUnits}
use Rattle.ec_language.specs.Pieces.{behind_start, is_semicolon, solid}

-- what a token is
pub data SqlClass : Type 0 where
  word : SqlClass
  number : SqlClass
  -- in `'` or `"`, with the quotes
  quoted : SqlClass
  -- `::`, `->` or one byte
  mark : SqlClass

pub record SqlToken : Type 0 where
  pub class : SqlClass
  pub bytes : Text
  -- whether blanks or comments stand between it and what stands before it
  pub gap : Bool
  pub line : ℕ

-- the units of a statement between `EXEC SQL` and its `;`
pub record StatementUnits (bytes : Text) (units : List Text) : Type 0 where
  pub start : behind_start bytes ≡ Some (concat units ++ codes ";")
  pub free : SqlUnits units (codes ";")
  pub none : list_any is_semicolon units ≡ false

abbrev pub sql_class : Text → SqlClass
sql_class u =
    if is_sql_word u then word else if is_sql_number u then number
    else if is_sql_quoted u then quoted else mark

-- two units that are one token
abbrev pub are_one_mark : Text → Text → Bool
are_one_mark a b =
    (same_text a (codes ":") && same_text b (codes ":"))
    || (same_text a (codes "-") && same_text b (codes ">"))

-- The tokens of units, the first of which stands on this line: an escaped quote is the word `E` and a quote.
abbrev pub sql_tokens_from : Bool → ℕ → List Text → List SqlToken
sql_tokens_from gap line [] = []
sql_tokens_from gap line (a ∷ []) = elim (is_sql_gap a) [
  | true ↦ []
  | false ↦ elim (is_escaped a) [
    | true ↦ record { class = word; bytes = take 1 a; gap = gap; line = line }
        ∷ record { class = quoted; bytes = drop 1 a; gap = false; line = line } ∷ []
    | false ↦ record { class = sql_class a; bytes = a; gap = gap; line = line } ∷ []
  ]
]
sql_tokens_from gap line (a ∷ b ∷ us) = elim (is_sql_gap a) [
  | true ↦ sql_tokens_from true (line + newlines a) (b ∷ us)
  | false ↦ elim (is_escaped a) [
    | true ↦ record { class = word; bytes = take 1 a; gap = gap; line = line }
        ∷ record { class = quoted; bytes = drop 1 a; gap = false; line = line }
        ∷ sql_tokens_from false (line + newlines a) (b ∷ us)
    | false ↦ elim (are_one_mark a b) [
      | true ↦ record { class = mark; bytes = a ++ b; gap = gap; line = line }
          ∷ sql_tokens_from false line us
      | false ↦ record { class = sql_class a; bytes = a; gap = gap; line = line }
          ∷ sql_tokens_from false (line + newlines a) (b ∷ us)
    ]
  ]
]

-- a byte that begins no token
abbrev pub is_bad_unit : Text → Bool
is_bad_unit u = same_text u (0 ∷ []) || same_text u (dollar ∷ [])

-- the line of the first such byte, if the first unit stands on this line
abbrev pub first_bad_line : ℕ → List Text → Option ℕ
first_bad_line line [] = None
first_bad_line line (u ∷ us) =
    elim (is_bad_unit u) [ true ↦ Some line | false ↦ first_bad_line (line + newlines u) us ]

-- statements that do nothing where they stand, but say how others are read
abbrev pub is_directive : List Text → Bool
is_directive [] = false
is_directive (u ∷ us) =
    same_word u (codes "WHENEVER") || same_word u (codes "INCLUDE") || same_word u (codes "DECLARE")

-- whether the statement of these units is executed
abbrev pub is_executable : List Text → Bool
is_executable units = not (is_directive (solid units))
