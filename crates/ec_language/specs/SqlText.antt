-- What the text of an embedded statement is made of (PostgreSQL manual, 4.1, Lexical Structure): words, numbers, quotes, comments, and single bytes for all else.
use Rattle.std.specs.Prelude.{◌≡◌, ℕ, zero, suc, Bool, true, false, not, ◌&&◌, ◌||◌, ◌==◌, List, [], ◌∷◌, ◌++◌, take, drop, codes, ⊤}
use Rattle.std.specs.List.{concat}
use Rattle.ec_language.specs.Letters.{Text, dot, single_quote, backslash, is_blank, is_digit, is_number_byte, is_sql_word_start, is_sql_word_byte, is_quote, is_not_newline, is_empty, begins, begins_with, each, same_word}

-- a letter, `_` or a byte above 127, then these, digits and `$`
abbrev pub is_sql_word : Text → Bool
is_sql_word [] = false
is_sql_word (b ∷ bs) = is_sql_word_start b && each is_sql_word_byte bs

-- whether a number begins here: a digit, or a point before a digit
abbrev pub begins_number : Text → Bool
begins_number [] = false
begins_number (b ∷ bs) = is_digit b || (b == dot && begins is_digit bs)

-- then digits, letters, `.` and `_`
abbrev pub is_sql_number : Text → Bool
is_sql_number text = begins_number text && each is_number_byte (drop 1 text)

-- the text ends with this quote, and in it the quote stands doubled alone
abbrev pub closes_sql_quote : ℕ → Text → Bool
closes_sql_quote q [] = false
closes_sql_quote q (b ∷ []) = b == q
closes_sql_quote q (b ∷ c ∷ bs) =
    elim (b == q) [ true ↦ c == q && closes_sql_quote q bs | false ↦ closes_sql_quote q (c ∷ bs) ]

-- a quoted text, which may run over lines, with a doubled quote for one
abbrev pub is_sql_quoted : Text → Bool
is_sql_quoted [] = false
is_sql_quoted (b ∷ bs) = is_quote b && closes_sql_quote b bs

-- as `closes_sql_quote`, and a backslash and the byte behind it close nothing
abbrev pub closes_escaped : Text → Bool
closes_escaped [] = false
closes_escaped (b ∷ []) = b == single_quote
closes_escaped (b ∷ c ∷ bs) = elim (b == backslash) [
  | true ↦ closes_escaped bs
  | false ↦ elim (b == single_quote) [
    | true ↦ c == single_quote && closes_escaped bs
    | false ↦ closes_escaped (c ∷ bs)
  ]
]

-- the word `E`, and a quoted text directly behind it
abbrev pub is_escaped : Text → Bool
is_escaped [] = false
is_escaped (b ∷ bs) =
    same_word (b ∷ []) (codes "E") && begins_with (codes "'") bs && closes_escaped (drop 1 bs)

-- the text ends where the comment that is open is closed, and so many in it are open too. Comments nest
abbrev pub closes_nested : ℕ → Text → Bool
closes_nested inner [] = false
closes_nested inner (b ∷ []) = false
closes_nested inner (b ∷ c ∷ bs) = elim (begins_with (codes "/*") (b ∷ c ∷ [])) [
  | true ↦ closes_nested (suc inner) bs
  | false ↦ elim (begins_with (codes "*/") (b ∷ c ∷ [])) [
    | true ↦ elim inner [ zero ↦ is_empty bs | suc n ↦ closes_nested n bs ]
    | false ↦ closes_nested inner (c ∷ bs)
  ]
]

abbrev pub is_sql_comment : Text → Bool
is_sql_comment text = begins_with (codes "/*") text && closes_nested 0 (drop 2 text)

-- to the end of the line
abbrev pub is_dash_comment : Text → Bool
is_dash_comment text = begins_with (codes "--") text && each is_not_newline text

-- one byte that begins nothing longer
abbrev pub is_sql_single : Text → Text → Bool
is_sql_single [] rest = false
is_sql_single (b ∷ []) rest =
    not (is_sql_word_start b || begins_number (b ∷ rest) || is_quote b
    || begins_with (codes "/*") (b ∷ rest) || begins_with (codes "--") (b ∷ rest))
is_sql_single (b ∷ c ∷ bs) rest = false

-- A unit of SQL text, and the text that stands behind it. Words, numbers, quotes and comments to the end of the line are as long as they can be. The word `E` directly before a `'` begins an escaped quote.
pub data SqlUnit : Text → Text → Type 0 where
  word : (u rest : Text) → is_sql_word u ≡ true → begins is_sql_word_byte rest ≡ false
      → (same_word u (codes "E") && begins_with (codes "'") rest) ≡ false → SqlUnit u rest
  number : (u rest : Text) → is_sql_number u ≡ true → begins is_number_byte rest ≡ false
      → SqlUnit u rest
  escaped : (u rest : Text) → is_escaped u ≡ true → begins_with (codes "'") rest ≡ false
      → SqlUnit u rest
  quoted : (u rest : Text) → is_sql_quoted u ≡ true → begins_with (take 1 u) rest ≡ false
      → SqlUnit u rest
  comment : (u rest : Text) → is_sql_comment u ≡ true → SqlUnit u rest
  dash_comment : (u rest : Text) → is_dash_comment u ≡ true → begins is_not_newline rest ≡ false
      → SqlUnit u rest
  single : (u rest : Text) → is_sql_single u rest ≡ true → SqlUnit u rest

-- units, one after the other, and the text behind them
abbrev pub SqlUnits : List Text → Text → Type 0
SqlUnits [] rest = ⊤
SqlUnits (u ∷ us) rest = SqlUnit u (concat us ++ rest) × SqlUnits us rest

-- blanks and comments part other units and are nothing themselves
abbrev pub is_sql_gap : Text → Bool
is_sql_gap u = is_sql_comment u || is_dash_comment u || (begins is_blank u)
