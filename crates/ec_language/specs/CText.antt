-- What C text is made of, as far as one has to see where a comment, a string or a character constant stands in it (ISO/IEC 9899:1999, 6.4, 6.4.4.4, 6.4.5 and 6.4.9): words, numbers, comments, quotes, and single bytes for all else.
use Rattle.std.specs.Prelude.{◌≡◌, ℕ, Bool, true, false, not, ◌&&◌, ◌||◌, ◌==◌, List, [], ◌∷◌, ◌++◌, drop, codes, ⊤}
use Rattle.std.specs.List.{concat}
use Rattle.ec_language.specs.Letters.{Text, backslash, is_digit, is_word_start, is_word_byte, is_number_byte, is_quote, is_not_newline, is_empty, begins, begins_with, each}

-- a letter or `_`, then letters, digits and `_`
abbrev pub is_word : Text → Bool
is_word [] = false
is_word (b ∷ bs) = is_word_start b && each is_word_byte bs

-- a digit, then letters, digits, `_` and `.`
abbrev pub is_number : Text → Bool
is_number [] = false
is_number (b ∷ bs) = is_digit b && each is_number_byte bs

-- the text ends where `*/` first stands in it
abbrev pub closes_comment : Text → Bool
closes_comment [] = false
closes_comment (b ∷ []) = false
closes_comment (b ∷ c ∷ bs) =
    elim (begins_with (codes "*/") (b ∷ c ∷ []))
    [ true ↦ is_empty bs | false ↦ closes_comment (c ∷ bs) ]

-- comments don't nest
abbrev pub is_block_comment : Text → Bool
is_block_comment text = begins_with (codes "/*") text && closes_comment (drop 2 text)

-- to the end of the line
abbrev pub is_line_comment : Text → Bool
is_line_comment text = begins_with (codes "//") text && each is_not_newline text

-- the text ends where this quote first stands in it, a backslash and the byte behind it aside, and no newline stands before
abbrev pub closes_quote : ℕ → Text → Bool
closes_quote q [] = false
closes_quote q (b ∷ []) = b == q
closes_quote q (b ∷ c ∷ bs) = elim (b == q) [
  | true ↦ false
  | false ↦ elim (b == backslash) [
    | true ↦ is_not_newline c && closes_quote q bs
    | false ↦ is_not_newline b && closes_quote q (c ∷ bs)
  ]
]

-- a string or a character constant, of any length
abbrev pub is_quoted : Text → Bool
is_quoted [] = false
is_quoted (b ∷ bs) = is_quote b && closes_quote b bs

-- one byte that begins nothing longer
abbrev pub is_single : Text → Text → Bool
is_single [] rest = false
is_single (b ∷ []) rest =
    not (is_word_start b || is_digit b || is_quote b || begins_with (codes "/*") (b ∷ rest)
    || begins_with (codes "//") (b ∷ rest))
is_single (b ∷ c ∷ bs) rest = false

-- A unit of C text, and the text that stands behind it. Words, numbers and comments to the end of the line are as long as they can be.
pub data CUnit : Text → Text → Type 0 where
  word : (u rest : Text) → is_word u ≡ true → begins is_word_byte rest ≡ false → CUnit u rest
  number : (u rest : Text) → is_number u ≡ true → begins is_number_byte rest ≡ false → CUnit u rest
  block_comment : (u rest : Text) → is_block_comment u ≡ true → CUnit u rest
  line_comment : (u rest : Text) → is_line_comment u ≡ true → begins is_not_newline rest ≡ false
      → CUnit u rest
  quoted : (u rest : Text) → is_quoted u ≡ true → CUnit u rest
  single : (u rest : Text) → is_single u rest ≡ true → CUnit u rest

-- units, one after the other, and the text behind them
abbrev pub CUnits : List Text → Text → Type 0
CUnits [] rest = ⊤
CUnits (u ∷ us) rest = CUnit u (concat us ++ rest) × CUnits us rest
