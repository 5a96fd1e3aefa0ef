-- The marks of a text that is prepared: each `?` outside quotes and comments stands for a parameter, and is sent as `$1`, `$2` and on. Quotes and comments are those of SQL (PostgreSQL manual, 4.1): comments nest, a doubled quote stands for one, and in a quote directly behind the word `E` a backslash skips the next byte.
use Rattle.std.specs.Prelude.{ℕ, zero, suc, ◌==◌, ◌&&◌, ◌||◌, nat_le, nat_lt, Bool, true, false, [], ◌∷◌, ◌++◌, codes}
use Rattle.std.specs.Fmt.{decimal}
use Rattle.ec_call_defs.specs.Outcomes.{Text}

-- where a byte stands: between words, behind the word `E`, in another word, in a number, in a quote of this byte, in one behind `E`, in a comment to the end of the line, or in comments so deep
pub data Where : Type 0 where
  between : Where
  behind_e : Where
  in_word : Where
  in_number : Where
  quoted : ℕ → Where
  escaped : Where
  dashed : Where
  commented : ℕ → Where

abbrev is_between : ℕ → ℕ → ℕ → Bool
is_between low high b = nat_le low b && nat_le b high

abbrev is_letter : ℕ → Bool
is_letter b = is_between 65 90 b || is_between 97 122 b

abbrev is_digit : ℕ → Bool
is_digit b = is_between 48 57 b

-- a letter, `_`, or a byte above 127
abbrev begins_word : ℕ → Bool
begins_word b = is_letter b || b == 95 || nat_lt 127 b

abbrev goes_on_word : ℕ → Bool
goes_on_word b = begins_word b || is_digit b || b == 36

abbrev goes_on_number : ℕ → Bool
goes_on_number b = is_letter b || is_digit b || b == 95 || b == 46

abbrev is_e : ℕ → Bool
is_e b = b == 69 || b == 101

-- a byte that begins something of its own, and the one behind it
abbrev after_first : ℕ → ℕ → Where
after_first b c = elim (is_e b) [
  | true ↦ behind_e
  | false ↦ elim (begins_word b) [
    | true ↦ in_word
    | false ↦ elim (is_digit b || (b == 46 && is_digit c)) [
      | true ↦ in_number
      | false ↦ elim (b == 39 || b == 34) [ true ↦ quoted b | false ↦ between ]
    ]
  ]
]

-- behind the word `E`: a quote directly behind it is escaped
abbrev after_e : ℕ → ℕ → Where
after_e b c = elim (b == 39) [
  | true ↦ escaped
  | false ↦ elim (goes_on_word b) [ true ↦ in_word | false ↦ after_first b c ]
]

abbrev after_word : ℕ → ℕ → Where
after_word b c = elim (goes_on_word b) [ true ↦ in_word | false ↦ after_first b c ]

abbrev after_number : ℕ → ℕ → Where
after_number b c = elim (goes_on_number b) [ true ↦ in_number | false ↦ after_first b c ]

-- where the next byte stands, behind a byte that is outside quotes and comments
abbrev behind : Where → ℕ → ℕ → Where
behind between b c = after_first b c
behind behind_e b c = after_e b c
behind in_word b c = after_word b c
behind in_number b c = after_number b c
behind w b c = w

-- two bytes that are one comment mark
abbrev opens_comment : ℕ → ℕ → Bool
opens_comment b c = b == 47 && c == 42

abbrev closes_comment : ℕ → ℕ → Bool
closes_comment b c = b == 42 && c == 47

abbrev opens_dashed : ℕ → ℕ → Bool
opens_dashed b c = b == 45 && c == 45

-- what becomes of a text from its front, where the next mark has this number
abbrev pub marked : Where → ℕ → Text → Text
marked (quoted q) n [] = []
marked (quoted q) n (b ∷ bs) =
    b ∷ elim (b == q) [ true ↦ marked between n bs | false ↦ marked (quoted q) n bs ]
marked escaped n [] = []
marked escaped n (b ∷ []) = b ∷ []
marked escaped n (b ∷ c ∷ bs) = elim (b == 92 || (b == 39 && c == 39)) [
  | true ↦ b ∷ c ∷ marked escaped n bs
  | false ↦ b
      ∷ elim (b == 39) [ true ↦ marked between n (c ∷ bs) | false ↦ marked escaped n (c ∷ bs) ]
]
marked dashed n [] = []
marked dashed n (b ∷ bs) =
    b ∷ elim (b == 10) [ true ↦ marked between n bs | false ↦ marked dashed n bs ]
marked (commented deep) n [] = []
marked (commented deep) n (b ∷ []) = b ∷ []
marked (commented deep) n (b ∷ c ∷ bs) = elim (opens_comment b c) [
  | true ↦ b ∷ c ∷ marked (commented (suc deep)) n bs
  | false ↦ elim (closes_comment b c) [
    | true ↦ b ∷ c
        ∷ elim deep [ zero ↦ marked between n bs | suc outer ↦ marked (commented outer) n bs ]
    | false ↦ b ∷ marked (commented deep) n (c ∷ bs)
  ]
]
marked w n [] = []
marked w n (b ∷ []) = elim (b == 63) [ true ↦ codes "$" ++ decimal n | false ↦ b ∷ [] ]
marked w n (b ∷ c ∷ bs) = elim (b == 63) [
  | true ↦ codes "$" ++ decimal n ++ marked between (suc n) (c ∷ bs)
  | false ↦ elim (opens_comment b c) [
    | true ↦ b ∷ c ∷ marked (commented 0) n bs
    | false ↦ elim (opens_dashed b c) [
      | true ↦ b ∷ c ∷ marked dashed n bs
      | false ↦ b ∷ marked (behind w b c) n (c ∷ bs)
    ]
  ]
]

-- the text that is sent
abbrev pub with_marks : Text → Text
with_marks bytes = marked between 1 bytes
