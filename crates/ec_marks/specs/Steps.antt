-- One step through a text that is prepared: what is taken of it, and where the byte behind that stands.
use Rattle.std.specs.Prelude.{ℕ, zero, suc, ◌==◌, ◌&&◌, ◌||◌, nat_le, nat_lt, Bool, true, false, List, [], ◌∷◌}
use Rattle.ec_call_defs.specs.Marks.{Where, between, behind_e, in_word, in_number, quoted, escaped, dashed, commented}

-- a mark, behind which nothing goes on; a byte as it stands; or a byte and this one behind it
pub data Taken : Type 0 where
  mark : Taken
  one : Where → Taken
  two : ℕ → Where → Taken

abbrev pub is_between : ℕ → ℕ → ℕ → Bool
is_between low high b = nat_le low b && nat_le b high

abbrev pub is_letter : ℕ → Bool
is_letter b = is_between 65 90 b || is_between 97 122 b

abbrev pub is_digit : ℕ → Bool
is_digit b = is_between 48 57 b

abbrev pub begins_word : ℕ → Bool
begins_word b = is_letter b || b == 95 || nat_lt 127 b

abbrev pub goes_on_word : ℕ → Bool
goes_on_word b = begins_word b || is_digit b || b == 36

abbrev pub goes_on_number : ℕ → Bool
goes_on_number b = is_letter b || is_digit b || b == 95 || b == 46

abbrev pub begins_number : ℕ → ℕ → Bool
begins_number b c = is_digit b || (b == 46 && is_digit c)

abbrev pub after_first : ℕ → ℕ → Where
after_first b c = elim (b == 69 || b == 101) [
  | true ↦ behind_e
  | false ↦ elim (begins_word b) [
    | true ↦ in_word
    | false ↦ elim (begins_number b c) [
      | true ↦ in_number
      | false ↦ elim (b == 39 || b == 34) [ true ↦ quoted b | false ↦ between ]
    ]
  ]
]

abbrev pub after_e : ℕ → ℕ → Where
after_e b c = elim (b == 39) [
  | true ↦ escaped
  | false ↦ elim (goes_on_word b) [ true ↦ in_word | false ↦ after_first b c ]
]

abbrev pub after_word : ℕ → ℕ → Where
after_word b c = elim (goes_on_word b) [ true ↦ in_word | false ↦ after_first b c ]

abbrev pub after_number : ℕ → ℕ → Where
after_number b c = elim (goes_on_number b) [ true ↦ in_number | false ↦ after_first b c ]

-- where the next byte stands, behind a byte that is outside quotes and comments
abbrev pub behind : Where → ℕ → ℕ → Where
behind between b c = after_first b c
behind behind_e b c = after_e b c
behind in_word b c = after_word b c
behind in_number b c = after_number b c
behind w b c = w

-- two bytes that are one comment mark
abbrev pub opens_comment : ℕ → ℕ → Bool
opens_comment b c = b == 47 && c == 42

abbrev pub closes_comment : ℕ → ℕ → Bool
closes_comment b c = b == 42 && c == 47

abbrev pub opens_dashed : ℕ → ℕ → Bool
opens_dashed b c = b == 45 && c == 45

abbrev pub quoted_step : ℕ → ℕ → Taken
quoted_step q b = elim (b == q) [ true ↦ one between | false ↦ one (quoted q) ]

abbrev pub escaped_step : ℕ → List ℕ → Taken
escaped_step b [] = one escaped
escaped_step b (c ∷ bs) = elim (b == 92 || (b == 39 && c == 39)) [
  | true ↦ two c escaped
  | false ↦ elim (b == 39) [ true ↦ one between | false ↦ one escaped ]
]

abbrev pub dashed_step : ℕ → Taken
dashed_step b = elim (b == 10) [ true ↦ one between | false ↦ one dashed ]

-- behind a comment that lay in so many others
abbrev pub outside : ℕ → Where
outside zero = between
outside (suc outer) = commented outer

abbrev pub commented_step : ℕ → ℕ → List ℕ → Taken
commented_step deep b [] = one (commented deep)
commented_step deep b (c ∷ bs) = elim (opens_comment b c) [
  | true ↦ two c (commented (suc deep))
  | false ↦ elim (closes_comment b c) [
    | true ↦ two c (outside deep)
    | false ↦ one (commented deep)
  ]
]

abbrev pub plain_step : Where → ℕ → List ℕ → Taken
plain_step w b [] = elim (b == 63) [ true ↦ mark | false ↦ one between ]
plain_step w b (c ∷ bs) = elim (b == 63) [
  | true ↦ mark
  | false ↦ elim (opens_comment b c) [
    | true ↦ two c (commented 0)
    | false ↦ elim (opens_dashed b c) [
      | true ↦ two c dashed
      | false ↦ one (behind w b c)
    ]
  ]
]

-- the step from a byte, before these
abbrev pub step : Where → ℕ → List ℕ → Taken
step (quoted q) b bs = quoted_step q b
step escaped b bs = escaped_step b bs
step dashed b bs = dashed_step b
step (commented deep) b bs = commented_step deep b bs
step w b bs = plain_step w b bs

-- how many comments lie round a byte
abbrev pub depth : Where → ℕ
depth (commented deep) = deep
depth w = 0
