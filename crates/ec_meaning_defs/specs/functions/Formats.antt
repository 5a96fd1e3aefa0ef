-- The formats of printf, taken apart (ISO/IEC 9899:1999, 7.19.6.1). Of the standard's directives these are known: `%d %i %u %x %X %o`, each with `l` or `ll` or without, `%c`, `%s` and `%%`; the flags `-` and `0`; a width of up to three digits or `*`; for `%s` a precision, which is digits or `*`. An amount is at most 2^64 - 1, and more digits say that one.
use Rattle.std.specs.Prelude.{ℕ, zero, suc, ◌+◌, ◌-◌, ◌*◌, Bool, true, false, ◌||◌, ◌&&◌, ◌==◌, nat_le, min, List, [], ◌∷◌, ◌++◌, drop, length, Option, Some, None, option_map}
use Rattle.std.specs.Option.{option_and_then}

-- a width or a precision: there is none, or it is this number, or an argument says it
pub data Amount : Type 0 where
  absent : Amount
  given : ℕ → Amount
  from_argument : Amount

-- how a number is written
pub data Style : Type 0 where
  signed_decimal : Style
  unsigned_decimal : Style
  hexadecimal : Style
  capital_hexadecimal : Style
  octal : Style

-- the flags `-` and `0`, and the width
pub record Field : Type 0 where
  pub minus : Bool
  pub zeros : Bool
  pub width : Amount

-- a part of a format: bytes that stand for themselves, or a directive. An integer is wide where it has `l` or `ll`, and a text has its precision
pub data Part : Type 0 where
  plain : List ℕ → Part
  integer : Field → Bool → Style → Part
  character : Field → Part
  text : Field → Amount → Part

-- the bytes at the front for which the test holds
abbrev pub front_while : (ℕ → Bool) → List ℕ → List ℕ
front_while test [] = []
front_while test (b ∷ bs) = elim (test b) [ true ↦ b ∷ front_while test bs | false ↦ [] ]

abbrev pub is_digit : ℕ → Bool
is_digit b = nat_le 48 b && nat_le b 57

abbrev pub is_flag : ℕ → Bool
is_flag b = b == 45 || b == 48

abbrev pub has : ℕ → List ℕ → Bool
has b [] = false
has b (c ∷ cs) = b == c || has b cs

-- the largest amount, for which each larger one stands: no text is that long, and no width
abbrev pub most : ℕ
most = 18446744073709551615

-- a number with one digit more behind it, or the largest amount
abbrev pub with_digit : ℕ → ℕ → ℕ
with_digit n d = min (n * 10 + (d - 48)) most

-- the number that these digits make, behind one that is there, or the largest amount
abbrev pub decimal_behind : ℕ → List ℕ → ℕ
decimal_behind n [] = n
decimal_behind n (d ∷ ds) = decimal_behind (with_digit n d) ds

abbrev pub digits_amount : List ℕ → Amount
digits_amount [] = absent
digits_amount (d ∷ ds) = given (decimal_behind 0 (d ∷ ds))

-- a width or a precision at the front of a text, and what stands behind it
abbrev pub amount_at : List ℕ → Amount × List ℕ
amount_at [] = (absent, [])
amount_at (b ∷ bs) =
    elim (b == 42) [
      | true ↦ (from_argument, bs)
      | false ↦ (
        digits_amount (front_while is_digit (b ∷ bs)),
        drop (length (front_while is_digit (b ∷ bs))) (b ∷ bs),
      )
    ]

abbrev pub is_width : Amount → Bool
is_width absent = true
is_width (given n) = nat_le n 999
is_width from_argument = true

-- a precision at the front of a text: a dot, and then digits or `*`
abbrev pub precision_at : List ℕ → Option (Amount × List ℕ)
precision_at [] = Some (absent, [])
precision_at (b ∷ bs) =
    elim (b == 46) [
      | true ↦ behind_dot (amount_at bs)
      | false ↦ Some (absent, b ∷ bs)
    ]
  where
    behind_dot : Amount × List ℕ → Option (Amount × List ℕ)
    behind_dot (absent, rest) = None
    behind_dot (given n, rest) = Some (given n, rest)
    behind_dot (from_argument, rest) = Some (from_argument, rest)

-- `l` or `ll` at the front of a text: whether it is there, and what stands behind it
abbrev pub wide_at : List ℕ → Bool × List ℕ
wide_at [] = (false, [])
wide_at (b ∷ []) = elim (b == 108) [ true ↦ (true, []) | false ↦ (false, b ∷ []) ]
wide_at (b ∷ c ∷ rest) =
    elim (b == 108) [
      | true ↦ elim (c == 108) [ true ↦ (true, rest) | false ↦ (true, c ∷ rest) ]
      | false ↦ (false, b ∷ c ∷ rest)
    ]

-- the style of `d`, `i`, `u`, `x`, `X` and `o`
abbrev pub style_of : ℕ → Option Style
style_of b =
    elim (b == 100 || b == 105) [
      | true ↦ Some signed_decimal
      | false ↦ elim (b == 117) [
        | true ↦ Some unsigned_decimal
        | false ↦ elim (b == 120) [
          | true ↦ Some hexadecimal
          | false ↦ elim (b == 88) [
            | true ↦ Some capital_hexadecimal
            | false ↦ elim (b == 111) [ true ↦ Some octal | false ↦ None ]
          ]
        ]
      ]
    ]

abbrev pub is_absent : Amount → Bool
is_absent absent = true
is_absent (given n) = false
is_absent from_argument = false

-- `c` and `s`
abbrev pub text_directive : Field → Amount → ℕ → Option Part
text_directive field precision b =
    elim (b == 115) [
      | true ↦ Some (text field precision)
      | false ↦ elim (b == 99 && is_absent precision) [
        | true ↦ Some (character field)
        | false ↦ None
      ]
    ]

-- a directive with the letter at its end. A precision stands at `s` alone, and `l` at an integer alone
abbrev pub lettered : Field → Amount → Bool → ℕ → Option Part
lettered field precision wide b =
    elim (style_of b) [
      | Some style ↦ elim (is_absent precision) [
        | true ↦ Some (integer field wide style)
        | false ↦ None
      ]
      | None ↦ elim wide [ true ↦ None | false ↦ text_directive field precision b ]
    ]

abbrev pub with_letter : Field → Amount → Bool × List ℕ → Option (Part × List ℕ)
with_letter field precision (wide, []) = None
with_letter field precision (wide, b ∷ rest) =
    option_map (λ part. (part, rest)) (lettered field precision wide b)

abbrev pub field_of : List ℕ → Amount → Field
field_of flags width = record { minus = has 45 flags; zeros = has 48 flags; width = width }

abbrev pub with_width : List ℕ → Amount × List ℕ → Option (Part × List ℕ)
with_width flags (width, rest) =
    elim (is_width width) [
      | true ↦ option_and_then (λ p.
          with_letter (field_of flags width) p.0 (wide_at p.1)) (precision_at rest)
      | false ↦ None
    ]

-- the directive behind a `%`, and what stands behind it
abbrev pub directive_at : List ℕ → Option (Part × List ℕ)
directive_at [] = None
directive_at (b ∷ bs) =
    elim (b == 37) [
      | true ↦ Some (plain (37 ∷ []), bs)
      | false ↦ with_width (front_while is_flag (b ∷ bs))
          (amount_at (drop (length (front_while is_flag (b ∷ bs))) (b ∷ bs)))
    ]

-- a part before others: plain bytes that stand together are one part
abbrev pub before_parts : Part → List Part → List Part
before_parts (plain bs) [] = plain bs ∷ []
before_parts (plain bs) (plain cs ∷ parts) = plain (bs ++ cs) ∷ parts
before_parts part parts = part ∷ parts

-- the parts of a text with at most so many of them
abbrev pub parts_within : ℕ → List ℕ → Option (List Part)
parts_within n [] = Some []
parts_within zero (b ∷ bs) = None
parts_within (suc n) (zero ∷ bs) = Some []
parts_within (suc n) (suc b ∷ bs) =
    elim (b == 36) [
      | true ↦ option_and_then (λ d.
          option_map (before_parts d.0) (parts_within n d.1)) (directive_at bs)
      | false ↦ option_map (before_parts (plain (suc b ∷ []))) (parts_within n bs)
    ]

-- the parts of a format, which ends at its first zero byte; or none where it is no format
abbrev pub format_parts : List ℕ → Option (List Part)
format_parts bytes = parts_within (length bytes) bytes
