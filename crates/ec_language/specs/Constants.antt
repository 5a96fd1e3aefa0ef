-- The values of constants: integers with their types (ISO/IEC 9899:1999, 6.4.4.1), characters (6.4.4.4) and strings (6.4.5).
use Rattle.std.specs.Prelude.{ℕ, zero, suc, ◌+◌, ◌-◌, ◌*◌, Bool, true, false, ◌&&◌, ◌||◌, nat_lt, ◌==◌, ℤ, pos, neg_ℤ, int_le, List, [], ◌∷◌, take, drop, length, codes, Option, Some, None, option_map, fold, find, if◌then◌else◌}
use Rattle.ec_ctypes.specs.declared.types.arith.Arith.{Arith}
use Rattle.ec_ctypes.specs.declared.types.arith.Arith.TheVariants.{Int, UInt, Long, ULong, LLong, ULLong}
use Rattle.ec_ctypes.specs.Arithmetic.{greatest}
use Rattle.ec_language.specs.Letters.{Text, backslash, is_digit, is_upper, is_lower, is_empty, begins_with, is_among}

-- ---- digits

-- the digits of a base: `0` to `9`, and then letters in either case
abbrev pub digit_value : ℕ → ℕ
digit_value b = if is_digit b then b - 48 else if is_upper b then b - 55 else b - 87

abbrev pub is_digit_of : ℕ → ℕ → Bool
is_digit_of base b = (is_digit b || is_upper b || is_lower b) && nat_lt (digit_value b) base

-- the digits of the base that the text begins with, at most so many
abbrev pub leading_digits : ℕ → ℕ → Text → Text
leading_digits base zero text = []
leading_digits base (suc most) [] = []
leading_digits base (suc most) (b ∷ bs) = elim (is_digit_of base b) [
  | true ↦ b ∷ leading_digits base most bs
  | false ↦ []
]

abbrev pub digits_value : ℕ → Text → ℕ
digits_value base digits = fold (λ n b. n * base + digit_value b) 0 digits

-- ---- integers

-- what the letters behind the digits say: whether the type is unsigned, and how often it is long. Letters of one L L have the same case
pub record Suffix : Type 0 where
  pub unsigned : Bool
  pub longs : ℕ

abbrev pub suffix_of : Text → Option Suffix
suffix_of text =
    if is_empty text then Some (record { unsigned = false; longs = 0 })
    else if is_among (codes "u" ∷ codes "U" ∷ []) text
    then Some (record { unsigned = true; longs = 0 })
    else if is_among (codes "l" ∷ codes "L" ∷ []) text
    then Some (record { unsigned = false; longs = 1 })
    else if is_among (codes "ll" ∷ codes "LL" ∷ []) text
    then Some (record { unsigned = false; longs = 2 })
    else if is_among (codes "ul" ∷ codes "uL" ∷ codes "Ul" ∷ codes "UL"
    ∷ codes "lu" ∷ codes "lU" ∷ codes "Lu" ∷ codes "LU" ∷ []) text
    then Some (record { unsigned = true; longs = 1 })
    else if is_among (codes "ull" ∷ codes "uLL" ∷ codes "Ull" ∷ codes "ULL"
    ∷ codes "llu" ∷ codes "llU" ∷ codes "LLu" ∷ codes "LLU" ∷ []) text
    then Some (record { unsigned = true; longs = 2 })
    else None

-- the types that a constant may have, the first choice first (6.4.4.1, 5)
abbrev pub choices : Bool → Suffix → List Arith
choices decimal s =
    if s.longs == 0
    then (if s.unsigned then UInt ∷ ULong ∷ []
    else if decimal then Int ∷ Long ∷ []
    else Int ∷ UInt ∷ Long ∷ ULong ∷ [])
    else if s.longs == 1
    then (if s.unsigned then ULong ∷ [] else if decimal then Long ∷ [] else Long ∷ ULong ∷ [])
    else (if s.unsigned then ULLong ∷ [] else if decimal then LLong ∷ [] else LLong ∷ ULLong ∷ [])

-- the first type that has the value
abbrev pub first_fit : ℕ → List Arith → Option Arith
first_fit n types = find (λ t. int_le (pos n) (greatest t)) types

abbrev pub constant_of : Bool → Text → Option Suffix → ℕ → Option (ℕ × Arith)
constant_of decimal digits None base = None
constant_of decimal digits (Some s) base =
    option_map (λ t. (digits_value base digits, t))
    (first_fit (digits_value base digits) (choices decimal s))

-- digits of a base and a suffix
abbrev pub based : ℕ → Bool → Text → Option (ℕ × Arith)
based base decimal text =
    if is_empty (leading_digits base (length text) text) then None
    else constant_of decimal (leading_digits base (length text) text)
    (suffix_of (drop (length (leading_digits base (length text) text)) text)) base

-- the value and the type of an integer constant: hexadecimal behind `0x`, octal behind `0`, else decimal
abbrev pub integer_constant : Text → Option (ℕ × Arith)
integer_constant text =
    if begins_with (codes "0x") text || begins_with (codes "0X") text
    then based 16 false (drop 2 text)
    else if begins_with (codes "0") text then based 8 false text
    else based 10 true text

-- ---- characters and strings

-- the byte that a letter or a mark behind a backslash stands for
abbrev pub simple_escape : ℕ → Option ℕ
simple_escape b =
    if b == 110 then Some 10  -- n, newline
    else if b == 116 then Some 9  -- t, tab
    else if b == 114 then Some 13  -- r, carriage return
    else if b == 97 then Some 7  -- a, alert
    else if b == 98 then Some 8  -- b, backspace
    else if b == 102 then Some 12  -- f, form feed
    else if b == 118 then Some 11  -- v, vertical tab
    else if b == 92 || b == 39 || b == 34 || b == 63 then Some b  -- \ ' " ?
    else None

-- a byte, and the text behind what stands for it
abbrev pub byte_and_rest : Option ℕ → Text → Option (ℕ × Text)
byte_and_rest None rest = None
byte_and_rest (Some b) rest = Some (b, rest)

-- digits of the base, one to so many, with a value that is a byte
abbrev pub numeric_escape : ℕ → ℕ → Text → Option (ℕ × Text)
numeric_escape base most text =
    if is_empty (leading_digits base most text)
    || nat_lt 255 (digits_value base (leading_digits base most text))
    then None
    else Some (
      digits_value base (leading_digits base most text),
      drop (length (leading_digits base most text)) text,
    )

-- the byte of the escape behind a backslash: one to three octal digits up to 377, `x` and one or two hexadecimal digits, or one byte
abbrev pub escape : Text → Option (ℕ × Text)
escape [] = None
escape (b ∷ bs) =
    if is_digit_of 8 b then numeric_escape 8 3 (b ∷ bs)
    else if b == 120 then numeric_escape 16 2 bs
    else byte_and_rest (simple_escape b) bs

-- the first byte that a text in quotes stands for
abbrev pub first_byte : ℕ → Text → Option (ℕ × Text)
first_byte b bs = if b == backslash then escape bs else Some (b, bs)

-- the bytes that a text in quotes stands for, if there are at most so many
abbrev pub unescaped_within : ℕ → Text → Option Text
unescaped_within most [] = Some []
unescaped_within zero (b ∷ bs) = None
unescaped_within (suc most) (b ∷ bs) = elim (first_byte b bs) [
  | None ↦ None
  | Some p ↦ option_map (λ bytes. p.0 ∷ bytes) (unescaped_within most p.1)
]

abbrev pub unescaped : Text → Option Text
unescaped text = unescaped_within (length text) text

-- a constant without its quotes
abbrev pub inside : Text → Text
inside text = take (length text - 2) (drop 1 text)

-- the bytes of a string literal, without a zero byte at the end
abbrev pub string_value : Text → Option Text
string_value text = unescaped (inside text)

-- characters are signed
abbrev pub signed_byte : ℕ → ℤ
signed_byte b = if nat_lt b 128 then pos b else neg_ℤ (pos (256 - b))

abbrev pub only_byte : Option Text → Option ℤ
only_byte None = None
only_byte (Some []) = None
only_byte (Some (b ∷ [])) = Some (signed_byte b)
only_byte (Some (b ∷ c ∷ bs)) = None

-- the value of a character constant, which is of one byte
abbrev pub character_value : Text → Option ℤ
character_value text = only_byte (unescaped (inside text))
