-- What parameters are to SQLite, and what its values are in a reply.
use Rattle.std.specs.Prelude.{ℕ, ℤ, ◌^◌, pos, negsuc, nat_eq, nat_lt, Bool, if◌then◌else◌, List, Option, Some, None}
use Rattle.std.specs.Cmp.Lexicographic.{pointwise}
use Rattle.std.specs.Fmt.{signed_decimal}
use Rattle.std.specs.Str.Parse.{signed_digits_value}
use Rattle.sqlite_value.specs.declared.value.Value.{Value}
use Rattle.sqlite_value.specs.declared.value.Value.TheVariants.{Null, Int, Real, Text, Blob}

-- a parameter is a text, or NULL
abbrev pub as_text : Option (List ℕ) → Value
as_text None = Null
as_text (Some text) = Text text

-- a number of 64 bits with a sign
abbrev pub is_long : ℤ → Bool
is_long (pos n) = nat_lt n (2 ^ 63)
is_long (negsuc n) = nat_lt n (2 ^ 63)

-- the number, if the text is its decimal
abbrev pub exact : ℤ → List ℕ → Option ℤ
exact z text = if pointwise nat_eq (signed_decimal z) text then Some z else None

-- the whole number of 64 bits whose decimal the text is: no sign stands before it but a `-`, and no zero that could be left out
abbrev pub whole_of : List ℕ → Option ℤ
whole_of text =
    if is_long (signed_digits_value 10 text) then exact (signed_digits_value 10 text) text else None

-- a parameter where numbers are asked for: a whole number is one, and its decimal is the text
abbrev pub number_or_text : Option ℤ → List ℕ → Value
number_or_text (Some n) text = Int n
number_or_text None text = Text text

abbrev pub as_whole : Option (List ℕ) → Value
as_whole None = Null
as_whole (Some text) = number_or_text (whole_of text) text

-- the field for a value: none for NULL, whole numbers in decimal, texts and blobs as they are; a float has no field
abbrev pub field_of : Value → Option (Option (List ℕ))
field_of Null = Some None
field_of (Int n) = Some (Some (signed_decimal n))
field_of (Text text) = Some (Some text)
field_of (Blob bytes) = Some (Some bytes)
field_of (Real x) = None
