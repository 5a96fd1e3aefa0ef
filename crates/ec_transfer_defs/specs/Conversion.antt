-- What a host gives as a parameter of a statement, and what a field of an answer stores in it.
use Rattle.std.specs.Prelude.{ℕ, zero, suc, ◌-◌, ◌==◌, Bool, true, false, ◌&&◌, if◌then◌else◌, nat_lt, ℤ, pos, negsuc, int_le, int_lt, unsigned_abs, min, List, [], ◌∷◌, ◌++◌, length, take, replicate, Option, Some, None, Result, Ok, Err}
use Rattle.std.specs.Fmt.{signed_decimal}
use Rattle.std.specs.Str.{all_ascii_digits}
use Rattle.std.specs.Str.Parse.{without_leading_sign, signed_digits_value}
use Rattle.ec_base.specs.declared.stop.Trap.{Trap}
use Rattle.ec_base.specs.declared.stop.Trap.TheVariants.{BadLen}
use Rattle.ec_ctypes.specs.declared.types.arith.Arith.{Arith}
use Rattle.ec_ctypes.specs.declared.types.arith.Arith.TheVariants.{Bool as Boolean, Int}
use Rattle.ec_ctypes.specs.Arithmetic.{is_signed, least, greatest}
use Rattle.ec_memory_defs.specs.Memory.{Memory, and_then, integer_type, pointer_type, number, number_of, encoded, load, put, store, moved, text_at, text_up_to}
use Rattle.ec_transfer_defs.specs.declared.finding.Finding.{Finding}
use Rattle.ec_transfer_defs.specs.declared.finding.Finding.TheVariants as found
use Rattle.ec_transfer_defs.specs.Codes.{code_of}
use Rattle.ec_transfer_defs.specs.Hosts.{Holding, integer, truth, characters, pointed, counted, IndicatorData, HostData}

-- From a host to a parameter.

-- a truth value as a text: any number but 0 is true
abbrev pub truth_text : ℤ → List ℕ
truth_text (pos zero) = 102 ∷ []
truth_text (pos (suc n)) = 116 ∷ []
truth_text (negsuc n) = 116 ∷ []

-- the text of a VARCHAR of n bytes at this pointer, whose length is this number: at most so many bytes of the array, which stands behind the length, and those before a zero byte. No byte behind these is read
abbrev pub counted_text : Memory → ℕ → ℕ → ℤ → Result (List ℕ) Trap
counted_text m p n len =
    if int_le (pos 0) len && int_le len (pos n)
    then and_then (moved m p (pos 4) 1) (λ q. text_up_to m q (unsigned_abs len)) else Err BadLen

-- the number of an integer type at a pointer
abbrev pub number_at : Memory → ℕ → Arith → Result ℤ Trap
number_at m p t = and_then (load m p (integer_type t)) (λ v. Ok (number_of v))

-- the pointer at a pointer
abbrev pub address_at : Memory → ℕ → Result ℕ Trap
address_at m p = and_then (load m p pointer_type) (λ v. Ok (unsigned_abs (number_of v)))

-- the text of the element at a pointer
abbrev pub element_text : Memory → ℕ → Holding → Result (List ℕ) Trap
element_text m p (integer t) = and_then (number_at m p t) (λ z. Ok (signed_decimal z))
element_text m p truth = and_then (number_at m p Boolean) (λ z. Ok (truth_text z))
element_text m p (characters n) = text_up_to m p n
element_text m p pointed = and_then (address_at m p) (λ q. text_at m q)
element_text m p (counted n) = and_then (number_at m p Int) (λ z. counted_text m p n z)

-- whether the indicator, if there is one, says that the value is NULL: it is negative
abbrev pub is_null : Memory → Option IndicatorData → Result Bool Trap
is_null m None = Ok false
is_null m (Some i) = and_then (number_at m i.place i.kind) (λ z. Ok (int_lt z (pos 0)))

-- the parameter that a host of one element gives: none for NULL. The indicator is read first, and no value where it says NULL
abbrev pub parameter : Memory → HostData → Result (Option (List ℕ)) Trap
parameter m h = and_then (is_null m h.indicator) (λ null. if null then Ok None
    else and_then (element_text m h.place h.holds) (λ text. Ok (Some text)))

-- From a field to a host.

-- decimal digits, one or more
abbrev pub are_digits : List ℕ → Bool
are_digits [] = false
are_digits (b ∷ bs) = all_ascii_digits (b ∷ bs)

-- the number that a field is: one optional sign and one or more digits
abbrev pub field_number : List ℕ → Option ℤ
field_number field = if are_digits (without_leading_sign field)
    then Some (signed_digits_value 10 field) else None

-- whether a number is a value of an integer type
abbrev pub fits : Arith → ℤ → Bool
fits t z = int_le (least t) z && int_le z (greatest t)

-- what is wrong with a field that is no number of an integer type
abbrev pub not_a_number : Arith → Finding
not_a_number t = if is_signed t then found.NotAnInteger else found.NotUnsigned

-- the bytes of an int or of another integer type
abbrev pub integer_bytes : Arith → ℤ → List ℕ
integer_bytes t z = encoded (integer_type t) (number z)

abbrev pub number_bytes : Arith → Option ℤ → Result (List ℕ) Finding
number_bytes t None = Err (not_a_number t)
number_bytes t (Some z) = if fits t z then Ok (integer_bytes t z) else Err (not_a_number t)

-- a truth value is the one letter t or f
abbrev pub truth_bytes : List ℕ → Result (List ℕ) Finding
truth_bytes [] = Err found.NotABool
truth_bytes (b ∷ []) = if b == 116 then Ok (1 ∷ [])
    else (if b == 102 then Ok (0 ∷ []) else Err found.NotABool)
truth_bytes (b ∷ c ∷ bs) = Err found.NotABool

-- the bytes that a field stores, as one access. A char array takes a zero byte behind a field that leaves room for it, and else the front of the field. A VARCHAR takes the number of bytes that it took, these bytes, and zero bytes to its end. What a char pointer leads to takes all bytes and a zero byte
abbrev pub field_bytes : Holding → List ℕ → Result (List ℕ) Finding
field_bytes (integer t) field = number_bytes t (field_number field)
field_bytes truth field = truth_bytes field
field_bytes (characters n) field =
    Ok (if nat_lt (length field) n then field ++ 0 ∷ [] else take n field)
field_bytes pointed field = Ok (field ++ 0 ∷ [])
field_bytes (counted n) field = Ok
    (integer_bytes Int (pos (min (length field) n))
    ++ take n field ++ replicate (n - length field) 0)

-- whether a field loses bytes
abbrev pub is_cut : Holding → List ℕ → Bool
is_cut (characters n) field = nat_lt n (length field)
is_cut (counted n) field = nat_lt n (length field)
is_cut _ field = false

-- where the bytes of an element are: what a char pointer leads to, and else the element itself
abbrev pub bytes_place : Memory → ℕ → Holding → Result ℕ Trap
bytes_place m p pointed = address_at m p
bytes_place m p _ = Ok p

-- the memory with these bytes in the element of a row, the first being 0
abbrev pub with_bytes : Memory → HostData → ℕ → List ℕ → Result Memory Trap
with_bytes m h row bytes = and_then (moved m h.place (pos row) h.step)
    (λ p. and_then (bytes_place m p h.holds) (λ q. put m q bytes))

-- the memory with this number in the indicator of a row
abbrev pub with_indicator : Memory → IndicatorData → ℕ → ℤ → Result Memory Trap
with_indicator m i row z =
    and_then (moved m i.place (pos row) i.step) (λ p. store m p (integer_type i.kind) (number z))

-- what the indicator says of a field: the whole length where the value is cut, at most the greatest number of its type, and else 0
abbrev pub told_length : Arith → Bool → ℕ → ℤ
told_length t false n = pos 0
told_length t true n = if int_le (pos n) (greatest t) then pos n else greatest t

-- why nothing more was stored: a trap, or a code
pub data Stop : Type 0 where
  trapped : Trap → Stop
  refused : ℤ → Stop

-- whether the value was cut, or why it stopped; and the memory behind it
abbrev pub Stored : Type 0
Stored = Result Bool Stop × Memory

-- what was stored, or that nothing was
abbrev pub or_before : Memory → Bool → Result Memory Trap → Stored
or_before m cut (Ok after) = (Ok cut, after)
or_before m cut (Err trap) = (Err (trapped trap), m)

-- NULL is told by the indicator alone, which is -1. Without one it is a code
abbrev pub null_stored : Memory → HostData → ℕ → Option IndicatorData → Stored
null_stored m h row None = (Err (refused (code_of found.NullWithoutIndicator)), m)
null_stored m h row (Some i) = or_before m false (with_indicator m i row (negsuc 0))

-- behind a value that was stored: its indicator, if it has one. A trap there leaves the value stored
abbrev pub told : Memory → Option IndicatorData → ℕ → Bool → ℕ → Stored
told m None row cut n = (Ok cut, m)
told m (Some i) row cut n = or_before m cut (with_indicator m i row (told_length i.kind cut n))

abbrev pub value_told : Memory → HostData → ℕ → Bool → ℕ → Result Memory Trap → Stored
value_told m h row cut n (Err trap) = (Err (trapped trap), m)
value_told m h row cut n (Ok after) = told after h.indicator row cut n

-- a field whose bytes are these, or which is refused: then nothing is tested and nothing changes
abbrev pub bytes_stored : Memory → HostData → ℕ → List ℕ → Result (List ℕ) Finding → Stored
bytes_stored m h row field (Err finding) = (Err (refused (code_of finding)), m)
bytes_stored m h row field (Ok bytes) =
    value_told m h row (is_cut h.holds field) (length field) (with_bytes m h row bytes)

-- a field that is stored in the element of a row: the value first, then the indicator
abbrev pub field_stored : Memory → HostData → ℕ → Option (List ℕ) → Stored
field_stored m h row None = null_stored m h row h.indicator
field_stored m h row (Some field) = bytes_stored m h row field (field_bytes h.holds field)
