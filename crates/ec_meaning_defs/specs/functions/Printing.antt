-- What printf puts (ISO/IEC 9899:1999, 7.19.6.1). All arguments and texts are read before the first byte is put, so what is put is one list of bytes.
use Rattle.std.specs.Prelude.{ℕ, zero, suc, ◌+◌, ◌-◌, ◌/◌, ◌%◌, Bool, true, false, ◌||◌, nat_lt, if◌then◌else◌, ℤ, pos, negsuc, unsigned_abs, int_lt, List, [], ◌∷◌, ◌++◌, length, replicate, Option, Some, None, Result, Ok, Err}
use Rattle.ec_base.specs.declared.stop.Trap.{Trap}
use Rattle.ec_ctypes.specs.declared.types.arith.Arith.{Arith}
use Rattle.ec_ctypes.specs.declared.types.arith.Arith.TheVariants.{UChar, Int, UInt, Long, ULong}
use Rattle.ec_ctypes.specs.Arithmetic.{converted}
use Rattle.ec_memory_defs.specs.Memory.{Memory, ValueData, number, address, text_at, text_up_to}
use Rattle.ec_meaning_defs.specs.functions.Formats.{Amount, absent, given, from_argument, Style, signed_decimal, unsigned_decimal, hexadecimal, capital_hexadecimal, octal, Field, Part, plain, integer, character, text}

-- the byte of a digit below 16
abbrev pub digit_byte : Bool → ℕ → ℕ
digit_byte capital d = if nat_lt d 10 then 48 + d else (if capital then 55 + d else 87 + d)

-- the digits of a number to a base, at most so many, before others
abbrev pub digits_before : ℕ → ℕ → Bool → ℕ → List ℕ → List ℕ
digits_before zero base capital n behind = behind
digits_before (suc places) base capital n behind =
    elim (n / base) [
      | zero ↦ digit_byte capital (n % base) ∷ behind
      | suc q ↦ digits_before places base capital (n / base)
          (digit_byte capital (n % base) ∷ behind)
    ]

-- a number of at most 64 bits
abbrev pub digits_of : ℕ → Bool → ℕ → List ℕ
digits_of base capital n = digits_before 22 base capital n []

abbrev pub base_of : Style → ℕ
base_of signed_decimal = 10
base_of unsigned_decimal = 10
base_of hexadecimal = 16
base_of capital_hexadecimal = 16
base_of octal = 8

abbrev pub is_capital : Style → Bool
is_capital signed_decimal = false
is_capital unsigned_decimal = false
is_capital hexadecimal = false
is_capital capital_hexadecimal = true
is_capital octal = false

-- the type as which the argument is read: that of its width, with the sign of the directive
abbrev pub read_as : Bool → Style → Arith
read_as wide signed_decimal = if wide then Long else Int
read_as wide unsigned_decimal = if wide then ULong else UInt
read_as wide hexadecimal = if wide then ULong else UInt
read_as wide capital_hexadecimal = if wide then ULong else UInt
read_as wide octal = if wide then ULong else UInt

abbrev pub sign_of : ℤ → List ℕ
sign_of z = if int_lt z (pos 0) then 45 ∷ [] else []

-- bytes in a field of a width: blanks behind them, or zeros behind their sign, or blanks before them
abbrev pub padded : Bool → Bool → ℕ → List ℕ → List ℕ → List ℕ
padded minus zeros width sign body =
    elim minus [
      | true ↦ sign ++ body ++ replicate (width - length (sign ++ body)) 32
      | false ↦ elim zeros [
        | true ↦ sign ++ replicate (width - length (sign ++ body)) 48 ++ body
        | false ↦ replicate (width - length (sign ++ body)) 32 ++ sign ++ body
      ]
    ]

-- a field whose width is known. A negative width, which an argument may say, is the flag `-` and the width's amount
abbrev pub in_field : Field → Bool → ℤ → List ℕ → List ℕ → List ℕ
in_field field zeros width sign body =
    padded (field.minus || int_lt width (pos 0)) zeros (unsigned_abs width) sign body

abbrev pub integer_bytes : Field → ℤ → Style → ℤ → List ℕ
integer_bytes field width style z =
    in_field field field.zeros width (sign_of z)
    (digits_of (base_of style) (is_capital style) (unsigned_abs z))

-- what a part puts, and the arguments behind its own; or none where the arguments are not those of the format
abbrev pub Put : Type 0
Put = Option (Result (List ℕ) Trap × List ValueData)

abbrev pub with_number : List ValueData → (ℤ → List ValueData → Put) → Put
with_number [] k = None
with_number (number z ∷ vs) k = k z vs
with_number (address p ∷ vs) k = None

abbrev pub with_address : List ValueData → (ℕ → List ValueData → Put) → Put
with_address [] k = None
with_address (number z ∷ vs) k = None
with_address (address p ∷ vs) k = k p vs

-- a width or a precision, with `otherwise` where there is none
abbrev pub with_amount : Amount → ℤ → List ValueData → (ℤ → List ValueData → Put) → Put
with_amount absent otherwise vs k = k otherwise vs
with_amount (given n) otherwise vs k = k (pos n) vs
with_amount from_argument otherwise vs k = with_number vs k

-- a text, or its front: a negative precision is none
abbrev pub text_within : Memory → ℕ → ℤ → Result (List ℕ) Trap
text_within m p precision =
    elim (int_lt precision (pos 0)) [
      | true ↦ text_at m p
      | false ↦ text_up_to m p (unsigned_abs precision)
    ]

abbrev pub text_bytes : Field → ℤ → Result (List ℕ) Trap → Result (List ℕ) Trap
text_bytes field width (Ok bytes) = Ok (in_field field false width [] bytes)
text_bytes field width (Err trap) = Err trap

abbrev pub part_put : Memory → Part → List ValueData → Put
part_put m (plain bytes) vs = Some (Ok bytes, vs)
part_put m (integer field wide style) vs =
    with_amount field.width (pos 0) vs (λ width us. with_number us (λ z ws.
    Some (Ok (integer_bytes field width style (converted (read_as wide style) z)), ws)))
part_put m (character field) vs =
    with_amount field.width (pos 0) vs (λ width us. with_number us (λ z ws.
    Some (Ok (in_field field false width [] (unsigned_abs (converted UChar z) ∷ [])), ws)))
part_put m (text field precision) vs =
    with_amount field.width (pos 0) vs (λ width us. with_amount precision (negsuc 0) us (λ most ts.
    with_address ts (λ p ws. Some (text_bytes field width (text_within m p most), ws))))

-- the bytes of a part, and of the parts behind it. The first text that traps ends it
abbrev pub joined : Result (List ℕ) Trap → Option (Result (List ℕ) Trap)
    → Option (Result (List ℕ) Trap)
joined (Err trap) rest = Some (Err trap)
joined (Ok bytes) None = None
joined (Ok bytes) (Some (Err trap)) = Some (Err trap)
joined (Ok bytes) (Some (Ok more)) = Some (Ok (bytes ++ more))

-- all that a format puts with these arguments
abbrev pub printed : Memory → List Part → List ValueData → Option (Result (List ℕ) Trap)
printed m [] [] = Some (Ok [])
printed m [] (v ∷ vs) = None
printed m (part ∷ parts) vs =
    elim (part_put m part vs) [ None ↦ None | Some done ↦ joined done.0 (printed m parts done.1) ]
