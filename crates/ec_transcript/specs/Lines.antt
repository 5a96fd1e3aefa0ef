-- The lines of a transcript as they are read.
use Rattle.std.specs.Prelude.{◌≡◌, ◌≤◌, ℕ, zero, suc, ◌+◌, ◌-◌, ◌*◌, ◌^◌, ◌==◌, ◌&&◌, nat_lt, Bool, true, false, not, if◌then◌else◌, [], ◌∷◌, length, codes, Option, Some, None, option_map, ℤ, pos, negsuc}
use Rattle.std.specs.Fmt.{decimal}
use Rattle.std.specs.Char.{is_ascii_digit}
use Rattle.std.specs.Str.{bytes_eq}
use Rattle.ec_link.specs.declared.reply.Reply.{Reply}
use Rattle.ec_link.specs.declared.reply.Reply.TheVariants.{Connected, NoTarget, Done, Refused, Broken}
use Rattle.ec_link.specs.declared.reply.Tx.{Tx}
use Rattle.ec_link.specs.declared.reply.Tx.TheVariants.{Idle, Active, Failed}
use Rattle.ec_link.specs.declared.table.Col.{Col}
use Rattle.ec_transcript.specs.declared.version.Version.{Version}
use Rattle.ec_transcript.specs.declared.version.Version.TheVariants.{One, Two}
use Rattle.ec_transcript.specs.Text.{Bytes, header}
use Rattle.ec_transcript.specs.Clean.{is_clean}
use Rattle.ec_transcript.specs.Reading.{quoted_at, blank_at, behind, word_at, fields_at, request_of, first_of, end_at, ◌>>=◌}
use Rattle.ec_transcript.specs.States.{Row, Told, whole, opens, Readers}

-- ---- numbers

-- the number of digits that go on a number, below 2 ^ 64
abbrev pub value_on : ℕ → Bytes → Option ℕ
value_on n [] = Some n
value_on n (d ∷ digits) = if is_ascii_digit d && nat_lt (10 * n + (d - 48)) (2 ^ 64)
    then value_on (10 * n + (d - 48)) digits else None

abbrev pub if_written : Bytes → ℕ → Option ℕ
if_written word n = if bytes_eq word (decimal n) then Some n else None

-- the number that is written so
abbrev pub number_of : Bytes → Option ℕ
number_of word = value_on 0 word >>= if_written word

-- the number that digits make behind a number
abbrev pub value : ℕ → Bytes → ℕ
value n [] = n
value n (d ∷ digits) = value (10 * n + (d - 48)) digits

abbrev pub all_digits : Bytes → Bool
all_digits [] = true
all_digits (d ∷ digits) = is_ascii_digit d && all_digits digits

-- one digit or more, and no zero before others
abbrev pub is_numeral : Bytes → Bool
is_numeral [] = false
is_numeral (d ∷ []) = is_ascii_digit d
is_numeral (d ∷ e ∷ digits) = not (d == 48) && all_digits (d ∷ e ∷ digits)

-- the number of any size that is written so
abbrev pub count_of : Bytes → Option ℕ
count_of word = if is_numeral word then Some (value 0 word) else None

-- a number below 2 ^ 64 is told, and no other
abbrev pub Counted : ℕ → Option ℕ → Type 0
Counted n (Some number) = number ≡ n
Counted n None = 2 ^ 64 ≤ n

abbrev pub place_of : Bytes → Option (Option ℕ)
place_of word = if bytes_eq word (codes "-") then Some None else option_map Some (number_of word)

abbrev pub code_within : Option ℕ → Option ℤ
code_within None = None
code_within (Some n) = if nat_lt n (2 ^ 31) then Some (pos n) else None

abbrev pub code_below : Option ℕ → Option ℤ
code_below None = None
code_below (Some zero) = None
code_below (Some (suc n)) = if nat_lt n (2 ^ 31) then Some (negsuc n) else None

-- a code, which begins with `-` where it is below 0
abbrev pub code_of : Bytes → Option ℤ
code_of [] = None
code_of (b ∷ digits) = if b == 45 then code_below (number_of digits) else code_within (number_of (b ∷ digits))

-- ---- slots and places

abbrev pub marked : Bool → Bytes → Option (Bool × Bytes)
marked ready text = quoted_at text >>= λ name. end_at ((ready, name.0), name.1)

abbrev pub slot_of : Bytes → Option (Bool × Bytes)
slot_of line = first_of ((codes "slot ready ", marked true) ∷ (codes "slot free ", marked false) ∷ []) line

abbrev pub at_of : Bytes → Option (Option ℕ)
at_of line = behind (codes "@ ") line >>= place_of

-- ---- replies

abbrev pub tx_of : ℕ → Option Tx
tx_of b = if b == 73 then Some Idle else (if b == 65 then Some Active else (if b == 70 then Some Failed else None))

abbrev pub tx_at : Bytes → Option (Tx × Bytes)
tx_at [] = None
tx_at (b ∷ rest) = option_map (λ t. (t, rest)) (tx_of b)

abbrev pub end_told : Reply → Bytes → Option Told
end_told told rest = end_at (whole told, rest)

-- whether there was a notice, at the end of a line; version 1 tells of none
abbrev pub notice_at : Version → Bytes → Option Bool
notice_at version [] = Some false
notice_at One (b ∷ rest) = None
notice_at Two (b ∷ rest) = if bytes_eq (b ∷ rest) (codes " notice") then Some true else None

unfoldable pub done_at : Version → Bytes → Option Told
done_at version text = do
  state ← tx_at text
  rest ← blank_at state.1
  count ← place_of (word_at rest).0
  notice ← notice_at version (word_at rest).1
  Some (whole (Done count state.0 notice))

-- so many bytes of a state
abbrev pub clean_one : Bytes → Option (ℕ × Bytes)
clean_one [] = None
clean_one (b ∷ text) = if is_clean b then Some (b, text) else None

abbrev pub clean_at : ℕ → Bytes → Option (Bytes × Bytes)
clean_at zero text = Some ([], text)
clean_at (suc n) text = clean_one text >>= λ p. (clean_at n p.1 >>= λ q. Some (p.0 ∷ q.0, q.1))

-- a text behind a blank, up to the end of the line
abbrev pub message_at : Bytes → Option Bytes
message_at text = blank_at text >>= λ rest. (quoted_at rest >>= λ message. end_at message)

abbrev pub refusal : Bytes → Bytes → Tx → Reply
refusal state message t = Refused (record { 0 = state }) message t

unfoldable pub refused_at : Bytes → Option Told
refused_at text = do
  state ← tx_at text
  second ← blank_at state.1
  sql ← clean_at 5 second
  message ← message_at sql.1
  Some (whole (refusal sql.0 message state.0))

unfoldable pub rows_at : Version → Bytes → Option Told
rows_at version text = do
  state ← tx_at text
  second ← blank_at state.1
  width ← count_of (word_at second).0
  third ← blank_at (word_at second).1
  height ← count_of (word_at third).0
  notice ← notice_at version (word_at third).1
  Some (opens state.0 width height notice)

abbrev pub reply_of : Version → Bytes → Option Told
reply_of version line = first_of (
    (codes "< connected", end_told Connected) ∷ (codes "< notarget", end_told NoTarget)
    ∷ (codes "< broken", end_told Broken) ∷ (codes "< done ", done_at version)
    ∷ (codes "< refused ", refused_at) ∷ (codes "< rows ", rows_at version) ∷ []) line

-- ---- tables

unfoldable pub col_at : Bytes → Option Col
col_at text = do
  name ← quoted_at text
  rest ← blank_at name.1
  code ← code_of rest
  Some (record { name = name.0; code = code })

abbrev pub col_of : Bytes → Option Col
col_of line = behind (codes "c ") line >>= col_at

abbrev pub row_of : Bytes → Option Row
row_of [] = None
row_of (b ∷ rest) = if b == 114 then fields_at (length rest) rest else None

abbrev pub readers : Version → Readers
readers version = record {
  is_header = λ line. bytes_eq line (header version);
  slot_of = slot_of;
  at_of = at_of;
  request_of = request_of;
  reply_of = reply_of version;
  col_of = col_of;
  row_of = row_of;
}
