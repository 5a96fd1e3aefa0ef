-- The text of a transcript: a line that names the version, a line for each slot, and three or more for each exchange.
use Rattle.std.specs.Prelude.{ℕ, zero, suc, ◌+◌, ◌/◌, ◌%◌, ◌==◌, ◌&&◌, nat_lt, nat_le, Bool, true, false, not, if◌then◌else◌, List, [], ◌∷◌, ◌++◌, length, map, codes, Option, Some, None}
use Rattle.std.specs.List.{flat_map}
use Rattle.std.specs.Fmt.{decimal, signed_decimal}
use Rattle.ec_link.specs.declared.request.Request.{Request}
use Rattle.ec_link.specs.declared.request.Request.TheVariants.{Connect, Text, Prepare, Exec, Deallocate, Close}
use Rattle.ec_link.specs.declared.reply.Reply.{Reply}
use Rattle.ec_link.specs.declared.reply.Reply.TheVariants.{Connected, NoTarget, Rows, Done, Refused, Broken}
use Rattle.ec_link.specs.declared.reply.Tx.{Tx}
use Rattle.ec_link.specs.declared.reply.Tx.TheVariants.{Idle, Active, Failed}
use Rattle.ec_link.specs.declared.table.Col.{Col}
use Rattle.ec_link.specs.declared.logged.Logged.{Logged}
use Rattle.ec_transcript.specs.declared.version.Version.{Version}
use Rattle.ec_transcript.specs.declared.version.Version.TheVariants.{One, Two}

abbrev pub Bytes : Type 0
Bytes = List ℕ

-- ---- fields

-- a byte that stands for itself in a text
abbrev pub is_plain : ℕ → Bool
is_plain b = nat_le 32 b && (nat_le b 126 && (not (b == 34) && not (b == 92)))

-- a digit of the hexadecimal system, in lower case
abbrev pub hex : ℕ → ℕ
hex d = if nat_lt d 10 then 48 + d else 87 + d

abbrev pub letter : ℕ → Bytes
letter b = if is_plain b then b ∷ [] else 92 ∷ hex (b / 16) ∷ hex (b % 16) ∷ []

-- a text in quotes
abbrev pub quoted : Bytes → Bytes
quoted text = 34 ∷ (flat_map letter text ++ 34 ∷ [])

-- a text, or `-`
abbrev pub optional : Option Bytes → Bytes
optional None = 45 ∷ []
optional (Some text) = quoted text

-- the digits of a number, where `left` is above it
abbrev pub digits_of : ℕ → ℕ → Bytes
digits_of zero n = []
digits_of (suc left) n = if nat_lt n 10 then (48 + n) ∷ [] else digits_of left (n / 10) ++ (48 + n % 10) ∷ []

-- A number of any size in decimal, without leading zeros. (`decimal` is that of numbers below 2 ^ 64.)
unfoldable pub numeral : ℕ → Bytes
numeral n = digits_of (suc n) n

-- fields, each with a blank before it
abbrev pub fields : List (Option Bytes) → Bytes
fields [] = []
fields (f ∷ more) = 32 ∷ (optional f ++ fields more)

-- ---- lines

-- the first line
abbrev pub header : Version → Bytes
header One = codes "ecpg-transcript 1"
header Two = codes "ecpg-transcript 2"

-- whether a slot was ready
abbrev pub mark : Bool → Bytes
mark true = codes "ready"
mark false = codes "free"

-- a slot, and the name of its server
abbrev pub slot_line : Bool × Bytes → Bytes
slot_line slot = codes "slot " ++ (mark slot.0 ++ 32 ∷ quoted slot.1)

-- the number of a slot, or `-` for none
abbrev pub place : Option ℕ → Bytes
place None = codes "-"
place (Some n) = decimal n

-- where an exchange was made
abbrev pub at_line : Option ℕ → Bytes
at_line slot = codes "@ " ++ place slot

-- a request, behind its `> `
abbrev pub request : Request → Bytes
request (Connect target user password) = codes "connect " ++ (quoted target ++ 32 ∷ (optional user ++ 32 ∷ optional password))
request (Text text params) = codes "text " ++ (quoted text ++ 32 ∷ (numeral (length params) ++ fields params))
request (Prepare name text) = codes "prepare " ++ (quoted name ++ 32 ∷ quoted text)
request (Exec name params) = codes "exec " ++ (quoted name ++ 32 ∷ (numeral (length params) ++ fields params))
request (Deallocate name) = codes "deallocate " ++ quoted name
request Close = codes "close"

abbrev pub request_line : Request → Bytes
request_line r = codes "> " ++ request r

-- whether the server is in a transaction
abbrev pub tx : Tx → ℕ
tx Idle = 73
tx Active = 65
tx Failed = 70

-- what ends the first line of a reply with a notice
abbrev pub noticed : Bool → Bytes
noticed true = codes " notice"
noticed false = []

-- how many rows a statement changed, or `-`
abbrev pub count : Option ℕ → Bytes
count None = codes "-"
count (Some n) = decimal n

-- a column: its name, and the code of its type
abbrev pub col_line : Col → Bytes
col_line c = codes "c " ++ (quoted c.name ++ 32 ∷ signed_decimal c.code)

-- a row: its fields
abbrev pub row_line : List (Option Bytes) → Bytes
row_line row = 114 ∷ fields row

-- the first line of a table
abbrev pub rows_line : Tx → ℕ → ℕ → Bool → Bytes
rows_line t width height notice =
    codes "< rows " ++ (tx t ∷ 32 ∷ (numeral width ++ 32 ∷ (numeral height ++ noticed notice)))

-- the lines of a reply: one, or for a table one more for each column and each row
abbrev pub reply : Reply → List Bytes
reply Connected = codes "< connected" ∷ []
reply NoTarget = codes "< notarget" ∷ []
reply Broken = codes "< broken" ∷ []
reply (Done n t notice) = (codes "< done " ++ (tx t ∷ 32 ∷ (count n ++ noticed notice))) ∷ []
reply (Refused state message t) = (codes "< refused " ++ (tx t ∷ 32 ∷ (state.0 ++ 32 ∷ quoted message))) ∷ []
reply (Rows table t notice) =
    rows_line t (length table.cols) (length table.rows) notice ∷ (map col_line table.cols ++ map row_line table.rows)

-- the lines of an exchange
abbrev pub exchange : Logged → List Bytes
exchange x = at_line x.slot ∷ request_line x.request ∷ reply x.reply

-- the lines of a transcript
abbrev pub lines_of : Version → List (Bool × Bytes) → List Logged → List Bytes
lines_of version slots log = header version ∷ (map slot_line slots ++ flat_map exchange log)

-- a line with its end
abbrev pub ended : Bytes → Bytes
ended line = line ++ 10 ∷ []

-- the text of a transcript
abbrev pub text_of : Version → List (Bool × Bytes) → List Logged → Bytes
text_of version slots log = flat_map ended (lines_of version slots log)
