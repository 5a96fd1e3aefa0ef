-- What may come next in a transcript, line by line, for readers of the lines that are given.
use Rattle.std.specs.Prelude.{◌≡◌, ℕ, ◌<◌, ◌≤◌, ◌==◌, ◌&&◌, nat_lt, Bool, true, false, if◌then◌else◌, List, [], ◌∷◌, ◌++◌, length, map, Option, Some, None, ⊤}
use Rattle.ec_link.specs.declared.request.Request.{Request}
use Rattle.ec_link.specs.declared.reply.Reply.{Reply}
use Rattle.ec_link.specs.declared.reply.Reply.TheVariants.{Rows}
use Rattle.ec_link.specs.declared.reply.Tx.{Tx}
use Rattle.ec_link.specs.declared.table.Col.{Col}
use Rattle.ec_link.specs.declared.logged.Logged.{Logged}
use Rattle.ec_link.specs.Table.{Sheet}
use Rattle.ec_transcript.specs.declared.version.Version.{Version}
use Rattle.ec_transcript.specs.Text.{Bytes, header, slot_line, at_line, request_line, reply, rows_line, col_line, row_line, lines_of}
use Rattle.ec_transcript.specs.Reading.{◌>>=◌}

abbrev pub Slots : Type 0
Slots = List (Bool × Bytes)

abbrev pub Row : Type 0
Row = List (Option Bytes)

-- what the first line of a reply says: all of it, or of a table the state, the numbers of columns and rows, and
-- whether there was a notice
pub data Told : Type 0 where
  whole : Reply → Told
  opens : Tx → ℕ → ℕ → Bool → Told

-- the readers of the lines
pub record Readers : Type 0 where
  pub is_header : Bytes → Bool
  pub slot_of : Bytes → Option (Bool × Bytes)
  pub at_of : Bytes → Option (Option ℕ)
  pub request_of : Bytes → Option Request
  pub reply_of : Bytes → Option Told
  pub col_of : Bytes → Option Col
  pub row_of : Bytes → Option Row

-- an exchange whose reply is a table that isn't whole yet
pub record Open : Type 0 where
  pub slot : Option ℕ
  pub request : Request
  pub tx : Tx
  pub width : ℕ
  pub height : ℕ
  pub notice : Bool
  pub cols : List Col
  pub rows : List Row

-- where a transcript stands behind a line, with what was read: before the first line, between two exchanges, behind
-- the line of an exchange's slot, behind its request, or in the table of its reply
pub data State : Type 0 where
  start : State
  between : Slots → List Logged → State
  asked : Slots → List Logged → Option ℕ → State
  said : Slots → List Logged → Option ℕ → Request → State
  tabled : Slots → List Logged → Open → State

-- whether a slot is one of these
abbrev pub is_named : ℕ → Option ℕ → Bool
is_named n None = true
is_named n (Some slot) = nat_lt slot n

-- the table, once it is whole
abbrev pub table_of : Open → Reply
table_of o = Rows (record { cols = o.cols; rows = o.rows }) o.tx o.notice

-- an exchange
abbrev pub logged : Option ℕ → Request → Reply → Logged
logged slot request told = record { slot = slot; request = request; reply = told }

-- behind a line of a table, which may be whole
abbrev pub with_table : Slots → List Logged → Open → State
with_table slots log o = if (length o.cols == o.width) && (length o.rows == o.height)
    then between slots (log ++ logged o.slot o.request (table_of o) ∷ []) else tabled slots log o

-- behind the first line of a reply
abbrev pub after_told : Slots → List Logged → Option ℕ → Request → Told → State
after_told slots log slot request (whole told) = between slots (log ++ logged slot request told ∷ [])
after_told slots log slot request (opens tx width height notice) =
    with_table slots log (record {
      slot = slot;
      request = request;
      tx = tx;
      width = width;
      height = height;
      notice = notice;
      cols = [];
      rows = [];
    })

-- no exchange has come yet
abbrev pub no_log : List Logged → Bool
no_log [] = true
no_log (x ∷ log) = false

-- behind the line of an exchange's slot, which is one of those that were named, or none
abbrev pub at_step : Slots → List Logged → Option (Option ℕ) → Option State
at_step slots log None = None
at_step slots log (Some slot) = if is_named (length slots) slot then Some (asked slots log slot) else None

-- behind the line of a slot: it stands before any exchange, and there are at most 64
abbrev pub slot_step : Slots → List Logged → Option (Bool × Bytes) → Option (Option ℕ) → Option State
slot_step slots log None place = at_step slots log place
slot_step slots log (Some slot) place =
    if no_log log && nat_lt (length slots) 64 then Some (between (slots ++ slot ∷ []) log) else None

-- one more row, of as many fields as there are columns
abbrev pub row_step : Slots → List Logged → Open → Option Row → Option State
row_step slots log o None = None
row_step slots log o (Some row) =
    if length row == o.width then Some (with_table slots log (record o { rows = o.rows ++ row ∷ [] })) else None

-- one more column
abbrev pub col_step : Slots → List Logged → Open → Option Col → Option State
col_step slots log o None = None
col_step slots log o (Some col) = Some (with_table slots log (record o { cols = o.cols ++ col ∷ [] }))

-- behind a line of a table: of a column, while columns are missing, and else of a row
abbrev pub table_step : Slots → List Logged → Open → Option Col → Option Row → Option State
table_step slots log o col row =
    if nat_lt (length o.cols) o.width then col_step slots log o col else row_step slots log o row

module _ (r : Readers) where
  -- what a line makes of a state, or none where no transcript goes on so
  abbrev pub step : State → Bytes → Option State
  step start line = if r.is_header line then Some (between [] []) else None
  step (between slots log) line = slot_step slots log (r.slot_of line) (r.at_of line)
  step (asked slots log slot) line = r.request_of line >>= λ request. Some (said slots log slot request)
  step (said slots log slot request) line = r.reply_of line >>= λ told. Some (after_told slots log slot request told)
  step (tabled slots log o) line = table_step slots log o (r.col_of line) (r.row_of line)

  -- what lines make of a state
  abbrev pub run : State → List Bytes → Option State
  run state [] = Some state
  run state (line ∷ lines) = step state line >>= λ next. run next lines

-- the lines up to a table that is read, and of it so far
abbrev pub open_lines : Version → Slots → List Logged → Open → List Bytes
open_lines version slots log o = lines_of version slots log
    ++ (at_line o.slot ∷ request_line o.request ∷ rows_line o.tx o.width o.height o.notice
    ∷ (map col_line o.cols ++ map row_line o.rows))

-- the lines up to a state
abbrev pub lines_to : Version → State → List Bytes
lines_to version start = []
lines_to version (between slots log) = lines_of version slots log
lines_to version (asked slots log slot) = lines_of version slots log ++ at_line slot ∷ []
lines_to version (said slots log slot request) = lines_of version slots log ++ at_line slot ∷ request_line request ∷ []
lines_to version (tabled slots log o) = open_lines version slots log o

-- each element of a list
abbrev pub Each : {A : Type 0} → (A → Type 0) → List A → Type 0
Each P [] = ⊤
Each P (x ∷ xs) = P x × Each P xs

-- what fits the lines
pub record Fits : Type 1 where
  pub Slot : Bool × Bytes → Type 0
  pub Request : Request → Type 0
  -- of a reply of one line
  pub Reply : Reply → Type 0
  -- of a table
  pub Notice : Bool → Type 0
  pub Col : Col → Type 0
  pub Row : Row → Type 0

-- whether a reply has more than one line
abbrev pub is_rows : Reply → Bool
is_rows (Rows table t notice) = true
is_rows _ = false

module _ (f : Fits) where
  pub record FitsTable (table : Sheet) : Type 0 where
    pub cols : Each f.Col table.cols
    pub rows : Each (λ row. f.Row row × (length row ≡ length table.cols)) table.rows

  abbrev pub FitsReply : Reply → Type 0
  FitsReply (Rows table t notice) = FitsTable table × f.Notice notice
  FitsReply told = f.Reply told

  pub record FitsExchange (n : ℕ) (x : Logged) : Type 0 where
    pub named : is_named n x.slot ≡ true
    pub request : f.Request x.request
    pub reply : FitsReply x.reply

  -- the pairs that have a text
  pub record FitsTranscript (named : Slots) (made : List Logged) : Type 0 where
    pub few : length named ≤ 64
    pub slots : Each f.Slot named
    pub log : Each (FitsExchange (length named)) made

  pub record FitsOpen (n : ℕ) (o : Open) : Type 0 where
    pub named : is_named n o.slot ≡ true
    pub request : f.Request o.request
    pub notice : f.Notice o.notice
    pub narrow : length o.cols ≤ o.width
    pub low : length o.rows ≤ o.height
    pub first : length o.cols < o.width → o.rows ≡ []
    pub cols : Each f.Col o.cols
    pub rows : Each (λ row. f.Row row × (length row ≡ o.width)) o.rows

  abbrev pub FitsState : State → Type 0
  FitsState start = ⊤
  FitsState (between slots log) = FitsTranscript slots log
  FitsState (asked slots log slot) = FitsTranscript slots log × (is_named (length slots) slot ≡ true)
  FitsState (said slots log slot request) = FitsTranscript slots log × (is_named (length slots) slot ≡ true) × f.Request request
  FitsState (tabled slots log o) = FitsTranscript slots log × FitsOpen (length slots) o × (((length o.cols == o.width) && (length o.rows == o.height)) ≡ false)

-- the line is the first one of what was told, and that fits
abbrev pub TellsAs : Fits → Bytes → Told → Type 0
TellsAs f line (whole told) = (reply told ≡ line ∷ []) × f.Reply told × (is_rows told ≡ false)
TellsAs f line (opens t width height notice) = (line ≡ rows_line t width height notice) × f.Notice notice

-- the readers read the lines of a version as they are written, and only so
pub record Reads (version : Version) (r : Readers) (f : Fits) : Type 0 where
  pub header_again : r.is_header (header version) ≡ true
  pub header_found : (l : Bytes) → r.is_header l ≡ true → l ≡ header version
  pub slot_again : (s : Bool × Bytes) → f.Slot s → r.slot_of (slot_line s) ≡ Some s
  pub slot_found : (l : Bytes) (s : Bool × Bytes) → r.slot_of l ≡ Some s → (l ≡ slot_line s) × f.Slot s
  pub at_again : (n : ℕ) (s : Option ℕ) → n ≤ 64 → is_named n s ≡ true → r.at_of (at_line s) ≡ Some s
  pub at_found : (l : Bytes) (s : Option ℕ) → r.at_of l ≡ Some s → l ≡ at_line s
  pub at_apart : (s : Option ℕ) → r.slot_of (at_line s) ≡ None
  pub request_again : (q : Request) → f.Request q → r.request_of (request_line q) ≡ Some q
  pub request_found : (l : Bytes) (q : Request) → r.request_of l ≡ Some q → (l ≡ request_line q) × f.Request q
  pub reply_again : (l : Bytes) (told : Reply) → f.Reply told → reply told ≡ l ∷ [] → is_rows told ≡ false → r.reply_of l ≡ Some (whole told)
  pub rows_again : (t : Tx) (width height : ℕ) (notice : Bool) → f.Notice notice
      → r.reply_of (rows_line t width height notice) ≡ Some (opens t width height notice)
  pub reply_found : (l : Bytes) (told : Told) → r.reply_of l ≡ Some told → TellsAs f l told
  pub one_line : (told : Reply) → is_rows told ≡ false → (l : Bytes) × (reply told ≡ l ∷ [])
  pub col_again : (c : Col) → f.Col c → r.col_of (col_line c) ≡ Some c
  pub col_found : (l : Bytes) (c : Col) → r.col_of l ≡ Some c → (l ≡ col_line c) × f.Col c
  pub row_again : (row : Row) → f.Row row → r.row_of (row_line row) ≡ Some row
  pub row_found : (l : Bytes) (row : Row) → r.row_of l ≡ Some row → (l ≡ row_line row) × f.Row row
  -- something of each kind, by which each front can be brought to an end
  pub some_col : (c : Col) × f.Col c
  pub some_row : (n : ℕ) → (row : Row) × f.Row row × (length row ≡ n)
  pub some_request : (q : Request) × f.Request q
  pub some_reply : (told : Reply) × f.Reply told × (is_rows told ≡ false)
