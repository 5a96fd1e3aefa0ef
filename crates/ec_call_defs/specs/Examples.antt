-- Calls as the worked examples make them, and what is seen of them.
use Rattle.std.specs.Prelude.{ℕ, Bool, true, false, ℤ, pos, List, [], ◌∷◌, map, drop, codes, Option, Some, None}
use Rattle.ec_arguments.specs.Arguments.{absent, word, Member, host, descriptor, normal, Call, run}
use Rattle.ec_ctypes.specs.Arithmetic.{converted}
use Rattle.ec_ctypes.specs.declared.checked.library.Sym.TheVariants as sym
use Rattle.ec_ctypes.specs.declared.types.arith.Arith.TheVariants.{Long}
use Rattle.ec_link.specs.declared.reply.Reply.{Reply}
use Rattle.ec_link.specs.declared.reply.Reply.TheVariants as reply
use Rattle.ec_link.specs.declared.reply.Tx.{Tx}
use Rattle.ec_link.specs.declared.reply.Tx.TheVariants.{Idle}
use Rattle.ec_link.specs.declared.table.Col.{Col}
use Rattle.ec_link.specs.declared.request.Request.{Request}
use Rattle.ec_link.specs.declared.request.Request.TheVariants as request
use Rattle.ec_memory_defs.specs.Cells.{Cell, set_cells, bytes_of, part_of}
use Rattle.ec_memory_defs.specs.Memory.{Memory, ObjectData, alive, ended, little_endian, pointer_to}
use Rattle.ec_meaning_defs.specs.resolved.Programs.{sqlca_bytes}
use Rattle.ec_meaning_defs.specs.evaluation.State.{Answer, Connection, Item, State}
use Rattle.ec_call_defs.specs.Outcomes.{Text, Field, Halt, Outcome, gives, finished, over}
use Rattle.ec_call_defs.specs.Library.{call_done}

-- ---- states

-- a connection of this name and slot, with autocommit or without, and what the server told last
abbrev pub link : Text → ℕ → Bool → Tx → Connection
link name slot autocommit told =
    record { name = name; slot = slot; autocommit = autocommit; told = told; prepared = [] }

-- a program's first connection, which is ready
abbrev pub ready : Connection
ready = link (codes "db") 0 true Idle

-- over these connections, the first of which is the current one; with these objects behind the area, descriptors and answers
abbrev pub first_name : List Connection → Option Text
first_name [] = None
first_name (c ∷ cs) = Some c.name

abbrev pub state : List Connection → List (Text × List Item) → List ObjectData → List Answer → State
state connections descriptors objects answers = record {
  memory = alive (set_cells sqlca_bytes) ∷ objects;
  output = [];
  errors = [];
  connections = connections;
  current = first_name connections;
  descriptors = descriptors;
  conversation = [];
  answers = answers;
  turns = 0;
}

-- an object of these bytes
abbrev pub bytes : List ℕ → ObjectData
bytes bs = alive (set_cells bs)

-- the bytes of an int below 128
abbrev pub small : ℕ → List ℕ
small n = n ∷ 0 ∷ 0 ∷ 0 ∷ []

-- ---- answers

abbrev pub from : ℕ → Reply → Answer
from slot reply = (Some slot, reply)

-- rows of one or of more columns, each of type 4
abbrev pub columns : List Text → List Col
columns [] = []
columns (name ∷ names) = record { name = name; code = pos 4 } ∷ columns names

abbrev pub rows_told : Tx → List Text → List (List Field) → Reply
rows_told tx names rows =
    reply.Rows (record { cols = columns names; rows = rows }) tx false

abbrev pub rows_of : List Text → List (List Field) → Reply
rows_of names rows = rows_told Idle names rows

-- one column of these texts
abbrev pub column : List Text → Reply
column texts = rows_of (codes "a" ∷ []) (map (λ text. Some text ∷ []) texts)

abbrev pub done : Option ℕ → Reply
done count = reply.Done count Idle false

-- the same with a notice of the server
abbrev pub noted : Reply → Reply
noted (reply.Rows table tx notice) = reply.Rows table tx true
noted (reply.Done count tx notice) = reply.Done count tx true
noted other = other

abbrev pub denied : Text → Text → Reply
denied sqlstate message = reply.Refused (record { 0 = sqlstate }) message Idle

-- ---- members

-- an int at the front of an object
abbrev pub int_in : ℕ → Member ℕ
int_in object = host
    (record {
      sym = sym.Int;
      value = pointer_to object 0;
      size = 0;
      count = 1;
      step = 4;
      ind = None;
    })

-- the same with an int at the front of another one as its indicator
abbrev pub int_told : ℕ → ℕ → Member ℕ
int_told object told =
    host (record {
      sym = sym.Int;
      value = pointer_to object 0;
      size = 0;
      count = 1;
      step = 4;
      ind = Some (record { sym = sym.Int; value = pointer_to told 0; count = 1; step = 4 });
    })

-- chars at an offset of an object, so many elements and so far apart
abbrev pub chars_in : ℕ → ℕ → ℕ → ℕ → ℕ → Member ℕ
chars_in object offset size count step =
    host (record {
      sym = sym.Char;
      value = pointer_to object offset;
      size = size;
      count = count;
      step = step;
      ind = None;
    })

abbrev pub ints_in : ℕ → ℕ → ℕ → ℕ → Member ℕ
ints_in object offset count step =
    host (record {
      sym = sym.Int;
      value = pointer_to object offset;
      size = 0;
      count = count;
      step = step;
      ind = None;
    })

-- ---- what is seen

-- how a call ends: the program goes on, or not
pub data Ended : Type 0 where
  goes_on : Ended
  halts : Halt → Ended

abbrev pub ended_of : Outcome (Unit {0}) → Ended
ended_of (gives x s) = goes_on
ended_of (finished s) = goes_on
ended_of (over halt s) = halts halt

abbrev pub left_by : Outcome (Unit {0}) → State
left_by (gives x s) = s
left_by (finished s) = s
left_by (over halt s) = s

-- the bytes of the area
abbrev pub area_cells : Memory → List Cell
area_cells [] = []
area_cells (alive cells ∷ m) = cells
area_cells (ended ∷ m) = []

abbrev pub known : Option (List ℕ) → List ℕ
known None = []
known (Some bs) = bs

abbrev pub area_part : Memory → ℕ → ℕ → List ℕ
area_part m at n = known (bytes_of (part_of (area_cells m) at n))

abbrev pub long_at : Memory → ℕ → ℤ
long_at m at = converted Long (pos (little_endian (area_part m at 8)))

-- how it ended, sqlcode, sqlstate, sqlerrd[2], the objects behind the area, and each request with its slot
abbrev pub Shown : Type 0
Shown = Ended × ℤ × Text × ℤ × List ObjectData × List (Option ℕ × Request)

abbrev pub shown : Outcome (Unit {0}) → Shown
shown o = (
  ended_of o,
  long_at (left_by o).memory 16,
  area_part (left_by o).memory 248 5,
  long_at
      (left_by o).memory 208,
  drop 1 (left_by o).memory,
  map
      (λ x. (x.slot, x.request)) (left_by o).conversation,
)

-- a call on line 3
abbrev pub does : Call ℕ → State → Shown
does call s = shown (call_done 3 call s)

-- the text `s` over the current connection
abbrev pub runs : List (Member ℕ) → List (Member ℕ) → State → Shown
runs ins outs s = does (run absent (normal (codes "s")) ins outs) s

-- over the ready connection, with these objects, and an answer
abbrev pub over_ready : List ObjectData → List Reply → State
over_ready objects replies = state (ready ∷ []) [] objects (map (λ reply. from 0 reply) replies)

-- the request of the text `s`
abbrev pub text_sent : List Field → Option ℕ × Request
text_sent params = (Some 0, request.Text (codes "s") params)

-- it went well: these objects, a number of rows, and the requests
abbrev pub well : ℤ → List ObjectData → List (Option ℕ × Request) → Shown
well count objects said = (goes_on, pos 0, codes "00000", count, objects, said)

abbrev pub fails : ℤ → Text → ℤ → List ObjectData → List (Option ℕ × Request) → Shown
fails code sqlstate count objects said = (goes_on, code, sqlstate, count, objects, said)

-- what is seen of connections
abbrev pub connections_left : Call ℕ → State → List Connection × Option Text
connections_left call s =
    ((left_by (call_done 3 call s)).connections, (left_by (call_done 3 call s)).current)

-- the first three warnings, of any kind, of a value that was cut and of a notice: 87 is a W
abbrev pub warnings_left : Call ℕ → State → List ℕ
warnings_left call s = area_part (left_by (call_done 3 call s)).memory 240 3

abbrev pub descriptors_left : Call ℕ → State → List (Text × List Item)
descriptors_left call s = (left_by (call_done 3 call s)).descriptors

-- the descriptor `d`, and one of its items
abbrev pub d : Member ℕ
d = descriptor (word (codes "d"))

abbrev pub of_d : List Item → List (Text × List Item)
of_d items = (codes "d", items) ∷ []

abbrev pub seven : Item
seven = record { content = Some (codes "7"); label = codes "a"; code = pos 4 }
