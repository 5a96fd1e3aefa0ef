-- What a call does between two requests: it changes memory, connections and descriptors, and says nothing.
use Rattle.std.proofs.Common.{◌≡◌, ◌∙◌, ℕ, zero, suc, List, [], ◌∷◌, ◌++◌, length, Option, Some, None, Bool, true, false, Result, Ok, Err, refl}
use Rattle.std.specs.Prelude.{ℤ, nat_lt}
use Rattle.ec_arguments.specs.Arguments.{TextArg, absent, word, held, Place, Member, host, constant, descriptor, Statement, normal, prepared, immediate, opening}
use Rattle.ec_base.specs.declared.stop.Trap.{Trap}
use Rattle.ec_link.specs.declared.reply.Reply.{Reply}
use Rattle.ec_link.specs.declared.reply.Reply.TheVariants.{Connected, NoTarget, Rows, Done, Refused, Broken}
use Rattle.ec_link.specs.declared.reply.Tx.TheVariants.{Idle}
use Rattle.ec_link.specs.declared.request.Request.TheVariants as request
use Rattle.ec_link.specs.Table.{Sheet}
use Rattle.ec_memory_defs.specs.Memory.{Memory, text_at}
use Rattle.ec_transfer_defs.specs.declared.finding.Finding.{Finding}
use Rattle.ec_transfer_defs.specs.declared.finding.Finding.TheVariants as found
use Rattle.ec_transfer_defs.specs.Codes.{code_of, state_of as sqlstate_of, text_of_finding}
use Rattle.ec_transfer_defs.specs.Conversion.{trapped as trapped_there, refused as refused_there, Stored, field_stored, parameter}
use Rattle.ec_transfer_defs.specs.Hosts.{HostData}
use Rattle.ec_meaning_defs.specs.evaluation.State.{Answer, Connection, Item, State}
use Rattle.ec_call_defs.specs.Answers.{server_code, taken, count_of, done, count_told, replied}
use Rattle.ec_call_defs.specs.Areas.{Areas, area_named, with_area, items_of, contents}
use Rattle.ec_call_defs.specs.Connecting.{opened_by, set_connection_call}
use Rattle.ec_call_defs.specs.Connections.{connection_named, wanted_name, found_connection, connection_of, connection_for, changed_at, controlled}
use Rattle.ec_call_defs.specs.Growth.{state_of}
use Rattle.ec_call_defs.specs.Inputs.{host_data, text_read, given_read, value_read, Inputs, no_inputs, with_param, with_area as with_area_input, inputs_read, member_read}
use Rattle.ec_call_defs.specs.Outcomes.{Text, Field, trapped, stuck, Outcome, gives, finished, over, next, trying, present, with_memory, fresh_area, told_area, counted_area, noticed, heard, refused, raised, begun_area}
use Rattle.ec_call_defs.specs.Preparing.{prepared_anew}
use Rattle.ec_call_defs.specs.Running.{Outputs, nowhere, hosts, area, places_of, into_places, outputs_read, row_into, rows_stored, table_kept, Wanted, text, execution, cursor, statement_read, prepared_text, found_text, request_of, found_area, area_found, params_behind, params_of, outputs_found}
use Rattle.ec_call_defs.specs.Storing.{found_by, warned, stored_by, field_kept, in_column, column_kept, targets_kept, any_fewer, measured, rows_into, counted_rows, with_rows}

-- what was printed and said, the answers and the turns that are left are as they were
pub record Silent (old new : State) : Type 0 where
  pub output : new.output ≡ old.output
  pub errors : new.errors ≡ old.errors
  pub conversation : new.conversation ≡ old.conversation
  pub answers : new.answers ≡ old.answers
  pub turns : new.turns ≡ old.turns

pub as_before : (s : State) → Silent s s
as_before s = record { output = refl; errors = refl; conversation = refl; answers = refl; turns = refl }

silent_on : {s t u : State} → Silent s t → Silent t u → Silent s u
silent_on a b = record {
  output = b.output ∙ a.output;
  errors = b.errors ∙ a.errors;
  conversation = b.conversation ∙ a.conversation;
  answers = b.answers ∙ a.answers;
  turns = b.turns ∙ a.turns;
}

-- with another memory, and with other connections and descriptors
memory_changed : (s : State) (m : Memory) → Silent s (with_memory m s)
memory_changed s m = record { output = refl; errors = refl; conversation = refl; answers = refl; turns = refl }

abbrev session : List Connection → Option Text → Areas → State → State
session connections current descriptors s = record s { connections = connections; current = current; descriptors = descriptors }

session_changed : (s : State) (cs : List Connection) (n : Option Text) (ds : Areas) → Silent s (session cs n ds s)
session_changed s cs n ds = record { output = refl; errors = refl; conversation = refl; answers = refl; turns = refl }

-- a part of a call that says nothing
pub record IsSilent {A : Type 0} (m : State → Outcome A) : Type 0 where
  pub silent : (s : State) → Silent s (state_of (m s))

-- ---- parts alone

pub gives_silent : {A : Type 0} (a : A) → IsSilent (λ s. gives a s)
gives_silent a = record { silent = λ s. as_before s }

finished_silent : (A : Type 0) → IsSilent {A = A} (λ s. finished s)
finished_silent A = record { silent = λ s. as_before s }

pub stuck_silent : {A : Type 0} → IsSilent {A = A} (λ s. over stuck s)
stuck_silent = record { silent = λ s. as_before s }

trap_silent : {A : Type 0} (trap : Trap) → IsSilent {A = A} (λ s. over (trapped trap) s)
trap_silent trap = record { silent = λ s. as_before s }

-- ---- one behind the other

next_from : {A B : Type 0} (o : Outcome A) (go : A → State → Outcome B) → ((a : A) → IsSilent (go a)) → Silent (state_of o) (state_of (next o go))
next_from (gives a s) go h = (h a).silent s
next_from (finished s) go h = as_before s
next_from (over halt s) go h = as_before s

pub next_silent : {A B : Type 0} {m : State → Outcome A} {go : A → State → Outcome B} → IsSilent m → ((a : A) → IsSilent (go a)) → IsSilent (λ s. next (m s) go)
next_silent {m = m} {go = go} a h = record { silent = λ s. silent_on (a.silent s) (next_from (m s) go h) }

pub bool_silent : {A : Type 0} (b : Bool) {x y : State → Outcome A} → IsSilent x → IsSilent y → IsSilent (λ s. elim b [ true ↦ x s | false ↦ y s ])
bool_silent true h g = h
bool_silent false h g = g

-- what is read of the state
pub read_silent : {A X : Type 0} (g : State → X) (f : X → State → Outcome A) → ((x : X) → IsSilent (f x)) → IsSilent (λ s. f (g s) s)
read_silent g f h = record { silent = λ s. (h (g s)).silent s }

result_silent : {A : Type 0} (r : Result A Trap) → IsSilent (λ s. trying r s)
result_silent (Ok a) = gives_silent a
result_silent (Err trap) = trap_silent trap

-- what memory gives
trying_silent : {A : Type 0} (f : Memory → Result A Trap) → IsSilent (λ s. trying (f s.memory) s)
trying_silent f = read_silent (λ s. f s.memory) (λ r s. trying r s) (λ r. result_silent r)

pub present_silent : {A : Type 0} (x : Option A) → IsSilent (λ s. present x s)
present_silent None = stuck_silent
present_silent (Some a) = gives_silent a

-- ---- what is changed

-- the memory
memory_silent : {A : Type 0} (f : Memory → Memory) {go : State → Outcome A} → IsSilent go → IsSilent (λ s. go (with_memory (f s.memory) s))
memory_silent f h = record { silent = λ s. silent_on (memory_changed s (f s.memory)) (h.silent (with_memory (f s.memory) s)) }

-- connections, the current one, and descriptors
pub session_silent : {A : Type 0} (a : A) (cs : List Connection → List Connection) (n : List Connection → Option Text → Option Text) (ds : Areas → Areas)
    → IsSilent (λ s. gives a (session (cs s.connections) (n s.connections s.current) (ds s.descriptors) s))
session_silent a cs n ds = record { silent = λ s. session_changed s (cs s.connections) (n s.connections s.current) (ds s.descriptors) }

pub connections_silent : {A : Type 0} (a : A) (cs : List Connection → List Connection) → IsSilent (λ s. gives a (record s { connections = cs s.connections }))
connections_silent a cs = session_silent a cs (λ old n. n) (λ ds. ds)

pub descriptors_silent : {A : Type 0} (a : A) (ds : Areas → Areas) → IsSilent (λ s. gives a (record s { descriptors = ds s.descriptors }))
descriptors_silent a ds = session_silent a (λ cs. cs) (λ old n. n) ds

-- ---- the communication area

refused_silent : (A : Type 0) (line : ℕ) (code : ℤ) (sqlstate message : Text) → IsSilent {A = A} (λ s. refused line code sqlstate message s)
refused_silent A line code sqlstate message = memory_silent (λ m. told_area code sqlstate message line m) (finished_silent A)

pub raised_silent : {A : Type 0} (line : ℕ) (finding : Finding) → IsSilent {A = A} (λ s. raised line finding s)
raised_silent {A} line finding = refused_silent A line (code_of finding) (sqlstate_of finding) (text_of_finding finding)

pub begun_area_silent : IsSilent (λ s. begun_area s)
begun_area_silent = memory_silent (λ m. fresh_area m) (gives_silent tt)

-- a notice is told, if there is one
heard_silent : {A : Type 0} (notice : Bool) {go : State → Outcome A} → IsSilent go → IsSilent (λ s. go (heard notice s))
heard_silent notice h = memory_silent (λ m. noticed notice m) h

-- ---- texts and values that are read

pub text_silent : (t : TextArg ℕ) → IsSilent (λ s. text_read t s)
text_silent absent = gives_silent None
text_silent (word bytes) = gives_silent (Some bytes)
text_silent (held p) = next_silent (trying_silent (λ m. text_at m p)) (λ bytes. gives_silent (Some bytes))

pub given_silent : (t : TextArg ℕ) → IsSilent (λ s. given_read t s)
given_silent absent = stuck_silent
given_silent (word bytes) = gives_silent bytes
given_silent (held p) = trying_silent (λ m. text_at m p)

value_silent : (p : Place ℕ) → IsSilent (λ s. value_read p s)
value_silent p = next_silent (present_silent (host_data p)) (λ h. trying_silent (λ m. parameter m h))

pub inputs_silent : (ms : List (Member ℕ)) → IsSilent (λ s. inputs_read ms s)
inputs_silent [] = gives_silent no_inputs
inputs_silent (host p ∷ ms) = next_silent (value_silent p) (λ field. next_silent (inputs_silent ms) (λ rest. gives_silent (with_param field rest)))
inputs_silent (constant bytes ∷ ms) = next_silent (inputs_silent ms) (λ rest. gives_silent (with_param (Some bytes) rest))
inputs_silent (descriptor name ∷ ms) = next_silent (given_silent name) (λ bytes. next_silent (inputs_silent ms) (λ rest. gives_silent (with_area_input bytes rest)))

pub member_silent : (m : Member ℕ) → IsSilent (λ s. member_read m s)
member_silent (host p) = value_silent p
member_silent (constant bytes) = gives_silent (Some bytes)
member_silent (descriptor name) = stuck_silent

-- ---- connections

found_silent : (n : ℕ) (c : Option Connection) → IsSilent (λ s. found_connection n c s)
found_silent n None = raised_silent n found.NoConnection
found_silent n (Some c) = gives_silent c

connection_of_silent : (n : ℕ) (name : Option Text) → IsSilent (λ s. connection_of n name s)
connection_of_silent n None = raised_silent n found.NoConnection
connection_of_silent n (Some name) = read_silent (λ s. connection_named name s.connections) (λ c s. found_connection n c s) (λ c. found_silent n c)

pub connection_silent : (n : ℕ) (name : Option Text) → IsSilent (λ s. connection_for n name s)
connection_silent n name = read_silent (λ s. wanted_name name s) (λ x s. connection_of n x s) (λ x. connection_of_silent n x)

-- ---- transaction control

pub controlled_silent : (n : ℕ) (r : Reply) → IsSilent (λ s. controlled n r s)
controlled_silent n (Rows table tx notice) = heard_silent notice (gives_silent tt)
controlled_silent n (Done count tx notice) = heard_silent notice (gives_silent tt)
controlled_silent n (Refused sqlstate message tx) = raised_silent n found.ControlRefused
controlled_silent n Connected = raised_silent n found.ControlRefused
controlled_silent n NoTarget = raised_silent n found.ControlRefused
controlled_silent n Broken = raised_silent n found.ControlRefused

-- ---- what is stored

stored_silent : (n : ℕ) (x : Stored) → IsSilent (λ s. stored_by n x s)
stored_silent n (Ok cut, m) = memory_silent (λ old. warned cut m) (gives_silent tt)
stored_silent n (Err (refused_there code), m) = memory_silent (λ old. m) (raised_silent n (found_by code))
stored_silent n (Err (trapped_there trap), m) = memory_silent (λ old. m) (trap_silent trap)

pub field_silent : (n : ℕ) (h : HostData) (row : ℕ) (field : Field) → IsSilent (λ s. field_kept n h row field s)
field_silent n h row field = read_silent (λ s. field_stored s.memory h row field) (λ x s. stored_by n x s) (λ x. stored_silent n x)

column_silent : (n : ℕ) (h : HostData) (column row : ℕ) (rows : List (List Field)) → IsSilent (λ s. column_kept n h column row rows s)
column_silent n h column row [] = gives_silent tt
column_silent n h column row (fields ∷ rows) = next_silent (field_silent n h row (in_column column fields)) (λ _. column_silent n h column (suc row) rows)

targets_silent : (n column : ℕ) (ps : List (Place ℕ)) (rows : List (List Field)) → IsSilent (λ s. targets_kept n column ps rows s)
targets_silent n column [] rows = gives_silent tt
targets_silent n column (p ∷ ps) rows =
    next_silent (present_silent (host_data p)) (λ h. next_silent (column_silent n h column 0 rows) (λ _. targets_silent n (suc column) ps rows))

measured_silent : (n columns rows : ℕ) (ps : List (Place ℕ)) → IsSilent (λ s. measured n columns rows ps s)
measured_silent n columns rows ps =
    bool_silent (nat_lt columns (length ps)) (raised_silent n found.TooManyTargets)
    (bool_silent (nat_lt (length ps) columns) (raised_silent n found.TooFewTargets)
    (bool_silent (any_fewer rows ps) (raised_silent n found.TooManyRows) (gives_silent tt)))

rows_into_silent : (n : ℕ) (ps : List (Place ℕ)) (columns : ℕ) (rows : List (List Field)) → IsSilent (λ s. rows_into n ps columns rows s)
rows_into_silent n ps columns rows = next_silent (measured_silent n columns (length rows) ps) (λ _. targets_silent n 0 ps rows)

counted_silent : (n : ℕ) (rows : List (List Field)) {store : State → Outcome (Unit {0})} → IsSilent store → IsSilent (λ s. counted_rows n rows store s)
counted_silent n [] h = raised_silent n found.NoData
counted_silent n (fields ∷ rows) h = h

with_rows_silent : (n : ℕ) (rows : List (List Field)) {store : State → Outcome (Unit {0})} → IsSilent store → IsSilent (λ s. with_rows n rows store s)
with_rows_silent n rows h = memory_silent (λ m. counted_area (length rows) m) (counted_silent n rows h)

-- ---- replies

pub taken_silent : (n : ℕ) (r : Reply) → IsSilent (λ s. taken n r s)
taken_silent n (Rows table tx notice) = heard_silent notice (gives_silent tt)
taken_silent n (Done count tx notice) = heard_silent notice (gives_silent tt)
taken_silent n (Refused sqlstate message tx) = refused_silent (Unit {0}) n (server_code sqlstate.0) sqlstate.0 message
taken_silent n Connected = raised_silent n found.ReplyOutOfPlace
taken_silent n NoTarget = raised_silent n found.ReplyOutOfPlace
taken_silent n Broken = raised_silent n found.ConnectionBroken

done_silent : (n : ℕ) (wanted : Bool) (count : Option ℕ) → IsSilent (λ s. done n wanted count s)
done_silent n true (Some zero) = raised_silent n found.NoData
done_silent n false (Some zero) = raised_silent n found.NoData
done_silent n true (Some (suc k)) = raised_silent n found.TooManyTargets
done_silent n true None = raised_silent n found.TooManyTargets
done_silent n false (Some (suc k)) = gives_silent tt
done_silent n false None = gives_silent tt

count_silent : (n : ℕ) (wanted : Bool) (count : Option ℕ) → IsSilent (λ s. count_told n wanted count s)
count_silent n wanted count = memory_silent (λ m. counted_area (count_of count) m) (done_silent n wanted count)

pub replied_silent : (n : ℕ) (wanted : Bool) (store : Sheet → State → Outcome (Unit {0})) → ((table : Sheet) → IsSilent (store table)) → (r : Reply) → IsSilent (λ s. replied n wanted store r s)
replied_silent n wanted store h (Rows table tx notice) = heard_silent notice (h table)
replied_silent n wanted store h (Done count tx notice) = heard_silent notice (count_silent n wanted count)
replied_silent n wanted store h (Refused sqlstate message tx) = refused_silent (Unit {0}) n (server_code sqlstate.0) sqlstate.0 message
replied_silent n wanted store h Connected = raised_silent n found.ReplyOutOfPlace
replied_silent n wanted store h NoTarget = raised_silent n found.ReplyOutOfPlace
replied_silent n wanted store h Broken = raised_silent n found.ConnectionBroken

-- ---- statements

places_silent : (ps : Option (List (Place ℕ))) → IsSilent (λ s. into_places ps s)
places_silent None = stuck_silent
places_silent (Some ps) = gives_silent (hosts ps)

pub outputs_silent : (ms : List (Member ℕ)) → IsSilent (λ s. outputs_read ms s)
outputs_silent [] = gives_silent nowhere
outputs_silent (descriptor name ∷ ms) = next_silent (given_silent name) (λ bytes. gives_silent (area bytes))
outputs_silent (host p ∷ ms) = places_silent (places_of (host p ∷ ms))
outputs_silent (constant bytes ∷ ms) = stuck_silent

row_silent : (n : ℕ) (name : Text) (table : Sheet) (rows : List (List Field)) → IsSilent (λ s. row_into n name table rows s)
row_silent n name table [] = gives_silent tt
row_silent n name table (fields ∷ []) = descriptors_silent tt (λ ds. with_area name (items_of table.cols fields) ds)
row_silent n name table (fields ∷ others ∷ rows) = raised_silent n found.TooManyRows

rows_silent : (n : ℕ) (outputs : Outputs) (table : Sheet) → IsSilent (λ s. rows_stored n outputs table s)
rows_silent n nowhere table = gives_silent tt
rows_silent n (hosts ps) table = rows_into_silent n ps (length table.cols) table.rows
rows_silent n (area name) table = row_silent n name table table.rows

pub table_silent : (n : ℕ) (outputs : Outputs) (table : Sheet) → IsSilent (λ s. table_kept n outputs table s)
table_silent n outputs table = with_rows_silent n table.rows (rows_silent n outputs table)

pub statement_silent : (x : Statement ℕ) → IsSilent (λ s. statement_read x s)
statement_silent (normal bytes) = gives_silent (text bytes)
statement_silent (prepared name) = gives_silent (execution name)
statement_silent (immediate name) = next_silent (given_silent name) (λ bytes. gives_silent (text bytes))
statement_silent (opening head name) = gives_silent (cursor head name)

pub found_text_silent : {A : Type 0} (n : ℕ) (x : Option Text) (make : Text → A) → IsSilent (λ s. found_text n x make s)
found_text_silent n None make = raised_silent n found.NoStatement
found_text_silent n (Some bytes) make = gives_silent (make bytes)

pub request_silent : (n : ℕ) (x : Wanted) (c : Connection) → IsSilent (λ s. request_of n x c s)
request_silent n (text bytes) c = gives_silent (λ params. request.Text bytes params)
request_silent n (execution name) c = found_text_silent n (prepared_text name c.prepared) (λ bytes params. request.Exec name params)
request_silent n (cursor head name) c = found_text_silent n (prepared_text name c.prepared) (λ bytes params. request.Text (head ++ bytes) params)

found_area_silent : (n : ℕ) (x : Option (List Item)) → IsSilent (λ s. found_area n x s)
found_area_silent n None = raised_silent n found.NoDescriptor
found_area_silent n (Some items) = gives_silent items

pub area_silent : (n : ℕ) (name : Text) → IsSilent (λ s. area_found n name s)
area_silent n name = read_silent (λ s. area_named name s.descriptors) (λ x s. found_area n x s) (λ x. found_area_silent n x)

behind_silent : (n : ℕ) (params : List Field) (x : Option Text) → IsSilent (λ s. params_behind n params x s)
behind_silent n params None = gives_silent params
behind_silent n params (Some name) = next_silent (area_silent n name) (λ items. gives_silent (params ++ contents items))

pub params_silent : (n : ℕ) (inputs : Inputs) → IsSilent (λ s. params_of n inputs s)
params_silent n inputs = behind_silent n inputs.params inputs.area

pub outputs_found_silent : (n : ℕ) (outputs : Outputs) → IsSilent (λ s. outputs_found n outputs s)
outputs_found_silent n nowhere = gives_silent tt
outputs_found_silent n (hosts ps) = gives_silent tt
outputs_found_silent n (area name) = next_silent (area_silent n name) (λ items. gives_silent tt)

-- ---- connecting

pub opened_silent : (n : ℕ) (name : Text) (a : Answer) → IsSilent (λ s. opened_by n name a s)
opened_silent n name (Some slot, Connected) =
    session_silent tt (λ cs. cs ++ record { name = name; slot = slot; autocommit = false; told = Idle; prepared = [] } ∷ []) (λ old c. Some name) (λ ds. ds)
opened_silent n name (Some slot, Rows table tx notice) = raised_silent n found.NotConnected
opened_silent n name (Some slot, Done count tx notice) = raised_silent n found.NotConnected
opened_silent n name (Some slot, Refused sqlstate message tx) = raised_silent n found.NotConnected
opened_silent n name (Some slot, NoTarget) = raised_silent n found.NotConnected
opened_silent n name (Some slot, Broken) = raised_silent n found.NotConnected
opened_silent n name (None, reply) = raised_silent n found.NotConnected

pub set_connection_silent : (n : ℕ) (name : TextArg ℕ) → IsSilent (λ s. set_connection_call n name s)
set_connection_silent n name =
    next_silent (given_silent name) (λ called.
    next_silent begun_area_silent (λ _.
    next_silent (connection_silent n (Some called)) (λ c.
    session_silent tt (λ cs. cs) (λ old current. Some called) (λ ds. ds))))

-- ---- prepared statements

pub prepared_anew_silent : (slot : ℕ) (change : List (Text × Text) → List (Text × Text)) → IsSilent (λ s. gives (tt {0}) (prepared_anew slot change s))
prepared_anew_silent slot change = connections_silent tt (λ cs. changed_at slot (λ c. record c { prepared = change c.prepared }) cs)
