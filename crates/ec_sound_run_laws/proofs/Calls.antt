-- None of the fourteen calls of the library is stuck whose list keeps the rules.
use Rattle.std.proofs.Common.{◌≡◌, ℕ, zero, suc, List, [], ◌∷◌, ◌++◌, length, reverse, Option, Some, None, Bool, true, false, Result, Ok, Err, refl, arith}
use Rattle.std.proofs.lemmas.Int.{ints}
use Rattle.std.specs.Prelude.{◌&&◌, ℤ, pos, negsuc, int_le, unsigned_abs, nat_lt, nat_eq, codes, slice_set, slice_get, ◌-◌, option_map, option_and_then, is_some, ◌≤◌, ◌<◌}
use Rattle.std.specs.Fmt.{decimal}
use Rattle.ec_arguments.specs.Arguments.{TextArg, absent, word, held, Place, Member, host, constant, descriptor, ItemMember, Statement, normal, prepared, immediate, opening, Call, run, connect, disconnect, set_connection, set_autocommit, control, prepare, deallocate, allocate_descriptor, deallocate_descriptor, get_count, set_count, get_items, set_items, Cut}
use Rattle.ec_arguments.specs.Rules.{cut, is_call, is_statement, is_optional_text, is_given_text, are_inputs, are_outputs, are_hosts, are_targets, are_settings, is_settable, is_value, is_target, is_single, fits_place, fits_element, fits_indicators, fits_indicator, element_size, indicator_size}
use Rattle.ec_arguments.specs.Arguments.{Indicator}
use Rattle.ec_arguments.proofs.Told.{no_clash, left_true, right_true}
use Rattle.ec_ctypes.specs.declared.checked.library.Sym.{Sym}
use Rattle.ec_ctypes.specs.declared.checked.library.Sym.TheVariants as sym
use Rattle.ec_transfer_defs.specs.Hosts.{holding, indicator_type}
use Rattle.ec_call_defs.specs.Inputs.{indicator_data, indicators_data}
use Rattle.ec_base.specs.declared.stop.Trap.{Trap}
use Rattle.ec_ctypes.specs.declared.embedded.emb.Item.{Item as Kind}
use Rattle.ec_ctypes.specs.declared.types.arith.Arith.TheVariants.{Long}
use Rattle.ec_link.specs.declared.reply.Reply.{Reply}
use Rattle.ec_link.specs.declared.reply.Reply.TheVariants.{Connected, NoTarget, Rows, Done, Refused, Broken}
use Rattle.ec_link.specs.declared.reply.Tx.TheVariants.{Idle}
use Rattle.ec_link.specs.declared.request.Request.{Request}
use Rattle.ec_link.specs.declared.request.Request.TheVariants as request
use Rattle.ec_link.specs.Table.{Sheet}
use Rattle.ec_memory_defs.specs.Memory.{Memory, text_at}
use Rattle.ec_transfer_defs.specs.declared.finding.Finding.{Finding}
use Rattle.ec_transfer_defs.specs.declared.finding.Finding.TheVariants as found
use Rattle.ec_transfer_defs.specs.Conversion.{trapped as trapped_there, refused as refused_there, Stored, field_stored, parameter}
use Rattle.ec_transfer_defs.specs.Hosts.{HostData}
use Rattle.ec_meaning_defs.specs.evaluation.State.{Answer, Connection, Item, State}
use Rattle.ec_call_defs.specs.Answers.{server_code, taken, count_of, done, count_told, replied}
use Rattle.ec_call_defs.specs.Areas.{Areas, area_named, with_area, without_area, items_of, contents, resized, raised_to, number_as, within, item_at, item_text, set_item}
use Rattle.ec_call_defs.specs.Autocommit.{with_autocommit, switched, commits_first, autocommit_set, autocommit_call}
use Rattle.ec_call_defs.specs.Connecting.{opened_by, connecting, unless_named, own_name, connect_call, set_connection_call}
use Rattle.ec_call_defs.specs.Connections.{same_name, connection_named, wanted_name, found_connection, connection_of, connection_for, changed_at, exchange, answered, asked, controlled, control_sent, begins, begin_text, begun}
use Rattle.ec_call_defs.specs.Control.{control_call}
use Rattle.ec_call_defs.specs.Descriptors.{with_descriptor, allocate_call, deallocate_descriptor_call, found_number, in_range, index_of, stored_in, get_count_call, set_count_call, has_indicator, asks_indicator, item_stored, items_stored, get_items_call, values_read, or_new, item_set, items_set, set_items_call}
use Rattle.ec_call_defs.specs.Disconnecting.{without_connection, current_without, closed, all_closed, one_closed, disconnected, disconnect_call}
use Rattle.ec_call_defs.specs.Inputs.{host_data, text_read, given_read, value_read, Inputs, no_inputs, with_param, with_area as with_area_input, inputs_read, member_read}
use Rattle.ec_call_defs.specs.Library.{call_done, if_cut, leads}
use Rattle.ec_call_defs.specs.Marks.{with_marks}
use Rattle.ec_call_defs.specs.Outcomes.{Text, Field, Halt, trapped, waiting, stuck, Outcome, gives, finished, over, next, trying, present, with_memory, counted_area, noticed, heard, refused, raised, begun_area}
use Rattle.ec_call_defs.specs.Preparing.{with_text, without_text, prepared_anew, prepare_call, deallocate_call}
use Rattle.ec_call_defs.specs.Running.{Outputs, nowhere, hosts, area, places_of, into_places, outputs_read, is_wanted, row_into, rows_stored, table_kept, Wanted, text, execution, cursor, statement_read, prepared_text, found_text, request_of, found_area, area_found, params_behind, params_of, outputs_found, carried_out, run_call}
use Rattle.ec_call_defs.specs.Storing.{found_by, warned, stored_by, field_kept, in_column, column_kept, targets_kept, any_fewer, measured, rows_into, counted_rows, with_rows}

-- ---- what is safe

abbrev pub SafeHalt : Halt → Type 0
SafeHalt (trapped trap) = Unit {0}
SafeHalt (waiting slot request) = Unit {0}
SafeHalt stuck = ⊥

abbrev pub IsSafe : {A : Type 0} → Outcome A → Type 0
IsSafe (gives a s) = Unit {0}
IsSafe (finished s) = Unit {0}
IsSafe (over halt s) = SafeHalt halt

-- a part of a call is never stuck
pub record Safe {A : Type 0} (m : State → Outcome A) : Type 0 where
  pub is : (s : State) → IsSafe (m s)

-- and gives what P holds of
abbrev GivesSo : {A : Type 0} → (A → Type 0) → Outcome A → Type 0
GivesSo P (gives a s) = P a
GivesSo P (finished s) = Unit {0}
GivesSo P (over halt s) = SafeHalt halt

record SafeSo {A : Type 0} (P : A → Type 0) (m : State → Outcome A) : Type 0 where
  so : (s : State) → GivesSo P (m s)

gives_safe : {A : Type 0} (a : A) → Safe (λ s. gives a s)
gives_safe a = record { is = λ s. tt }

finished_safe : (A : Type 0) → Safe {A = A} (λ s. finished s)
finished_safe A = record { is = λ s. tt }

trap_safe : {A : Type 0} (trap : Trap) → Safe {A = A} (λ s. over (trapped trap) s)
trap_safe trap = record { is = λ s. tt }

next_is : {A B : Type 0} (o : Outcome A) (go : A → State → Outcome B) → IsSafe o → ((a : A) (s : State) → IsSafe (go a s)) → IsSafe (next o go)
next_is (gives a s) go h g = g a s
next_is (finished s) go h g = tt
next_is (over halt s) go h g = h

next_safe : {A B : Type 0} {m : State → Outcome A} {go : A → State → Outcome B} → Safe m → ((a : A) → Safe (go a)) → Safe (λ s. next (m s) go)
next_safe {m = m} {go = go} a h = record { is = λ s. next_is (m s) go (a.is s) (λ x t. (h x).is t) }

next_so : {A B : Type 0} (P : A → Type 0) (o : Outcome A) (go : A → State → Outcome B) → GivesSo P o → ((a : A) → P a → (s : State) → IsSafe (go a s)) → IsSafe (next o go)
next_so P (gives a s) go h g = g a h s
next_so P (finished s) go h g = tt
next_so P (over halt s) go h g = h

so_safe : {A B : Type 0} {P : A → Type 0} {m : State → Outcome A} {go : A → State → Outcome B} → SafeSo P m → ((a : A) → P a → Safe (go a)) → Safe (λ s. next (m s) go)
so_safe {P = P} {m = m} {go = go} a h = record { is = λ s. next_so P (m s) go (a.so s) (λ x p t. (h x p).is t) }

bool_safe : {A : Type 0} (b : Bool) {x y : State → Outcome A} → Safe x → Safe y → Safe (λ s. elim b [ true ↦ x s | false ↦ y s ])
bool_safe true h g = h
bool_safe false h g = g

read_safe : {A X : Type 0} (g : State → X) → (f : X → State → Outcome A) → ((x : X) → Safe (f x)) → Safe (λ s. f (g s) s)
read_safe g f h = record { is = λ s. (h (g s)).is s }

result_safe : {A : Type 0} (r : Result A Trap) → Safe (λ s. trying r s)
result_safe (Ok a) = gives_safe a
result_safe (Err trap) = trap_safe trap

trying_safe : {A : Type 0} (f : Memory → Result A Trap) → Safe (λ s. trying (f s.memory) s)
trying_safe f = read_safe (λ s. f s.memory) (λ r s. trying r s) (λ r. result_safe r)

present_safe : {A : Type 0} (x : Option A) → is_some x ≡ true → Safe (λ s. present x s)
present_safe None h = no_clash h
present_safe (Some a) h = gives_safe a

memory_safe : {A : Type 0} (f : Memory → Memory) {go : State → Outcome A} → Safe go → Safe (λ s. go (with_memory (f s.memory) s))
memory_safe f {go} h = record { is = λ s. h.is (with_memory (f s.memory) s) }

-- a notice is told, if there is one
heard_safe : {A : Type 0} (notice : Bool) {go : State → Outcome A} → Safe go → Safe (λ s. go (heard notice s))
heard_safe notice h = memory_safe (λ m. noticed notice m) h

refused_safe : (A : Type 0) (line : ℕ) (code : ℤ) (sqlstate message : Text) → Safe {A = A} (λ s. refused line code sqlstate message s)
refused_safe A line code sqlstate message = record { is = λ s. tt }

raised_safe : {A : Type 0} (line : ℕ) (finding : Finding) → Safe {A = A} (λ s. raised line finding s)
raised_safe {A} line finding = record { is = λ s. tt }

session_safe : {A : Type 0} (a : A) (cs : List Connection → List Connection) (n : List Connection → Option Text → Option Text) (ds : Areas → Areas)
    → Safe (λ s. gives a (record s { connections = cs s.connections; current = n s.connections s.current; descriptors = ds s.descriptors }))
session_safe a cs n ds = record { is = λ s. tt }

connections_safe : {A : Type 0} (a : A) (cs : List Connection → List Connection) → Safe (λ s. gives a (record s { connections = cs s.connections }))
connections_safe a cs = record { is = λ s. tt }

descriptors_safe : {A : Type 0} (a : A) (ds : Areas → Areas) → Safe (λ s. gives a (record s { descriptors = ds s.descriptors }))
descriptors_safe a ds = record { is = λ s. tt }

begun_area_safe : Safe (λ s. begun_area s)
begun_area_safe = record { is = λ s. tt }

answered_is : (slot : ℕ) (request : Request) (xs : List Answer) (s : State) → IsSafe (answered slot request xs s)
answered_is slot request [] s = tt
answered_is slot request (a ∷ rest) s = tt

asked_safe : (slot : ℕ) (request : Request) → Safe (λ s. asked slot request s)
asked_safe slot request = record { is = λ s. answered_is slot request s.answers s }

-- ---- hosts

size_holds : (x : Sym) (n size count step : ℕ) → fits_element (element_size x n) size count step ≡ true → is_some (holding x n) ≡ true
size_holds sym.Char n size count step h = refl
size_holds sym.UnsignedChar n size count step h = refl
size_holds sym.Short n size count step h = refl
size_holds sym.UnsignedShort n size count step h = refl
size_holds sym.Int n size count step h = refl
size_holds sym.UnsignedInt n size count step h = refl
size_holds sym.Long n size count step h = refl
size_holds sym.UnsignedLong n size count step h = refl
size_holds sym.LongLong n size count step h = refl
size_holds sym.UnsignedLongLong n size count step h = refl
size_holds sym.Bool n size count step h = refl
size_holds sym.Varchar n size count step h = refl
size_holds _ n size count step h = no_clash h

indicator_there : (x : Sym) (count indicators step : ℕ) → fits_indicator (indicator_size x) count indicators step ≡ true → is_some (indicator_type x) ≡ true
indicator_there sym.Short count indicators step h = refl
indicator_there sym.Int count indicators step h = refl
indicator_there sym.Long count indicators step h = refl
indicator_there sym.LongLong count indicators step h = refl
indicator_there _ count indicators step h = no_clash h

mapped_there : {A B : Type 0} (f : A → B) (x : Option A) → is_some x ≡ true → is_some (option_map f x) ≡ true
mapped_there f None h = h
mapped_there f (Some a) h = refl

indicators_there : (i : Option (Indicator ℕ)) (count : ℕ) → fits_indicators i count ≡ true → is_some (indicators_data i) ≡ true
indicators_there None count h = refl
indicators_there (Some i) count h =
    mapped_there Some (indicator_data i) (mapped_there (λ kind. record { kind = kind; place = i.value; step = i.step }) (indicator_type i.sym) (indicator_there i.sym count i.count i.step h))

and_there : {A B : Type 0} (f : A → Option B) (x : Option A) → is_some x ≡ true → ((a : A) → is_some (f a) ≡ true) → is_some (option_and_then f x) ≡ true
and_there f None h g = no_clash h
and_there f (Some a) h g = g a

host_there : (p : Place ℕ) → fits_place p ≡ true → is_some (host_data p) ≡ true
host_there p h =
    and_there (λ holds. option_map (λ indicator. record { holds = holds; place = p.value; step = p.step; indicator = indicator }) (indicators_data p.ind)) (holding p.sym p.size)
    (size_holds p.sym p.size p.size p.count p.step (left_true (fits_element (element_size p.sym p.size) p.size p.count p.step) (fits_indicators p.ind p.count) h))
    (λ holds. mapped_there (λ indicator. record { holds = holds; place = p.value; step = p.step; indicator = indicator }) (indicators_data p.ind)
    (indicators_there p.ind p.count (right_true (fits_element (element_size p.sym p.size) p.size p.count p.step) (fits_indicators p.ind p.count) h)))

single_there : (p : Place ℕ) → is_single p ≡ true → is_some (host_data p) ≡ true
single_there p h = host_there p (right_true (nat_eq p.count 1) (fits_place p) h)

-- ---- texts and values that are read

text_safe : (t : TextArg ℕ) → Safe (λ s. text_read t s)
text_safe absent = gives_safe None
text_safe (word bytes) = gives_safe (Some bytes)
text_safe (held p) = next_safe (trying_safe (λ m. text_at m p)) (λ bytes. gives_safe (Some bytes))

given_safe : (t : TextArg ℕ) → is_given_text leads t ≡ true → Safe (λ s. given_read t s)
given_safe absent h = no_clash h
given_safe (word bytes) h = gives_safe bytes
given_safe (held p) h = trying_safe (λ m. text_at m p)

value_safe : (p : Place ℕ) → is_single p ≡ true → Safe (λ s. value_read p s)
value_safe p h = next_safe (present_safe (host_data p) (single_there p h)) (λ x. trying_safe (λ m. parameter m x))

inputs_safe : (ms : List (Member ℕ)) → are_inputs leads ms ≡ true → Safe (λ s. inputs_read ms s)
inputs_safe [] h = gives_safe no_inputs
inputs_safe (host p ∷ ms) h =
    next_safe (value_safe p (left_true (is_single p) (are_inputs leads ms) h)) (λ field. next_safe (inputs_safe ms (right_true (is_single p) (are_inputs leads ms) h)) (λ rest. gives_safe (with_param field rest)))
inputs_safe (constant bytes ∷ ms) h = next_safe (inputs_safe ms h) (λ rest. gives_safe (with_param (Some bytes) rest))
inputs_safe (descriptor name ∷ []) h = next_safe (given_safe name h) (λ bytes. next_safe (gives_safe no_inputs) (λ rest. gives_safe (with_area_input bytes rest)))
inputs_safe (descriptor name ∷ m ∷ ms) h = no_clash h

member_safe : (m : Member ℕ) → is_value m ≡ true → Safe (λ s. member_read m s)
member_safe (host p) h = value_safe p h
member_safe (constant bytes) h = gives_safe (Some bytes)
member_safe (descriptor name) h = no_clash h

-- ---- connections

found_safe : (n : ℕ) (c : Option Connection) → Safe (λ s. found_connection n c s)
found_safe n None = raised_safe n found.NoConnection
found_safe n (Some c) = gives_safe c

connection_of_safe : (n : ℕ) (name : Option Text) → Safe (λ s. connection_of n name s)
connection_of_safe n None = raised_safe n found.NoConnection
connection_of_safe n (Some name) = read_safe (λ s. connection_named name s.connections) (λ c s. found_connection n c s) (λ c. found_safe n c)

connection_safe : (n : ℕ) (name : Option Text) → Safe (λ s. connection_for n name s)
connection_safe n name = read_safe (λ s. wanted_name name s) (λ x s. connection_of n x s) (λ x. connection_of_safe n x)

-- ---- transaction control

controlled_safe : (n : ℕ) (r : Reply) → Safe (λ s. controlled n r s)
controlled_safe n (Rows table tx notice) = heard_safe notice (gives_safe tt)
controlled_safe n (Done count tx notice) = heard_safe notice (gives_safe tt)
controlled_safe n (Refused sqlstate message tx) = raised_safe n found.ControlRefused
controlled_safe n Connected = raised_safe n found.ControlRefused
controlled_safe n NoTarget = raised_safe n found.ControlRefused
controlled_safe n Broken = raised_safe n found.ControlRefused

control_sent_safe : (n : ℕ) (c : Connection) (bytes : Text) → Safe (λ s. control_sent n c bytes s)
control_sent_safe n c bytes = next_safe (asked_safe c.slot (request.Text bytes [])) (λ reply. controlled_safe n reply)

begun_safe : (n : ℕ) (c : Connection) → Safe (λ s. begun n c s)
begun_safe n c = bool_safe (begins c) (control_sent_safe n c begin_text) (gives_safe tt)

-- ---- what is stored

one_stored : (n : ℕ) (x : Stored) → Safe (λ s. stored_by n x s)
one_stored n (Ok cut, m) = memory_safe (λ old. warned cut m) (gives_safe tt)
one_stored n (Err (refused_there code), m) = memory_safe (λ old. m) (raised_safe n (found_by code))
one_stored n (Err (trapped_there trap), m) = memory_safe (λ old. m) (trap_safe trap)

field_safe : (n : ℕ) (h : HostData) (row : ℕ) (field : Field) → Safe (λ s. field_kept n h row field s)
field_safe n h row field = read_safe (λ s. field_stored s.memory h row field) (λ x s. stored_by n x s) (λ x. one_stored n x)

column_safe : (n : ℕ) (h : HostData) (column row : ℕ) (rows : List (List Field)) → Safe (λ s. column_kept n h column row rows s)
column_safe n h column row [] = gives_safe tt
column_safe n h column row (fields ∷ rows) = next_safe (field_safe n h row (in_column column fields)) (λ _. column_safe n h column (suc row) rows)

abbrev AllFit : List (Place ℕ) → Type 0
AllFit [] = Unit {0}
AllFit (p ∷ ps) = (fits_place p ≡ true) × AllFit ps

targets_safe : (n column : ℕ) (ps : List (Place ℕ)) → AllFit ps → (rows : List (List Field)) → Safe (λ s. targets_kept n column ps rows s)
targets_safe n column [] e rows = gives_safe tt
targets_safe n column (p ∷ ps) e rows =
    next_safe (present_safe (host_data p) (host_there p e.0)) (λ h. next_safe (column_safe n h column 0 rows) (λ _. targets_safe n (suc column) ps e.1 rows))

measured_safe : (n columns rows : ℕ) (ps : List (Place ℕ)) → Safe (λ s. measured n columns rows ps s)
measured_safe n columns rows ps =
    bool_safe (nat_lt columns (length ps)) (raised_safe n found.TooManyTargets)
    (bool_safe (nat_lt (length ps) columns) (raised_safe n found.TooFewTargets)
    (bool_safe (any_fewer rows ps) (raised_safe n found.TooManyRows) (gives_safe tt)))

rows_into_safe : (n : ℕ) (ps : List (Place ℕ)) → AllFit ps → (columns : ℕ) (rows : List (List Field)) → Safe (λ s. rows_into n ps columns rows s)
rows_into_safe n ps e columns rows = next_safe (measured_safe n columns (length rows) ps) (λ _. targets_safe n 0 ps e rows)

counted_safe : (n : ℕ) (rows : List (List Field)) {store : State → Outcome (Unit {0})} → Safe store → Safe (λ s. counted_rows n rows store s)
counted_safe n [] h = raised_safe n found.NoData
counted_safe n (fields ∷ rows) h = h

with_rows_safe : (n : ℕ) (rows : List (List Field)) {store : State → Outcome (Unit {0})} → Safe store → Safe (λ s. with_rows n rows store s)
with_rows_safe n rows h = memory_safe (λ m. counted_area (length rows) m) (counted_safe n rows h)

-- ---- replies

taken_safe : (n : ℕ) (r : Reply) → Safe (λ s. taken n r s)
taken_safe n (Rows table tx notice) = heard_safe notice (gives_safe tt)
taken_safe n (Done count tx notice) = heard_safe notice (gives_safe tt)
taken_safe n (Refused sqlstate message tx) = refused_safe (Unit {0}) n (server_code sqlstate.0) sqlstate.0 message
taken_safe n Connected = raised_safe n found.ReplyOutOfPlace
taken_safe n NoTarget = raised_safe n found.ReplyOutOfPlace
taken_safe n Broken = raised_safe n found.ConnectionBroken

done_safe : (n : ℕ) (wanted : Bool) (count : Option ℕ) → Safe (λ s. done n wanted count s)
done_safe n true (Some zero) = raised_safe n found.NoData
done_safe n false (Some zero) = raised_safe n found.NoData
done_safe n true (Some (suc k)) = raised_safe n found.TooManyTargets
done_safe n true None = raised_safe n found.TooManyTargets
done_safe n false (Some (suc k)) = gives_safe tt
done_safe n false None = gives_safe tt

count_safe : (n : ℕ) (wanted : Bool) (count : Option ℕ) → Safe (λ s. count_told n wanted count s)
count_safe n wanted count = memory_safe (λ m. counted_area (count_of count) m) (done_safe n wanted count)

replied_safe : (n : ℕ) (wanted : Bool) (store : Sheet → State → Outcome (Unit {0})) → ((table : Sheet) → Safe (store table)) → (r : Reply) → Safe (λ s. replied n wanted store r s)
replied_safe n wanted store h (Rows table tx notice) = heard_safe notice (h table)
replied_safe n wanted store h (Done count tx notice) = heard_safe notice (count_safe n wanted count)
replied_safe n wanted store h (Refused sqlstate message tx) = refused_safe (Unit {0}) n (server_code sqlstate.0) sqlstate.0 message
replied_safe n wanted store h Connected = raised_safe n found.ReplyOutOfPlace
replied_safe n wanted store h NoTarget = raised_safe n found.ReplyOutOfPlace
replied_safe n wanted store h Broken = raised_safe n found.ConnectionBroken

-- ---- statements

abbrev OutputsFit : Outputs → Type 0
OutputsFit nowhere = Unit {0}
OutputsFit (hosts ps) = AllFit ps
OutputsFit (area name) = Unit {0}

abbrev PlacesFit : Option (List (Place ℕ)) → Type 0
PlacesFit None = ⊥
PlacesFit (Some ps) = AllFit ps

place_before : (p : Place ℕ) (o : Option (List (Place ℕ))) → fits_place p ≡ true → PlacesFit o → PlacesFit (elim o [ None ↦ None | Some ps ↦ Some (p ∷ ps) ])
place_before p None e h = h
place_before p (Some ps) e h = (e, h)

hosts_fit : (ms : List (Member ℕ)) → are_hosts ms ≡ true → PlacesFit (places_of ms)
hosts_fit [] h = tt
hosts_fit (host p ∷ ms) h =
    place_before p (places_of ms) (left_true (fits_place p) (are_hosts ms) h) (hosts_fit ms (right_true (fits_place p) (are_hosts ms) h))
hosts_fit (constant bytes ∷ ms) h = no_clash h
hosts_fit (descriptor name ∷ ms) h = no_clash h

places_so : (o : Option (List (Place ℕ))) → PlacesFit o → SafeSo OutputsFit (λ s. into_places o s)
places_so None h = absurd h
places_so (Some ps) h = record { so = λ s. h }

area_so : (t : TextArg ℕ) → is_given_text leads t ≡ true → (s : State) → GivesSo OutputsFit (next (given_read t s) (λ bytes u. gives (area bytes) u))
area_so t h s = by (given_read t s) ((given_safe t h).is s)
  where
    by : (o : Outcome Text) → IsSafe o → GivesSo OutputsFit (next o (λ bytes u. gives (area bytes) u))
    by (gives a t) g = tt
    by (finished t) g = tt
    by (over halt t) g = g

outputs_so : (ms : List (Member ℕ)) → are_outputs leads ms ≡ true → SafeSo OutputsFit (λ s. outputs_read ms s)
outputs_so [] h = record { so = λ s. tt }
outputs_so (descriptor name ∷ []) h = record { so = λ s. area_so name h s }
outputs_so (descriptor name ∷ m ∷ ms) h = no_clash h
outputs_so (host p ∷ ms) h = places_so (places_of (host p ∷ ms)) (hosts_fit (host p ∷ ms) h)
outputs_so (constant bytes ∷ ms) h = no_clash h

row_safe : (n : ℕ) (name : Text) (table : Sheet) (rows : List (List Field)) → Safe (λ s. row_into n name table rows s)
row_safe n name table [] = gives_safe tt
row_safe n name table (fields ∷ []) = descriptors_safe tt (λ ds. with_area name (items_of table.cols fields) ds)
row_safe n name table (fields ∷ others ∷ rows) = raised_safe n found.TooManyRows

rows_safe : (n : ℕ) (outputs : Outputs) → OutputsFit outputs → (table : Sheet) → Safe (λ s. rows_stored n outputs table s)
rows_safe n nowhere e table = gives_safe tt
rows_safe n (hosts ps) e table = rows_into_safe n ps e (length table.cols) table.rows
rows_safe n (area name) e table = row_safe n name table table.rows

table_safe : (n : ℕ) (outputs : Outputs) → OutputsFit outputs → (table : Sheet) → Safe (λ s. table_kept n outputs table s)
table_safe n outputs e table = with_rows_safe n table.rows (rows_safe n outputs e table)

statement_safe : (x : Statement ℕ) → is_statement leads x ≡ true → Safe (λ s. statement_read x s)
statement_safe (normal bytes) h = gives_safe (text bytes)
statement_safe (prepared name) h = gives_safe (execution name)
statement_safe (immediate name) h = next_safe (given_safe name h) (λ bytes. gives_safe (text bytes))
statement_safe (opening head name) h = gives_safe (cursor head name)

found_text_safe : {A : Type 0} (n : ℕ) (x : Option Text) (make : Text → A) → Safe (λ s. found_text n x make s)
found_text_safe n None make = raised_safe n found.NoStatement
found_text_safe n (Some bytes) make = gives_safe (make bytes)

request_safe : (n : ℕ) (x : Wanted) (c : Connection) → Safe (λ s. request_of n x c s)
request_safe n (text bytes) c = gives_safe (λ params. request.Text bytes params)
request_safe n (execution name) c = found_text_safe n (prepared_text name c.prepared) (λ bytes params. request.Exec name params)
request_safe n (cursor head name) c = found_text_safe n (prepared_text name c.prepared) (λ bytes params. request.Text (head ++ bytes) params)

found_area_safe : (n : ℕ) (x : Option (List Item)) → Safe (λ s. found_area n x s)
found_area_safe n None = raised_safe n found.NoDescriptor
found_area_safe n (Some items) = gives_safe items

area_safe : (n : ℕ) (name : Text) → Safe (λ s. area_found n name s)
area_safe n name = read_safe (λ s. area_named name s.descriptors) (λ x s. found_area n x s) (λ x. found_area_safe n x)

behind_safe : (n : ℕ) (params : List Field) (x : Option Text) → Safe (λ s. params_behind n params x s)
behind_safe n params None = gives_safe params
behind_safe n params (Some name) = next_safe (area_safe n name) (λ items. gives_safe (params ++ contents items))

params_safe : (n : ℕ) (inputs : Inputs) → Safe (λ s. params_of n inputs s)
params_safe n inputs = behind_safe n inputs.params inputs.area

outputs_found_safe : (n : ℕ) (outputs : Outputs) → Safe (λ s. outputs_found n outputs s)
outputs_found_safe n nowhere = gives_safe tt
outputs_found_safe n (hosts ps) = gives_safe tt
outputs_found_safe n (area name) = next_safe (area_safe n name) (λ items. gives_safe tt)

carried_out_safe : (n : ℕ) (name : Option Text) (x : Wanted) (inputs : Inputs) (outputs : Outputs) → OutputsFit outputs → Safe (λ s. carried_out n name x inputs outputs s)
carried_out_safe n name x inputs outputs e =
    next_safe begun_area_safe (λ _.
    next_safe (connection_safe n name) (λ c.
    next_safe (request_safe n x c) (λ made.
    next_safe (params_safe n inputs) (λ params.
    next_safe (outputs_found_safe n outputs) (λ _.
    next_safe (begun_safe n c) (λ _.
    next_safe (asked_safe c.slot (made params)) (λ reply.
    replied_safe n (is_wanted outputs) (table_kept n outputs) (λ table. table_safe n outputs e table) reply)))))))

run_safe : (n : ℕ) (connection : TextArg ℕ) (x : Statement ℕ) (ins outs : List (Member ℕ)) → is_statement leads x ≡ true → are_inputs leads ins ≡ true → are_outputs leads outs ≡ true → Safe (λ s. run_call n connection x ins outs s)
run_safe n connection x ins outs e f g =
    next_safe (text_safe connection) (λ name.
    next_safe (statement_safe x e) (λ wanted.
    next_safe (inputs_safe ins f) (λ inputs.
    so_safe (outputs_so outs g) (λ outputs fit.
    carried_out_safe n name wanted inputs outputs fit))))

-- ---- connecting

opened_safe : (n : ℕ) (name : Text) (a : Answer) → Safe (λ s. opened_by n name a s)
opened_safe n name (Some slot, Connected) =
    session_safe tt (λ cs. cs ++ record { name = name; slot = slot; autocommit = false; told = Idle; prepared = [] } ∷ []) (λ old c. Some name) (λ ds. ds)
opened_safe n name (Some slot, Rows table tx notice) = raised_safe n found.NotConnected
opened_safe n name (Some slot, Done count tx notice) = raised_safe n found.NotConnected
opened_safe n name (Some slot, Refused sqlstate message tx) = raised_safe n found.NotConnected
opened_safe n name (Some slot, NoTarget) = raised_safe n found.NotConnected
opened_safe n name (Some slot, Broken) = raised_safe n found.NotConnected
opened_safe n name (None, reply) = raised_safe n found.NotConnected

connecting_is : (n : ℕ) (name : Text) (r : Request) (xs : List Answer) (s : State) → IsSafe (connecting n name r xs s)
connecting_is n name r [] s = tt
connecting_is n name r (a ∷ rest) s = (opened_safe n name a).is (record s { conversation = s.conversation ++ exchange a.0 r a.1 ∷ []; answers = rest })

connecting_safe : (n : ℕ) (name : Text) (r : Request) → Safe (λ s. connecting n name r s.answers s)
connecting_safe n name r = record { is = λ s. connecting_is n name r s.answers s }

unless_safe : (n : ℕ) (name : Text) (r : Request) (c : Option Connection) → Safe (λ s. unless_named n name r c s)
unless_safe n name r (Some c) = raised_safe n found.NotConnected
unless_safe n name r None = connecting_safe n name r

connect_safe : (n : ℕ) (target user password name : TextArg ℕ) → is_given_text leads target ≡ true → Safe (λ s. connect_call n target user password name s)
connect_safe n target user password name h =
    next_safe (given_safe target h) (λ server.
    next_safe (text_safe user) (λ by.
    next_safe (text_safe password) (λ word.
    next_safe (text_safe name) (λ called.
    next_safe begun_area_safe (λ _.
    read_safe (λ s. connection_named (own_name server called) s.connections) (λ c s. unless_named n (own_name server called) (request.Connect server by word) c s)
    (λ c. unless_safe n (own_name server called) (request.Connect server by word) c))))))

set_connection_safe : (n : ℕ) (name : TextArg ℕ) → is_given_text leads name ≡ true → Safe (λ s. set_connection_call n name s)
set_connection_safe n name h =
    next_safe (given_safe name h) (λ called.
    next_safe begun_area_safe (λ _.
    next_safe (connection_safe n (Some called)) (λ c.
    session_safe tt (λ cs. cs) (λ old current. Some called) (λ ds. ds))))

-- ---- disconnecting

closed_safe : (c : Connection) → Safe (λ s. closed c s)
closed_safe c =
    next_safe (asked_safe c.slot request.Close) (λ reply.
    session_safe tt (λ cs. without_connection c.name cs) (λ cs current. current_without c.name current (without_connection c.name cs)) (λ ds. ds))

all_closed_safe : (cs : List Connection) → Safe (λ s. all_closed cs s)
all_closed_safe [] = gives_safe tt
all_closed_safe (c ∷ cs) = next_safe (closed_safe c) (λ _. all_closed_safe cs)

one_closed_safe : (n : ℕ) (name : Option Text) → Safe (λ s. one_closed n name s)
one_closed_safe n name = next_safe (connection_safe n name) (λ c. closed_safe c)

disconnected_safe : (n : ℕ) (name : Text) → Safe (λ s. disconnected n name s)
disconnected_safe n name =
    bool_safe (same_name name (codes "CURRENT")) (one_closed_safe n None)
    (bool_safe (same_name name (codes "ALL"))
    (read_safe (λ s. reverse s.connections) (λ cs s. all_closed cs s) (λ cs. all_closed_safe cs))
    (one_closed_safe n (Some name)))

disconnect_safe : (n : ℕ) (name : TextArg ℕ) → is_given_text leads name ≡ true → Safe (λ s. disconnect_call n name s)
disconnect_safe n name h = next_safe (given_safe name h) (λ called. next_safe begun_area_safe (λ _. disconnected_safe n called))

-- ---- autocommit and transaction control

switched_safe : (on : Bool) (c : Connection) → Safe (λ s. switched on c s)
switched_safe on c = connections_safe tt (λ cs. changed_at c.slot (with_autocommit on) cs)

autocommit_set_safe : (n : ℕ) (on : Bool) (c : Connection) → Safe (λ s. autocommit_set n on c s)
autocommit_set_safe n on c =
    bool_safe (commits_first on c) (next_safe (control_sent_safe n c (codes "commit")) (λ _. switched_safe on c)) (switched_safe on c)

autocommit_safe : (n : ℕ) (on : Bool) (connection : TextArg ℕ) → Safe (λ s. autocommit_call n on connection s)
autocommit_safe n on connection =
    next_safe (text_safe connection) (λ name.
    next_safe begun_area_safe (λ _.
    next_safe (connection_safe n name) (λ c. autocommit_set_safe n on c)))

control_safe : (n : ℕ) (connection : TextArg ℕ) (bytes : Text) → Safe (λ s. control_call n connection bytes s)
control_safe n connection bytes =
    next_safe (text_safe connection) (λ name.
    next_safe begun_area_safe (λ _.
    next_safe (connection_safe n name) (λ c. control_sent_safe n c bytes)))

-- ---- prepared statements

prepared_anew_safe : (slot : ℕ) (change : List (Text × Text) → List (Text × Text)) → Safe (λ s. gives (tt {0}) (prepared_anew slot change s))
prepared_anew_safe slot change = connections_safe tt (λ cs. changed_at slot (λ c. record c { prepared = change c.prepared }) cs)

prepare_safe : (n : ℕ) (connection : TextArg ℕ) (name : Text) (source : TextArg ℕ) → is_given_text leads source ≡ true → Safe (λ s. prepare_call n connection name source s)
prepare_safe n connection name source h =
    next_safe (text_safe connection) (λ called.
    next_safe (given_safe source h) (λ bytes.
    next_safe begun_area_safe (λ _.
    next_safe (connection_safe n called) (λ c.
    next_safe (asked_safe c.slot (request.Prepare name (with_marks bytes))) (λ reply.
    next_safe (taken_safe n reply) (λ _.
    prepared_anew_safe c.slot (with_text name (with_marks bytes))))))))

deallocate_safe : (n : ℕ) (connection : TextArg ℕ) (name : Text) → Safe (λ s. deallocate_call n connection name s)
deallocate_safe n connection name =
    next_safe (text_safe connection) (λ called.
    next_safe begun_area_safe (λ _.
    next_safe (connection_safe n called) (λ c.
    next_safe (found_text_safe n (prepared_text name c.prepared) (λ bytes. bytes)) (λ _.
    next_safe (asked_safe c.slot (request.Deallocate name)) (λ reply.
    next_safe (taken_safe n reply) (λ _.
    prepared_anew_safe c.slot (without_text name)))))))

-- ---- descriptors

with_descriptor_safe : (name : Text) (items : List Item) → Safe (λ s. gives (tt {0}) (with_descriptor name items s))
with_descriptor_safe name items = descriptors_safe tt (λ ds. with_area name items ds)

allocate_safe : (n : ℕ) (name : TextArg ℕ) → is_given_text leads name ≡ true → Safe (λ s. allocate_call n name s)
allocate_safe n name h = next_safe (given_safe name h) (λ called. next_safe begun_area_safe (λ _. with_descriptor_safe called []))

free_safe : (n : ℕ) (name : TextArg ℕ) → is_given_text leads name ≡ true → Safe (λ s. deallocate_descriptor_call n name s)
free_safe n name h =
    next_safe (given_safe name h) (λ called.
    next_safe begun_area_safe (λ _.
    next_safe (area_safe n called) (λ items.
    descriptors_safe tt (λ ds. without_area called ds))))

found_number_safe : (n : ℕ) (x : Option ℤ) → Safe (λ s. found_number n x s)
found_number_safe n None = raised_safe n found.NotAnInteger
found_number_safe n (Some z) = gives_safe z

in_range_safe : (n : ℕ) (x : Option ℕ) → Safe (λ s. in_range n x s)
in_range_safe n None = raised_safe n found.DescriptorIndex
in_range_safe n (Some k) = gives_safe k

index_safe : (n low high : ℕ) (field : Field) → Safe (λ s. index_of n low high field s)
index_safe n low high field = next_safe (found_number_safe n (number_as Long field)) (λ z. in_range_safe n (within low high z))

stored_in_safe : (n : ℕ) (m : Member ℕ) → is_target m ≡ true → (field : Field) → Safe (λ s. stored_in n m field s)
stored_in_safe n (host p) e field = next_safe (present_safe (host_data p) (single_there p e)) (λ h. field_safe n h 0 field)
stored_in_safe n (constant bytes) e field = no_clash e
stored_in_safe n (descriptor name) e field = no_clash e

get_count_safe : (n : ℕ) (name : TextArg ℕ) (target : Member ℕ) → is_given_text leads name ≡ true → is_target target ≡ true → Safe (λ s. get_count_call n name target s)
get_count_safe n name target h e =
    next_safe (given_safe name h) (λ called.
    next_safe begun_area_safe (λ _.
    next_safe (area_safe n called) (λ items.
    stored_in_safe n target e (Some (decimal (length items))))))

set_count_safe : (n : ℕ) (name : TextArg ℕ) (source : Member ℕ) → is_given_text leads name ≡ true → is_value source ≡ true → Safe (λ s. set_count_call n name source s)
set_count_safe n name source h e =
    next_safe (given_safe name h) (λ called.
    next_safe (member_safe source e) (λ field.
    next_safe begun_area_safe (λ _.
    next_safe (area_safe n called) (λ items.
    next_safe (index_safe n 0 1000 field) (λ k.
    with_descriptor_safe called (resized k items))))))

item_safe : (n : ℕ) (indicated : Bool) (target : Member ℕ) → is_target target ≡ true → (field : Field) → Safe (λ s. item_stored n indicated target field s)
item_safe n indicated target e (Some bytes) = stored_in_safe n target e (Some bytes)
item_safe n indicated target e None =
    bool_safe (has_indicator target) (stored_in_safe n target e None) (bool_safe indicated (gives_safe tt) (stored_in_safe n target e None))

items_safe : (n : ℕ) (indicated : Bool) (it : Item) (is : List (ItemMember ℕ)) → are_targets is ≡ true → Safe (λ s. items_stored n indicated it is s)
items_safe n indicated it [] e = gives_safe tt
items_safe n indicated it (i ∷ is) e =
    next_safe (item_safe n indicated i.1 (left_true (is_target i.1) (are_targets is) e) (item_text i.0 it)) (λ _. items_safe n indicated it is (right_true (is_target i.1) (are_targets is) e))

between : (low high : ℕ) (z : ℤ) → (int_le (pos low) z && int_le z (pos high)) ≡ true → (low ≤ unsigned_abs z) × (unsigned_abs z ≤ high)
between low high (pos m) h =
    let f = left_true (int_le (pos low) (pos m)) (int_le (pos m) (pos high)) h in
    let g = right_true (int_le (pos low) (pos m)) (int_le (pos m) (pos high)) h in
    (omega (arith, ints, f), omega (arith, ints, g))
between low high (negsuc m) h = no_clash h

within_so : (n low high : ℕ) (z : ℤ) (t : Bool) → (int_le (pos low) z && int_le z (pos high)) ≡ t → (s : State) → GivesSo (λ k. (low ≤ k) × (k ≤ high)) (in_range n (elim t [ true ↦ Some (unsigned_abs z) | false ↦ None ]) s)
within_so n low high z true h s = between low high z h
within_so n low high z false h s = tt

index_so : (n low high : ℕ) (field : Field) → SafeSo (λ k. (low ≤ k) × (k ≤ high)) (λ s. index_of n low high field s)
index_so n low high field = record { so = λ s. by (number_as Long field) s }
  where
    by : (x : Option ℤ) (s : State) → GivesSo (λ k. (low ≤ k) × (k ≤ high)) (next (found_number n x s) (λ z t. in_range n (within low high z) t))
    by None s = tt
    by (Some z) s = within_so n low high z (int_le (pos low) z && int_le z (pos high)) refl s

slice_there : {A : Type 0} (xs : List A) (i : ℕ) → i < length xs → is_some (slice_get xs i) ≡ true
slice_there [] i h = absurd (omega (arith, h))
slice_there (x ∷ xs) zero h = refl
slice_there (x ∷ xs) (suc i) h = slice_there xs i (omega (arith, h))

item_there : (k : ℕ) (items : List Item) → 1 ≤ k → k ≤ length items → is_some (item_at k items) ≡ true
item_there zero items h g = absurd (omega (arith, h))
item_there (suc k) items h g = slice_there items k (omega (arith, g))

get_items_safe : (n : ℕ) (name : TextArg ℕ) (index : Member ℕ) (is : List (ItemMember ℕ)) → is_given_text leads name ≡ true → is_value index ≡ true → are_targets is ≡ true → Safe (λ s. get_items_call n name index is s)
get_items_safe n name index is h e f =
    next_safe (given_safe name h) (λ called.
    next_safe (member_safe index e) (λ field.
    next_safe begun_area_safe (λ _.
    next_safe (area_safe n called) (λ items.
    so_safe (index_so n 1 (length items) field) (λ k r.
    next_safe (present_safe (item_at k items) (item_there k items r.0 r.1)) (λ it.
    items_safe n (asks_indicator is) it is f))))))

values_safe : (is : List (ItemMember ℕ)) → are_settings is ≡ true → Safe (λ s. values_read is s)
values_safe [] e = gives_safe []
values_safe (i ∷ is) e =
    next_safe (member_safe i.1 (right_true (is_settable i.0) (is_value i.1) (left_true (is_settable i.0 && is_value i.1) (are_settings is) e))) (λ field.
    next_safe (values_safe is (right_true (is_settable i.0 && is_value i.1) (are_settings is) e)) (λ rest. gives_safe ((i.0, field) ∷ rest)))

item_set_safe : (n : ℕ) (name : Text) (k : ℕ) (items : List Item) (x : Option Item) → Safe (λ s. item_set n name k items x s)
item_set_safe n name k items None = raised_safe n found.NotAnInteger
item_set_safe n name k items (Some it) = with_descriptor_safe name (slice_set (raised_to k items) (k - 1) it)

items_set_safe : (n : ℕ) (name : Text) (k : ℕ) (vs : List (Kind × Field)) → Safe (λ s. items_set n name k vs s)
items_set_safe n name k [] = gives_safe tt
items_set_safe n name k (v ∷ vs) =
    next_safe (area_safe n name) (λ items.
    next_safe (item_set_safe n name k items (set_item v.0 v.1 (or_new (item_at k items)))) (λ _.
    items_set_safe n name k vs))

set_items_safe : (n : ℕ) (name : TextArg ℕ) (index : Member ℕ) (is : List (ItemMember ℕ)) → is_given_text leads name ≡ true → is_value index ≡ true → are_settings is ≡ true → Safe (λ s. set_items_call n name index is s)
set_items_safe n name index is h e f =
    next_safe (given_safe name h) (λ called.
    next_safe (member_safe index e) (λ field.
    next_safe (values_safe is f) (λ values.
    next_safe begun_area_safe (λ _.
    next_safe (area_safe n called) (λ items.
    next_safe (index_safe n 1 1000 field) (λ k.
    items_set_safe n called k values))))))

-- ---- the calls

call_safe : (n : ℕ) (x : Call ℕ) → is_call leads x ≡ true → Safe (λ s. call_done n x s)
call_safe n (run connection x ins outs) h =
    let f = left_true (is_optional_text leads connection && is_statement leads x && are_inputs leads ins) (are_outputs leads outs) h in
    let g = left_true (is_optional_text leads connection && is_statement leads x) (are_inputs leads ins) f in
    run_safe n connection x ins outs (right_true (is_optional_text leads connection) (is_statement leads x) g)
    (right_true (is_optional_text leads connection && is_statement leads x) (are_inputs leads ins) f)
    (right_true (is_optional_text leads connection && is_statement leads x && are_inputs leads ins) (are_outputs leads outs) h)
call_safe n (connect target user password name) h =
    connect_safe n target user password name (left_true (is_given_text leads target) (is_optional_text leads user)
    (left_true (is_given_text leads target && is_optional_text leads user) (is_optional_text leads password)
    (left_true (is_given_text leads target && is_optional_text leads user && is_optional_text leads password) (is_optional_text leads name) h)))
call_safe n (disconnect name) h = disconnect_safe n name h
call_safe n (set_connection name) h = set_connection_safe n name h
call_safe n (set_autocommit on connection) h = autocommit_safe n on connection
call_safe n (control connection bytes) h = control_safe n connection bytes
call_safe n (prepare connection name source) h = prepare_safe n connection name source (right_true (is_optional_text leads connection) (is_given_text leads source) h)
call_safe n (deallocate connection name) h = deallocate_safe n connection name
call_safe n (allocate_descriptor name) h = allocate_safe n name h
call_safe n (deallocate_descriptor name) h = free_safe n name h
call_safe n (get_count name target) h =
    get_count_safe n name target (left_true (is_given_text leads name) (is_target target) h) (right_true (is_given_text leads name) (is_target target) h)
call_safe n (set_count name source) h =
    set_count_safe n name source (left_true (is_given_text leads name) (is_value source) h) (right_true (is_given_text leads name) (is_value source) h)
call_safe n (get_items name index is) h =
    let f = left_true (is_given_text leads name && is_value index) (are_targets is) h in
    get_items_safe n name index is (left_true (is_given_text leads name) (is_value index) f) (right_true (is_given_text leads name) (is_value index) f)
    (right_true (is_given_text leads name && is_value index) (are_targets is) h)
call_safe n (set_items name index is) h =
    let f = left_true (is_given_text leads name && is_value index) (are_settings is) h in
    set_items_safe n name index is (left_true (is_given_text leads name) (is_value index) f) (right_true (is_given_text leads name) (is_value index) f)
    (right_true (is_given_text leads name && is_value index) (are_settings is) h)

abbrev pub Ruled : Option (Cut ℕ) → Type 0
Ruled None = ⊥
Ruled (Some c) = is_call leads c.call ≡ true

pub if_cut_safe : (x : Option (Cut ℕ)) → Ruled x → Safe (λ s. if_cut x s)
if_cut_safe None h = absurd h
if_cut_safe (Some c) h = call_safe c.line c.call h
