-- Each of the fourteen calls of the library does the same in two states of which the second has further answers, or the first run stops where the second goes on. Each answer is taken where a request stands that it answers, and a request waits only where no answer is left.
use Rattle.std.proofs.Common.{◌≡◌, ℕ, zero, suc, ◌+◌, List, [], ◌∷◌, ◌++◌, length, reverse, Option, Some, None, Bool, true, false, Result, Ok, Err, refl, sym, subst}
use Rattle.std.specs.Prelude.{ℤ, nat_lt, codes, slice_set, ◌-◌}
use Rattle.std.specs.Fmt.{decimal}
use Rattle.ec_arguments.specs.Arguments.{Arg, TextArg, absent, word, held, Place, Member, host, constant, descriptor, ItemMember, Statement, normal, prepared, immediate, opening, Call, run, connect, disconnect, set_connection, set_autocommit, control, prepare, deallocate, allocate_descriptor, deallocate_descriptor, get_count, set_count, get_items, set_items, Cut}
use Rattle.ec_arguments.specs.Rules.{cut}
use Rattle.ec_base.specs.declared.stop.Trap.{Trap}
use Rattle.ec_ctypes.specs.declared.checked.library.LibName.{LibName}
use Rattle.ec_ctypes.specs.declared.embedded.emb.Item.{Item as Kind}
use Rattle.ec_ctypes.specs.declared.types.arith.Arith.TheVariants.{Long}
use Rattle.ec_link.specs.declared.reply.Reply.{Reply}
use Rattle.ec_link.specs.declared.reply.Reply.TheVariants.{Connected, NoTarget, Rows, Done, Refused, Broken}
use Rattle.ec_link.specs.declared.reply.Tx.TheVariants.{Idle}
use Rattle.ec_link.specs.declared.request.Request.{Request}
use Rattle.ec_link.specs.declared.request.Request.TheVariants as request
use Rattle.ec_link.specs.Logged.{IsConnect}
use Rattle.ec_link.specs.Table.{Sheet}
use Rattle.ec_memory_defs.specs.Memory.{Memory, text_at}
use Rattle.ec_transfer_defs.specs.declared.finding.Finding.{Finding}
use Rattle.ec_transfer_defs.specs.declared.finding.Finding.TheVariants as found
use Rattle.ec_transfer_defs.specs.Codes.{code_of, state_of as sqlstate_of, text_of_finding}
use Rattle.ec_transfer_defs.specs.Conversion.{trapped as trapped_there, refused as refused_there, Stored, field_stored, parameter}
use Rattle.ec_transfer_defs.specs.Hosts.{HostData}
use Rattle.ec_meaning_defs.specs.evaluation.State as state
use Rattle.ec_meaning_defs.specs.evaluation.State.{Answer, Connection, Item, State, waits}
use Rattle.ec_meaning_defs.specs.evaluation.Agree.{richer, Beside, beside, Endings, Kept}
use Rattle.ec_call_defs.specs.Answers.{server_code, taken, count_of, done, count_told, replied}
use Rattle.ec_call_defs.specs.Areas.{Areas, area_named, with_area, without_area, items_of, contents, resized, raised_to, number_as, within, item_at, item_text, set_item}
use Rattle.ec_call_defs.specs.Autocommit.{with_autocommit, switched, commits_first, autocommit_set, autocommit_call}
use Rattle.ec_call_defs.specs.Connecting.{opened_by, connecting, unless_named, own_name, connect_call, set_connection_call}
use Rattle.ec_call_defs.specs.Connections.{same_name, connection_named, wanted_name, found_connection, connection_of, connection_for, changed_at, with_told, told_by, exchange, answered, asked, controlled, control_sent, begins, begin_text, begun}
use Rattle.ec_call_defs.specs.Control.{control_call}
use Rattle.ec_call_defs.specs.Descriptors.{with_descriptor, allocate_call, deallocate_descriptor_call, found_number, in_range, index_of, stored_in, get_count_call, set_count_call, has_indicator, asks_indicator, item_stored, items_stored, get_items_call, values_read, or_new, item_set, items_set, set_items_call}
use Rattle.ec_call_defs.specs.Disconnecting.{without_connection, current_without, closed, all_closed, one_closed, disconnected, disconnect_call}
use Rattle.ec_call_defs.specs.Growth.{state_of}
use Rattle.ec_call_defs.specs.Inputs.{host_data, text_read, given_read, value_read, Inputs, no_inputs, with_param, with_area as with_area_input, inputs_read, member_read}
use Rattle.ec_call_defs.specs.Library.{call_done, cut_done, if_cut, leads, library_call}
use Rattle.ec_call_defs.specs.Marks.{with_marks}
use Rattle.ec_call_defs.specs.Outcomes.{Text, Field, Halt, trapped, waiting, stuck, Outcome, gives, finished, over, next, trying, present, with_memory, fresh_area, told_area, counted_area, noticed, heard, refused, raised, begun_area}
use Rattle.ec_call_defs.specs.Preparing.{with_text, without_text, prepared_anew, prepare_call, deallocate_call}
use Rattle.ec_call_defs.specs.Running.{Outputs, nowhere, hosts, area, places_of, into_places, outputs_read, is_wanted, row_into, rows_stored, table_kept, Wanted, text, execution, cursor, statement_read, prepared_text, found_text, request_of, found_area, area_found, params_behind, params_of, outputs_found, carried_out, run_call}
use Rattle.ec_call_defs.specs.Steps.{ending_of}
use Rattle.ec_call_defs.specs.Storing.{found_by, warned, stored_by, field_kept, in_column, column_kept, targets_kept, any_fewer, measured, rows_into, counted_rows, with_rows}
use Rattle.ec_replay_laws.specs.Taking.{slot_with, MayWait}

-- ---- what a call does to a state beside its memory

-- behind an exchange, with these answers left
abbrev pub told : Option ℕ → Request → Reply → List Answer → State → State
told slot request reply rest s = record s { conversation = s.conversation ++ exchange slot request reply ∷ []; answers = rest }

-- with these connections and descriptors
abbrev pub with_session : List Connection → Option Text → Areas → State → State
with_session connections current descriptors s = record s { connections = connections; current = current; descriptors = descriptors }

-- A request that the first run waits with waits in the second too, if there are no further answers; else it has the first of them there. The first run has no answer left then
abbrev pub Waits : Endings → ℕ → List Answer → Type 0
Waits E d [] = (slot : Option ℕ) (request : Request) → E.both (waits slot request)
Waits E d (a ∷ more) =
    (slot : Option ℕ) (request : Request) → MayWait slot request → (s : State) → s.answers ≡ []
    → E.first (waits slot request) s (told (slot_with slot a) request a.1 more (record s { turns = s.turns + d }))

-- what is kept by a call, beside what is kept by all that a run does of itself
pub record KeptByCalls (P : State → Type 0) (E : Endings) (G : State → State → Type 0) (d : ℕ) (more : List Answer) : Type 0 where
  pub said : (slot : Option ℕ) (request : Request) (a : Answer) (rest : List Answer) (s : State) → s.answers ≡ a ∷ rest → P s → P (told slot request a.1 rest s)
  pub said_later : (slot : Option ℕ) (request : Request) (reply : Reply) (rest : List Answer) (s : State) → G s (told slot request reply rest s)
  pub session : (cs : List Connection) (n : Option Text) (ds : Areas) (s : State) → P s → P (with_session cs n ds s)
  pub session_later : (cs : List Connection) (n : Option Text) (ds : Areas) (s : State) → G s (with_session cs n ds s)
  pub waits : Waits E d more

-- ---- parts of a call

-- two outcomes are the same up to states beside one another, or the first is over, and the second goes on. A trap is at this line
pub data SameOutcome (P : State → Type 0) (E : Endings) (d : ℕ) (more : List Answer) (here : ℕ) (A : Type 0) : Outcome A → Outcome A → Type 0 where
  same_gives : {a : A} {s s' : State} → Beside P d more s s' → SameOutcome P E d more here A (gives a s) (gives a s')
  same_finished : {s s' : State} → Beside P d more s s' → SameOutcome P E d more here A (finished s) (finished s')
  same_halts : {halt : Halt} {s s' : State} → E.both (ending_of here halt) → Beside P d more s s' → SameOutcome P E d more here A (over halt s) (over halt s')
  halts_first : {halt : Halt} {s : State} {o : Outcome A} → P s → E.first (ending_of here halt) s (state_of o) → SameOutcome P E d more here A (over halt s) o

-- a part of a call does the same from states beside one another, and only leads to later states
pub record DoesSame (P : State → Type 0) (E : Endings) (G : State → State → Type 0) (d : ℕ) (more : List Answer) (here : ℕ) (A : Type 0) (m : State → Outcome A) : Type 0 where
  pub same : (s s' : State) → Beside P d more s s' → SameOutcome P E d more here A (m s) (m s')
  pub later : (u : State) → G u (state_of (m u))

module _ (P : State → Type 0) (E : Endings) (G : State → State → Type 0) (d : ℕ) (more : List Answer) (kept : Kept P E G d more) (by_calls : KeptByCalls P E G d more) (here : ℕ) where
  abbrev Near : State → State → Type 0
  Near = Beside P d more

  abbrev Like : {A : Type 0} → Outcome A → Outcome A → Type 0
  Like {A} = SameOutcome P E d more here A

  abbrev Does : {A : Type 0} → (State → Outcome A) → Type 0
  Does {A} = DoesSame P E G d more here A

  -- ---- parts alone

  pub gives_does : {A : Type 0} (a : A) → Does (λ s. gives a s)
  gives_does a = record { same = λ s s' p. same_gives p; later = λ u. kept.same_later u }

  finished_does : (A : Type 0) → Does {A = A} (λ s. finished s)
  finished_does A = record { same = λ s s' p. same_finished p; later = λ u. kept.same_later u }

  pub stuck_does : {A : Type 0} → Does {A = A} (λ s. over stuck s)
  stuck_does = record { same = λ s s' p. same_halts (kept.both state.stuck tt) p; later = λ u. kept.same_later u }

  pub trap_does : {A : Type 0} (trap : Trap) → Does {A = A} (λ s. over (trapped trap) s)
  trap_does trap = record { same = λ s s' p. same_halts (kept.both (state.trapped trap here) tt) p; later = λ u. kept.same_later u }

  -- ---- one behind the other

  next_later : {A B : Type 0} (o : Outcome A) (go : A → State → Outcome B) → ((a : A) (u : State) → G u (state_of (go a u))) → G (state_of o) (state_of (next o go))
  next_later (gives a s) go h = h a s
  next_later (finished s) go h = kept.same_later s
  next_later (over halt s) go h = kept.same_later s

  next_same : {A B : Type 0} {o o' : Outcome A} (go : A → State → Outcome B) → Like o o' → ((a : A) → Does (go a)) → Like (next o go) (next o' go)
  next_same go (same_gives {a = a} {s = s} {s' = s'} p) h = (h a).same s s' p
  next_same go (same_finished p) h = same_finished p
  next_same go (same_halts b p) h = same_halts b p
  next_same go (halts_first {halt = halt} {s = s} {o = o} p e) h =
      halts_first p (kept.first_later (ending_of here halt) s (state_of o) (state_of (next o go)) e (next_later o go (λ a u. (h a).later u)))

  pub next_does : {A B : Type 0} {m : State → Outcome A} {go : A → State → Outcome B} → Does m → ((a : A) → Does (go a)) → Does (λ s. next (m s) go)
  next_does {m = m} {go = go} a h = record {
    same = λ s s' p. next_same go (a.same s s' p) h;
    later = λ u. kept.later_still u (state_of (m u)) (state_of (next (m u) go)) (a.later u) (next_later (m u) go (λ x t. (h x).later t));
  }

  pub bool_does : {A : Type 0} (b : Bool) {x y : State → Outcome A} → Does x → Does y → Does (λ s. elim b [ true ↦ x s | false ↦ y s ])
  bool_does true h g = h
  bool_does false h g = g

  -- ---- what is read of the state

  read_same : {A X : Type 0} (g : State → X) → ((s : State) → g (richer d more s) ≡ g s) → (f : X → State → Outcome A) → ((x : X) → Does (f x)) → {s s' : State} → Near s s' → Like (f (g s) s) (f (g s') s')
  read_same g is f h (beside {s = s} p) =
      subst (λ x. Like (f (g s) s) (f x (richer d more s))) (sym (is s)) ((h (g s)).same s (richer d more s) (beside p))

  -- what is the same in both states
  pub read_does : {A X : Type 0} (g : State → X) → ((s : State) → g (richer d more s) ≡ g s) → (f : X → State → Outcome A) → ((x : X) → Does (f x)) → Does (λ s. f (g s) s)
  read_does g is f h = record { same = λ s s' p. read_same g is f h p; later = λ u. (h (g u)).later u }

  result_does : {A : Type 0} (r : Result A Trap) → Does (λ s. trying r s)
  result_does (Ok a) = gives_does a
  result_does (Err trap) = trap_does trap

  -- what memory gives
  pub trying_does : {A : Type 0} (f : Memory → Result A Trap) → Does (λ s. trying (f s.memory) s)
  trying_does f = read_does (λ s. f s.memory) (λ s. refl) (λ r s. trying r s) (λ r. result_does r)

  pub present_does : {A : Type 0} (x : Option A) → Does (λ s. present x s)
  present_does None = stuck_does
  present_does (Some a) = gives_does a

  -- ---- what is changed

  memory_same : {A : Type 0} (f : Memory → Memory) (go : State → Outcome A) → Does go → {s s' : State} → Near s s' → Like (go (with_memory (f s.memory) s)) (go (with_memory (f s'.memory) s'))
  memory_same f go h (beside {s = s} p) =
      h.same (with_memory (f s.memory) s) (with_memory (f s.memory) (richer d more s)) (beside (kept.memory s (f s.memory) p))

  -- the memory
  pub memory_does : {A : Type 0} (f : Memory → Memory) {go : State → Outcome A} → Does go → Does (λ s. go (with_memory (f s.memory) s))
  memory_does f {go} h = record {
    same = λ s s' p. memory_same f go h p;
    later = λ u. kept.later_still u (with_memory (f u.memory) u) (state_of (go (with_memory (f u.memory) u))) (kept.memory_later u (f u.memory)) (h.later (with_memory (f u.memory) u));
  }

  session_same : {A : Type 0} (a : A) (cs : List Connection → List Connection) (n : List Connection → Option Text → Option Text) (ds : Areas → Areas) {s s' : State} → Near s s'
      → Like (gives a (with_session (cs s.connections) (n s.connections s.current) (ds s.descriptors) s)) (gives a (with_session (cs s'.connections) (n s'.connections s'.current) (ds s'.descriptors) s'))
  session_same a cs n ds (beside {s = s} p) = same_gives (beside (by_calls.session (cs s.connections) (n s.connections s.current) (ds s.descriptors) s p))

  -- connections, the current one, and descriptors
  pub session_does : {A : Type 0} (a : A) (cs : List Connection → List Connection) (n : List Connection → Option Text → Option Text) (ds : Areas → Areas)
      → Does (λ s. gives a (with_session (cs s.connections) (n s.connections s.current) (ds s.descriptors) s))
  session_does a cs n ds = record {
    same = λ s s' p. session_same a cs n ds p;
    later = λ u. by_calls.session_later (cs u.connections) (n u.connections u.current) (ds u.descriptors) u;
  }

  pub connections_does : {A : Type 0} (a : A) (cs : List Connection → List Connection) → Does (λ s. gives a (record s { connections = cs s.connections }))
  connections_does a cs = session_does a cs (λ old n. n) (λ ds. ds)

  pub descriptors_does : {A : Type 0} (a : A) (ds : Areas → Areas) → Does (λ s. gives a (record s { descriptors = ds s.descriptors }))
  descriptors_does a ds = session_does a (λ cs. cs) (λ old n. n) ds

  -- ---- the communication area

  pub refused_does : (A : Type 0) (line : ℕ) (code : ℤ) (sqlstate message : Text) → Does {A = A} (λ s. refused line code sqlstate message s)
  refused_does A line code sqlstate message = memory_does (λ m. told_area code sqlstate message line m) (finished_does A)

  pub raised_does : {A : Type 0} (line : ℕ) (finding : Finding) → Does {A = A} (λ s. raised line finding s)
  raised_does {A} line finding = refused_does A line (code_of finding) (sqlstate_of finding) (text_of_finding finding)

  pub begun_area_does : Does (λ s. begun_area s)
  begun_area_does = memory_does (λ m. fresh_area m) (gives_does tt)

  -- a notice is told, if there is one
  heard_does : {A : Type 0} (notice : Bool) {go : State → Outcome A} → Does go → Does (λ s. go (heard notice s))
  heard_does notice h = memory_does (λ m. noticed notice m) h

  -- ---- requests

  answered_later : (slot : ℕ) (request : Request) (xs : List Answer) (u : State) → G u (state_of (answered slot request xs u))
  answered_later slot request [] u = kept.same_later u
  answered_later slot request (a ∷ rest) u =
      let t : State = told (Some slot) request a.1 rest u in
      kept.later_still u t (with_session (changed_at slot (with_told (told_by a.1)) u.connections) u.current u.descriptors t)
      (by_calls.said_later (Some slot) request a.1 rest u)
      (by_calls.session_later (changed_at slot (with_told (told_by a.1)) u.connections) u.current u.descriptors t)

  answered_none : (slot : ℕ) (request : Request) (xs : List Answer) → Waits E d xs → (s : State) → s.answers ≡ [] → P s → Like (over (waiting (Some slot) request) s) (answered slot request xs (richer d more s))
  answered_none slot request [] w s none p = same_halts (w (Some slot) request) (beside p)
  answered_none slot request (a ∷ rest) w s none p =
      let t : State = told (Some slot) request a.1 rest (record s { turns = s.turns + d }) in
      halts_first p (kept.first_later (waits (Some slot) request) s t (with_session (changed_at slot (with_told (told_by a.1)) s.connections) s.current s.descriptors t)
      (w (Some slot) request tt s none)
      (by_calls.session_later (changed_at slot (with_told (told_by a.1)) s.connections) s.current s.descriptors t))

  answered_same : (slot : ℕ) (request : Request) (xs : List Answer) (s : State) → s.answers ≡ xs → P s → Like (answered slot request xs s) (answered slot request (xs ++ more) (richer d more s))
  answered_same slot request [] s e p = answered_none slot request more by_calls.waits s e p
  answered_same slot request (a ∷ rest) s e p =
      same_gives (beside (by_calls.session (changed_at slot (with_told (told_by a.1)) s.connections) s.current s.descriptors (told (Some slot) request a.1 rest s) (by_calls.said (Some slot) request a rest s e p)))

  asked_same : (slot : ℕ) (request : Request) {s s' : State} → Near s s' → Like (asked slot request s) (asked slot request s')
  asked_same slot request (beside {s = s} p) = answered_same slot request s.answers s refl p

  pub asked_does : (slot : ℕ) (request : Request) → Does (λ s. asked slot request s)
  asked_does slot request = record { same = λ s s' p. asked_same slot request p; later = λ u. answered_later slot request u.answers u }

  -- ---- texts and values that are read

  text_does : (t : TextArg ℕ) → Does (λ s. text_read t s)
  text_does absent = gives_does None
  text_does (word bytes) = gives_does (Some bytes)
  text_does (held p) = next_does (trying_does (λ m. text_at m p)) (λ bytes. gives_does (Some bytes))

  given_does : (t : TextArg ℕ) → Does (λ s. given_read t s)
  given_does absent = stuck_does
  given_does (word bytes) = gives_does bytes
  given_does (held p) = trying_does (λ m. text_at m p)

  value_does : (p : Place ℕ) → Does (λ s. value_read p s)
  value_does p = next_does (present_does (host_data p)) (λ h. trying_does (λ m. parameter m h))

  inputs_does : (ms : List (Member ℕ)) → Does (λ s. inputs_read ms s)
  inputs_does [] = gives_does no_inputs
  inputs_does (host p ∷ ms) = next_does (value_does p) (λ field. next_does (inputs_does ms) (λ rest. gives_does (with_param field rest)))
  inputs_does (constant bytes ∷ ms) = next_does (inputs_does ms) (λ rest. gives_does (with_param (Some bytes) rest))
  inputs_does (descriptor name ∷ ms) = next_does (given_does name) (λ bytes. next_does (inputs_does ms) (λ rest. gives_does (with_area_input bytes rest)))

  member_does : (m : Member ℕ) → Does (λ s. member_read m s)
  member_does (host p) = value_does p
  member_does (constant bytes) = gives_does (Some bytes)
  member_does (descriptor name) = stuck_does

  -- ---- connections

  found_does : (n : ℕ) (c : Option Connection) → Does (λ s. found_connection n c s)
  found_does n None = raised_does n found.NoConnection
  found_does n (Some c) = gives_does c

  connection_of_does : (n : ℕ) (name : Option Text) → Does (λ s. connection_of n name s)
  connection_of_does n None = raised_does n found.NoConnection
  connection_of_does n (Some name) = read_does (λ s. connection_named name s.connections) (λ s. refl) (λ c s. found_connection n c s) (λ c. found_does n c)

  wanted_same : (name : Option Text) (s : State) → wanted_name name (richer d more s) ≡ wanted_name name s
  wanted_same None s = refl
  wanted_same (Some name) s = refl

  connection_does : (n : ℕ) (name : Option Text) → Does (λ s. connection_for n name s)
  connection_does n name = read_does (λ s. wanted_name name s) (wanted_same name) (λ x s. connection_of n x s) (λ x. connection_of_does n x)

  -- ---- transaction control

  controlled_does : (n : ℕ) (r : Reply) → Does (λ s. controlled n r s)
  controlled_does n (Rows table tx notice) = heard_does notice (gives_does tt)
  controlled_does n (Done count tx notice) = heard_does notice (gives_does tt)
  controlled_does n (Refused sqlstate message tx) = raised_does n found.ControlRefused
  controlled_does n Connected = raised_does n found.ControlRefused
  controlled_does n NoTarget = raised_does n found.ControlRefused
  controlled_does n Broken = raised_does n found.ControlRefused

  control_sent_does : (n : ℕ) (c : Connection) (bytes : Text) → Does (λ s. control_sent n c bytes s)
  control_sent_does n c bytes = next_does (asked_does c.slot (request.Text bytes [])) (λ reply. controlled_does n reply)

  begun_does : (n : ℕ) (c : Connection) → Does (λ s. begun n c s)
  begun_does n c = bool_does (begins c) (control_sent_does n c begin_text) (gives_does tt)

  -- ---- what is stored

  one_stored : (n : ℕ) (x : Stored) → Does (λ s. stored_by n x s)
  one_stored n (Ok cut, m) = memory_does (λ old. warned cut m) (gives_does tt)
  one_stored n (Err (refused_there code), m) = memory_does (λ old. m) (raised_does n (found_by code))
  one_stored n (Err (trapped_there trap), m) = memory_does (λ old. m) (trap_does trap)

  field_does : (n : ℕ) (h : HostData) (row : ℕ) (field : Field) → Does (λ s. field_kept n h row field s)
  field_does n h row field = read_does (λ s. field_stored s.memory h row field) (λ s. refl) (λ x s. stored_by n x s) (λ x. one_stored n x)

  column_does : (n : ℕ) (h : HostData) (column row : ℕ) (rows : List (List Field)) → Does (λ s. column_kept n h column row rows s)
  column_does n h column row [] = gives_does tt
  column_does n h column row (fields ∷ rows) = next_does (field_does n h row (in_column column fields)) (λ _. column_does n h column (suc row) rows)

  targets_does : (n column : ℕ) (ps : List (Place ℕ)) (rows : List (List Field)) → Does (λ s. targets_kept n column ps rows s)
  targets_does n column [] rows = gives_does tt
  targets_does n column (p ∷ ps) rows =
      next_does (present_does (host_data p)) (λ h. next_does (column_does n h column 0 rows) (λ _. targets_does n (suc column) ps rows))

  measured_does : (n columns rows : ℕ) (ps : List (Place ℕ)) → Does (λ s. measured n columns rows ps s)
  measured_does n columns rows ps =
      bool_does (nat_lt columns (length ps)) (raised_does n found.TooManyTargets)
      (bool_does (nat_lt (length ps) columns) (raised_does n found.TooFewTargets)
      (bool_does (any_fewer rows ps) (raised_does n found.TooManyRows) (gives_does tt)))

  rows_into_does : (n : ℕ) (ps : List (Place ℕ)) (columns : ℕ) (rows : List (List Field)) → Does (λ s. rows_into n ps columns rows s)
  rows_into_does n ps columns rows = next_does (measured_does n columns (length rows) ps) (λ _. targets_does n 0 ps rows)

  counted_does : (n : ℕ) (rows : List (List Field)) {store : State → Outcome (Unit {0})} → Does store → Does (λ s. counted_rows n rows store s)
  counted_does n [] h = raised_does n found.NoData
  counted_does n (fields ∷ rows) h = h

  with_rows_does : (n : ℕ) (rows : List (List Field)) {store : State → Outcome (Unit {0})} → Does store → Does (λ s. with_rows n rows store s)
  with_rows_does n rows h = memory_does (λ m. counted_area (length rows) m) (counted_does n rows h)

  -- ---- replies

  taken_does : (n : ℕ) (r : Reply) → Does (λ s. taken n r s)
  taken_does n (Rows table tx notice) = heard_does notice (gives_does tt)
  taken_does n (Done count tx notice) = heard_does notice (gives_does tt)
  taken_does n (Refused sqlstate message tx) = refused_does (Unit {0}) n (server_code sqlstate.0) sqlstate.0 message
  taken_does n Connected = raised_does n found.ReplyOutOfPlace
  taken_does n NoTarget = raised_does n found.ReplyOutOfPlace
  taken_does n Broken = raised_does n found.ConnectionBroken

  done_does : (n : ℕ) (wanted : Bool) (count : Option ℕ) → Does (λ s. done n wanted count s)
  done_does n true (Some zero) = raised_does n found.NoData
  done_does n false (Some zero) = raised_does n found.NoData
  done_does n true (Some (suc k)) = raised_does n found.TooManyTargets
  done_does n true None = raised_does n found.TooManyTargets
  done_does n false (Some (suc k)) = gives_does tt
  done_does n false None = gives_does tt

  count_does : (n : ℕ) (wanted : Bool) (count : Option ℕ) → Does (λ s. count_told n wanted count s)
  count_does n wanted count = memory_does (λ m. counted_area (count_of count) m) (done_does n wanted count)

  replied_does : (n : ℕ) (wanted : Bool) (store : Sheet → State → Outcome (Unit {0})) → ((table : Sheet) → Does (store table)) → (r : Reply) → Does (λ s. replied n wanted store r s)
  replied_does n wanted store h (Rows table tx notice) = heard_does notice (h table)
  replied_does n wanted store h (Done count tx notice) = heard_does notice (count_does n wanted count)
  replied_does n wanted store h (Refused sqlstate message tx) = refused_does (Unit {0}) n (server_code sqlstate.0) sqlstate.0 message
  replied_does n wanted store h Connected = raised_does n found.ReplyOutOfPlace
  replied_does n wanted store h NoTarget = raised_does n found.ReplyOutOfPlace
  replied_does n wanted store h Broken = raised_does n found.ConnectionBroken

  -- ---- statements

  places_does : (ps : Option (List (Place ℕ))) → Does (λ s. into_places ps s)
  places_does None = stuck_does
  places_does (Some ps) = gives_does (hosts ps)

  outputs_does : (ms : List (Member ℕ)) → Does (λ s. outputs_read ms s)
  outputs_does [] = gives_does nowhere
  outputs_does (descriptor name ∷ ms) = next_does (given_does name) (λ bytes. gives_does (area bytes))
  outputs_does (host p ∷ ms) = places_does (places_of (host p ∷ ms))
  outputs_does (constant bytes ∷ ms) = stuck_does

  row_does : (n : ℕ) (name : Text) (table : Sheet) (rows : List (List Field)) → Does (λ s. row_into n name table rows s)
  row_does n name table [] = gives_does tt
  row_does n name table (fields ∷ []) = descriptors_does tt (λ ds. with_area name (items_of table.cols fields) ds)
  row_does n name table (fields ∷ others ∷ rows) = raised_does n found.TooManyRows

  rows_does : (n : ℕ) (outputs : Outputs) (table : Sheet) → Does (λ s. rows_stored n outputs table s)
  rows_does n nowhere table = gives_does tt
  rows_does n (hosts ps) table = rows_into_does n ps (length table.cols) table.rows
  rows_does n (area name) table = row_does n name table table.rows

  table_does : (n : ℕ) (outputs : Outputs) (table : Sheet) → Does (λ s. table_kept n outputs table s)
  table_does n outputs table = with_rows_does n table.rows (rows_does n outputs table)

  statement_does : (x : Statement ℕ) → Does (λ s. statement_read x s)
  statement_does (normal bytes) = gives_does (text bytes)
  statement_does (prepared name) = gives_does (execution name)
  statement_does (immediate name) = next_does (given_does name) (λ bytes. gives_does (text bytes))
  statement_does (opening head name) = gives_does (cursor head name)

  found_text_does : {A : Type 0} (n : ℕ) (x : Option Text) (make : Text → A) → Does (λ s. found_text n x make s)
  found_text_does n None make = raised_does n found.NoStatement
  found_text_does n (Some bytes) make = gives_does (make bytes)

  request_does : (n : ℕ) (x : Wanted) (c : Connection) → Does (λ s. request_of n x c s)
  request_does n (text bytes) c = gives_does (λ params. request.Text bytes params)
  request_does n (execution name) c = found_text_does n (prepared_text name c.prepared) (λ bytes params. request.Exec name params)
  request_does n (cursor head name) c = found_text_does n (prepared_text name c.prepared) (λ bytes params. request.Text (head ++ bytes) params)

  found_area_does : (n : ℕ) (x : Option (List Item)) → Does (λ s. found_area n x s)
  found_area_does n None = raised_does n found.NoDescriptor
  found_area_does n (Some items) = gives_does items

  area_does : (n : ℕ) (name : Text) → Does (λ s. area_found n name s)
  area_does n name = read_does (λ s. area_named name s.descriptors) (λ s. refl) (λ x s. found_area n x s) (λ x. found_area_does n x)

  behind_does : (n : ℕ) (params : List Field) (x : Option Text) → Does (λ s. params_behind n params x s)
  behind_does n params None = gives_does params
  behind_does n params (Some name) = next_does (area_does n name) (λ items. gives_does (params ++ contents items))

  params_does : (n : ℕ) (inputs : Inputs) → Does (λ s. params_of n inputs s)
  params_does n inputs = behind_does n inputs.params inputs.area

  outputs_found_does : (n : ℕ) (outputs : Outputs) → Does (λ s. outputs_found n outputs s)
  outputs_found_does n nowhere = gives_does tt
  outputs_found_does n (hosts ps) = gives_does tt
  outputs_found_does n (area name) = next_does (area_does n name) (λ items. gives_does tt)

  carried_out_does : (n : ℕ) (name : Option Text) (x : Wanted) (inputs : Inputs) (outputs : Outputs) → Does (λ s. carried_out n name x inputs outputs s)
  carried_out_does n name x inputs outputs =
      next_does begun_area_does (λ _.
      next_does (connection_does n name) (λ c.
      next_does (request_does n x c) (λ made.
      next_does (params_does n inputs) (λ params.
      next_does (outputs_found_does n outputs) (λ _.
      next_does (begun_does n c) (λ _.
      next_does (asked_does c.slot (made params)) (λ reply.
      replied_does n (is_wanted outputs) (table_kept n outputs) (λ table. table_does n outputs table) reply)))))))

  run_does : (n : ℕ) (connection : TextArg ℕ) (x : Statement ℕ) (ins outs : List (Member ℕ)) → Does (λ s. run_call n connection x ins outs s)
  run_does n connection x ins outs =
      next_does (text_does connection) (λ name.
      next_does (statement_does x) (λ wanted.
      next_does (inputs_does ins) (λ inputs.
      next_does (outputs_does outs) (λ outputs.
      carried_out_does n name wanted inputs outputs))))

  -- ---- connecting

  opened_does : (n : ℕ) (name : Text) (a : Answer) → Does (λ s. opened_by n name a s)
  opened_does n name (Some slot, Connected) =
      session_does tt (λ cs. cs ++ record { name = name; slot = slot; autocommit = false; told = Idle; prepared = [] } ∷ []) (λ old c. Some name) (λ ds. ds)
  opened_does n name (Some slot, Rows table tx notice) = raised_does n found.NotConnected
  opened_does n name (Some slot, Done count tx notice) = raised_does n found.NotConnected
  opened_does n name (Some slot, Refused sqlstate message tx) = raised_does n found.NotConnected
  opened_does n name (Some slot, NoTarget) = raised_does n found.NotConnected
  opened_does n name (Some slot, Broken) = raised_does n found.NotConnected
  opened_does n name (None, reply) = raised_does n found.NotConnected

  connecting_none : (n : ℕ) (name : Text) (r : Request) → IsConnect r → (xs : List Answer) → Waits E d xs → (s : State) → s.answers ≡ [] → P s → Like (over (waiting None r) s) (connecting n name r xs (richer d more s))
  connecting_none n name r asks [] w s none p = same_halts (w None r) (beside p)
  connecting_none n name r asks (a ∷ rest) w s none p =
      let t : State = told a.0 r a.1 rest (record s { turns = s.turns + d }) in
      halts_first p (kept.first_later (waits None r) s t (state_of (opened_by n name a t)) (w None r asks s none) ((opened_does n name a).later t))

  connecting_same : (n : ℕ) (name : Text) (r : Request) → IsConnect r → (xs : List Answer) (s : State) → s.answers ≡ xs → P s → Like (connecting n name r xs s) (connecting n name r (xs ++ more) (richer d more s))
  connecting_same n name r asks [] s e p = connecting_none n name r asks more by_calls.waits s e p
  connecting_same n name r asks (a ∷ rest) s e p =
      (opened_does n name a).same (told a.0 r a.1 rest s) (richer d more (told a.0 r a.1 rest s)) (beside (by_calls.said a.0 r a rest s e p))

  connecting_near : (n : ℕ) (name : Text) (r : Request) → IsConnect r → {s s' : State} → Near s s' → Like (connecting n name r s.answers s) (connecting n name r s'.answers s')
  connecting_near n name r asks (beside {s = s} p) = connecting_same n name r asks s.answers s refl p

  connecting_later : (n : ℕ) (name : Text) (r : Request) (xs : List Answer) (u : State) → G u (state_of (connecting n name r xs u))
  connecting_later n name r [] u = kept.same_later u
  connecting_later n name r (a ∷ rest) u =
      let t : State = told a.0 r a.1 rest u in
      kept.later_still u t (state_of (opened_by n name a t)) (by_calls.said_later a.0 r a.1 rest u) ((opened_does n name a).later t)

  connecting_does : (n : ℕ) (name : Text) (r : Request) → IsConnect r → Does (λ s. connecting n name r s.answers s)
  connecting_does n name r asks = record { same = λ s s' p. connecting_near n name r asks p; later = λ u. connecting_later n name r u.answers u }

  unless_does : (n : ℕ) (name : Text) (r : Request) → IsConnect r → (c : Option Connection) → Does (λ s. unless_named n name r c s)
  unless_does n name r asks (Some c) = raised_does n found.NotConnected
  unless_does n name r asks None = connecting_does n name r asks

  connect_does : (n : ℕ) (target user password name : TextArg ℕ) → Does (λ s. connect_call n target user password name s)
  connect_does n target user password name =
      next_does (given_does target) (λ server.
      next_does (text_does user) (λ by.
      next_does (text_does password) (λ word.
      next_does (text_does name) (λ called.
      next_does begun_area_does (λ _.
      read_does (λ s. connection_named (own_name server called) s.connections) (λ s. refl) (λ c s. unless_named n (own_name server called) (request.Connect server by word) c s)
      (λ c. unless_does n (own_name server called) (request.Connect server by word) tt c))))))

  set_connection_does : (n : ℕ) (name : TextArg ℕ) → Does (λ s. set_connection_call n name s)
  set_connection_does n name =
      next_does (given_does name) (λ called.
      next_does begun_area_does (λ _.
      next_does (connection_does n (Some called)) (λ c.
      session_does tt (λ cs. cs) (λ old current. Some called) (λ ds. ds))))

  -- ---- disconnecting

  closed_does : (c : Connection) → Does (λ s. closed c s)
  closed_does c =
      next_does (asked_does c.slot request.Close) (λ reply.
      session_does tt (λ cs. without_connection c.name cs) (λ cs current. current_without c.name current (without_connection c.name cs)) (λ ds. ds))

  all_closed_does : (cs : List Connection) → Does (λ s. all_closed cs s)
  all_closed_does [] = gives_does tt
  all_closed_does (c ∷ cs) = next_does (closed_does c) (λ _. all_closed_does cs)

  one_closed_does : (n : ℕ) (name : Option Text) → Does (λ s. one_closed n name s)
  one_closed_does n name = next_does (connection_does n name) (λ c. closed_does c)

  disconnected_does : (n : ℕ) (name : Text) → Does (λ s. disconnected n name s)
  disconnected_does n name =
      bool_does (same_name name (codes "CURRENT")) (one_closed_does n None)
      (bool_does (same_name name (codes "ALL"))
      (read_does (λ s. reverse s.connections) (λ s. refl) (λ cs s. all_closed cs s) (λ cs. all_closed_does cs))
      (one_closed_does n (Some name)))

  disconnect_does : (n : ℕ) (name : TextArg ℕ) → Does (λ s. disconnect_call n name s)
  disconnect_does n name = next_does (given_does name) (λ called. next_does begun_area_does (λ _. disconnected_does n called))

  -- ---- autocommit and transaction control

  switched_does : (on : Bool) (c : Connection) → Does (λ s. switched on c s)
  switched_does on c = connections_does tt (λ cs. changed_at c.slot (with_autocommit on) cs)

  autocommit_set_does : (n : ℕ) (on : Bool) (c : Connection) → Does (λ s. autocommit_set n on c s)
  autocommit_set_does n on c =
      bool_does (commits_first on c) (next_does (control_sent_does n c (codes "commit")) (λ _. switched_does on c)) (switched_does on c)

  autocommit_does : (n : ℕ) (on : Bool) (connection : TextArg ℕ) → Does (λ s. autocommit_call n on connection s)
  autocommit_does n on connection =
      next_does (text_does connection) (λ name.
      next_does begun_area_does (λ _.
      next_does (connection_does n name) (λ c. autocommit_set_does n on c)))

  control_does : (n : ℕ) (connection : TextArg ℕ) (bytes : Text) → Does (λ s. control_call n connection bytes s)
  control_does n connection bytes =
      next_does (text_does connection) (λ name.
      next_does begun_area_does (λ _.
      next_does (connection_does n name) (λ c. control_sent_does n c bytes)))

  -- ---- prepared statements

  prepared_anew_does : (slot : ℕ) (change : List (Text × Text) → List (Text × Text)) → Does (λ s. gives (tt {0}) (prepared_anew slot change s))
  prepared_anew_does slot change = connections_does tt (λ cs. changed_at slot (λ c. record c { prepared = change c.prepared }) cs)

  prepare_does : (n : ℕ) (connection : TextArg ℕ) (name : Text) (source : TextArg ℕ) → Does (λ s. prepare_call n connection name source s)
  prepare_does n connection name source =
      next_does (text_does connection) (λ called.
      next_does (given_does source) (λ bytes.
      next_does begun_area_does (λ _.
      next_does (connection_does n called) (λ c.
      next_does (asked_does c.slot (request.Prepare name (with_marks bytes))) (λ reply.
      next_does (taken_does n reply) (λ _.
      prepared_anew_does c.slot (with_text name (with_marks bytes))))))))

  deallocate_does : (n : ℕ) (connection : TextArg ℕ) (name : Text) → Does (λ s. deallocate_call n connection name s)
  deallocate_does n connection name =
      next_does (text_does connection) (λ called.
      next_does begun_area_does (λ _.
      next_does (connection_does n called) (λ c.
      next_does (found_text_does n (prepared_text name c.prepared) (λ bytes. bytes)) (λ _.
      next_does (asked_does c.slot (request.Deallocate name)) (λ reply.
      next_does (taken_does n reply) (λ _.
      prepared_anew_does c.slot (without_text name)))))))

  -- ---- descriptors

  with_descriptor_does : (name : Text) (items : List Item) → Does (λ s. gives (tt {0}) (with_descriptor name items s))
  with_descriptor_does name items = descriptors_does tt (λ ds. with_area name items ds)

  allocate_does : (n : ℕ) (name : TextArg ℕ) → Does (λ s. allocate_call n name s)
  allocate_does n name = next_does (given_does name) (λ called. next_does begun_area_does (λ _. with_descriptor_does called []))

  free_does : (n : ℕ) (name : TextArg ℕ) → Does (λ s. deallocate_descriptor_call n name s)
  free_does n name =
      next_does (given_does name) (λ called.
      next_does begun_area_does (λ _.
      next_does (area_does n called) (λ items.
      descriptors_does tt (λ ds. without_area called ds))))

  found_number_does : (n : ℕ) (x : Option ℤ) → Does (λ s. found_number n x s)
  found_number_does n None = raised_does n found.NotAnInteger
  found_number_does n (Some z) = gives_does z

  in_range_does : (n : ℕ) (x : Option ℕ) → Does (λ s. in_range n x s)
  in_range_does n None = raised_does n found.DescriptorIndex
  in_range_does n (Some k) = gives_does k

  index_does : (n low high : ℕ) (field : Field) → Does (λ s. index_of n low high field s)
  index_does n low high field = next_does (found_number_does n (number_as Long field)) (λ z. in_range_does n (within low high z))

  stored_in_does : (n : ℕ) (m : Member ℕ) (field : Field) → Does (λ s. stored_in n m field s)
  stored_in_does n (host p) field = next_does (present_does (host_data p)) (λ h. field_does n h 0 field)
  stored_in_does n (constant bytes) field = stuck_does
  stored_in_does n (descriptor name) field = stuck_does

  get_count_does : (n : ℕ) (name : TextArg ℕ) (target : Member ℕ) → Does (λ s. get_count_call n name target s)
  get_count_does n name target =
      next_does (given_does name) (λ called.
      next_does begun_area_does (λ _.
      next_does (area_does n called) (λ items.
      stored_in_does n target (Some (decimal (length items))))))

  set_count_does : (n : ℕ) (name : TextArg ℕ) (source : Member ℕ) → Does (λ s. set_count_call n name source s)
  set_count_does n name source =
      next_does (given_does name) (λ called.
      next_does (member_does source) (λ field.
      next_does begun_area_does (λ _.
      next_does (area_does n called) (λ items.
      next_does (index_does n 0 1000 field) (λ k.
      with_descriptor_does called (resized k items))))))

  item_does : (n : ℕ) (indicated : Bool) (target : Member ℕ) (field : Field) → Does (λ s. item_stored n indicated target field s)
  item_does n indicated target (Some bytes) = stored_in_does n target (Some bytes)
  item_does n indicated target None =
      bool_does (has_indicator target) (stored_in_does n target None) (bool_does indicated (gives_does tt) (stored_in_does n target None))

  items_does : (n : ℕ) (indicated : Bool) (it : Item) (is : List (ItemMember ℕ)) → Does (λ s. items_stored n indicated it is s)
  items_does n indicated it [] = gives_does tt
  items_does n indicated it (i ∷ is) = next_does (item_does n indicated i.1 (item_text i.0 it)) (λ _. items_does n indicated it is)

  get_items_does : (n : ℕ) (name : TextArg ℕ) (index : Member ℕ) (is : List (ItemMember ℕ)) → Does (λ s. get_items_call n name index is s)
  get_items_does n name index is =
      next_does (given_does name) (λ called.
      next_does (member_does index) (λ field.
      next_does begun_area_does (λ _.
      next_does (area_does n called) (λ items.
      next_does (index_does n 1 (length items) field) (λ k.
      next_does (present_does (item_at k items)) (λ it.
      items_does n (asks_indicator is) it is))))))

  values_does : (is : List (ItemMember ℕ)) → Does (λ s. values_read is s)
  values_does [] = gives_does []
  values_does (i ∷ is) = next_does (member_does i.1) (λ field. next_does (values_does is) (λ rest. gives_does ((i.0, field) ∷ rest)))

  item_set_does : (n : ℕ) (name : Text) (k : ℕ) (items : List Item) (x : Option Item) → Does (λ s. item_set n name k items x s)
  item_set_does n name k items None = raised_does n found.NotAnInteger
  item_set_does n name k items (Some it) = with_descriptor_does name (slice_set (raised_to k items) (k - 1) it)

  items_set_does : (n : ℕ) (name : Text) (k : ℕ) (vs : List (Kind × Field)) → Does (λ s. items_set n name k vs s)
  items_set_does n name k [] = gives_does tt
  items_set_does n name k (v ∷ vs) =
      next_does (area_does n name) (λ items.
      next_does (item_set_does n name k items (set_item v.0 v.1 (or_new (item_at k items)))) (λ _.
      items_set_does n name k vs))

  set_items_does : (n : ℕ) (name : TextArg ℕ) (index : Member ℕ) (is : List (ItemMember ℕ)) → Does (λ s. set_items_call n name index is s)
  set_items_does n name index is =
      next_does (given_does name) (λ called.
      next_does (member_does index) (λ field.
      next_does (values_does is) (λ values.
      next_does begun_area_does (λ _.
      next_does (area_does n called) (λ items.
      next_does (index_does n 1 1000 field) (λ k.
      items_set_does n called k values))))))

  -- ---- the calls

  call_does : (n : ℕ) (x : Call ℕ) → Does (λ s. call_done n x s)
  call_does n (run connection x ins outs) = run_does n connection x ins outs
  call_does n (connect target user password name) = connect_does n target user password name
  call_does n (disconnect name) = disconnect_does n name
  call_does n (set_connection name) = set_connection_does n name
  call_does n (set_autocommit on connection) = autocommit_does n on connection
  call_does n (control connection bytes) = control_does n connection bytes
  call_does n (prepare connection name source) = prepare_does n connection name source
  call_does n (deallocate connection name) = deallocate_does n connection name
  call_does n (allocate_descriptor name) = allocate_does n name
  call_does n (deallocate_descriptor name) = free_does n name
  call_does n (get_count name target) = get_count_does n name target
  call_does n (set_count name source) = set_count_does n name source
  call_does n (get_items name index is) = get_items_does n name index is
  call_does n (set_items name index is) = set_items_does n name index is

  pub cut_does : (c : Cut ℕ) → Does (λ s. cut_done c s)
  cut_does c = call_does c.line c.call

  if_cut_does : (x : Option (Cut ℕ)) → Does (λ s. if_cut x s)
  if_cut_does None = stuck_does
  if_cut_does (Some c) = cut_does c

  pub library_call_does : (name : LibName) (args : List (Arg ℕ)) → Does (λ s. library_call name args s)
  library_call_does name args = if_cut_does (cut leads name args)
