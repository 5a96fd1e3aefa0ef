-- A statement makes no object and ends none, whatever it stores and whatever is answered.
use Rattle.std.proofs.Common.{◌≡◌, ℕ, zero, suc, Bool, true, false, ℤ, List, [], ◌∷◌, ◌++◌, length, Option, Some, None, Result, Ok, Err, subst}
use Rattle.std.specs.Prelude.{pos, negsuc, nat_lt, reverse, codes}
use Rattle.std.specs.Fmt.{decimal}
use Rattle.ec_arguments.specs.Arguments.{TextArg, absent, word, held}
use Rattle.ec_base.specs.declared.stop.Trap.{Trap}
use Rattle.ec_ctypes.specs.declared.embedded.emb.Item.{Item as Kind}
use Rattle.ec_ctypes.specs.declared.types.arith.Arith.TheVariants.{Long}
use Rattle.ec_ctypes.specs.trees.Types.{StructData}
use Rattle.ec_link.specs.declared.reply.Reply.{Reply}
use Rattle.ec_link.specs.declared.reply.Reply.TheVariants.{Connected, NoTarget, Rows, Done, Refused, Broken}
use Rattle.ec_link.specs.declared.request.Request.{Request}
use Rattle.ec_link.specs.declared.request.Request.TheVariants as request
use Rattle.ec_link.specs.Table.{Sheet}
use Rattle.ec_memory_defs.specs.Memory.{Memory, alive, ended, and_then, integer_type, number, moved, put, store, text_at}
use Rattle.ec_transfer_defs.specs.Area.{Member, at as member_at, with_member, with_members, opening, sqlcode, sqlerrml, sqlerrmc, sqlstate, sqlwarn, sqlerrd_2, text_length, in_sqlerrmc, message_on}
use Rattle.ec_transfer_defs.specs.Conversion.{parameter, bytes_place, with_bytes, with_indicator, trapped as trapped_there, refused as refused_there, Stored, or_before, null_stored, told, value_told, bytes_stored, field_stored, told_length, is_cut, field_bytes}
use Rattle.ec_transfer_defs.specs.Hosts.{IndicatorData, HostData}
use Rattle.ec_transfer_defs.specs.declared.finding.Finding.{Finding}
use Rattle.ec_meaning_defs.specs.evaluation.State.{Answer, Connection, Item, State}
use Rattle.ec_call_defs.specs.Outcomes.{Text, Field, Outcome, gives, finished, over, next, trying, present, with_memory, fresh_area, told_area, warned_area, noticed_area, counted_area, noticed, refused, raised, begun_area}
use Rattle.ec_call_defs.specs.Connections.{exchange, connection_named, wanted_name, found_connection, connection_of, connection_for, answered, asked, controlled, control_sent, begins, begin_text, begun, same_name}
use Rattle.ec_call_defs.specs.Inputs.{text_read, given_read}
use Rattle.ec_call_defs.specs.Storing.{warned, found_by, stored_by, field_kept, in_column, counted_rows, with_rows}
use Rattle.ec_call_defs.specs.Answers.{taken, count_of, done, count_told}
use Rattle.ec_call_defs.specs.Areas.{without_area, resized, number_as, within, item_at, item_text, set_item}
use Rattle.ec_call_defs.specs.Running.{Wanted, text, execution, cursor, row_into, prepared_text, found_text, request_of, found_area, area_found, params_behind}
use Rattle.ec_call_defs.specs.Connecting.{opened_by, connecting, unless_named, own_name, connect_call, set_connection_call}
use Rattle.ec_call_defs.specs.Disconnecting.{closed, all_closed, one_closed, disconnected, disconnect_call}
use Rattle.ec_call_defs.specs.Marks.{with_marks}
use Rattle.ec_call_defs.specs.Autocommit.{switched, commits_first, autocommit_set, autocommit_call}
use Rattle.ec_call_defs.specs.Control.{control_call}
use Rattle.ec_call_defs.specs.Preparing.{with_text, without_text, prepared_anew, prepare_call, deallocate_call}
use Rattle.ec_call_defs.specs.Descriptors.{with_descriptor, allocate_call, deallocate_descriptor_call, found_number, in_range, index_of, or_new, item_set, items_set}
use Rattle.ec_direct_defs.specs.Leaves.{Leaf, leaf_data}
use Rattle.ec_direct_defs.specs.Statements as direct
use Rattle.ec_direct_defs.specs.Statements.{Input, stored, Sent, Outputs, nowhere, into_leaves, into_area, Asked, sends, executes, reads_text, opens, Statement, runs, connects, disconnects, sets_connection, sets_autocommit, controls, prepares, deallocates, allocates, frees, gets_count, sets_count, gets_items, sets_items}
use Rattle.ec_direct_defs.specs.Inputs.{leaf_read, input_read, values_read, items_read}
use Rattle.ec_direct_defs.specs.Storing.{Targets, no_targets, leaf_targets, area_target, are_wanted, any_smaller}
use Rattle.ec_direct_defs.specs.Executing as own
use Rattle.ec_sim_statement_laws.proofs.statement_lemmas.SharedInputs.{area_read}
use Rattle.ec_sim_statement_laws.proofs.statement_lemmas.SharedStoring as kept
use Rattle.ec_sim_statement_laws.proofs.statement_lemmas.SharedStoring.{rows_kept, counted, leaves_kept, into_targets, table_kept}
use Rattle.ec_sim_statement_laws.proofs.statement_lemmas.OwnWords.{own_same}
use Rattle.ec_sim_statement_laws.proofs.statement_lemmas.SharedExecuting.{asked_read, targets_read, targets_found, with_notice, has_indicator, asks_indicator, answer_kept, carried_out, run_over, kept_in, count_got, count_set, item_kept, items_kept, items_got, items_given, statement_done}
use Rattle.ec_call_defs.specs.Steps.{settled}
use Rattle.ec_sim_statement_laws.specs.statement.Lives.{Tidy, LeavesTidy}
use Rattle.ec_sim_statement_laws.proofs.statement_lemmas.Memories.{tidy_same, tidy_then, OkIs, ok_then, with_cells_tidy, store_tidy}
use Rattle.ec_memory_defs.specs.Cells.{set_cells}

abbrev pub Keeps : {A : Type 0} → Memory → Outcome A → Type 0
Keeps m (gives a t) = Tidy m t.memory
Keeps m (finished t) = Tidy m t.memory
Keeps m (over halt t) = Unit {0}

keeps_then : {A : Type 0} (m n : Memory) (r : Outcome A) → Tidy m n → Keeps n r → Keeps m r
keeps_then m n (gives a t) h k = tidy_then m n t.memory h k
keeps_then m n (finished t) h k = tidy_then m n t.memory h k
keeps_then m n (over halt t) h k = tt

next_keeps : {A B : Type 0} (m : Memory) (r : Outcome A) (k : A → State → Outcome B) → Keeps m r → ((a : A) (t : State) → Keeps t.memory (k a t)) → Keeps m (next r k)
next_keeps m (gives a t) k h f = keeps_then m t.memory (k a t) h (f a t)
next_keeps m (finished t) k h f = h
next_keeps m (over halt t) k h f = tt

test_keeps : {A : Type 0} (m : Memory) (b : Bool) (x y : Outcome A) → Keeps m x → Keeps m y → Keeps m (elim b [ true ↦ x | false ↦ y ])
test_keeps m true x y p q = p
test_keeps m false x y p q = q

trying_keeps : {A : Type 0} (r : Result A Trap) (s : State) → Keeps s.memory (trying r s)
trying_keeps (Ok a) s = tidy_same s.memory
trying_keeps (Err trap) s = tt

present_keeps : {A : Type 0} (x : Option A) (s : State) → Keeps s.memory (present x s)
present_keeps (Some a) s = tidy_same s.memory
present_keeps None s = tt

-- ---- the communication area

member_tidy : (m : Memory) (x : Member) → Tidy m (with_member m x)
member_tidy [] x = tt
member_tidy (ended ∷ m) x = (tt, tidy_same m)
member_tidy (alive cells ∷ m) x = (tt, tidy_same m)

members_tidy : (m : Memory) (xs : List Member) → Tidy m (with_members m xs)
members_tidy m [] = tidy_same m
members_tidy m (x ∷ xs) = tidy_then m (with_member m x) (with_members (with_member m x) xs) (member_tidy m x) (members_tidy (with_member m x) xs)

fresh_tidy : (m : Memory) → Tidy m (fresh_area m)
unfolding fresh_area
fresh_tidy m = members_tidy m opening

told_tidy : (code : ℤ) (state message : Text) (line : ℕ) (m : Memory) → Tidy m (told_area code state message line m)
unfolding told_area
told_tidy code state message line m = members_tidy m (sqlcode code ∷ sqlerrml (text_length (in_sqlerrmc (message_on message line))) ∷ sqlerrmc (in_sqlerrmc (message_on message line)) ∷ sqlstate state ∷ [])

warned_tidy : (cut : Bool) (m : Memory) → Tidy m (warned cut m)
unfolding warned_area
warned_tidy true m = members_tidy m (sqlwarn (codes "WW") ∷ [])
warned_tidy false m = tidy_same m

noticed_tidy : (notice : Bool) (m : Memory) → Tidy m (noticed notice m)
unfolding noticed_area
noticed_tidy true m = members_tidy m (member_at 240 (codes "W") ∷ member_at 242 (codes "W") ∷ [])
noticed_tidy false m = tidy_same m

counted_tidy : (n : ℕ) (m : Memory) → Tidy m (counted_area n m)
unfolding counted_area
counted_tidy n m = members_tidy m (sqlerrd_2 (pos n) ∷ [])

begun_keeps : (s : State) → Keeps s.memory (begun_area s)
begun_keeps s = fresh_tidy s.memory

-- ---- texts and values

text_keeps : (a : TextArg ℕ) (s : State) → Keeps s.memory (text_read a s)
text_keeps absent s = tidy_same s.memory
text_keeps (word bytes) s = tidy_same s.memory
text_keeps (held p) s = next_keeps s.memory (trying (text_at s.memory p) s) (λ bytes t. gives (Some bytes) t) (trying_keeps (text_at s.memory p) s) (λ bytes t. tidy_same t.memory)

given_keeps : (a : TextArg ℕ) (s : State) → Keeps s.memory (given_read a s)
given_keeps absent s = tt
given_keeps (word bytes) s = tidy_same s.memory
given_keeps (held p) s = trying_keeps (text_at s.memory p) s

area_keeps : (a : Option (TextArg ℕ)) (s : State) → Keeps s.memory (area_read a s)
area_keeps None s = tidy_same s.memory
area_keeps (Some name) s = next_keeps s.memory (given_read name s) (λ bytes t. gives (Some bytes) t) (given_keeps name s) (λ bytes t. tidy_same t.memory)

module _ (structs : List StructData) where
  leaf_keeps : (l : Leaf ℕ) (s : State) → Keeps s.memory (leaf_read structs l s)
  leaf_keeps l s = next_keeps s.memory (present (leaf_data structs l) s) (λ h t. trying (parameter t.memory h) t) (present_keeps (leaf_data structs l) s) (λ h t. trying_keeps (parameter t.memory h) t)

  input_keeps : (x : Input ℕ) (s : State) → Keeps s.memory (input_read structs x s)
  input_keeps (stored l) s = leaf_keeps l s
  input_keeps (direct.constant bytes) s = tidy_same s.memory

  values_keep : (xs : List (Input ℕ)) (s : State) → Keeps s.memory (values_read structs xs s)
  values_keep [] s = tidy_same s.memory
  values_keep (x ∷ xs) s =
      next_keeps s.memory (input_read structs x s) _ (input_keeps x s) (λ field t.
      next_keeps t.memory (values_read structs xs t) _ (values_keep xs t) (λ fields u. tidy_same u.memory))

  items_keep : (is : List (Kind × Input ℕ)) (s : State) → Keeps s.memory (items_read structs is s)
  items_keep [] s = tidy_same s.memory
  items_keep (i ∷ is) s =
      next_keeps s.memory (input_read structs i.1 s) _ (input_keeps i.1 s) (λ field t.
      next_keeps t.memory (items_read structs is t) _ (items_keep is t) (λ fields u. tidy_same u.memory))

asked_keeps : (x : Asked ℕ) (s : State) → Keeps s.memory (asked_read x s)
asked_keeps (sends bytes) s = tidy_same s.memory
asked_keeps (executes name) s = tidy_same s.memory
asked_keeps (reads_text a) s = next_keeps s.memory (given_read a s) (λ bytes t. gives (text bytes) t) (given_keeps a s) (λ bytes t. tidy_same t.memory)
asked_keeps (opens head name) s = tidy_same s.memory

targets_keep : (x : Outputs ℕ) (s : State) → Keeps s.memory (targets_read x s)
targets_keep nowhere s = tidy_same s.memory
targets_keep (into_leaves ls) s = tidy_same s.memory
targets_keep (into_area name) s = next_keeps s.memory (given_read name s) (λ bytes t. gives (area_target bytes) t) (given_keeps name s) (λ bytes t. tidy_same t.memory)

-- ---- connections

module _ (line : ℕ) where
  found_keeps : (c : Option Connection) (s : State) → Keeps s.memory (found_connection line c s)
  found_keeps None s = told_tidy _ _ _ line s.memory
  found_keeps (Some c) s = tidy_same s.memory

  named_keeps : (name : Option Text) (s : State) → Keeps s.memory (connection_of line name s)
  named_keeps None s = told_tidy _ _ _ line s.memory
  named_keeps (Some name) s = found_keeps (connection_named name s.connections) s

  connection_keeps : (name : Option Text) (s : State) → Keeps s.memory (connection_for line name s)
  connection_keeps name s = named_keeps (wanted_name name s) s

  answered_keeps : (slot : ℕ) (r : Request) (answers : List Answer) (s : State) → Keeps s.memory (answered slot r answers s)
  answered_keeps slot r [] s = tt
  answered_keeps slot r (answer ∷ more) s = tidy_same s.memory

  reply_keeps : (slot : ℕ) (r : Request) (s : State) → Keeps s.memory (asked slot r s)
  reply_keeps slot r s = answered_keeps slot r s.answers s

  controlled_keeps : (reply : Reply) (s : State) → Keeps s.memory (controlled line reply s)
  controlled_keeps (Rows table tx notice) s = noticed_tidy notice s.memory
  controlled_keeps (Done count tx notice) s = noticed_tidy notice s.memory
  controlled_keeps (Refused state message tx) s = told_tidy _ _ _ line s.memory
  controlled_keeps Connected s = told_tidy _ _ _ line s.memory
  controlled_keeps NoTarget s = told_tidy _ _ _ line s.memory
  controlled_keeps Broken s = told_tidy _ _ _ line s.memory

  control_keeps : (c : Connection) (bytes : Text) (s : State) → Keeps s.memory (control_sent line c bytes s)
  control_keeps c bytes s = next_keeps s.memory (asked c.slot (request.Text bytes []) s) (λ reply t. controlled line reply t) (reply_keeps c.slot (request.Text bytes []) s) (λ reply t. controlled_keeps reply t)

  begin_keeps : (c : Connection) (s : State) → Keeps s.memory (begun line c s)
  begin_keeps c s = test_keeps s.memory (begins c) (control_sent line c begin_text s) (gives tt s) (control_keeps c begin_text s) (tidy_same s.memory)

  taken_keeps : (reply : Reply) (s : State) → Keeps s.memory (taken line reply s)
  taken_keeps (Rows table tx notice) s = noticed_tidy notice s.memory
  taken_keeps (Done count tx notice) s = noticed_tidy notice s.memory
  taken_keeps (Refused state message tx) s = told_tidy _ _ _ line s.memory
  taken_keeps Connected s = told_tidy _ _ _ line s.memory
  taken_keeps NoTarget s = told_tidy _ _ _ line s.memory
  taken_keeps Broken s = told_tidy _ _ _ line s.memory

  -- ---- answers

  done_keeps : (wanted : Bool) (count : Option ℕ) (s : State) → Keeps s.memory (done line wanted count s)
  done_keeps true (Some zero) s = told_tidy _ _ _ line s.memory
  done_keeps false (Some zero) s = told_tidy _ _ _ line s.memory
  done_keeps true (Some (suc n)) s = told_tidy _ _ _ line s.memory
  done_keeps true None s = told_tidy _ _ _ line s.memory
  done_keeps false (Some (suc n)) s = tidy_same s.memory
  done_keeps false None s = tidy_same s.memory

  count_keeps : (wanted : Bool) (count : Option ℕ) (s : State) → Keeps s.memory (count_told line wanted count s)
  count_keeps wanted count s =
      keeps_then s.memory (counted_area (count_of count) s.memory) (count_told line wanted count s) (counted_tidy (count_of count) s.memory)
      (done_keeps wanted count (with_memory (counted_area (count_of count) s.memory) s))

  -- behind a notice, if there is one
  behind_notice : {A : Type 0} (notice : Bool) (go : State → Outcome A) → ((s : State) → Keeps s.memory (go s)) → (s : State) → Keeps s.memory (go (with_notice notice s))
  behind_notice true go f s =
      keeps_then s.memory (noticed_area s.memory) (go (with_notice true s)) (noticed_tidy true s.memory) (f (with_notice true s))
  behind_notice false go f s = f s

  rows_counted : (rows : List (List Field)) (store : State → Outcome (Unit {0})) → ((s : State) → Keeps s.memory (store s)) → (s : State) → Keeps s.memory (counted_rows line rows store s)
  rows_counted [] store f s = told_tidy _ _ _ line s.memory
  rows_counted (fields ∷ rows) store f s = f s

  with_rows_keeps : (rows : List (List Field)) (store : State → Outcome (Unit {0})) → ((s : State) → Keeps s.memory (store s)) → (s : State) → Keeps s.memory (with_rows line rows store s)
  with_rows_keeps rows store f s =
      keeps_then s.memory (counted_area (length rows) s.memory) (with_rows line rows store s) (counted_tidy (length rows) s.memory)
      (rows_counted rows store f (with_memory (counted_area (length rows) s.memory) s))

  -- ---- one field

  before_tidy : (m : Memory) (cut : Bool) (r : Result Memory Trap) → OkIs (λ n. Tidy m n) r → Tidy m (or_before m cut r).1
  before_tidy m cut (Ok n) h = h
  before_tidy m cut (Err trap) h = tidy_same m

  indicator_tidy : (m : Memory) (i : IndicatorData) (row : ℕ) (z : ℤ) → OkIs (λ n. Tidy m n) (with_indicator m i row z)
  indicator_tidy m i row z =
      ok_then (λ n. Tidy m n) (moved m i.place (pos row) i.step) (λ p. store m p (integer_type i.kind) (number z)) (λ p. store_tidy m p (integer_type i.kind) (number z))

  bytes_tidy : (m : Memory) (h : HostData) (row : ℕ) (bytes : List ℕ) → OkIs (λ n. Tidy m n) (with_bytes m h row bytes)
  bytes_tidy m h row bytes =
      ok_then (λ n. Tidy m n) (moved m h.place (pos row) h.step) (λ p. and_then (bytes_place m p h.holds) (λ q. put m q bytes)) (λ p.
      ok_then (λ n. Tidy m n) (bytes_place m p h.holds) (λ q. put m q bytes) (λ q. with_cells_tidy m q (set_cells bytes)))

  null_tidy : (m : Memory) (h : HostData) (row : ℕ) (i : Option IndicatorData) → Tidy m (null_stored m h row i).1
  null_tidy m h row None = tidy_same m
  null_tidy m h row (Some i) = before_tidy m false (with_indicator m i row (negsuc 0)) (indicator_tidy m i row (negsuc 0))

  told_keeps : (m : Memory) (i : Option IndicatorData) (row : ℕ) (cut : Bool) (n : ℕ) → Tidy m (told m i row cut n).1
  told_keeps m None row cut n = tidy_same m
  told_keeps m (Some i) row cut n = before_tidy m cut (with_indicator m i row (told_length i.kind cut n)) (indicator_tidy m i row (told_length i.kind cut n))

  value_tidy : (m : Memory) (h : HostData) (row : ℕ) (cut : Bool) (n : ℕ) (r : Result Memory Trap) → OkIs (λ o. Tidy m o) r → Tidy m (value_told m h row cut n r).1
  value_tidy m h row cut n (Err trap) t = tidy_same m
  value_tidy m h row cut n (Ok o) t = tidy_then m o (told o h.indicator row cut n).1 t (told_keeps o h.indicator row cut n)

  found_bytes_tidy : (m : Memory) (h : HostData) (row : ℕ) (field : List ℕ) (r : Result (List ℕ) Finding) → Tidy m (bytes_stored m h row field r).1
  found_bytes_tidy m h row field (Err finding) = tidy_same m
  found_bytes_tidy m h row field (Ok bytes) = value_tidy m h row (is_cut h.holds field) (length field) (with_bytes m h row bytes) (bytes_tidy m h row bytes)

  field_tidy : (m : Memory) (h : HostData) (row : ℕ) (field : Field) → Tidy m (field_stored m h row field).1
  field_tidy m h row None = null_tidy m h row h.indicator
  field_tidy m h row (Some field) = found_bytes_tidy m h row field (field_bytes h.holds field)

  stored_keeps : (r : Stored) (s : State) → Tidy s.memory r.1 → Keeps s.memory (stored_by line r s)
  stored_keeps (Ok cut, m) s h = tidy_then s.memory m (warned cut m) h (warned_tidy cut m)
  stored_keeps (Err (refused_there code), m) s h = keeps_then {A = Unit {0}} s.memory m (raised line (found_by code) (with_memory m s)) h (told_tidy _ _ _ line m)
  stored_keeps (Err (trapped_there trap), m) s h = tt

  field_keeps : (h : HostData) (row : ℕ) (field : Field) (s : State) → Keeps s.memory (field_kept line h row field s)
  field_keeps h row field s = stored_keeps (field_stored s.memory h row field) s (field_tidy s.memory h row field)

  -- ---- rows

  rows_keep : (h : HostData) (column row : ℕ) (rows : List (List Field)) (s : State) → Keeps s.memory (rows_kept line h column row rows s)
  rows_keep h column row [] s = tidy_same s.memory
  rows_keep h column row (fields ∷ rows) s =
      next_keeps s.memory (field_kept line h row (in_column column fields) s) _ (field_keeps h row (in_column column fields) s) (λ x t. rows_keep h column (suc row) rows t)

  counted_keeps : (columns rows : ℕ) (ls : List (Leaf ℕ)) (s : State) → Keeps s.memory (counted line columns rows ls s)
  counted_keeps columns rows ls s =
      test_keeps s.memory (nat_lt columns (length ls)) _ _ (told_tidy _ _ _ line s.memory)
      (test_keeps s.memory (nat_lt (length ls) columns) _ _ (told_tidy _ _ _ line s.memory)
      (test_keeps s.memory (any_smaller rows ls) _ _ (told_tidy _ _ _ line s.memory) (tidy_same s.memory)))

  row_keeps : (name : Text) (table : Sheet) (rows : List (List Field)) (s : State) → Keeps s.memory (row_into line name table rows s)
  row_keeps name table [] s = tidy_same s.memory
  row_keeps name table (fields ∷ []) s = tidy_same s.memory
  row_keeps name table (fields ∷ more ∷ rows) s = told_tidy _ _ _ line s.memory

  -- ---- descriptors

  found_area_keeps : (items : Option (List Item)) (s : State) → Keeps s.memory (found_area line items s)
  found_area_keeps None s = told_tidy _ _ _ line s.memory
  found_area_keeps (Some items) s = tidy_same s.memory

  area_found_keeps : (name : Text) (s : State) → Keeps s.memory (area_found line name s)
  area_found_keeps name s = found_area_keeps _ s

  text_found_keeps : {A : Type 0} (x : Option Text) (made : Text → A) (s : State) → Keeps s.memory (found_text line x made s)
  text_found_keeps None made s = told_tidy _ _ _ line s.memory
  text_found_keeps (Some bytes) made s = tidy_same s.memory

  request_keeps : (wanted : Wanted) (c : Connection) (s : State) → Keeps s.memory (request_of line wanted c s)
  request_keeps (text bytes) c s = tidy_same s.memory
  request_keeps (execution name) c s = text_found_keeps (prepared_text name c.prepared) _ s
  request_keeps (cursor head name) c s = text_found_keeps (prepared_text name c.prepared) _ s

  params_keep : (values : List Field) (area : Option Text) (s : State) → Keeps s.memory (params_behind line values area s)
  params_keep values None s = tidy_same s.memory
  params_keep values (Some name) s = next_keeps s.memory (area_found line name s) _ (area_found_keeps name s) (λ items t. tidy_same t.memory)

  targets_found_keep : (to : Targets) (s : State) → Keeps s.memory (targets_found line to s)
  targets_found_keep no_targets s = tidy_same s.memory
  targets_found_keep (leaf_targets ls) s = tidy_same s.memory
  targets_found_keep (area_target name) s = next_keeps s.memory (area_found line name s) (λ items t. gives tt t) (area_found_keeps name s) (λ items t. tidy_same t.memory)

  number_keeps : (z : Option ℤ) (s : State) → Keeps s.memory (found_number line z s)
  number_keeps None s = told_tidy _ _ _ line s.memory
  number_keeps (Some z) s = tidy_same s.memory

  range_keeps : (n : Option ℕ) (s : State) → Keeps s.memory (in_range line n s)
  range_keeps None s = told_tidy _ _ _ line s.memory
  range_keeps (Some n) s = tidy_same s.memory

  index_keeps : (low high : ℕ) (field : Field) (s : State) → Keeps s.memory (index_of line low high field s)
  index_keeps low high field s =
      next_keeps s.memory (found_number line (number_as Long field) s) (λ z t. in_range line (within low high z) t) (number_keeps (number_as Long field) s) (λ z t. range_keeps (within low high z) t)

  set_keeps : (name : Text) (n : ℕ) (items : List Item) (it : Option Item) (s : State) → Keeps s.memory (item_set line name n items it s)
  set_keeps name n items None s = told_tidy _ _ _ line s.memory
  set_keeps name n items (Some it) s = tidy_same s.memory

  sets_keep : (name : Text) (n : ℕ) (vs : List (Kind × Field)) (s : State) → Keeps s.memory (items_set line name n vs s)
  sets_keep name n [] s = tidy_same s.memory
  sets_keep name n (v ∷ vs) s =
      next_keeps s.memory (area_found line name s) _ (area_found_keeps name s) (λ items t.
      next_keeps t.memory (item_set line name n items (set_item v.0 v.1 (or_new (item_at n items))) t) _ (set_keeps name n items (set_item v.0 v.1 (or_new (item_at n items))) t) (λ x u.
      sets_keep name n vs u))

  -- ---- connecting and disconnecting

  opened_keeps : (name : Text) (slot : Option ℕ) (reply : Reply) (s : State) → Keeps s.memory (opened_by line name (slot, reply) s)
  opened_keeps name (Some slot) Connected s = tidy_same s.memory
  opened_keeps name (Some slot) NoTarget s = told_tidy _ _ _ line s.memory
  opened_keeps name (Some slot) (Rows table tx notice) s = told_tidy _ _ _ line s.memory
  opened_keeps name (Some slot) (Done count tx notice) s = told_tidy _ _ _ line s.memory
  opened_keeps name (Some slot) (Refused state message tx) s = told_tidy _ _ _ line s.memory
  opened_keeps name (Some slot) Broken s = told_tidy _ _ _ line s.memory
  opened_keeps name None reply s = told_tidy _ _ _ line s.memory

  connecting_keeps : (name : Text) (r : Request) (answers : List Answer) (s : State) → Keeps s.memory (connecting line name r answers s)
  connecting_keeps name r [] s = tt
  connecting_keeps name r (answer ∷ more) s = opened_keeps name answer.0 answer.1 (record s { conversation = s.conversation ++ exchange answer.0 r answer.1 ∷ []; answers = more })

  unless_keeps : (name : Text) (r : Request) (c : Option Connection) (s : State) → Keeps s.memory (unless_named line name r c s)
  unless_keeps name r (Some c) s = told_tidy _ _ _ line s.memory
  unless_keeps name r None s = connecting_keeps name r s.answers s

  closed_keeps : (c : Connection) (s : State) → Keeps s.memory (closed c s)
  closed_keeps c s = next_keeps s.memory (asked c.slot request.Close s) _ (reply_keeps c.slot request.Close s) (λ reply t. tidy_same t.memory)

  all_closed_keep : (cs : List Connection) (s : State) → Keeps s.memory (all_closed cs s)
  all_closed_keep [] s = tidy_same s.memory
  all_closed_keep (c ∷ cs) s = next_keeps s.memory (closed c s) _ (closed_keeps c s) (λ x t. all_closed_keep cs t)

  one_closed_keeps : (name : Option Text) (s : State) → Keeps s.memory (one_closed line name s)
  one_closed_keeps name s = next_keeps s.memory (connection_for line name s) (λ c t. closed c t) (connection_keeps name s) (λ c t. closed_keeps c t)

  disconnected_keeps : (name : Text) (s : State) → Keeps s.memory (disconnected line name s)
  disconnected_keeps name s =
      test_keeps s.memory (same_name name (codes "CURRENT")) _ _ (one_closed_keeps None s)
      (test_keeps s.memory (same_name name (codes "ALL")) _ _ (all_closed_keep (reverse s.connections) s) (one_closed_keeps (Some name) s))

  autocommit_keeps : (on : Bool) (c : Connection) (s : State) → Keeps s.memory (autocommit_set line on c s)
  autocommit_keeps on c s =
      test_keeps s.memory (commits_first on c) _ _
      (next_keeps s.memory (control_sent line c (codes "commit") s) (λ x t. switched on c t) (control_keeps c (codes "commit") s) (λ x t. tidy_same t.memory))
      (tidy_same s.memory)

  -- ---- statements

  module _ (structs : List StructData) where
    leaves_keep : (column : ℕ) (ls : List (Leaf ℕ)) (rows : List (List Field)) (s : State) → Keeps s.memory (leaves_kept structs line column ls rows s)
    leaves_keep column [] rows s = tidy_same s.memory
    leaves_keep column (l ∷ ls) rows s =
        next_keeps s.memory (present (leaf_data structs l) s) _ (present_keeps (leaf_data structs l) s) (λ h t.
        next_keeps t.memory (rows_kept line h column 0 rows t) _ (rows_keep h column 0 rows t) (λ x u.
        leaves_keep (suc column) ls rows u))

    into_keeps : (to : Targets) (table : Sheet) (s : State) → Keeps s.memory (into_targets structs line to table s)
    into_keeps no_targets table s = tidy_same s.memory
    into_keeps (leaf_targets ls) table s =
        next_keeps s.memory (counted line (length table.cols) (length table.rows) ls s) (λ x t. leaves_kept structs line 0 ls table.rows t) (counted_keeps (length table.cols) (length table.rows) ls s) (λ x t.
        leaves_keep 0 ls table.rows t)
    into_keeps (area_target name) table s = row_keeps name table table.rows s

    table_keeps : (to : Targets) (table : Sheet) (s : State) → Keeps s.memory (table_kept structs line to table s)
    table_keeps to table s = with_rows_keeps table.rows (λ t. into_targets structs line to table t) (λ t. into_keeps to table t) s

    answer_keeps : (to : Targets) (reply : Reply) (s : State) → Keeps s.memory (answer_kept structs line to reply s)
    answer_keeps to (Rows table tx notice) s = behind_notice notice (λ t. table_kept structs line to table t) (λ t. table_keeps to table t) s
    answer_keeps to (Done count tx notice) s = behind_notice notice (λ t. count_told line (are_wanted to) count t) (λ t. count_keeps (are_wanted to) count t) s
    answer_keeps to (Refused state message tx) s = told_tidy _ _ _ line s.memory
    answer_keeps to Connected s = told_tidy _ _ _ line s.memory
    answer_keeps to NoTarget s = told_tidy _ _ _ line s.memory
    answer_keeps to Broken s = told_tidy _ _ _ line s.memory

    carried_keeps : (name : Option Text) (wanted : Wanted) (values : List Field) (area : Option Text) (to : Targets) (s : State)
        → Keeps s.memory (carried_out structs line name wanted values area to s)
    carried_keeps name wanted values area to s =
        next_keeps s.memory (begun_area s) _ (begun_keeps s) (λ x s.
        next_keeps s.memory (connection_for line name s) _ (connection_keeps name s) (λ c s.
        next_keeps s.memory (request_of line wanted c s) _ (request_keeps wanted c s) (λ r s.
        next_keeps s.memory (params_behind line values area s) _ (params_keep values area s) (λ params s.
        next_keeps s.memory (targets_found line to s) _ (targets_found_keep to s) (λ x s.
        next_keeps s.memory (begun line c s) _ (begin_keeps c s) (λ x s.
        next_keeps s.memory (asked c.slot (r params) s) _ (reply_keeps c.slot (r params) s) (λ reply s.
        answer_keeps to reply s)))))))

    kept_in_keeps : (l : Leaf ℕ) (field : Field) (s : State) → Keeps s.memory (kept_in structs line l field s)
    kept_in_keeps l field s =
        next_keeps s.memory (present (leaf_data structs l) s) (λ h t. field_kept line h 0 field t) (present_keeps (leaf_data structs l) s) (λ h t. field_keeps h 0 field t)

    item_keeps : (asks : Bool) (l : Leaf ℕ) (field : Field) (s : State) → Keeps s.memory (item_kept structs line asks l field s)
    item_keeps asks l (Some bytes) s = kept_in_keeps l (Some bytes) s
    item_keeps asks l None s =
        test_keeps s.memory (has_indicator l) _ _ (kept_in_keeps l None s)
        (test_keeps s.memory asks _ _ (tidy_same s.memory) (kept_in_keeps l None s))

    got_keeps : (asks : Bool) (it : Item) (is : List (Kind × Leaf ℕ)) (s : State) → Keeps s.memory (items_kept structs line asks it is s)
    got_keeps asks it [] s = tidy_same s.memory
    got_keeps asks it (i ∷ is) s =
        next_keeps s.memory (item_kept structs line asks i.1 (item_text i.0 it) s) _ (item_keeps asks i.1 (item_text i.0 it) s) (λ x t. got_keeps asks it is t)

    pub statement_keeps : (x : Statement ℕ) (s : State) → Keeps s.memory (statement_done structs line x s)
    statement_keeps (runs at wanted ins outs) s =
        next_keeps s.memory (text_read at s) _ (text_keeps at s) (λ name s.
        next_keeps s.memory (asked_read wanted s) _ (asked_keeps wanted s) (λ wanted s.
        next_keeps s.memory (values_read structs ins.values s) _ (values_keep structs ins.values s) (λ values s.
        next_keeps s.memory (area_read ins.area s) _ (area_keeps ins.area s) (λ area s.
        next_keeps s.memory (targets_read outs s) _ (targets_keep outs s) (λ to s.
        carried_keeps name wanted values area to s)))))
    statement_keeps (connects target user password name) s =
        next_keeps s.memory (given_read target s) _ (given_keeps target s) (λ server s.
        next_keeps s.memory (text_read user s) _ (text_keeps user s) (λ by s.
        next_keeps s.memory (text_read password s) _ (text_keeps password s) (λ word s.
        next_keeps s.memory (text_read name s) _ (text_keeps name s) (λ called s.
        next_keeps s.memory (begun_area s) _ (begun_keeps s) (λ x s.
        unless_keeps (own_name server called) (request.Connect server by word) (connection_named (own_name server called) s.connections) s)))))
    statement_keeps (disconnects name) s =
        next_keeps s.memory (given_read name s) _ (given_keeps name s) (λ called s.
        next_keeps s.memory (begun_area s) _ (begun_keeps s) (λ x s. disconnected_keeps called s))
    statement_keeps (sets_connection name) s =
        next_keeps s.memory (given_read name s) _ (given_keeps name s) (λ called s.
        next_keeps s.memory (begun_area s) _ (begun_keeps s) (λ x s.
        next_keeps s.memory (connection_for line (Some called) s) (λ c s. gives tt (record s { current = Some called })) (connection_keeps (Some called) s) (λ c s. tidy_same s.memory)))
    statement_keeps (sets_autocommit on at) s =
        next_keeps s.memory (text_read at s) _ (text_keeps at s) (λ name s.
        next_keeps s.memory (begun_area s) _ (begun_keeps s) (λ x s.
        next_keeps s.memory (connection_for line name s) _ (connection_keeps name s) (λ c s. autocommit_keeps on c s)))
    statement_keeps (controls at bytes) s =
        next_keeps s.memory (text_read at s) _ (text_keeps at s) (λ name s.
        next_keeps s.memory (begun_area s) _ (begun_keeps s) (λ x s.
        next_keeps s.memory (connection_for line name s) _ (connection_keeps name s) (λ c s. control_keeps c bytes s)))
    statement_keeps (prepares at name bytes) s =
        next_keeps s.memory (text_read at s) _ (text_keeps at s) (λ called s.
        next_keeps s.memory (given_read bytes s) _ (given_keeps bytes s) (λ given s.
        next_keeps s.memory (begun_area s) _ (begun_keeps s) (λ x s.
        next_keeps s.memory (connection_for line called s) _ (connection_keeps called s) (λ c s.
        next_keeps s.memory (asked c.slot (request.Prepare name (with_marks given)) s) _ (reply_keeps c.slot (request.Prepare name (with_marks given)) s) (λ reply s.
        next_keeps s.memory (taken line reply s) (λ x s. gives tt (prepared_anew c.slot (with_text name (with_marks given)) s)) (taken_keeps reply s) (λ x s. tidy_same s.memory))))))
    statement_keeps (deallocates at name) s =
        next_keeps s.memory (text_read at s) _ (text_keeps at s) (λ called s.
        next_keeps s.memory (begun_area s) _ (begun_keeps s) (λ x s.
        next_keeps s.memory (connection_for line called s) _ (connection_keeps called s) (λ c s.
        next_keeps s.memory (found_text line (prepared_text name c.prepared) (λ bytes. bytes) s) _ (text_found_keeps (prepared_text name c.prepared) (λ bytes. bytes) s) (λ x s.
        next_keeps s.memory (asked c.slot (request.Deallocate name) s) _ (reply_keeps c.slot (request.Deallocate name) s) (λ reply s.
        next_keeps s.memory (taken line reply s) (λ x s. gives tt (prepared_anew c.slot (without_text name) s)) (taken_keeps reply s) (λ x s. tidy_same s.memory))))))
    statement_keeps (allocates name) s =
        next_keeps s.memory (given_read name s) _ (given_keeps name s) (λ called s.
        next_keeps {B = Unit {0}} s.memory (begun_area s) (λ x s. gives tt (with_descriptor called [] s)) (begun_keeps s) (λ x s. tidy_same s.memory))
    statement_keeps (frees name) s =
        next_keeps s.memory (given_read name s) _ (given_keeps name s) (λ called s.
        next_keeps s.memory (begun_area s) _ (begun_keeps s) (λ x s.
        next_keeps s.memory (area_found line called s) (λ items s. gives tt (record s { descriptors = without_area called s.descriptors })) (area_found_keeps called s) (λ items s. tidy_same s.memory)))
    statement_keeps (gets_count name l) s =
        next_keeps s.memory (given_read name s) _ (given_keeps name s) (λ called s.
        next_keeps s.memory (begun_area s) _ (begun_keeps s) (λ x s.
        next_keeps s.memory (area_found line called s) _ (area_found_keeps called s) (λ items s.
        kept_in_keeps l (Some (decimal (length items))) s)))
    statement_keeps (sets_count name x) s =
        next_keeps s.memory (given_read name s) _ (given_keeps name s) (λ called s.
        next_keeps s.memory (input_read structs x s) _ (input_keeps structs x s) (λ field s.
        next_keeps s.memory (begun_area s) _ (begun_keeps s) (λ x s.
        next_keeps s.memory (area_found line called s) _ (area_found_keeps called s) (λ items s.
        next_keeps s.memory (index_of line 0 1000 field s) (λ n s. gives tt (with_descriptor called (resized n items) s)) (index_keeps 0 1000 field s) (λ n s. tidy_same s.memory)))))
    statement_keeps (gets_items name index items) s =
        next_keeps s.memory (given_read name s) _ (given_keeps name s) (λ called s.
        next_keeps s.memory (input_read structs index s) _ (input_keeps structs index s) (λ field s.
        next_keeps s.memory (begun_area s) _ (begun_keeps s) (λ x s.
        next_keeps s.memory (area_found line called s) _ (area_found_keeps called s) (λ them s.
        next_keeps s.memory (index_of line 1 (length them) field s) _ (index_keeps 1 (length them) field s) (λ n s.
        next_keeps s.memory (present (item_at n them) s) _ (present_keeps (item_at n them) s) (λ it s.
        got_keeps (asks_indicator items) it items s))))))
    statement_keeps (sets_items name index items) s =
        next_keeps s.memory (given_read name s) _ (given_keeps name s) (λ called s.
        next_keeps s.memory (input_read structs index s) _ (input_keeps structs index s) (λ field s.
        next_keeps s.memory (items_read structs items s) _ (items_keep structs items s) (λ fields s.
        next_keeps s.memory (begun_area s) _ (begun_keeps s) (λ x s.
        next_keeps s.memory (area_found line called s) _ (area_found_keeps called s) (λ them s.
        next_keeps s.memory (index_of line 1 1000 field s) _ (index_keeps 1 1000 field s) (λ n s.
        sets_keep called n fields s))))))

-- as a part of a program
pub settled_tidy : (structs : List StructData) (line messages : ℕ) (x : Statement ℕ) (s : State) → LeavesTidy s.memory (settled line (own.statement_done structs messages x s))
settled_tidy structs line messages x s = as_result (own.statement_done structs messages x s) (subst (Keeps s.memory) (own_same structs messages x s) (statement_keeps messages structs x s))
  where
    as_result : (o : Outcome (Unit {0})) → Keeps s.memory o → LeavesTidy s.memory (settled line o)
    as_result (gives a t) h = h
    as_result (finished t) h = h
    as_result (over halt t) h = tt
