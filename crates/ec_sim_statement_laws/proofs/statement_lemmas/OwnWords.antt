-- What a statement does in its own words is what it does in those of the library: how its connection is found, opened, chosen and closed, what is asked and what the answers stand for, what is stored, and what a descriptor gives and takes.
use Rattle.std.proofs.Common.{◌≡◌, ◌∙◌, ℕ, zero, suc, ◌-◌, ◌==◌, Bool, true, false, cond, not, ◌&&◌, ◌||◌, ℤ, pos, negsuc, List, [], ◌∷◌, ◌++◌, map, length, find, fold, zip, bytes_eq, codes, slice_get, slice_set, replicate, take, reverse, Option, Some, None, option_map, option_and_then, Result, Ok, Err, refl, sym, append-nil, arith}
use Rattle.std.specs.Prelude.{nat_lt, nat_le, nat_eq, int_le, int_lt}
use Rattle.std.specs.Fmt.{decimal}
use Rattle.ec_arguments.specs.Arguments.{TextArg, absent, word, held}
use Rattle.ec_ctypes.specs.declared.embedded.emb.Item.{Item as Kind}
use Rattle.ec_ctypes.specs.declared.embedded.emb.Item.TheVariants as item
use Rattle.ec_ctypes.specs.declared.types.arith.Arith.{Arith}
use Rattle.ec_ctypes.specs.declared.types.arith.Arith.TheVariants.{Int, Long}
use Rattle.ec_ctypes.specs.trees.Types.{StructData}
use Rattle.ec_link.specs.declared.reply.Reply.{Reply}
use Rattle.ec_link.specs.declared.reply.Reply.TheVariants.{Connected, NoTarget, Rows, Done, Refused, Broken}
use Rattle.ec_link.specs.declared.reply.Tx.{Tx}
use Rattle.ec_link.specs.declared.reply.Tx.TheVariants.{Idle, Active, Failed}
use Rattle.ec_link.specs.declared.request.Request.{Request}
use Rattle.ec_link.specs.declared.request.Request.TheVariants as request
use Rattle.ec_link.specs.declared.table.Col.{Col}
use Rattle.ec_link.specs.Table.{Sheet}
use Rattle.ec_transfer_defs.specs.declared.finding.Finding.{Finding}
use Rattle.ec_transfer_defs.specs.declared.finding.Finding.TheVariants as found
use Rattle.ec_transfer_defs.specs.Conversion.{trapped as trapped_there, refused as refused_there, Stored, field_stored, field_number, fits}
use Rattle.ec_transfer_defs.specs.Hosts.{HostData}
use Rattle.ec_meaning_defs.specs.evaluation.State.{Answer, Connection, Item, State}
use Rattle.ec_call_defs.specs.Outcomes.{Text, Field, Outcome, gives, finished, over, next, present, waiting, with_memory, counted_area, heard, begun_area, refused, raised}
use Rattle.ec_call_defs.specs.Connections as call
use Rattle.ec_call_defs.specs.Connections.{connection_named, connection_of, connection_for, found_connection, wanted_name, changed_at, with_told, told_by, answered, asked, controlled, control_sent, begins, begin_text, begun, is_idle, exchange}
use Rattle.ec_call_defs.specs.Inputs.{text_read, given_read}
use Rattle.ec_call_defs.specs.Storing.{found_by, stored_by, field_kept, in_column, counted_rows, with_rows, warned}
use Rattle.ec_call_defs.specs.Answers.{server_code, taken, count_of, done, count_told}
use Rattle.ec_call_defs.specs.Areas.{area_named, with_area, without_area, resized, raised_to, number_as, within, item_at, item_text, set_item, items_of, contents, new_item, nulled}
use Rattle.ec_call_defs.specs.Running.{Wanted, text, execution, cursor, row_into, prepared_text, found_text, request_of, found_area, area_found, params_behind}
use Rattle.ec_call_defs.specs.Connecting.{opened, opened_by, connecting, unless_named, own_name, connect_call, set_connection_call}
use Rattle.ec_call_defs.specs.Disconnecting.{without_connection, last_name, current_without, removed, closed, all_closed, one_closed, disconnected, disconnect_call}
use Rattle.ec_call_defs.specs.Marks.{Where, between, behind_e, in_word, in_number, quoted, escaped, dashed, commented, marked, with_marks}
use Rattle.ec_call_defs.specs.Autocommit.{with_autocommit, switched, commits_first, autocommit_set, autocommit_call}
use Rattle.ec_call_defs.specs.Control.{control_call}
use Rattle.ec_call_defs.specs.Preparing.{with_text, without_text, prepared_anew, prepare_call, deallocate_call}
use Rattle.ec_call_defs.specs.Descriptors.{with_descriptor, allocate_call, deallocate_descriptor_call, found_number, in_range, index_of, is_indicator, or_new, item_set, items_set}
use Rattle.ec_direct_defs.specs.Names.{needed, first_changed, first_removed, is_under, under, with_under}
use Rattle.ec_direct_defs.specs.Texts.{text_wanted, text_got}
use Rattle.ec_direct_defs.specs.Requests.{told_with, is_over, exchanged, heard_over, answer_to, verdict, control_verdict, refusal_code, with_notice, concluded, control_over, is_in_none, transaction_begun, committed_first}
use Rattle.ec_direct_defs.specs.Connections.{is_called, name_meant, name_for, opened_as, connection_meant, connection_over, opened_for, asked_to_connect, connection_opened, connection_chosen, autocommit_switched, transaction_controlled, opened_last, current_behind, closed_now, connection_closed, each_closed, closed_over, disconnected_as, connections_closed}
use Rattle.ec_direct_defs.specs.Marks.{Last, nothing, lone_e, a_word, a_number, Zone, free, quote, e_quote, line_comment, comments, is_letter, is_digit, begins_name, goes_on_name, goes_on_number, begun_by, zone_behind, behind_comment, opens_comment, marks_in, numbered, with_parameters}
use Rattle.ec_direct_defs.specs.Prepared.{texts_changed, statement_prepared, statement_deallocated, Said, whole_text, prepared_one, cursor_for, request_for}
use Rattle.ec_direct_defs.specs.Descriptors.{items_under, with_items, descriptor_allocated, descriptor_freed, blank_item, first_items, with_item_behind, item_behind, contents_of, row_items, number_of_type, natural_between, number_between, given_text, taken_text, values_taken}
use Rattle.ec_direct_defs.specs.Leaves.{Leaf, leaf_data}
use Rattle.ec_direct_defs.specs.Statements.{Input, Sent, Outputs, nowhere, into_leaves, into_area, Asked, sends, executes, reads_text, opens, Statement, runs, connects, disconnects, sets_connection, sets_autocommit, controls, prepares, deallocates, allocates, frees, gets_count, sets_count, gets_items, sets_items}
use Rattle.ec_direct_defs.specs.Inputs as inputs
use Rattle.ec_direct_defs.specs.Inputs.{input_read, values_read, items_read}
use Rattle.ec_direct_defs.specs.Storing as rows
use Rattle.ec_direct_defs.specs.Storing.{Targets, no_targets, leaf_targets, area_target, are_wanted, any_smaller, has_code, wrong_field, with_warning, behind_field, field_in_row, field_of, rows_told, row_into_area}
use Rattle.ec_direct_defs.specs.Executing as own
use Rattle.ec_sim_statement_laws.proofs.statement_lemmas.SharedInputs as shared
use Rattle.ec_sim_statement_laws.proofs.statement_lemmas.SharedStoring as shared_rows
use Rattle.ec_sim_statement_laws.proofs.statement_lemmas.SharedExecuting as half

-- ---- choices

-- the same choice, written in two ways
chosen : {A : Type 0} (b : Bool) {x y u v : A} → x ≡ u → y ≡ v → cond b x y ≡ elim b [ true ↦ u | false ↦ v ]
chosen true e f = e
chosen false e f = f

-- ---- texts

wanted_same : (a : TextArg ℕ) (s : State) → given_read a s ≡ text_wanted a s
wanted_same absent s = refl
wanted_same (word bytes) s = refl
wanted_same (held p) s = refl

got_same : (a : TextArg ℕ) (s : State) → text_read a s ≡ text_got a s
got_same absent s = refl
got_same (word bytes) s = refl
got_same (held p) s = refl

-- ---- names

change_same : (slot : ℕ) (f g : Connection → Connection) → ((c : Connection) → f c ≡ g c) → (cs : List Connection) → first_changed (is_over slot) f cs ≡ changed_at slot g cs
change_same slot f g same [] = refl
change_same slot f g same (c ∷ cs) = chosen (c.slot == slot) (λ j. same c j ∷ cs) (λ j. c ∷ change_same slot f g same cs j)

named_same : (name : Text) (cs : List Connection) → find (is_called name) cs ≡ connection_named name cs
named_same name [] = refl
named_same name (c ∷ cs) = chosen (bytes_eq c.name name) refl (named_same name cs)

gone_same : (name : Text) (cs : List Connection) → first_removed (is_called name) cs ≡ without_connection name cs
gone_same name [] = refl
gone_same name (c ∷ cs) = chosen (bytes_eq c.name name) refl (λ j. c ∷ gone_same name cs j)

abbrev first_under : {A : Type 0} → Option (Text × A) → Option A
first_under e = option_map (λ e. e.1) e

under_there : {A : Type 0} (b : Bool) (e : Text × A) (more : Option (Text × A)) → first_under (cond b (Some e) more) ≡ elim b [ true ↦ Some e.1 | false ↦ first_under more ]
under_there true e more = refl
under_there false e more = refl

text_under : (name : Text) (ps : List (Text × Text)) → under name ps ≡ prepared_text name ps
text_under name [] = refl
text_under name (p ∷ ps) = under_there (bytes_eq p.0 name) p (find (is_under name) ps) ∙ (λ j. elim (bytes_eq p.0 name) [ true ↦ Some p.1 | false ↦ text_under name ps j ])

area_under : (name : Text) (as' : List (Text × List Item)) → under name as' ≡ area_named name as'
area_under name [] = refl
area_under name (a ∷ as') = under_there (bytes_eq a.0 name) a (find (is_under name) as') ∙ (λ j. elim (bytes_eq a.0 name) [ true ↦ Some a.1 | false ↦ area_under name as' j ])

text_put : (name bytes : Text) (ps : List (Text × Text)) → with_under name bytes ps ≡ with_text name bytes ps
text_put name bytes [] = refl
text_put name bytes (p ∷ ps) = chosen (bytes_eq p.0 name) refl (λ j. p ∷ text_put name bytes ps j)

area_put : (name : Text) (items : List Item) (as' : List (Text × List Item)) → with_under name items as' ≡ with_area name items as'
area_put name items [] = refl
area_put name items (a ∷ as') = chosen (bytes_eq a.0 name) refl (λ j. a ∷ area_put name items as' j)

text_gone : (name : Text) (ps : List (Text × Text)) → first_removed (is_under name) ps ≡ without_text name ps
text_gone name [] = refl
text_gone name (p ∷ ps) = chosen (bytes_eq p.0 name) refl (λ j. p ∷ text_gone name ps j)

area_gone : (name : Text) (as' : List (Text × List Item)) → first_removed (is_under name) as' ≡ without_area name as'
area_gone name [] = refl
area_gone name (a ∷ as') = chosen (bytes_eq a.0 name) refl (λ j. a ∷ area_gone name as' j)

-- ---- requests

told_same : (reply : Reply) (c : Connection) → told_with reply c ≡ with_told (told_by reply) c
told_same (Rows table tx notice) c = refl
told_same (Done count tx notice) c = refl
told_same (Refused state message tx) c = refl
told_same Connected c = refl
told_same NoTarget c = refl
told_same Broken c = refl

reply_same : (slot : ℕ) (r : Request) (s : State) → asked slot r s ≡ answer_to slot r s
reply_same slot r s = go s.answers
  where
    go : (given : List Answer) → answered slot r given s ≡ elim given [
      | [] ↦ over (waiting (Some slot) r) s
      | answer ∷ left ↦ gives answer.1 (exchanged (Some slot) r answer.1 left (heard_over slot answer.1 s))
    ]
    go [] = refl
    go (answer ∷ left) = λ j. gives answer.1 (record s {
      connections = sym (change_same slot (told_with answer.1) (with_told (told_by answer.1)) (told_same answer.1) s.connections) j;
      conversation = s.conversation ++ exchange (Some slot) r answer.1 ∷ [];
      answers = left;
    })

notice_same : (notice : Bool) (s : State) → heard notice s ≡ with_notice notice s
notice_same true s = refl
notice_same false s = refl

control_told : (line : ℕ) (reply : Reply) (s : State) → controlled line reply s ≡ concluded line (control_verdict reply) s
control_told line (Rows table tx notice) s = λ j. gives tt (notice_same notice s j)
control_told line (Done count tx notice) s = λ j. gives tt (notice_same notice s j)
control_told line (Refused state message tx) s = refl
control_told line Connected s = refl
control_told line NoTarget s = refl
control_told line Broken s = refl

code_same : (state : Text) → refusal_code state ≡ server_code state
code_same state = chosen (bytes_eq state (codes "23505")) refl (chosen (bytes_eq state (codes "21000")) refl refl)

taken_told : (line : ℕ) (reply : Reply) (s : State) → taken line reply s ≡ concluded line (verdict reply) s
taken_told line (Rows table tx notice) s = λ j. gives tt (notice_same notice s j)
taken_told line (Done count tx notice) s = λ j. gives tt (notice_same notice s j)
taken_told line (Refused state message tx) s = λ j. refused line (sym (code_same state.0) j) state.0 message s
taken_told line Connected s = refl
taken_told line NoTarget s = refl
taken_told line Broken s = refl

control_same : (line : ℕ) (c : Connection) (bytes : Text) (s : State) → control_sent line c bytes s ≡ control_over line c bytes s
control_same line c bytes s = λ j. next (reply_same c.slot (request.Text bytes []) s j) (λ reply t. control_told line reply t j)

idle_same : (tx : Tx) → is_idle tx ≡ elim tx [ Idle ↦ true | Active ↦ false | Failed ↦ false ]
idle_same Idle = refl
idle_same Active = refl
idle_same Failed = refl

begun_same : (line : ℕ) (c : Connection) (s : State) → begun line c s ≡ transaction_begun line c s
begun_same line c s = go c.autocommit ∙ (λ j. cond (not c.autocommit && idle_same c.told j) (control_same line c begin_text s j) (gives tt s))
  where
    go : (on : Bool) → elim (begins (record c { autocommit = on })) [ true ↦ control_sent line c begin_text s | false ↦ gives tt s ]
        ≡ cond (not on && is_idle c.told) (control_sent line c begin_text s) (gives tt s)
    go true = refl
    go false = sym (chosen (is_idle c.told) refl refl)

-- ---- what has to be there

over_same : (line : ℕ) (name : Option Text) (s : State) → connection_for line name s ≡ connection_over line name s
over_same line name s = named name
  where
    there : (c : Option Connection) → found_connection line c s ≡ needed line found.NoConnection c s
    there None = refl
    there (Some c) = refl

    meant : (n : Option Text) → connection_of line n s ≡ needed line found.NoConnection (option_and_then (λ n. find (is_called n) s.connections) n) s
    meant None = refl
    meant (Some n) = there (connection_named n s.connections) ∙ (λ j. needed line found.NoConnection (sym (named_same n s.connections) j) s)

    named : (n : Option Text) → connection_of line (wanted_name n s) s ≡ needed line found.NoConnection (connection_meant n s) s
    named None = meant s.current
    named (Some n) = meant (Some n)

area_there : (line : ℕ) (name : Text) (s : State) → area_found line name s ≡ items_under line name s
area_there line name s = go (area_named name s.descriptors) ∙ (λ j. needed line found.NoDescriptor (sym (area_under name s.descriptors) j) s)
  where
    go : (items : Option (List Item)) → found_area line items s ≡ needed line found.NoDescriptor items s
    go None = refl
    go (Some items) = refl

text_there : {A : Type 0} (line : ℕ) (m : Option Text) (made : Text → A) (s : State) → found_text line m made s ≡ next (needed line found.NoStatement m s) (λ bytes t. gives (made bytes) t)
text_there line None made s = refl
text_there line (Some bytes) made s = refl

text_needed : (line : ℕ) (m : Option Text) (s : State) → found_text line m (λ bytes. bytes) s ≡ needed line found.NoStatement m s
text_needed line None s = refl
text_needed line (Some bytes) s = refl

-- ---- connections

opened_same : (line : ℕ) (name : Text) (answer : Answer) (s : State) → opened_by line name answer s ≡ opened_for line name answer s
opened_same line name (Some slot, Connected) s = refl
opened_same line name (Some slot, Rows table tx notice) s = refl
opened_same line name (Some slot, Done count tx notice) s = refl
opened_same line name (Some slot, Refused state message tx) s = refl
opened_same line name (Some slot, NoTarget) s = refl
opened_same line name (Some slot, Broken) s = refl
opened_same line name (None, reply) s = refl

connecting_same : (line : ℕ) (name : Text) (r : Request) (s : State) → connecting line name r s.answers s ≡ asked_to_connect line name r s
connecting_same line name r s = go s.answers
  where
    go : (given : List Answer) → connecting line name r given s ≡ elim given [
      | [] ↦ over (waiting None r) s
      | answer ∷ left ↦ opened_for line name answer (exchanged answer.0 r answer.1 left s)
    ]
    go [] = refl
    go (answer ∷ left) = opened_same line name answer (exchanged answer.0 r answer.1 left s)

connect_same : (line : ℕ) (target user password name : TextArg ℕ) (s : State) → connect_call line target user password name s ≡ connection_opened line target user password name s
connect_same line target user password name s = λ j.
    next (wanted_same target s j) (λ server s.
    next (got_same user s j) (λ by s.
    next (got_same password s j) (λ secret s.
    next (got_same name s j) (λ called s.
    next (begun_area s) (λ _ s.
    called_so server by secret called s j)))))
  where
    in_use : (name : Text) (r : Request) (c : Option Connection) (s : State) → unless_named line name r c s ≡ elim c [ Some c ↦ raised line found.NotConnected s | None ↦ asked_to_connect line name r s ]
    in_use name r None s = connecting_same line name r s
    in_use name r (Some c) s = refl

    under_name : (name : Text) (r : Request) (s : State) → unless_named line name r (connection_named name s.connections) s ≡ opened_as line name r s
    under_name name r s = in_use name r (connection_named name s.connections) s
        ∙ (λ j. elim (sym (named_same name s.connections) j) [ Some c ↦ raised line found.NotConnected s | None ↦ asked_to_connect line name r s ])

    called_so : (server : Text) (by secret called : Option Text) (s : State)
        → unless_named line (own_name server called) (request.Connect server by secret) (connection_named (own_name server called) s.connections) s
        ≡ opened_as line (name_for server called) (request.Connect server by secret) s
    called_so server by secret None s = under_name server (request.Connect server by secret) s
    called_so server by secret (Some n) s = under_name n (request.Connect server by secret) s

choose_same : (line : ℕ) (name : TextArg ℕ) (s : State) → set_connection_call line name s ≡ connection_chosen line name s
choose_same line name s = λ j.
    next (wanted_same name s j) (λ called s.
    next (begun_area s) (λ _ s.
    next (over_same line (Some called) s j) (λ c s.
    gives tt (record s { current = Some called }))))

-- a commit, if it comes first
abbrev committed : ℕ → Bool → Connection → State → Outcome (Unit {0})
committed line first c s = cond first (control_over line c (codes "commit") s) (gives tt s)

-- the connection of this slot, with autocommit on or off
abbrev on_or_off : Bool → ℕ → State → Outcome (Unit {0})
on_or_off on slot s = gives tt (record s { connections = first_changed (is_over slot) (λ c. record c { autocommit = on }) s.connections })

autocommit_same : (line : ℕ) (on : Bool) (at : TextArg ℕ) (s : State) → autocommit_call line on at s ≡ autocommit_switched line on at s
autocommit_same line on at s = λ j.
    next (got_same at s j) (λ name s.
    next (begun_area s) (λ _ s.
    next (over_same line name s j) (λ c s. set_same c s j)))
  where
    switch_same : (c : Connection) (s : State) → switched on c s ≡ on_or_off on c.slot s
    switch_same c s = λ j. gives tt (record s { connections = sym (change_same c.slot (λ c. record c { autocommit = on }) (with_autocommit on) (λ c. refl) s.connections) j })

    switch_behind : (first : Bool) (c : Connection) (s : State)
        → elim first [ true ↦ next (control_sent line c (codes "commit") s) (λ _ t. switched on c t) | false ↦ switched on c s ]
        ≡ next (committed line first c s) (λ _ t. on_or_off on c.slot t)
    switch_behind true c s = λ j. next (control_same line c (codes "commit") s j) (λ _ t. switch_same c t j)
    switch_behind false c s = switch_same c s

    first_same : (on : Bool) (c : Connection) → commits_first on c ≡ (on && (not c.autocommit && not (is_in_none c)))
    first_same false c = refl
    first_same true c = by c.autocommit ∙ (λ j. not c.autocommit && not (idle_same c.told j))
      where
        turned : (b : Bool) → elim b [ true ↦ false | false ↦ true ] ≡ not b
        turned true = refl
        turned false = refl

        by : (b : Bool) → elim b [ true ↦ false | false ↦ elim (is_idle c.told) [ true ↦ false | false ↦ true ] ] ≡ (not b && not (is_idle c.told))
        by true = refl
        by false = turned (is_idle c.told)

    set_same : (c : Connection) (s : State)
        → autocommit_set line on c s
        ≡ next (committed_first line on c s) (λ _ t. on_or_off on c.slot t)
    set_same c s = switch_behind (commits_first on c) c s
        ∙ (λ j. next (committed line (first_same on c j) c s) (λ _ t. on_or_off on c.slot t))

controls_same : (line : ℕ) (at : TextArg ℕ) (bytes : Text) (s : State) → control_call line at bytes s ≡ transaction_controlled line at bytes s
controls_same line at bytes s = λ j.
    next (got_same at s j) (λ name s.
    next (begun_area s) (λ _ s.
    next (over_same line name s j) (λ c s. control_same line c bytes s j)))

-- the last one
last_of : (c : Connection) (cs : List Connection) → last_name (c ∷ cs) ≡ fold (λ last c. Some c.name) (Some c.name) cs
last_of c [] = refl
last_of c (d ∷ cs) = last_of d cs

last_same : (cs : List Connection) → last_name cs ≡ opened_last cs
last_same [] = refl
last_same (c ∷ cs) = last_of c cs

current_same : (name : Text) (current : Option Text) (left : List Connection) → current_without name current left ≡ current_behind name current left
current_same name None left = refl
current_same name (Some current) left = sym (chosen (bytes_eq current name) (sym (last_same left)) refl)

removed_same : (name : Text) (s : State) → removed name s ≡ closed_now name s
removed_same name s =
    (λ j. record s { connections = without_connection name s.connections; current = current_same name s.current (without_connection name s.connections) j })
    ∙ (λ j. record s { connections = sym (gone_same name s.connections) j; current = current_behind name s.current (sym (gone_same name s.connections) j) })

closed_same : (c : Connection) (s : State) → closed c s ≡ connection_closed c s
closed_same c s = λ j. next (reply_same c.slot request.Close s j) (λ reply t. gives tt (removed_same c.name t j))

all_closed_same : (cs : List Connection) (s : State) → all_closed cs s ≡ each_closed cs s
all_closed_same [] s = refl
all_closed_same (c ∷ cs) s = λ j. next (closed_same c s j) (λ _ t. all_closed_same cs t j)

one_closed_same : (line : ℕ) (name : Option Text) (s : State) → one_closed line name s ≡ closed_over line name s
one_closed_same line name s = λ j. next (over_same line name s j) (λ c t. closed_same c t j)

disconnect_same : (line : ℕ) (name : TextArg ℕ) (s : State) → disconnect_call line name s ≡ connections_closed line name s
disconnect_same line name s = λ j.
    next (wanted_same name s j) (λ called s.
    next (begun_area s) (λ _ s. sym (as_called called s) j))
  where
    as_called : (called : Text) (s : State) → disconnected_as line called s ≡ disconnected line called s
    as_called called s =
        chosen (bytes_eq called (codes "CURRENT")) (sym (one_closed_same line None s))
        (chosen (bytes_eq called (codes "ALL")) (sym (all_closed_same (reverse s.connections) s)) (sym (one_closed_same line (Some called) s)))

-- ---- the marks of a prepared text

-- a zone in the library's words
abbrev where_of : Zone → Where
where_of (free nothing) = between
where_of (free lone_e) = behind_e
where_of (free a_word) = in_word
where_of (free a_number) = in_number
where_of (quote q) = quoted q
where_of e_quote = escaped
where_of line_comment = dashed
where_of (comments deep) = commented deep

where_chosen : (b : Bool) (y z : Zone) {u v : Where} → where_of y ≡ u → where_of z ≡ v → where_of (cond b y z) ≡ elim b [ true ↦ u | false ↦ v ]
where_chosen true y z e f = e
where_chosen false y z e f = f

-- where the library has the next byte, by a byte that begins something of its own
abbrev after_first : ℕ → ℕ → Where
after_first b c = elim (b == 69 || b == 101) [
  | true ↦ behind_e
  | false ↦ elim (begins_name b) [
    | true ↦ in_word
    | false ↦ elim (is_digit b || (b == 46 && is_digit c)) [
      | true ↦ in_number
      | false ↦ elim (b == 39 || b == 34) [ true ↦ quoted b | false ↦ between ]
    ]
  ]
]

-- and by any byte that is free
abbrev place_behind : Last → ℕ → ℕ → Where
place_behind nothing b c = after_first b c
place_behind lone_e b c = elim (b == 39) [ true ↦ escaped | false ↦ elim (goes_on_name b) [ true ↦ in_word | false ↦ after_first b c ] ]
place_behind a_word b c = elim (goes_on_name b) [ true ↦ in_word | false ↦ after_first b c ]
place_behind a_number b c = elim (goes_on_number b) [ true ↦ in_number | false ↦ after_first b c ]

begins_same : (b c : ℕ) → where_of (begun_by b c) ≡ after_first b c
begins_same b c =
    where_chosen (b == 69 || b == 101) _ _ refl
    (where_chosen (begins_name b) _ _ refl
    (where_chosen (is_digit b || (b == 46 && is_digit c)) _ _ refl
    (where_chosen (b == 39 || b == 34) _ _ refl refl)))

zone_same : (last : Last) (b c : ℕ) → where_of (zone_behind last b c) ≡ place_behind last b c
zone_same nothing b c = begins_same b c
zone_same lone_e b c = where_chosen (b == 39) _ _ refl (where_chosen (goes_on_name b) _ _ refl (begins_same b c))
zone_same a_word b c = where_chosen (goes_on_name b) _ _ refl (begins_same b c)
zone_same a_number b c = where_chosen (goes_on_number b) _ _ refl (begins_same b c)

-- one choice of texts
numbered_if : (n : ℕ) (b : Bool) (m k : List (ℕ × Bool)) {u v : Text} → numbered n m ≡ u → numbered n k ≡ v → numbered n (cond b m k) ≡ elim b [ true ↦ u | false ↦ v ]
numbered_if n true m k e f = e
numbered_if n false m k e f = f

-- one byte alone, free
alone_same : (n b : ℕ) (mark : Bool) → numbered n ((b, mark) ∷ []) ≡ elim mark [ true ↦ codes "$" ++ decimal n | false ↦ b ∷ [] ]
alone_same n b true = λ j. codes "$" ++ append-nil (decimal n) j
alone_same n b false = refl

comment_same : (deep : ℕ) → where_of (behind_comment deep) ≡ elim deep [ zero ↦ between | suc outer ↦ commented outer ]
comment_same zero = refl
comment_same (suc outer) = refl

comment_left : (n deep : ℕ) (bs : Text) → marked (where_of (behind_comment deep)) n bs ≡ elim deep [ zero ↦ marked between n bs | suc outer ↦ marked (commented outer) n bs ]
comment_left n zero bs = refl
comment_left n (suc outer) bs = refl

-- two bytes or more, free, by what holds of those behind
free_same : (last : Last) (n b c : ℕ) (bs : Text)
    → numbered (suc n) (marks_in (free nothing) (c ∷ bs)) ≡ marked between (suc n) (c ∷ bs)
    → numbered n (marks_in (comments 0) bs) ≡ marked (commented 0) n bs
    → numbered n (marks_in line_comment bs) ≡ marked dashed n bs
    → numbered n (marks_in (zone_behind last b c) (c ∷ bs)) ≡ marked (where_of (zone_behind last b c)) n (c ∷ bs)
    → numbered n (marks_in (free last) (b ∷ c ∷ bs)) ≡ elim (b == 63) [
      | true ↦ codes "$" ++ decimal n ++ marked between (suc n) (c ∷ bs)
      | false ↦ elim (opens_comment b c) [
        | true ↦ b ∷ c ∷ marked (commented 0) n bs
        | false ↦ elim (b == 45 && c == 45) [
          | true ↦ b ∷ c ∷ marked dashed n bs
          | false ↦ b ∷ marked (place_behind last b c) n (c ∷ bs)
        ]
      ]
    ]
free_same last n b c bs counted opened dashes further =
    numbered_if n (b == 63) _ _ (λ j. codes "$" ++ decimal n ++ counted j)
    (numbered_if n (opens_comment b c) _ _ (λ j. b ∷ c ∷ opened j)
    (numbered_if n (b == 45 && c == 45) _ _ (λ j. b ∷ c ∷ dashes j)
    ((λ j. b ∷ further j) ∙ (λ j. b ∷ marked (zone_same last b c j) n (c ∷ bs)))))

marks_same : (z : Zone) (n : ℕ) (bs : Text) → numbered n (marks_in z bs) ≡ marked (where_of z) n bs
marks_same (free nothing) n [] = refl
marks_same (free nothing) n (b ∷ []) = alone_same n b (b == 63)
marks_same (free nothing) n (b ∷ c ∷ bs) = free_same nothing n b c bs (marks_same (free nothing) (suc n) (c ∷ bs)) (marks_same (comments 0) n bs) (marks_same line_comment n bs) (marks_same (zone_behind nothing b c) n (c ∷ bs))
marks_same (free lone_e) n [] = refl
marks_same (free lone_e) n (b ∷ []) = alone_same n b (b == 63)
marks_same (free lone_e) n (b ∷ c ∷ bs) = free_same lone_e n b c bs (marks_same (free nothing) (suc n) (c ∷ bs)) (marks_same (comments 0) n bs) (marks_same line_comment n bs) (marks_same (zone_behind lone_e b c) n (c ∷ bs))
marks_same (free a_word) n [] = refl
marks_same (free a_word) n (b ∷ []) = alone_same n b (b == 63)
marks_same (free a_word) n (b ∷ c ∷ bs) = free_same a_word n b c bs (marks_same (free nothing) (suc n) (c ∷ bs)) (marks_same (comments 0) n bs) (marks_same line_comment n bs) (marks_same (zone_behind a_word b c) n (c ∷ bs))
marks_same (free a_number) n [] = refl
marks_same (free a_number) n (b ∷ []) = alone_same n b (b == 63)
marks_same (free a_number) n (b ∷ c ∷ bs) = free_same a_number n b c bs (marks_same (free nothing) (suc n) (c ∷ bs)) (marks_same (comments 0) n bs) (marks_same line_comment n bs) (marks_same (zone_behind a_number b c) n (c ∷ bs))
marks_same (quote q) n [] = refl
marks_same (quote q) n (b ∷ bs) = λ j. b ∷ numbered_if n (b == q) _ _ (marks_same (free nothing) n bs) (marks_same (quote q) n bs) j
marks_same e_quote n [] = refl
marks_same e_quote n (b ∷ []) = refl
marks_same e_quote n (b ∷ c ∷ bs) =
    numbered_if n (b == 92 || (b == 39 && c == 39)) _ _ (λ j. b ∷ c ∷ marks_same e_quote n bs j)
    (λ j. b ∷ numbered_if n (b == 39) _ _ (marks_same (free nothing) n (c ∷ bs)) (marks_same e_quote n (c ∷ bs)) j)
marks_same line_comment n [] = refl
marks_same line_comment n (b ∷ bs) = λ j. b ∷ numbered_if n (b == 10) _ _ (marks_same (free nothing) n bs) (marks_same line_comment n bs) j
marks_same (comments deep) n [] = refl
marks_same (comments deep) n (b ∷ []) = refl
marks_same (comments deep) n (b ∷ c ∷ bs) =
    numbered_if n (opens_comment b c) _ _ (λ j. b ∷ c ∷ marks_same (comments (suc deep)) n bs j)
    (numbered_if n (b == 42 && c == 47) _ _ ((λ j. b ∷ c ∷ marks_same (behind_comment deep) n bs j) ∙ (λ j. b ∷ c ∷ comment_left n deep bs j))
    (λ j. b ∷ marks_same (comments deep) n (c ∷ bs) j))

parameters_same : (bytes : Text) → with_marks bytes ≡ with_parameters bytes
parameters_same bytes = sym (marks_same (free nothing) 1 bytes)

-- ---- prepared statements

texts_same : (slot : ℕ) (f g : List (Text × Text) → List (Text × Text)) → ((ps : List (Text × Text)) → f ps ≡ g ps) → (s : State) → texts_changed slot f s ≡ prepared_anew slot g s
texts_same slot f g same s = λ j. record s {
  connections = change_same slot (λ c. record c { prepared = f c.prepared }) (λ c. record c { prepared = g c.prepared })
      (λ c j. record c { prepared = same c.prepared j }) s.connections j;
}

-- the text is there
abbrev prepared_there : ℕ → (List (Text × Text) → List (Text × Text)) → State → Outcome (Unit {0})
prepared_there slot change s = gives tt (texts_changed slot change s)

abbrev prepared_by_call : ℕ → (List (Text × Text) → List (Text × Text)) → State → Outcome (Unit {0})
prepared_by_call slot change s = gives tt (prepared_anew slot change s)

prepare_same : (line : ℕ) (at : TextArg ℕ) (name : Text) (bytes : TextArg ℕ) (s : State) → prepare_call line at name bytes s ≡ statement_prepared line at name bytes s
prepare_same line at name bytes s = λ j.
    next (got_same at s j) (λ called s.
    next (wanted_same bytes s j) (λ given s.
    next (begun_area s) (λ _ s.
    next (over_same line called s j) (λ c s.
    next (reply_same c.slot (request.Prepare name (parameters_same given j)) s j) (λ reply s.
    next (taken_told line reply s j) (λ _ s.
    kept c (parameters_same given j) s j))))))
  where
    kept : (c : Connection) (sent : Text) (s : State) → prepared_by_call c.slot (with_text name sent) s ≡ prepared_there c.slot (with_under name sent) s
    kept c sent s = λ j. gives tt (sym (texts_same c.slot (with_under name sent) (with_text name sent) (text_put name sent) s) j)

deallocate_same : (line : ℕ) (at : TextArg ℕ) (name : Text) (s : State) → deallocate_call line at name s ≡ statement_deallocated line at name s
deallocate_same line at name s = λ j.
    next (got_same at s j) (λ called s.
    next (begun_area s) (λ _ s.
    next (over_same line called s j) (λ c s.
    next (there c s j) (λ _ s.
    next (reply_same c.slot (request.Deallocate name) s j) (λ reply s.
    next (taken_told line reply s j) (λ _ s.
    gives tt (sym (texts_same c.slot (first_removed (is_under name)) (without_text name) (text_gone name) s) j)))))))
  where
    there : (c : Connection) (s : State) → found_text line (prepared_text name c.prepared) (λ bytes. bytes) s ≡ needed line found.NoStatement (under name c.prepared) s
    there c s = text_needed line (prepared_text name c.prepared) s ∙ (λ j. needed line found.NoStatement (sym (text_under name c.prepared) j) s)

-- what is run, in the library's words
abbrev wanted_of : Said → Wanted
wanted_of (whole_text bytes) = text bytes
wanted_of (prepared_one name) = execution name
wanted_of (cursor_for head name) = cursor head name

request_same : (line : ℕ) (said : Said) (c : Connection) (s : State) → request_of line (wanted_of said) c s ≡ request_for line said c s
request_same line (whole_text bytes) c s = refl
request_same line (prepared_one name) c s =
    text_there line (prepared_text name c.prepared) (λ bytes params. request.Exec name params) s
    ∙ (λ j. next (needed line found.NoStatement (sym (text_under name c.prepared) j) s) (λ bytes t. gives (λ params. request.Exec name params) t))
request_same line (cursor_for head name) c s =
    text_there line (prepared_text name c.prepared) (λ bytes params. request.Text (head ++ bytes) params) s
    ∙ (λ j. next (needed line found.NoStatement (sym (text_under name c.prepared) j) s) (λ bytes t. gives (λ params. request.Text (head ++ bytes) params) t))

-- ---- descriptors

items_kept_same : (name : Text) (items : List Item) (s : State) → with_descriptor name items s ≡ with_items name items s
items_kept_same name items s = λ j. record s { descriptors = sym (area_put name items s.descriptors) j }

allocate_same : (line : ℕ) (name : TextArg ℕ) (s : State) → allocate_call line name s ≡ descriptor_allocated name s
allocate_same line name s = λ j. next (wanted_same name s j) (λ called s. next (begun_area s) (λ _ s. gives tt (items_kept_same called [] s j)))

free_area_same : (line : ℕ) (name : TextArg ℕ) (s : State) → deallocate_descriptor_call line name s ≡ descriptor_freed line name s
free_area_same line name s = λ j.
    next (wanted_same name s j) (λ called s.
    next (begun_area s) (λ _ s.
    next (area_there line called s j) (λ items s.
    gives tt (record s { descriptors = sym (area_gone called s.descriptors) j }))))

contents_same : (items : List Item) → contents items ≡ contents_of items
contents_same [] = refl
contents_same (it ∷ its) = λ j. it.content ∷ contents_same its j

row_same : (columns : List Col) (fields : List Field) → items_of columns fields ≡ row_items columns fields
row_same [] fields = refl
row_same (c ∷ cs) [] = refl
row_same (c ∷ cs) (field ∷ fields) = λ j. record { content = field; label = c.name; code = c.code } ∷ row_same cs fields j

none_less : (n : ℕ) → 0 - n ≡ 0
none_less n = omega arith

both_less : (n m : ℕ) → suc n - suc m ≡ n - m
both_less n m = omega arith

one_less : (n : ℕ) → 1 - suc n ≡ 0
one_less n = omega arith

nothing_less : (n : ℕ) → n - 0 ≡ n
nothing_less n = omega arith

all_blank : (n : ℕ) → replicate n new_item ≡ first_items n []
all_blank zero = refl
all_blank (suc n) = λ j. new_item ∷ all_blank n j

resized_same : (n : ℕ) (items : List Item) → resized n items ≡ first_items n items
resized_same zero items = λ j. replicate (none_less (length items) j) new_item
resized_same (suc n) [] = (λ j. replicate (nothing_less (suc n) j) new_item) ∙ all_blank (suc n)
resized_same (suc n) (it ∷ its) = (λ j. it ∷ take n its ++ replicate (both_less n (length its) j) new_item) ∙ (λ j. it ∷ resized_same n its j)

put_same : (n : ℕ) (it : Item) (items : List Item) → slice_set (raised_to (suc n) items) n it ≡ with_item_behind n it items
put_same zero it [] = refl
put_same zero it (old ∷ its) = (λ j. it ∷ its ++ replicate (one_less (length its) j) new_item) ∙ (λ j. it ∷ append-nil its j)
put_same (suc n) it [] =
    (λ j. slice_set (replicate (nothing_less (suc (suc n)) j) new_item) (suc n) it)
    ∙ (λ j. new_item ∷ slice_set (replicate (sym (nothing_less (suc n)) j) new_item) n it)
    ∙ (λ j. new_item ∷ put_same n it [] j)
put_same (suc n) it (old ∷ its) =
    (λ j. old ∷ slice_set (its ++ replicate (both_less (suc n) (length its) j) new_item) n it)
    ∙ (λ j. old ∷ put_same n it its j)

or_blank : (it : Option Item) → or_new it ≡ elim it [ None ↦ blank_item | Some it ↦ it ]
or_blank None = refl
or_blank (Some it) = refl

-- ---- numbers

number_same : (type : Arith) (field : Field) → number_as type field ≡ number_of_type type field
number_same type None = refl
number_same type (Some bytes) = λ j. option_and_then (λ z. sym (chosen (fits type z) {x = Some z} {y = None} refl refl) j) (field_number bytes)

between_same : (low high : ℕ) (z : ℤ) → within low high z ≡ natural_between low high z
between_same low high (pos n) = sym (chosen (nat_le low n && nat_le n high) refl refl)
between_same low high (negsuc n) = refl

number_found : (line : ℕ) (z : Option ℤ) (s : State) → found_number line z s ≡ needed line found.NotAnInteger z s
number_found line None s = refl
number_found line (Some z) s = refl

range_found : (line : ℕ) (n : Option ℕ) (s : State) → in_range line n s ≡ needed line found.DescriptorIndex n s
range_found line None s = refl
range_found line (Some n) s = refl

index_same : (line low high : ℕ) (field : Field) (s : State) → index_of line low high field s ≡ number_between line low high field s
index_same line low high field s =
    (λ j. next (number_found line (number_as Long field) s j) (λ z t. range_found line (within low high z) t j))
    ∙ (λ j. next (needed line found.NotAnInteger (number_same Long field j) s) (λ z t. needed line found.DescriptorIndex (between_same low high z j) t))

-- no index is 0: so what is done with one may differ there
indexed_same : {A : Type 0} (line high : ℕ) (field : Field) (f g : ℕ → State → Outcome A) → ((n : ℕ) (t : State) → f (suc n) t ≡ g (suc n) t) → (s : State)
    → next (index_of line 1 high field s) f ≡ next (number_between line 1 high field s) g
indexed_same line high field f g same s = (λ j. next (index_same line 1 high field s j) f) ∙ numbers (number_of_type Long field) s
  where
    in_turn : (b : Bool) (n : ℕ) (t : State) → next (needed line found.DescriptorIndex (cond b (Some (suc n)) None) t) f ≡ next (needed line found.DescriptorIndex (cond b (Some (suc n)) None) t) g
    in_turn true n t = same n t
    in_turn false n t = refl

    ranges : (z : ℤ) (t : State) → next (needed line found.DescriptorIndex (natural_between 1 high z) t) f ≡ next (needed line found.DescriptorIndex (natural_between 1 high z) t) g
    ranges (pos zero) t = refl
    ranges (pos (suc n)) t = in_turn (nat_le 1 (suc n) && nat_le (suc n) high) n t
    ranges (negsuc n) t = refl

    numbers : (z : Option ℤ) (t : State)
        → next (next (needed line found.NotAnInteger z t) (λ z t. needed line found.DescriptorIndex (natural_between 1 high z) t)) f
        ≡ next (next (needed line found.NotAnInteger z t) (λ z t. needed line found.DescriptorIndex (natural_between 1 high z) t)) g
    numbers None t = refl
    numbers (Some z) t = ranges z t

-- ---- what an item gives and takes

given_same : (kind : Kind) (it : Item) → item_text kind it ≡ given_text kind it
given_same item.Content it = refl
given_same item.Indicator it = by it.content
  where
    by : (c : Field) → item_text item.Indicator (record it { content = c }) ≡ given_text item.Indicator (record it { content = c })
    by None = refl
    by (Some bytes) = refl
given_same item.Label it = refl
given_same item.Code it = refl
given_same item.Octets it = by it.content
  where
    by : (c : Field) → item_text item.Octets (record it { content = c }) ≡ given_text item.Octets (record it { content = c })
    by None = refl
    by (Some bytes) = refl

takes_same : (kind : Kind) (field : Field) (it : Item) → set_item kind field it ≡ taken_text kind field it
takes_same item.Content field it = refl
takes_same item.Indicator field it =
    (λ j. option_map (λ z. nulled z it) (number_same Int field j))
    ∙ (λ j. option_map (λ z. sym (chosen (int_lt z (pos 0)) {x = record it { content = None }} {y = it} refl refl) j) (number_of_type Int field))
takes_same item.Label field it = refl
takes_same item.Code field it = λ j. option_map (λ z. record it { code = z }) (number_same Int field j)
takes_same item.Octets field it = refl

behind_one : (n : ℕ) → suc n - 1 ≡ n
behind_one n = omega arith

-- behind one value
abbrev with_set : Text → ℕ → List Item → Item → State → Outcome (Unit {0})
with_set name n items it s = gives tt (with_items name (with_item_behind n it items) s)

set_same : (line : ℕ) (name : Text) (n : ℕ) (items : List Item) (it : Option Item) (s : State)
    → item_set line name (suc n) items it s ≡ next (needed line found.NotAnInteger it s) (λ it u. with_set name n items it u)
set_same line name n items None s = refl
set_same line name n items (Some it) s =
    (λ j. gives tt (with_descriptor name (slice_set (raised_to (suc n) items) (behind_one n j) it) s))
    ∙ (λ j. gives tt (with_descriptor name (put_same n it items j) s))
    ∙ (λ j. gives tt (items_kept_same name (with_item_behind n it items) s j))

-- and behind those that follow, in the item behind so many others
abbrev after_item : ℕ → Text → ℕ → ℕ → List (Kind × Field) → Option Item → List Item → State → Outcome (Unit {0})
after_item line name n m vs it items t = next (needed line found.NotAnInteger it t) (λ it u. values_taken line name (suc n) vs (with_items name (with_item_behind m it items) u))

-- one value, by what is done with those behind it
module _ (line : ℕ) (name : Text) (n : ℕ) (vs : List (Kind × Field)) (more : (s : State) → items_set line name (suc n) vs s ≡ values_taken line name (suc n) vs s) where
  goes : (it : Option Item) (items : List Item) (t : State)
      → next (next (needed line found.NotAnInteger it t) (λ it u. with_set name n items it u)) (λ _ u. items_set line name (suc n) vs u)
      ≡ after_item line name n n vs it items t
  goes None items t = refl
  goes (Some it) items t = more (with_items name (with_item_behind n it items) t)

  one_set : (v : Kind × Field) (items : List Item) (t : State)
      → next (item_set line name (suc n) items (set_item v.0 v.1 (or_new (item_at (suc n) items))) t) (λ _ u. items_set line name (suc n) vs u)
      ≡ after_item line name n (suc n - 1) vs (taken_text v.0 v.1 (item_behind (suc n - 1) items)) items t
  one_set v items t =
      (λ j. next (set_same line name n items (set_item v.0 v.1 (or_new (item_at (suc n) items))) t j) (λ _ u. items_set line name (suc n) vs u))
      ∙ goes (set_item v.0 v.1 (or_new (item_at (suc n) items))) items t
      ∙ (λ j. after_item line name n n vs (set_item v.0 v.1 (or_blank (slice_get items n) j)) items t)
      ∙ (λ j. after_item line name n n vs (takes_same v.0 v.1 (item_behind n items) j) items t)
      ∙ (λ j. after_item line name n (sym (behind_one n) j) vs (taken_text v.0 v.1 (item_behind (sym (behind_one n) j) items)) items t)

sets_same : (line : ℕ) (name : Text) (n : ℕ) (vs : List (Kind × Field)) (s : State) → items_set line name (suc n) vs s ≡ values_taken line name (suc n) vs s
sets_same line name n [] s = refl
sets_same line name n (v ∷ vs) s = λ j. next (area_there line name s j) (λ items t. one_set line name n vs (λ u. sets_same line name n vs u) v items t j)

-- ---- rows

wrong_same : (code : ℤ) → wrong_field code ≡ found_by code
wrong_same code =
    chosen (has_code code found.NotAnInteger) refl
    (chosen (has_code code found.NotUnsigned) refl
    (chosen (has_code code found.NotABool) refl refl))

behind_same : (line : ℕ) (x : Stored) (s : State) → stored_by line x s ≡ behind_field line x s
behind_same line (Ok true, m) s = refl
behind_same line (Ok false, m) s = refl
behind_same line (Err (refused_there code), m) s = λ j. raised line (sym (wrong_same code) j) (with_memory m s)
behind_same line (Err (trapped_there trap), m) s = refl

field_same : (line : ℕ) (h : HostData) (row : ℕ) (field : Field) (s : State) → field_kept line h row field s ≡ field_in_row line h row field s
field_same line h row field s = behind_same line (field_stored s.memory h row field) s

column_same : (column : ℕ) (fields : List Field) → in_column column fields ≡ field_of column fields
column_same column fields = by (slice_get fields column)
  where
    by : (f : Option Field) → ◌≡◌ {A = Field} (elim f [ None ↦ None | Some field ↦ field ]) (elim f [ Some field ↦ field | None ↦ None ])
    by None = refl
    by (Some field) = refl

rows_same : (line : ℕ) (h : HostData) (column row : ℕ) (them : List (List Field)) (s : State) → shared_rows.rows_kept line h column row them s ≡ rows.rows_kept line h column row them s
rows_same line h column row [] s = refl
rows_same line h column row (fields ∷ them) s = λ j.
    next (field_same line h row (column_same column fields j) s j) (λ _ t.
    rows_same line h column (suc row) them t j)

counted_same : (line columns many : ℕ) (ls : List (Leaf ℕ)) (s : State) → shared_rows.counted line columns many ls s ≡ rows.counted line columns many ls s
counted_same line columns many ls s = sym
    (chosen (nat_lt columns (length ls)) refl
    (chosen (nat_lt (length ls) columns) refl
    (chosen (any_smaller many ls) refl refl)))

area_row_same : (line : ℕ) (name : Text) (table : Sheet) (them : List (List Field)) (s : State) → row_into line name table them s ≡ row_into_area line name table them s
area_row_same line name table [] s = refl
area_row_same line name table (fields ∷ []) s =
    (λ j. gives tt (with_descriptor name (row_same table.cols fields j) s)) ∙ (λ j. gives tt (items_kept_same name (row_items table.cols fields) s j))
area_row_same line name table (fields ∷ more ∷ them) s = refl

told_rows : (line : ℕ) (them : List (List Field)) (f g : State → Outcome (Unit {0})) → ((t : State) → f t ≡ g t) → (s : State) → counted_rows line them f s ≡ rows_told line them g s
told_rows line [] f g same s = refl
told_rows line (fields ∷ them) f g same s = same s

module _ (structs : List StructData) (line : ℕ) where
  leaves_same : (column : ℕ) (ls : List (Leaf ℕ)) (them : List (List Field)) (s : State) → shared_rows.leaves_kept structs line column ls them s ≡ rows.leaves_kept structs line column ls them s
  leaves_same column [] them s = refl
  leaves_same column (l ∷ ls) them s = λ j.
      next (present (leaf_data structs l) s) (λ h t.
      next (rows_same line h column 0 them t j) (λ _ u.
      leaves_same (suc column) ls them u j))

  into_same : (to : Targets) (table : Sheet) (s : State) → shared_rows.into_targets structs line to table s ≡ rows.into_targets structs line to table s
  into_same no_targets table s = refl
  into_same (leaf_targets ls) table s = λ j.
      next (counted_same line (length table.cols) (length table.rows) ls s j) (λ _ t.
      leaves_same 0 ls table.rows t j)
  into_same (area_target name) table s = area_row_same line name table table.rows s

  table_same : (to : Targets) (table : Sheet) (s : State) → shared_rows.table_kept structs line to table s ≡ rows.table_kept structs line to table s
  table_same to table s = told_rows line table.rows (shared_rows.into_targets structs line to table) (rows.into_targets structs line to table) (into_same to table)
      (with_memory (counted_area (length table.rows) s.memory) s)

-- ---- answers

count_same : (count : Option ℕ) → count_of count ≡ own.count_in count
count_same None = refl
count_same (Some n) = refl

judged_same : (line : ℕ) (wanted : Bool) (count : Option ℕ) (s : State) → done line wanted count s ≡ own.judged line wanted count s
judged_same line true (Some zero) s = refl
judged_same line false (Some zero) s = refl
judged_same line true (Some (suc n)) s = refl
judged_same line false (Some (suc n)) s = refl
judged_same line true None s = refl
judged_same line false None s = refl

counts_same : (line : ℕ) (wanted : Bool) (count : Option ℕ) (s : State) → count_told line wanted count s ≡ own.count_kept line wanted count s
counts_same line wanted count s =
    (λ j. done line wanted count (with_memory (counted_area (count_same count j) s.memory) s))
    ∙ judged_same line wanted count (with_memory (counted_area (own.count_in count) s.memory) s)

heard_same : (notice : Bool) (s : State) → half.with_notice notice s ≡ with_notice notice s
heard_same true s = refl
heard_same false s = refl

asks_same : {A : Type 0} (items : List (Kind × A)) → half.asks_indicator items ≡ own.asks_indicator items
asks_same [] = refl
asks_same (i ∷ is) = λ j. kind_same i.0 j || asks_same is j
  where
    kind_same : (kind : Kind) → is_indicator kind ≡ own.is_indicator kind
    kind_same item.Indicator = refl
    kind_same item.Content = refl
    kind_same item.Label = refl
    kind_same item.Code = refl
    kind_same item.Octets = refl

area_read_same : (a : Option (TextArg ℕ)) (s : State) → shared.area_read a s ≡ inputs.area_read a s
area_read_same None s = refl
area_read_same (Some name) s = λ j. next (wanted_same name s j) (λ bytes t. gives (Some bytes) t)

params_same : (line : ℕ) (values : List Field) (area : Option Text) (s : State) → params_behind line values area s ≡ own.parameters_with line values area s
params_same line values None s = refl
params_same line values (Some name) s = λ j. next (area_there line name s j) (λ items t. gives (values ++ contents_same items j) t)

targets_read_same : (outs : Outputs ℕ) (s : State) → half.targets_read outs s ≡ own.targets_read outs s
targets_read_same nowhere s = refl
targets_read_same (into_leaves ls) s = refl
targets_read_same (into_area name) s = λ j. next (wanted_same name s j) (λ bytes t. gives (area_target bytes) t)

targets_found_same : (line : ℕ) (to : Targets) (s : State) → half.targets_found line to s ≡ own.targets_found line to s
targets_found_same line no_targets s = refl
targets_found_same line (leaf_targets ls) s = refl
targets_found_same line (area_target name) s = λ j. next (area_there line name s j) (λ items t. gives tt t)

-- what is asked, behind it
said_same : {A : Type 0} (asked : Asked ℕ) (s : State) (f : Wanted → State → Outcome A) (g : Said → State → Outcome A) → ((said : Said) (t : State) → f (wanted_of said) t ≡ g said t)
    → next (half.asked_read asked s) f ≡ next (own.asked_read asked s) g
said_same (sends bytes) s f g same = same (whole_text bytes) s
said_same (executes name) s f g same = same (prepared_one name) s
said_same (reads_text a) s f g same = (λ j. next (next (wanted_same a s j) (λ bytes t. gives (text bytes) t)) f) ∙ by (text_wanted a s)
  where
    by : (o : Outcome Text) → next (next o (λ bytes t. gives (text bytes) t)) f ≡ next (next o (λ bytes t. gives (whole_text bytes) t)) g
    by (gives bytes t) = same (whole_text bytes) t
    by (finished t) = refl
    by (over halt t) = refl
said_same (opens head name) s f g same = same (cursor_for head name) s

module _ (structs : List StructData) (line : ℕ) where
  answers_same : (to : Targets) (reply : Reply) (s : State) → half.answer_kept structs line to reply s ≡ own.answer_kept structs line to reply s
  answers_same to (Rows table tx notice) s = λ j. table_same structs line to table (heard_same notice s j) j
  answers_same to (Done count tx notice) s = λ j. counts_same line (are_wanted to) count (heard_same notice s j) j
  answers_same to (Refused state message tx) s = λ j. refused line (sym (code_same state.0) j) state.0 message s
  answers_same to Connected s = refl
  answers_same to NoTarget s = refl
  answers_same to Broken s = refl

  carried_same : (name : Option Text) (said : Said) (values : List Field) (area : Option Text) (to : Targets) (s : State)
      → half.carried_out structs line name (wanted_of said) values area to s ≡ own.carried_out structs line name said values area to s
  carried_same name said values area to s = λ j.
      next (begun_area s) (λ _ s.
      next (over_same line name s j) (λ c s.
      next (request_same line said c s j) (λ request s.
      next (params_same line values area s j) (λ params s.
      next (targets_found_same line to s j) (λ _ s.
      next (begun_same line c s j) (λ _ s.
      next (reply_same c.slot (request params) s j) (λ reply s.
      answers_same to reply s j)))))))

  run_same : (at : TextArg ℕ) (asked : Asked ℕ) (ins : Sent ℕ) (outs : Outputs ℕ) (s : State) → half.run_over structs line at asked ins outs s ≡ own.run_over structs line at asked ins outs s
  run_same at asked ins outs s = λ j. next (got_same at s j) (λ name t. behind_name name t j)
    where
      behind_values : (name : Option Text) (said : Said) (s : State)
          → next (values_read structs ins.values s) (λ values s. next (shared.area_read ins.area s) (λ area s. next (half.targets_read outs s) (λ to s. half.carried_out structs line name (wanted_of said) values area to s)))
          ≡ next (values_read structs ins.values s) (λ values s. next (inputs.area_read ins.area s) (λ area s. next (own.targets_read outs s) (λ to s. own.carried_out structs line name said values area to s)))
      behind_values name said s = λ j.
          next (values_read structs ins.values s) (λ values s.
          next (area_read_same ins.area s j) (λ area s.
          next (targets_read_same outs s j) (λ to s.
          carried_same name said values area to s j)))

      behind_name : (name : Option Text) (s : State)
          → next (half.asked_read asked s) (λ wanted s. next (values_read structs ins.values s) (λ values s. next (shared.area_read ins.area s) (λ area s. next (half.targets_read outs s) (λ to s. half.carried_out structs line name wanted values area to s))))
          ≡ next (own.asked_read asked s) (λ said s. next (values_read structs ins.values s) (λ values s. next (inputs.area_read ins.area s) (λ area s. next (own.targets_read outs s) (λ to s. own.carried_out structs line name said values area to s))))
      behind_name name s = said_same asked s _ _ (λ said t. behind_values name said t)

  -- ---- descriptors

  kept_same : (l : Leaf ℕ) (field : Field) (s : State) → half.kept_in structs line l field s ≡ own.kept_in structs line l field s
  kept_same l field s = λ j. next (present (leaf_data structs l) s) (λ h t. field_same line h 0 field t j)

  item_kept_same : (asked : Bool) (l : Leaf ℕ) (field : Field) (s : State) → half.item_kept structs line asked l field s ≡ own.item_kept structs line asked l field s
  item_kept_same asked l (Some bytes) s = kept_same l (Some bytes) s
  item_kept_same asked l None s = λ j. elim (own.has_indicator l) [
    | true ↦ kept_same l None s j
    | false ↦ elim asked [ true ↦ gives tt s | false ↦ kept_same l None s j ]
  ]

  items_got_same : (asked : Bool) (it : Item) (items : List (Kind × Leaf ℕ)) (s : State) → half.items_kept structs line asked it items s ≡ own.items_kept structs line asked it items s
  items_got_same asked it [] s = refl
  items_got_same asked it (i ∷ is) s = λ j.
      next (item_kept_same asked i.1 (given_same i.0 it j) s j) (λ _ t. items_got_same asked it is t j)

  pub own_same : (x : Statement ℕ) (s : State) → half.statement_done structs line x s ≡ own.statement_done structs line x s
  own_same (runs at asked ins outs) s = run_same at asked ins outs s
  own_same (connects target user password name) s = connect_same line target user password name s
  own_same (disconnects name) s = disconnect_same line name s
  own_same (sets_connection name) s = choose_same line name s
  own_same (sets_autocommit on at) s = autocommit_same line on at s
  own_same (controls at bytes) s = controls_same line at bytes s
  own_same (prepares at name bytes) s = prepare_same line at name bytes s
  own_same (deallocates at name) s = deallocate_same line at name s
  own_same (allocates name) s = allocate_same line name s
  own_same (frees name) s = free_area_same line name s
  own_same (gets_count name l) s = λ j.
      next (wanted_same name s j) (λ called s.
      next (begun_area s) (λ _ s.
      next (area_there line called s j) (λ items s.
      kept_same l (Some (decimal (length items))) s j)))
  own_same (sets_count name x) s = λ j.
      next (wanted_same name s j) (λ called s.
      next (input_read structs x s) (λ field s.
      next (begun_area s) (λ _ s.
      next (area_there line called s j) (λ items s.
      next (index_same line 0 1000 field s j) (λ n s.
      gives tt (items_kept_same called (resized_same n items j) s j))))))
  own_same (gets_items name index wanted) s = λ j.
      next (wanted_same name s j) (λ called s.
      next (input_read structs index s) (λ field s.
      next (begun_area s) (λ _ s.
      next (area_there line called s j) (λ items s.
      indexed_same line (length items) field
      (λ n s. next (present (item_at n items) s) (λ it s. half.items_kept structs line (half.asks_indicator wanted) it wanted s))
      (λ n s. next (present (slice_get items (n - 1)) s) (λ it s. own.items_kept structs line (own.asks_indicator wanted) it wanted s))
      (λ n t. (λ j. next (present (slice_get items n) t) (λ it s. items_got_same (asks_same wanted j) it wanted s j))
      ∙ (λ j. next (present (slice_get items (sym (behind_one n) j)) t) (λ it s. own.items_kept structs line (own.asks_indicator wanted) it wanted s))) s j))))
  own_same (sets_items name index given) s = λ j.
      next (wanted_same name s j) (λ called s.
      next (input_read structs index s) (λ field s.
      next (items_read structs given s) (λ fields s.
      next (begun_area s) (λ _ s.
      next (area_there line called s j) (λ items s.
      indexed_same line 1000 field
      (λ n s. items_set line called n fields s)
      (λ n s. values_taken line called n fields s)
      (λ n t. sets_same line called n fields t) s j)))))
