-- A call does what its statement does, from the reading of its inputs on.
use Rattle.std.proofs.Common.{◌≡◌, ◌∙◌, ℕ, suc, Bool, true, false, List, [], ◌∷◌, ◌++◌, length, map, Option, Some, None, refl}
use Rattle.std.specs.Prelude.{nat_lt, ◌||◌, option_map}
use Rattle.std.specs.Fmt.{decimal}
use Rattle.ec_arguments.specs.Arguments as library
use Rattle.ec_arguments.specs.Arguments.{TextArg, Place, Member, host}
use Rattle.ec_ctypes.specs.declared.embedded.emb.Item.{Item as Kind}
use Rattle.ec_ctypes.specs.trees.Types.{StructData}
use Rattle.ec_host_defs.specs.Leaves.{LeafData}
use Rattle.ec_link.specs.declared.reply.Reply.{Reply}
use Rattle.ec_link.specs.declared.reply.Reply.TheVariants.{Connected, NoTarget, Rows, Done, Refused, Broken}
use Rattle.ec_link.specs.Table.{Sheet}
use Rattle.ec_transfer_defs.specs.declared.finding.Finding.TheVariants as found
use Rattle.ec_transfer_defs.specs.Conversion.{parameter}
use Rattle.ec_transfer_defs.specs.Hosts.{HostData}
use Rattle.ec_meaning_defs.specs.evaluation.State.{Item, State}
use Rattle.ec_call_defs.specs.Outcomes.{Text, Field, Outcome, gives, finished, over, next, trying, present, heard, begun_area, raised}
use Rattle.ec_call_defs.specs.Connections.{connection_for, asked, begun}
use Rattle.ec_call_defs.specs.Inputs as call
use Rattle.ec_call_defs.specs.Inputs.{Inputs, no_inputs, with_param, with_area, text_read, given_read, inputs_read, member_read}
use Rattle.ec_call_defs.specs.Storing.{field_kept, in_column, with_rows, column_kept, targets_kept, any_fewer, measured, rows_into}
use Rattle.ec_call_defs.specs.Answers.{count_told, replied}
use Rattle.ec_call_defs.specs.Areas.{resized, item_at, item_text}
use Rattle.ec_call_defs.specs.Running as call_running
use Rattle.ec_call_defs.specs.Running.{Wanted, request_of, params_behind, area_found, places_of, into_places, outputs_read, statement_read}
use Rattle.ec_call_defs.specs.Descriptors as areas
use Rattle.ec_call_defs.specs.Descriptors.{is_indicator, index_of, with_descriptor, items_set}
use Rattle.ec_call_defs.specs.Library.{call_done}
use Rattle.ec_direct_defs.specs.Leaves.{Leaf, leaf_data}
use Rattle.ec_direct_defs.specs.Statements as direct
use Rattle.ec_direct_defs.specs.Statements.{Input, stored, Sent, Outputs, nowhere, into_leaves, into_area, Asked, sends, executes, reads_text, opens, Statement, runs, connects, disconnects, sets_connection, sets_autocommit, controls, prepares, deallocates, allocates, frees, gets_count, sets_count, gets_items, sets_items}
use Rattle.ec_direct_defs.specs.Inputs.{leaf_read, input_read, values_read, items_read}
use Rattle.ec_direct_defs.specs.Storing.{Targets, no_targets, leaf_targets, area_target, are_wanted, any_smaller}
use Rattle.ec_direct_defs.specs.Executing as own
use Rattle.ec_sim_statement_laws.proofs.statement_lemmas.SharedInputs.{area_read}
use Rattle.ec_sim_statement_laws.proofs.statement_lemmas.SharedStoring as direct_storing
use Rattle.ec_sim_statement_laws.proofs.statement_lemmas.SharedStoring.{rows_kept, counted, leaves_kept, into_targets, table_kept}
use Rattle.ec_sim_statement_laws.proofs.statement_lemmas.SharedExecuting as direct_executing
use Rattle.ec_sim_statement_laws.proofs.statement_lemmas.SharedExecuting.{asked_read, targets_read, targets_found, with_notice, answer_kept, asks_indicator, has_indicator, carried_out, run_over, kept_in, item_kept, items_kept, statement_done}
use Rattle.ec_sim_statement_laws.proofs.statement_lemmas.OwnWords.{own_same}
use Rattle.ec_sim_statement_laws.specs.statement.Calls.{indicator_of, place_of, host_of, input_of, area_of, ins_of, outs_of, asked_of, got_of, given_of, call_of, HasLeaves, HasTargets}
use Rattle.ec_sim_statement_laws.proofs.statement_lemmas.ByType.{data_same}

-- one part and then two more
next_next : {A B C : Type 0} (m : Outcome A) (f : A → State → Outcome B) (g : B → State → Outcome C)
    → next (next m f) g ≡ next m (λ a s. next (f a s) g)
next_next (gives a s) f g = refl
next_next (finished s) f g = refl
next_next (over halt s) f g = refl

abbrev is_there : {A : Type 0} → Option A → Bool
is_there i = elim i [ None ↦ false | Some x ↦ true ]

module _ (structs : List StructData) where
  -- ---- inputs

  leaf_same : (l : Leaf ℕ) (s : State) → call.value_read (place_of structs l) s ≡ leaf_read structs l s
  leaf_same l s = λ j. next (present (data_same structs l j) s) (λ h t. trying (parameter t.memory h) t)

  input_same : (x : Input ℕ) (s : State) → member_read (input_of structs x) s ≡ input_read structs x s
  input_same (stored l) s = leaf_same l s
  input_same (direct.constant bytes) s = refl

  abbrev sent_read : List Field → Option (TextArg ℕ) → State → Outcome Inputs
  sent_read params a t = next (area_read a t) (λ area u. gives (record { params = params; area = area }) u)

  -- the descriptor behind the values
  area_same : (a : Option (TextArg ℕ)) (s : State) → inputs_read (area_of structs a) s ≡ sent_read [] a s
  area_same None s = refl
  area_same (Some name) s = go (given_read name s)
    where
      go : (q : Outcome Text)
          → next q (λ bytes t. next (gives no_inputs t) (λ rest u. gives (with_area bytes rest) u))
          ≡ next (next q (λ bytes t. gives (Some bytes) t)) (λ area u. gives (record { params = []; area = area }) u)
      go (gives bytes t) = refl
      go (finished t) = refl
      go (over halt t) = refl

  -- a value before others
  with_front : (a : Option (TextArg ℕ)) (field : Field) (q : Outcome (List Field))
      → next (next q (λ params t. sent_read params a t)) (λ rest u. gives (with_param field rest) u)
      ≡ next (next q (λ fields u. gives (field ∷ fields) u)) (λ params t. sent_read params a t)
  with_front a field (finished t) = refl
  with_front a field (over halt t) = refl
  with_front a field (gives fields t) = go (area_read a t)
    where
      go : (q : Outcome (Option Text))
          → next (next q (λ area u. gives (record { params = fields; area = area }) u)) (λ rest u. gives (with_param field rest) u)
          ≡ next q (λ area u. gives (record { params = field ∷ fields; area = area }) u)
      go (gives area u) = refl
      go (finished u) = refl
      go (over halt u) = refl

  behind_field : (a : Option (TextArg ℕ)) (xs : List (Input ℕ)) (q : Outcome Field)
      → next q (λ field t. next (next (values_read structs xs t) (λ params u. sent_read params a u)) (λ rest u. gives (with_param field rest) u))
      ≡ next (next q (λ field t. next (values_read structs xs t) (λ fields u. gives (field ∷ fields) u))) (λ params t. sent_read params a t)
  behind_field a xs (gives field t) = with_front a field (values_read structs xs t)
  behind_field a xs (finished t) = refl
  behind_field a xs (over halt t) = refl

  inputs_same : (xs : List (Input ℕ)) (a : Option (TextArg ℕ)) (s : State)
      → inputs_read (map (input_of structs) xs ++ area_of structs a) s
      ≡ next (values_read structs xs s) (λ params t. sent_read params a t)
  inputs_same [] a s = area_same a s
  inputs_same (stored l ∷ xs) a s =
      (λ j. next (leaf_same l s j) (λ field t. next (inputs_same xs a t j) (λ rest u. gives (with_param field rest) u)))
      ∙ behind_field a xs (leaf_read structs l s)
  inputs_same (direct.constant bytes ∷ xs) a s =
      (λ j. next (inputs_same xs a s j) (λ rest t. gives (with_param (Some bytes) rest) t))
      ∙ with_front a (Some bytes) (values_read structs xs s)

  -- ---- outputs

  abbrev targets_in : Targets → call_running.Outputs
  targets_in no_targets = call_running.nowhere
  targets_in (leaf_targets ls) = call_running.hosts (map (place_of structs) ls)
  targets_in (area_target name) = call_running.area name

  places_same : (ls : List (Leaf ℕ)) → places_of (map (host_of structs) ls) ≡ Some (map (place_of structs) ls)
  places_same [] = refl
  places_same (l ∷ ls) = λ j. elim (places_same ls j) [ None ↦ None | Some ps ↦ Some (place_of structs l ∷ ps) ]

  targets_same : (outs : Outputs ℕ) → HasLeaves outs → (s : State)
      → outputs_read (outs_of structs outs) s ≡ next (targets_read outs s) (λ to t. gives (targets_in to) t)
  targets_same nowhere h s = refl
  targets_same (into_leaves []) h s = absurd h
  targets_same (into_leaves (l ∷ ls)) h s = λ j. into_places (places_same (l ∷ ls) j) s
  targets_same (into_area name) h s = go (given_read name s)
    where
      go : (q : Outcome Text)
          → next q (λ bytes t. gives (call_running.area bytes) t)
          ≡ next (next q (λ bytes t. gives (area_target bytes) t)) (λ to t. gives (targets_in to) t)
      go (gives bytes t) = refl
      go (finished t) = refl
      go (over halt t) = refl

  module _ (line : ℕ) where
    rows_same : (h : HostData) (column row : ℕ) (rows : List (List Field)) (s : State)
        → column_kept line h column row rows s ≡ rows_kept line h column row rows s
    rows_same h column row [] s = refl
    rows_same h column row (fields ∷ rows) s = λ j.
        next (field_kept line h row (in_column column fields) s) (λ _ t. rows_same h column (suc row) rows t j)

    kept_same : (column : ℕ) (ls : List (Leaf ℕ)) (rows : List (List Field)) (s : State)
        → targets_kept line column (map (place_of structs) ls) rows s ≡ leaves_kept structs line column ls rows s
    kept_same column [] rows s = refl
    kept_same column (l ∷ ls) rows s = λ j.
        next (present (data_same structs l j) s) (λ h t.
        next (rows_same h column 0 rows t j) (λ _ u.
        kept_same (suc column) ls rows u j))

    fewer_same : (rows : ℕ) (ls : List (Leaf ℕ)) → any_fewer rows (map (place_of structs) ls) ≡ any_smaller rows ls
    fewer_same rows [] = refl
    fewer_same rows (l ∷ ls) = go (nat_lt l.leaf.count rows) (fewer_same rows ls)
      where
        go : (b : Bool) {c d : Bool} → c ≡ d → elim b [ true ↦ true | false ↦ c ] ≡ (b || d)
        go true e = refl
        go false e = e

    as_many : (ls : List (Leaf ℕ)) → length (map (place_of structs) ls) ≡ length ls
    as_many [] = refl
    as_many (l ∷ ls) = λ j. suc (as_many ls j)

    counts_same : (columns rows : ℕ) (ls : List (Leaf ℕ)) (s : State)
        → measured line columns rows (map (place_of structs) ls) s ≡ counted line columns rows ls s
    counts_same columns rows ls s = λ j. elim (nat_lt columns (as_many ls j)) [
      | true ↦ raised line found.TooManyTargets s
      | false ↦ elim (nat_lt (as_many ls j) columns) [
        | true ↦ raised line found.TooFewTargets s
        | false ↦ elim (fewer_same rows ls j) [ true ↦ raised line found.TooManyRows s | false ↦ gives tt s ]
      ]
    ]

    into_same : (ls : List (Leaf ℕ)) (table : Sheet) (s : State)
        → rows_into line (map (place_of structs) ls) (length table.cols) table.rows s
        ≡ direct_storing.into_leaves structs line ls table s
    into_same ls table s = λ j.
        next (counts_same (length table.cols) (length table.rows) ls s j) (λ _ t.
        kept_same 0 ls table.rows t j)

    -- a notice that is told before anything else is made of its answer
    heard_same : (notice : Bool) (s : State) → heard notice s ≡ with_notice notice s
    heard_same true s = refl
    heard_same false s = refl

    -- what is made of an answer, where its rows are kept alike
    answer_same : (to : Targets) (store : Sheet → State → Outcome (Unit {0})) → ((table : Sheet) (s : State) → store table s ≡ table_kept structs line to table s)
        → (reply : Reply) (s : State) → replied line (are_wanted to) store reply s ≡ answer_kept structs line to reply s
    answer_same to store same (Rows table tx notice) s = same table (heard notice s) ∙ (λ j. table_kept structs line to table (heard_same notice s j))
    answer_same to store same (Done count tx notice) s = λ j. count_told line (are_wanted to) count (heard_same notice s j)
    answer_same to store same (Refused state message tx) s = refl
    answer_same to store same Connected s = refl
    answer_same to store same NoTarget s = refl
    answer_same to store same Broken s = refl

    rows_kept_same : (to : Targets) (table : Sheet) (s : State) → call_running.table_kept line (targets_in to) table s ≡ table_kept structs line to table s
    rows_kept_same no_targets table s = refl
    rows_kept_same (area_target bytes) table s = refl
    rows_kept_same (leaf_targets ls) table s = λ j. with_rows line table.rows (λ u. into_same ls table u j) s

    kept_answer : (to : Targets) (reply : Reply) (s : State)
        → replied line (are_wanted to) (λ table t. call_running.table_kept line (targets_in to) table t) reply s ≡ answer_kept structs line to reply s
    kept_answer to reply s = answer_same to (λ table t. call_running.table_kept line (targets_in to) table t) (rows_kept_same to) reply s

    -- from the reset of the communication area on
    carried_same : (name : Option Text) (wanted : Wanted) (values : List Field) (area : Option Text) (to : Targets) (s : State)
        → call_running.carried_out line name wanted (record { params = values; area = area }) (targets_in to) s
        ≡ carried_out structs line name wanted values area to s
    carried_same name wanted values area no_targets s = λ j.
        next (begun_area s) (λ _ s.
        next (connection_for line name s) (λ c s.
        next (request_of line wanted c s) (λ request s.
        next (params_behind line values area s) (λ params s.
        next (begun line c s) (λ _ s.
        next (asked c.slot (request params) s) (λ reply s.
        kept_answer no_targets reply s j))))))
    carried_same name wanted values area (area_target bytes) s = λ j.
        next (begun_area s) (λ _ s.
        next (connection_for line name s) (λ c s.
        next (request_of line wanted c s) (λ request s.
        next (params_behind line values area s) (λ params s.
        next (targets_found line (area_target bytes) s) (λ _ s.
        next (begun line c s) (λ _ s.
        next (asked c.slot (request params) s) (λ reply s.
        kept_answer (area_target bytes) reply s j)))))))
    carried_same name wanted values area (leaf_targets ls) s = λ j.
        next (begun_area s) (λ _ s.
        next (connection_for line name s) (λ c s.
        next (request_of line wanted c s) (λ request s.
        next (params_behind line values area s) (λ params s.
        next (begun line c s) (λ _ s.
        next (asked c.slot (request params) s) (λ reply s.
        kept_answer (leaf_targets ls) reply s j))))))

    -- ---- a statement over a connection

    asked_same : (x : Asked ℕ) (s : State) → statement_read (asked_of structs x) s ≡ asked_read x s
    asked_same (sends bytes) s = refl
    asked_same (executes name) s = refl
    asked_same (reads_text text) s = refl
    asked_same (opens head name) s = refl

    -- behind its inputs
    outs_same : (outs : Outputs ℕ) → HasLeaves outs → (name : Option Text) (wanted : Wanted) (values : List Field) (area : Option Text) (s : State)
        → next (outputs_read (outs_of structs outs) s) (λ to t. call_running.carried_out line name wanted (record { params = values; area = area }) to t)
        ≡ next (targets_read outs s) (λ to t. carried_out structs line name wanted values area to t)
    outs_same outs h name wanted values area s =
        (λ j. next (targets_same outs h s j) (λ to t. call_running.carried_out line name wanted (record { params = values; area = area }) to t))
        ∙ next_next (targets_read outs s) (λ to t. gives (targets_in to) t) (λ to t. call_running.carried_out line name wanted (record { params = values; area = area }) to t)
        ∙ (λ j. next (targets_read outs s) (λ to t. carried_same name wanted values area to t j))

    -- behind its text
    ins_same : (ins : Sent ℕ) (outs : Outputs ℕ) → HasLeaves outs → (name : Option Text) (wanted : Wanted) (s : State)
        → next (inputs_read (ins_of structs ins) s) (λ inputs t. next (outputs_read (outs_of structs outs) t) (λ to u. call_running.carried_out line name wanted inputs to u))
        ≡ next (values_read structs ins.values s) (λ values t. next (area_read ins.area t) (λ area u. next (targets_read outs u) (λ to r. carried_out structs line name wanted values area to r)))
    ins_same ins outs h name wanted s =
        (λ j. next (inputs_same ins.values ins.area s j) behind)
        ∙ next_next (values_read structs ins.values s) (λ params t. sent_read params ins.area t) behind
        ∙ (λ j. next (values_read structs ins.values s) (λ values t. with_area_read values t j))
      where
        behind : Inputs → State → Outcome (Unit {0})
        behind inputs t = next (outputs_read (outs_of structs outs) t) (λ to u. call_running.carried_out line name wanted inputs to u)

        with_area_read : (values : List Field) (t : State)
            → next (sent_read values ins.area t) behind
            ≡ next (area_read ins.area t) (λ area u. next (targets_read outs u) (λ to r. carried_out structs line name wanted values area to r))
        with_area_read values t =
            next_next (area_read ins.area t) (λ area u. gives (record { params = values; area = area }) u) behind
            ∙ (λ j. next (area_read ins.area t) (λ area u. outs_same outs h name wanted values area u j))

    run_same : (at : TextArg ℕ) (x : Asked ℕ) (ins : Sent ℕ) (outs : Outputs ℕ) → HasLeaves outs → (s : State)
        → call_running.run_call line at (asked_of structs x) (ins_of structs ins) (outs_of structs outs) s
        ≡ run_over structs line at x ins outs s
    run_same at x ins outs h s = λ j.
        next (text_read at s) (λ name t.
        next (asked_same x t j) (λ wanted u.
        ins_same ins outs h name wanted u j))

    -- ---- descriptors

    kept_in_same : (l : Leaf ℕ) (field : Field) (s : State) → areas.stored_in line (host_of structs l) field s ≡ kept_in structs line l field s
    kept_in_same l field s = λ j. next (present (data_same structs l j) s) (λ h t. field_kept line h 0 field t)

    told_same : (l : Leaf ℕ) → areas.has_indicator (host_of structs l) ≡ has_indicator l
    told_same l = go l.indicator
      where
        go : (i : Option (ℕ × LeafData)) → is_there (option_map (indicator_of structs) i) ≡ is_there i
        go None = refl
        go (Some i) = refl

    item_same : (asked : Bool) (l : Leaf ℕ) (field : Field) (s : State)
        → areas.item_stored line asked (host_of structs l) field s ≡ item_kept structs line asked l field s
    item_same asked l (Some bytes) s = kept_in_same l (Some bytes) s
    item_same asked l None s = λ j. elim (told_same l j) [
      | true ↦ kept_in_same l None s j
      | false ↦ elim asked [ true ↦ gives tt s | false ↦ kept_in_same l None s j ]
    ]

    items_same : (asked : Bool) (it : Item) (items : List (Kind × Leaf ℕ)) (s : State)
        → areas.items_stored line asked it (map (got_of structs) items) s ≡ items_kept structs line asked it items s
    items_same asked it [] s = refl
    items_same asked it (i ∷ is) s = λ j.
        next (item_same asked i.1 (item_text i.0 it) s j) (λ _ t. items_same asked it is t j)

    asks_same : (items : List (Kind × Leaf ℕ)) → areas.asks_indicator (map (got_of structs) items) ≡ asks_indicator items
    asks_same [] = refl
    asks_same (i ∷ is) = λ j. is_indicator i.0 || asks_same is j

    fields_same : (items : List (Kind × Input ℕ)) (s : State)
        → areas.values_read (map (given_of structs) items) s ≡ items_read structs items s
    fields_same [] s = refl
    fields_same (i ∷ is) s = λ j.
        next (input_same i.1 s j) (λ field t.
        next (fields_same is t j) (λ fields u.
        gives ((i.0, field) ∷ fields) u))

    halfway : (x : Statement ℕ) → HasTargets x → (s : State) → call_done line (call_of structs x) s ≡ statement_done structs line x s
    halfway (runs at asked ins outs) h s = run_same at asked ins outs h s
    halfway (connects target user password name) h s = refl
    halfway (disconnects name) h s = refl
    halfway (sets_connection name) h s = refl
    halfway (sets_autocommit on at) h s = refl
    halfway (controls at bytes) h s = refl
    halfway (prepares at name bytes) h s = refl
    halfway (deallocates at name) h s = refl
    halfway (allocates name) h s = refl
    halfway (frees name) h s = refl
    halfway (gets_count name l) h s = λ j.
        next (given_read name s) (λ called s.
        next (begun_area s) (λ _ s.
        next (area_found line called s) (λ items s.
        kept_in_same l (Some (decimal (length items))) s j)))
    halfway (sets_count name x) h s = λ j.
        next (given_read name s) (λ called s.
        next (input_same x s j) (λ field s.
        next (begun_area s) (λ _ s.
        next (area_found line called s) (λ items s.
        next (index_of line 0 1000 field s) (λ n s.
        gives tt (with_descriptor called (resized n items) s))))))
    halfway (gets_items name index wanted) h s = λ j.
        next (given_read name s) (λ called s.
        next (input_same index s j) (λ field s.
        next (begun_area s) (λ _ s.
        next (area_found line called s) (λ items s.
        next (index_of line 1 (length items) field s) (λ n s.
        next (present (item_at n items) s) (λ it s.
        got it s j))))))
      where
        got : (it : Item) (t : State)
            → areas.items_stored line (areas.asks_indicator (map (got_of structs) wanted)) it (map (got_of structs) wanted) t
            ≡ items_kept structs line (asks_indicator wanted) it wanted t
        got it t = (λ j. areas.items_stored line (asks_same wanted j) it (map (got_of structs) wanted) t) ∙ items_same (asks_indicator wanted) it wanted t
    halfway (sets_items name index given) h s = λ j.
        next (given_read name s) (λ called s.
        next (input_same index s j) (λ field s.
        next (fields_same given s j) (λ fields s.
        next (begun_area s) (λ _ s.
        next (area_found line called s) (λ items s.
        next (index_of line 1 1000 field s) (λ n s.
        items_set line called n fields s))))))

    -- what a statement does by its own words is what its call does
    pub done_same : (x : Statement ℕ) → HasTargets x → (s : State) → call_done line (call_of structs x) s ≡ own.statement_done structs line x s
    done_same x h s = halfway x h s ∙ own_same structs line x s
