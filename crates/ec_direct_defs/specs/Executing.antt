-- What a statement does once its places are known and its turn is taken: it reads its texts and values, sets the communication area, finds its connection, its prepared statement and its descriptors, begins a transaction where that is due, sends its request, and stores the answer.
use Rattle.std.specs.Prelude.{ℕ, zero, suc, ◌-◌, cond, List, [], ◌∷◌, ◌++◌, length, slice_get, Option, Some, None, Bool, true, false, ◌||◌}
use Rattle.std.specs.Fmt.{decimal}
use Rattle.ec_arguments.specs.Arguments.{TextArg}
use Rattle.ec_ctypes.specs.declared.embedded.emb.Item.{Item as Kind}
use Rattle.ec_ctypes.specs.declared.embedded.emb.Item.TheVariants as item
use Rattle.ec_ctypes.specs.trees.Types.{StructData}
use Rattle.ec_link.specs.declared.reply.Reply.{Reply}
use Rattle.ec_link.specs.declared.reply.Reply.TheVariants.{Connected, NoTarget, Rows, Done, Refused, Broken}
use Rattle.ec_transfer_defs.specs.declared.finding.Finding.TheVariants as found
use Rattle.ec_meaning_defs.specs.evaluation.State.{Item, State}
use Rattle.ec_call_defs.specs.Outcomes.{Text, Field, Outcome, gives, next, present, with_memory, begun_area, counted_area, raised}
use Rattle.ec_direct_defs.specs.Texts.{text_got, text_wanted}
use Rattle.ec_direct_defs.specs.Requests.{answer_to, verdict, concluded, with_notice, transaction_begun}
use Rattle.ec_direct_defs.specs.Connections.{connection_over, connection_opened, connection_chosen, autocommit_switched, transaction_controlled, connections_closed}
use Rattle.ec_direct_defs.specs.Prepared.{Said, whole_text, prepared_one, cursor_for, request_for, statement_prepared, statement_deallocated}
use Rattle.ec_direct_defs.specs.Descriptors.{items_under, with_items, descriptor_allocated, descriptor_freed, contents_of, first_items, number_between, given_text, values_taken}
use Rattle.ec_direct_defs.specs.Leaves.{Leaf, leaf_data}
use Rattle.ec_direct_defs.specs.Statements.{Input, Sent, Outputs, nowhere, into_leaves, into_area, Asked, sends, executes, reads_text, opens, Statement, runs, connects, disconnects, sets_connection, sets_autocommit, controls, prepares, deallocates, allocates, frees, gets_count, sets_count, gets_items, sets_items}
use Rattle.ec_direct_defs.specs.Inputs.{input_read, values_read, items_read, area_read}
use Rattle.ec_direct_defs.specs.Storing.{Targets, no_targets, leaf_targets, area_target, are_wanted, field_in_row, table_kept}

-- ---- statements over a connection

abbrev pub asked_read : Asked ℕ → State → Outcome Said
asked_read (sends bytes) s = gives (whole_text bytes) s
asked_read (executes name) s = gives (prepared_one name) s
asked_read (reads_text a) s = next (text_wanted a s) (λ bytes t. gives (whole_text bytes) t)
asked_read (opens head name) s = gives (cursor_for head name) s

abbrev pub targets_read : Outputs ℕ → State → Outcome Targets
targets_read nowhere s = gives no_targets s
targets_read (into_leaves ls) s = gives (leaf_targets ls) s
targets_read (into_area name) s = next (text_wanted name s) (λ bytes t. gives (area_target bytes) t)

-- the descriptor of the outputs has to be there
abbrev pub targets_found : ℕ → Targets → State → Outcome (Unit {0})
targets_found line no_targets s = gives tt s
targets_found line (leaf_targets ls) s = gives tt s
targets_found line (area_target name) s = next (items_under line name s) (λ items t. gives tt t)

-- the parameters are the values, and behind them the contents of the descriptor of the inputs
abbrev pub parameters_with : ℕ → List Field → Option Text → State → Outcome (List Field)
parameters_with line values None s = gives values s
parameters_with line values (Some name) s =
    next (items_under line name s) (λ items t. gives (values ++ contents_of items) t)

-- ---- the answer

-- A count is told, or 0 where the answer has none. A count of 0 is a code, and so is any answer without rows where rows are wanted
abbrev pub count_in : Option ℕ → ℕ
count_in None = 0
count_in (Some n) = n

abbrev pub judged : ℕ → Bool → Option ℕ → State → Outcome (Unit {0})
judged line wanted (Some zero) s = raised line found.NoData s
judged line wanted (Some (suc n)) s = cond wanted (raised line found.TooManyTargets s) (gives tt s)
judged line wanted None s = cond wanted (raised line found.TooManyTargets s) (gives tt s)

abbrev pub count_kept : ℕ → Bool → Option ℕ → State → Outcome (Unit {0})
count_kept line wanted count s =
    judged line wanted count (with_memory (counted_area (count_in count) s.memory) s)

-- ---- descriptors

abbrev pub is_indicator : Kind → Bool
is_indicator item.Indicator = true
is_indicator item.Content = false
is_indicator item.Label = false
is_indicator item.Code = false
is_indicator item.Octets = false

abbrev pub asks_indicator : {A : Type 0} → List (Kind × A) → Bool
asks_indicator [] = false
asks_indicator (i ∷ is) = is_indicator i.0 || asks_indicator is

abbrev pub has_indicator : Leaf ℕ → Bool
has_indicator l = elim l.indicator [ None ↦ false | Some i ↦ true ]

module _ (structs : List StructData) (line : ℕ) where
  -- What is made of the answer to a statement: a notice is told first, and then rows are stored or a count is told. Any other answer is a code
  abbrev pub answer_kept : Targets → Reply → State → Outcome (Unit {0})
  answer_kept to (Rows table tx notice) s = table_kept structs line to table (with_notice notice s)
  answer_kept to (Done count tx notice) s =
      count_kept line (are_wanted to) count (with_notice notice s)
  answer_kept to (Refused state message tx) s =
      concluded line (verdict (Refused state message tx)) s
  answer_kept to Connected s = concluded line (verdict Connected) s
  answer_kept to NoTarget s = concluded line (verdict NoTarget) s
  answer_kept to Broken s = concluded line (verdict Broken) s

  -- A statement with what it read: its connection, its prepared statement and its descriptors are found, that of the inputs first. A transaction is begun where that is due, and the request is sent
  abbrev pub carried_out : Option Text → Said → List Field → Option Text → Targets → State
      → Outcome (Unit {0})
  carried_out name said values area to s =
      next (begun_area s) (λ _ s.
      next (connection_over line name s) (λ c s.
      next (request_for line said c s) (λ request s.
      next (parameters_with line values area s) (λ params s.
      next (targets_found line to s) (λ _ s.
      next (transaction_begun line c s) (λ _ s.
      next (answer_to c.slot (request params) s) (λ reply s.
      answer_kept to reply s)))))))

  abbrev pub run_over : TextArg ℕ → Asked ℕ → Sent ℕ → Outputs ℕ → State → Outcome (Unit {0})
  run_over at asked ins outs s =
      next (text_got at s) (λ name s.
      next (asked_read asked s) (λ said s.
      next (values_read structs ins.values s) (λ values s.
      next (area_read ins.area s) (λ area s.
      next (targets_read outs s) (λ to s.
      carried_out name said values area to s)))))

  -- one field into a leaf
  abbrev pub kept_in : Leaf ℕ → Field → State → Outcome (Unit {0})
  kept_in l field s = next (present (leaf_data structs l) s) (λ h t. field_in_row line h 0 field t)

  abbrev pub count_got : TextArg ℕ → Leaf ℕ → State → Outcome (Unit {0})
  count_got name l s =
      next (text_wanted name s) (λ called s.
      next (begun_area s) (λ _ s.
      next (items_under line called s) (λ items s.
      kept_in l (Some (decimal (length items))) s)))

  abbrev pub count_set : TextArg ℕ → Input ℕ → State → Outcome (Unit {0})
  count_set name x s =
      next (text_wanted name s) (λ called s.
      next (input_read structs x s) (λ field s.
      next (begun_area s) (λ _ s.
      next (items_under line called s) (λ items s.
      next (number_between line 0 1000 field s) (λ n s.
      gives tt (with_items called (first_items n items) s))))))

  -- What an item gives is stored. A NULL is told by the leaf's own indicator; without one, where the statement asks for INDICATOR, the leaf stays as it is
  abbrev pub item_kept : Bool → Leaf ℕ → Field → State → Outcome (Unit {0})
  item_kept asked l (Some bytes) s = kept_in l (Some bytes) s
  item_kept asked l None s = elim (has_indicator l) [
    | true ↦ kept_in l None s
    | false ↦ elim asked [ true ↦ gives tt s | false ↦ kept_in l None s ]
  ]

  abbrev pub items_kept : Bool → Item → List (Kind × Leaf ℕ) → State → Outcome (Unit {0})
  items_kept asked it [] s = gives tt s
  items_kept asked it (i ∷ is) s =
      next (item_kept asked i.1 (given_text i.0 it) s) (λ _ t. items_kept asked it is t)

  abbrev pub items_got : TextArg ℕ → Input ℕ → List (Kind × Leaf ℕ) → State → Outcome (Unit {0})
  items_got name index wanted s =
      next (text_wanted name s) (λ called s.
      next (input_read structs index s) (λ field s.
      next (begun_area s) (λ _ s.
      next (items_under line called s) (λ items s.
      next (number_between line 1 (length items) field s) (λ n s.
      next (present (slice_get items (n - 1)) s) (λ it s.
      items_kept (asks_indicator wanted) it wanted s))))))

  abbrev pub items_given : TextArg ℕ → Input ℕ → List (Kind × Input ℕ) → State → Outcome (Unit {0})
  items_given name index given s =
      next (text_wanted name s) (λ called s.
      next (input_read structs index s) (λ field s.
      next (items_read structs given s) (λ fields s.
      next (begun_area s) (λ _ s.
      next (items_under line called s) (λ items s.
      next (number_between line 1 1000 field s) (λ n s.
      values_taken line called n fields s))))))

  abbrev pub statement_done : Statement ℕ → State → Outcome (Unit {0})
  statement_done (runs at wanted ins outs) s = run_over at wanted ins outs s
  statement_done (connects target user password name) s =
      connection_opened line target user password name s
  statement_done (disconnects name) s = connections_closed line name s
  statement_done (sets_connection name) s = connection_chosen line name s
  statement_done (sets_autocommit on at) s = autocommit_switched line on at s
  statement_done (controls at bytes) s = transaction_controlled line at bytes s
  statement_done (prepares at name bytes) s = statement_prepared line at name bytes s
  statement_done (deallocates at name) s = statement_deallocated line at name s
  statement_done (allocates name) s = descriptor_allocated name s
  statement_done (frees name) s = descriptor_freed line name s
  statement_done (gets_count name l) s = count_got name l s
  statement_done (sets_count name x) s = count_set name x s
  statement_done (gets_items name index items) s = items_got name index items s
  statement_done (sets_items name index items) s = items_given name index items s
