-- What a statement does, by the library's own words for connections, requests, answers and descriptors: halfway between a statement and its call.
use Rattle.std.specs.Prelude.{ℕ, List, [], ◌∷◌, length, Option, Some, None, Bool, true, false, ◌||◌}
use Rattle.std.specs.Fmt.{decimal}
use Rattle.ec_arguments.specs.Arguments.{TextArg}
use Rattle.ec_ctypes.specs.declared.embedded.emb.Item.{Item as Kind}
use Rattle.ec_ctypes.specs.trees.Types.{StructData}
use Rattle.ec_link.specs.declared.reply.Reply.{Reply}
use Rattle.ec_link.specs.declared.reply.Reply.TheVariants.{Connected, NoTarget, Rows, Done, Refused, Broken}
use Rattle.ec_transfer_defs.specs.declared.finding.Finding.TheVariants as found
use Rattle.ec_meaning_defs.specs.evaluation.State.{Item, State}
use Rattle.ec_call_defs.specs.Outcomes.{Text, Field, Outcome, gives, next, present, with_memory, noticed_area, begun_area, refused, raised}
use Rattle.ec_call_defs.specs.Connections.{connection_for, asked, begun}
use Rattle.ec_call_defs.specs.Inputs.{text_read, given_read}
use Rattle.ec_call_defs.specs.Storing.{field_kept}
use Rattle.ec_call_defs.specs.Answers.{server_code, count_told}
use Rattle.ec_call_defs.specs.Areas.{resized, item_at, item_text}
use Rattle.ec_call_defs.specs.Running.{Wanted, text, execution, cursor, request_of, params_behind, area_found}
use Rattle.ec_call_defs.specs.Connecting.{connect_call, set_connection_call}
use Rattle.ec_call_defs.specs.Disconnecting.{disconnect_call}
use Rattle.ec_call_defs.specs.Autocommit.{autocommit_call}
use Rattle.ec_call_defs.specs.Control.{control_call}
use Rattle.ec_call_defs.specs.Preparing.{prepare_call, deallocate_call}
use Rattle.ec_call_defs.specs.Descriptors.{with_descriptor, allocate_call, deallocate_descriptor_call, index_of, is_indicator, items_set}
use Rattle.ec_direct_defs.specs.Leaves.{Leaf, leaf_data}
use Rattle.ec_direct_defs.specs.Statements.{Input, Sent, Outputs, nowhere, into_leaves, into_area, Asked, sends, executes, reads_text, opens, Statement, runs, connects, disconnects, sets_connection, sets_autocommit, controls, prepares, deallocates, allocates, frees, gets_count, sets_count, gets_items, sets_items}
use Rattle.ec_direct_defs.specs.Inputs.{input_read, values_read, items_read}
use Rattle.ec_direct_defs.specs.Storing.{Targets, no_targets, leaf_targets, area_target, are_wanted}
use Rattle.ec_sim_statement_laws.proofs.statement_lemmas.SharedInputs.{area_read}
use Rattle.ec_sim_statement_laws.proofs.statement_lemmas.SharedStoring.{table_kept}

-- ---- statements over a connection

abbrev pub asked_read : Asked ℕ → State → Outcome Wanted
asked_read (sends bytes) s = gives (text bytes) s
asked_read (executes name) s = gives (execution name) s
asked_read (reads_text a) s = next (given_read a s) (λ bytes t. gives (text bytes) t)
asked_read (opens head name) s = gives (cursor head name) s

abbrev pub targets_read : Outputs ℕ → State → Outcome Targets
targets_read nowhere s = gives no_targets s
targets_read (into_leaves ls) s = gives (leaf_targets ls) s
targets_read (into_area name) s = next (given_read name s) (λ bytes t. gives (area_target bytes) t)

-- the descriptor of the outputs has to be there
abbrev pub targets_found : ℕ → Targets → State → Outcome (Unit {0})
targets_found line no_targets s = gives tt s
targets_found line (leaf_targets ls) s = gives tt s
targets_found line (area_target name) s = next (area_found line name s) (λ items t. gives tt t)

-- ---- the answer

-- a notice that the server gave with its answer is told in the area
abbrev pub with_notice : Bool → State → State
with_notice true s = with_memory (noticed_area s.memory) s
with_notice false s = s

-- ---- descriptors

abbrev pub asks_indicator : {A : Type 0} → List (Kind × A) → Bool
asks_indicator [] = false
asks_indicator (i ∷ is) = is_indicator i.0 || asks_indicator is

abbrev pub has_indicator : Leaf ℕ → Bool
has_indicator l = elim l.indicator [ None ↦ false | Some i ↦ true ]

module _ (structs : List StructData) (line : ℕ) where
  -- What is made of the answer to a statement: a notice is told first, and then rows are stored or a count is told. A
  -- refusal, an answer out of place and a broken connection end the statement
  abbrev pub answer_kept : Targets → Reply → State → Outcome (Unit {0})
  answer_kept to (Rows table tx notice) s = table_kept structs line to table (with_notice notice s)
  answer_kept to (Done count tx notice) s =
      count_told line (are_wanted to) count (with_notice notice s)
  answer_kept to (Refused state message tx) s =
      refused line (server_code state.0) state.0 message s
  answer_kept to Connected s = raised line found.ReplyOutOfPlace s
  answer_kept to NoTarget s = raised line found.ReplyOutOfPlace s
  answer_kept to Broken s = raised line found.ConnectionBroken s

  -- a statement with what it read
  abbrev pub carried_out : Option Text → Wanted → List Field → Option Text → Targets → State
      → Outcome (Unit {0})
  carried_out name wanted values area to s =
      next (begun_area s) (λ _ s.
      next (connection_for line name s) (λ c s.
      next (request_of line wanted c s) (λ request s.
      next (params_behind line values area s) (λ params s.
      next (targets_found line to s) (λ _ s.
      next (begun line c s) (λ _ s.
      next (asked c.slot (request params) s) (λ reply s.
      answer_kept to reply s)))))))

  abbrev pub run_over : TextArg ℕ → Asked ℕ → Sent ℕ → Outputs ℕ → State → Outcome (Unit {0})
  run_over at wanted ins outs s =
      next (text_read at s) (λ name s.
      next (asked_read wanted s) (λ wanted s.
      next (values_read structs ins.values s) (λ values s.
      next (area_read ins.area s) (λ area s.
      next (targets_read outs s) (λ to s.
      carried_out name wanted values area to s)))))

  -- one field into a leaf
  abbrev pub kept_in : Leaf ℕ → Field → State → Outcome (Unit {0})
  kept_in l field s = next (present (leaf_data structs l) s) (λ h t. field_kept line h 0 field t)

  abbrev pub count_got : TextArg ℕ → Leaf ℕ → State → Outcome (Unit {0})
  count_got name l s =
      next (given_read name s) (λ called s.
      next (begun_area s) (λ _ s.
      next (area_found line called s) (λ items s.
      kept_in l (Some (decimal (length items))) s)))

  abbrev pub count_set : TextArg ℕ → Input ℕ → State → Outcome (Unit {0})
  count_set name x s =
      next (given_read name s) (λ called s.
      next (input_read structs x s) (λ field s.
      next (begun_area s) (λ _ s.
      next (area_found line called s) (λ items s.
      next (index_of line 0 1000 field s) (λ n s.
      gives tt (with_descriptor called (resized n items) s))))))

  -- What an item gives is stored. A NULL is told by the leaf's own indicator; without one, where the statement asks for INDICATOR, the leaf stays as it is
  abbrev pub item_kept : Bool → Leaf ℕ → Field → State → Outcome (Unit {0})
  item_kept asked l (Some bytes) s = kept_in l (Some bytes) s
  item_kept asked l None s = elim (has_indicator l) [
    | true ↦ kept_in l None s
    | false ↦ elim asked [ true ↦ gives tt s | false ↦ kept_in l None s ]
  ]

  abbrev pub items_kept : Bool → Item → List (Kind × Leaf ℕ) → State → Outcome (Unit {0})
  items_kept asked it [] s = gives tt s
  items_kept asked it (i ∷ is) s =
      next (item_kept asked i.1 (item_text i.0 it) s) (λ _ t. items_kept asked it is t)

  abbrev pub items_got : TextArg ℕ → Input ℕ → List (Kind × Leaf ℕ) → State → Outcome (Unit {0})
  items_got name index wanted s =
      next (given_read name s) (λ called s.
      next (input_read structs index s) (λ field s.
      next (begun_area s) (λ _ s.
      next (area_found line called s) (λ items s.
      next (index_of line 1 (length items) field s) (λ n s.
      next (present (item_at n items) s) (λ it s.
      items_kept (asks_indicator wanted) it wanted s))))))

  abbrev pub items_given : TextArg ℕ → Input ℕ → List (Kind × Input ℕ) → State → Outcome (Unit {0})
  items_given name index given s =
      next (given_read name s) (λ called s.
      next (input_read structs index s) (λ field s.
      next (items_read structs given s) (λ fields s.
      next (begun_area s) (λ _ s.
      next (area_found line called s) (λ items s.
      next (index_of line 1 1000 field s) (λ n s.
      items_set line called n fields s))))))

  abbrev pub statement_done : Statement ℕ → State → Outcome (Unit {0})
  statement_done (runs at wanted ins outs) s = run_over at wanted ins outs s
  statement_done (connects target user password name) s =
      connect_call line target user password name s
  statement_done (disconnects name) s = disconnect_call line name s
  statement_done (sets_connection name) s = set_connection_call line name s
  statement_done (sets_autocommit on at) s = autocommit_call line on at s
  statement_done (controls at bytes) s = control_call line at bytes s
  statement_done (prepares at name bytes) s = prepare_call line at name bytes s
  statement_done (deallocates at name) s = deallocate_call line at name s
  statement_done (allocates name) s = allocate_call line name s
  statement_done (frees name) s = deallocate_descriptor_call line name s
  statement_done (gets_count name l) s = count_got name l s
  statement_done (sets_count name x) s = count_set name x s
  statement_done (gets_items name index items) s = items_got name index items s
  statement_done (sets_items name index items) s = items_given name index items s
