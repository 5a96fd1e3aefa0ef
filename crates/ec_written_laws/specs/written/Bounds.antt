-- Which embedded statements, hosts and actions can be written so that they are read back, as tests that compute.
use Rattle.std.specs.Prelude.{ℕ, Bool, true, ◌&&◌, List, [], ◌∷◌, Option, Some, None}
use Rattle.ec_ctypes.specs.declared.types.arith.Arith.TheVariants.{Long}
use Rattle.ec_ctypes.specs.declared.embedded.emb.Cond.{Cond}
use Rattle.ec_ctypes.specs.declared.embedded.emb.Cond.TheVariants.{NotFound, Warning, Error}
use Rattle.ec_ctypes.specs.trees.Checked.{IndicatorData, PlaceData, BoundData}
use Rattle.ec_ctypes.specs.trees.Embedded.{ActionData, continue_action, goto_action, print_action, stop_action, break_action, next_action, call_action, EmbKindData, connect, set_connection, disconnect, autocommit, trans, server_text, declare_cursor, open_cursor, execute_immediate, prepare, execute, deallocate, allocate_area, free_area, get_count, get_items, set_count, set_items, whenever, include_sqlca, EmbData}
use Rattle.ec_ctypes.specs.trees.Exprs.{ExprData}
use Rattle.ec_ctypes.specs.trees.Types.{arithmetic}
use Rattle.ec_language.specs.Letters.{each}
use Rattle.ec_writing_defs.specs.Shapes.{is_plain_name, is_free_name, fits_type, is_byte, is_written_expr, are_written_exprs}

-- ---- actions

abbrev pub is_written_action : ℕ → ActionData → Bool
is_written_action n continue_action = true
is_written_action n (goto_action l) = is_plain_name l
is_written_action n print_action = true
is_written_action n stop_action = true
is_written_action n break_action = true
is_written_action n next_action = true
is_written_action n (call_action f es) = is_free_name f && are_written_exprs n es

abbrev pub is_written_action_option : ℕ → Option ActionData → Bool
is_written_action_option n None = true
is_written_action_option n (Some a) = is_written_action n a

-- the actions that hold at a statement, one for each condition
abbrev pub are_written_actions : ℕ → (Cond → Option ActionData) → Bool
are_written_actions n action =
    is_written_action_option n (action NotFound)
    && (is_written_action_option n (action Warning) && is_written_action_option n (action Error))

-- ---- statements

abbrev pub is_written_name_option : Option (List ℕ) → Bool
is_written_name_option None = true
is_written_name_option (Some name) = each is_byte name

-- the texts that a statement holds itself
abbrev pub is_written_statement : EmbKindData → Bool
is_written_statement (connect target name user password) = true
is_written_statement (set_connection name) = true
is_written_statement (disconnect name) = true
is_written_statement (autocommit on) = true
is_written_statement (trans text) = each is_byte text
is_written_statement (server_text parts outs) = true
is_written_statement (declare_cursor cursor parts name) = is_written_name_option name
is_written_statement (open_cursor cursor ins) = true
is_written_statement (execute_immediate text) = true
is_written_statement (prepare name text) = each is_byte name
is_written_statement (execute name ins outs) = each is_byte name
is_written_statement (deallocate name) = each is_byte name
is_written_statement (allocate_area area) = true
is_written_statement (free_area area) = true
is_written_statement (get_count area target) = true
is_written_statement (get_items area index items) = true
is_written_statement (set_count area value) = true
is_written_statement (set_items area index items) = true
is_written_statement (whenever condition action) = true
is_written_statement include_sqlca = true

abbrev pub are_written_statements : List EmbData → Bool
are_written_statements [] = true
are_written_statements (e ∷ es) = is_written_statement e.kind && are_written_statements es

-- ---- hosts

-- lengths, counts and distances are constants of type long
abbrev pub is_long : ℕ → Bool
is_long n = fits_type n (arithmetic Long)

abbrev pub is_written_indicator : ℕ → Option IndicatorData → Bool
is_written_indicator n None = true
is_written_indicator n (Some i) = is_written_expr n i.1 && (is_long i.2 && is_long i.3)

abbrev pub is_written_place : ℕ → PlaceData → Bool
is_written_place n p =
    is_written_expr n p.value
    && ((is_long p.size && (is_long p.count && is_long p.step)) && is_written_indicator n p.ind)

abbrev pub are_written_places : ℕ → List PlaceData → Bool
are_written_places n [] = true
are_written_places n (p ∷ ps) = is_written_place n p && are_written_places n ps

abbrev pub are_written_texts : ℕ → List ExprData → Bool
are_written_texts n [] = true
are_written_texts n (e ∷ es) = is_written_expr n e && are_written_texts n es

-- what is bound for a statement on this line
abbrev pub is_written_bound : ℕ → BoundData → Bool
is_written_bound n b =
    each is_byte b.text
    && (are_written_texts n b.texts
    && (are_written_places n b.ins && are_written_places n b.outs))
