-- What a call of the library does, from the reading of its inputs on: one case for each of the fourteen.
use Rattle.std.specs.Prelude.{ℕ, Bool, true, List, Option, Some, None}
use Rattle.ec_arguments.specs.Arguments.{Arg, Call, run, connect, disconnect, set_connection, set_autocommit, control, prepare, deallocate, allocate_descriptor, deallocate_descriptor, get_count, set_count, get_items, set_items, Cut}
use Rattle.ec_arguments.specs.Rules.{cut}
use Rattle.ec_ctypes.specs.declared.checked.library.LibName.{LibName}
use Rattle.ec_meaning_defs.specs.evaluation.State.{State}
use Rattle.ec_call_defs.specs.Outcomes.{stuck, Outcome, over}
use Rattle.ec_call_defs.specs.Running.{run_call}
use Rattle.ec_call_defs.specs.Connecting.{connect_call, set_connection_call}
use Rattle.ec_call_defs.specs.Disconnecting.{disconnect_call}
use Rattle.ec_call_defs.specs.Autocommit.{autocommit_call}
use Rattle.ec_call_defs.specs.Control.{control_call}
use Rattle.ec_call_defs.specs.Preparing.{prepare_call, deallocate_call}
use Rattle.ec_call_defs.specs.Descriptors.{allocate_call, deallocate_descriptor_call, get_count_call, set_count_call, get_items_call, set_items_call}

abbrev pub call_done : ℕ → Call ℕ → State → Outcome (Unit {0})
call_done line (run connection statement ins outs) s = run_call line connection statement ins outs s
call_done line (connect target user password name) s = connect_call line target user password name s
call_done line (disconnect name) s = disconnect_call line name s
call_done line (set_connection name) s = set_connection_call line name s
call_done line (set_autocommit on connection) s = autocommit_call line on connection s
call_done line (control connection text) s = control_call line connection text s
call_done line (prepare connection name text) s = prepare_call line connection name text s
call_done line (deallocate connection name) s = deallocate_call line connection name s
call_done line (allocate_descriptor name) s = allocate_call line name s
call_done line (deallocate_descriptor name) s = deallocate_descriptor_call line name s
call_done line (get_count name target) s = get_count_call line name target s
call_done line (set_count name value) s = set_count_call line name value s
call_done line (get_items name index items) s = get_items_call line name index items s
call_done line (set_items name index items) s = set_items_call line name index items s

-- a call that is cut
abbrev pub cut_done : Cut ℕ → State → Outcome (Unit {0})
cut_done c s = call_done c.line c.call s

-- a list that doesn't cut is no call
abbrev pub if_cut : Option (Cut ℕ) → State → Outcome (Unit {0})
if_cut None s = over stuck s
if_cut (Some c) s = cut_done c s

-- where a call is made each pointer is a number, and leads where it leads
abbrev pub leads : ℕ → Bool
leads p = true

-- a call by its name and its arguments
abbrev pub library_call : LibName → List (Arg ℕ) → State → Outcome (Unit {0})
library_call name args s = if_cut (cut leads name args) s
