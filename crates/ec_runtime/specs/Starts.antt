-- A call up to its first request, in the parts that code has.
use Rattle.std.specs.Prelude.{ℕ, [], reverse, Option, Result}
use Rattle.ec_link.specs.declared.request.Request.{Request}
use Rattle.ec_link.specs.declared.request.Request.TheVariants as request
use Rattle.ec_link.specs.Conn.{slot_of}
use Rattle.ec_memory_defs.specs.Memory.{Memory}
use Rattle.ec_meaning_defs.specs.evaluation.State.{Connection, State}
use Rattle.ec_call_defs.specs.Areas.{Areas}
use Rattle.ec_call_defs.specs.Autocommit.{commits_first}
use Rattle.ec_call_defs.specs.Connections.{begins, connection_named, found_connection}
use Rattle.ec_call_defs.specs.Outcomes.{Text, Outcome, gives, next, begun_area}
use Rattle.ec_call_defs.specs.Running.{Outputs as Going, outputs_found}
use Rattle.ec_stopping_defs.specs.Resuming.{Asking, asks_with, closes, closing, controls, deallocates, prepares, statement_asks, switching, unless_used}
use Rattle.ec_runtime.specs.declared.call.Act.{Act}
use Rattle.ec_runtime.specs.declared.call.Act.TheVariants as acts
use Rattle.ec_runtime.specs.declared.disconnecting.Which.{Which}
use Rattle.ec_runtime.specs.declared.disconnecting.Which.TheVariants.{All, One}
use Rattle.ec_runtime.specs.declared.open.Open.{Open}
use Rattle.ec_runtime.specs.declared.order.Order.{Order}
use Rattle.ec_runtime.specs.declared.firsts.Ready.{Ready}
use Rattle.ec_runtime.specs.declared.firsts.Ready.TheVariants as readies
use Rattle.ec_runtime.specs.declared.stop.Stop.{Stop}
use Rattle.ec_runtime.specs.declared.waiting.Behind.{Behind}
use Rattle.ec_runtime.specs.Closing.{at_place}
use Rattle.ec_runtime.specs.Does.{Apart, Around, Seen, seen}
use Rattle.ec_runtime.specs.Opening.{open_view}
use Rattle.ec_runtime.specs.Says.{Says}
use Rattle.ec_runtime.specs.Statements.{marks_read, name_there, outputs_view, reached, request_made, statement_read, targets_read}
use Rattle.ec_runtime.specs.Waiting.{first_seen}

-- a state with what is seen, and with these descriptors
abbrev pub standing : Seen → Areas → State → State
standing x areas s = record s {
  memory = x.memory;
  connections = x.connections;
  current = x.current;
  descriptors = areas;
}

-- a part of a call that asks nothing: from what is seen it leads where it says
abbrev pub Leads : {A : Type 0} → Result A Stop → (State → Outcome A) → Seen → Areas → Seen →
    Areas → Type 0
Leads result action x a y b = (s : State) →
    Says result (action (standing x a s)) (standing y b s)

-- the request is made, and the descriptor of its outputs is found
abbrev pub ordered_first : ℕ → Order → Going → Connection → State → Outcome (Option Asking)
ordered_first line order outputs c s =
    next (request_made line order c s) (λ made t.
    next (outputs_found line outputs t)
    (λ _ u. statement_asks (begins c) c.slot made outputs u))

-- what a call over a connection is given is read, before the connection is looked up
abbrev pub act_read : Act → State → Outcome Ready
act_read (acts.Run it) s =
    next (statement_read it s) (λ order t.
    next (targets_read it.outs t) (λ outputs u. gives (readies.Run order outputs) u))
act_read (acts.Control text) s = gives (readies.Control text) s
act_read (acts.Autocommit on) s = gives (readies.Autocommit on) s
act_read (acts.Prepare name given) s =
    next (marks_read given s) (λ bytes t. gives (readies.Prepare name bytes) t)
act_read (acts.Deallocate name) s = gives (readies.Deallocate name) s

-- the name has to be there
abbrev pub deallocated_first : ℕ → Text → Connection → State → Outcome (Option Asking)
deallocated_first line name c s =
    next (name_there line name c s)
    (λ _ t. asks_with c.slot (request.Deallocate name) (deallocates name) t)

-- and then what it asks over the connection that is found
abbrev pub ready_first : ℕ → Ready → Connection → State → Outcome (Option Asking)
ready_first line (readies.Run order outputs) c s =
    ordered_first line order (outputs_view outputs) c s
ready_first line (readies.Control text) c s =
    asks_with c.slot (request.Text text []) controls s
ready_first line (readies.Autocommit on) c s = switching (commits_first on c) on c.slot s
ready_first line (readies.Prepare name bytes) c s =
    asks_with c.slot (request.Prepare name bytes) (prepares name bytes) s
ready_first line (readies.Deallocate name) c s = deallocated_first line name c s

abbrev pub over_first : ℕ → Ready → Option Text → State → Outcome (Option Asking)
over_first line ready name s = next (reached line name s) (λ c t. ready_first line ready c t)

-- a connection of this name is asked for, if the name isn't in use
abbrev pub connected_first : ℕ → Text × Request → State → Outcome (Option Asking)
connected_first line it s =
    next (begun_area s) (λ _ t.
    unless_used line it.0 it.1 (connection_named it.0 t.connections) t)

-- what is closed first
abbrev pub which_first : ℕ → Which → State → Outcome (Option Asking)
which_first line (One place) s =
    next (found_connection line (at_place s.connections place) s)
    (λ c t. asks_with c.slot request.Close (closes c.name []) t)
which_first line All s = closing (reverse s.connections) s

-- over one connection among others
abbrev pub StartsOver : {X : Type 0} {F : X → Type 0} → Result (Option (Request × Behind)) Stop →
    (Connection → State → Outcome (Option Asking)) → Areas → Memory → Open X F → Memory →
    Open X F → Type 0
StartsOver result action areas m was m' now = (around : Around) → Apart (slot_of was.conn) around →
    Leads (first_seen (slot_of was.conn) result) (action (open_view was))
    (seen around m was) areas (seen around m' now) areas
