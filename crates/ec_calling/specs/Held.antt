-- Whether a library fits its rack, as tests: the slots of its connections are taken, its connections have different slots and
-- names, the request that waits fits them, and the places of its exchanges lie within the log.
use Rattle.std.proofs.Math.Dec.{ltb}
use Rattle.std.specs.Option.{is_some}
use Rattle.std.specs.Prelude.{ℕ, ◌==◌, ◌&&◌, Bool, true, false, not, List, [], ◌∷◌, length, Option, Some, None, slice_get}
use Rattle.ec_call_defs.specs.Areas.{Areas, area_named}
use Rattle.ec_call_defs.specs.Running.{Outputs, nowhere, hosts, area}
use Rattle.ec_call_defs.specs.Connections.{connection_named, same_name}
use Rattle.ec_call_defs.specs.Outcomes.{Text}
use Rattle.ec_meaning_defs.specs.evaluation.State.{Connection}
use Rattle.ec_link.specs.declared.connection.Conn.{Conn}
use Rattle.ec_link.specs.declared.rack.Rack.{Rack}
use Rattle.ec_link.specs.declared.request.Request.{Request}
use Rattle.ec_link.specs.declared.request.Request.TheVariants.{Connect, Close}
use Rattle.ec_link.specs.Conn.{slot_of}
use Rattle.ec_link.specs.Rack.{slots_of}
use Rattle.ec_link.specs.Slot.{states}
use Rattle.ec_link.specs.SlotState.{SlotState, free, ready, taken, dropped}
use Rattle.ec_runtime.specs.Calling.{connections_of, conns_of}
use Rattle.ec_runtime.specs.Statements.{outputs_view}
use Rattle.ec_runtime.specs.declared.library.Library.{Library}
use Rattle.ec_runtime.specs.declared.waiting.Behind.{Behind}
use Rattle.ec_runtime.specs.declared.waiting.Behind.TheVariants as behinds
use Rattle.ec_runtime.specs.declared.waiting.UnderWay.{UnderWay}
use Rattle.ec_runtime.specs.declared.waiting.Waits.{Waits}
use Rattle.ec_runtime.specs.declared.waiting.Waits.TheVariants as waits

abbrev pub is_taken : Option SlotState → Bool
is_taken None = false
is_taken (Some (free name)) = false
is_taken (Some (ready name)) = false
is_taken (Some (taken name)) = true
is_taken (Some (dropped name)) = false

-- no connection has the name
abbrev pub is_unnamed : Text → List Connection → Bool
is_unnamed name [] = true
is_unnamed name (c ∷ cs) = not (same_name c.name name) && is_unnamed name cs

abbrev pub are_named : List Connection → Bool
are_named [] = true
are_named (c ∷ cs) = is_unnamed c.name cs && are_named cs

-- ---- the request that waits

abbrev pub is_ask : Request → Bool
is_ask (Connect _ _ _) = false
is_ask Close = false
is_ask _ = true

abbrev pub is_connect : Request → Bool
is_connect (Connect _ _ _) = true
is_connect _ = false

abbrev pub is_close : Request → Bool
is_close Close = true
is_close _ = false

-- the descriptor that rows go into is there
abbrev pub is_there : Outputs → Areas → Bool
is_there nowhere areas = true
is_there (hosts places) areas = true
is_there (area name) areas = is_some (area_named name areas)

abbrev pub is_behind_fit : Areas → Behind → Bool
is_behind_fit areas (behinds.Begun request outputs) =
    is_ask request && is_there (outputs_view outputs) areas
is_behind_fit areas (behinds.Replied outputs) = is_there (outputs_view outputs) areas
is_behind_fit areas behinds.Controlled = true
is_behind_fit areas (behinds.Committed on) = true
is_behind_fit areas (behinds.Kept name text) = true
is_behind_fit areas (behinds.Forgotten name) = true

abbrev pub are_fit : List Connection → Areas → Request → Waits → Bool
are_fit cs areas r (waits.Over at behind) =
    ltb at (length cs) && (is_ask r && is_behind_fit areas behind)
are_fit cs areas r (waits.Connecting name) =
    is_connect r && not (is_some (connection_named name cs))
are_fit cs areas r (waits.ClosingOne at) = ltb at (length cs) && is_close r
are_fit cs areas r waits.ClosingAll = ltb 0 (length cs) && is_close r

abbrev pub is_under_way_fit : List Connection → Areas → Option UnderWay → Bool
is_under_way_fit cs areas None = true
is_under_way_fit cs areas (Some it) = are_fit cs areas it.waiting.request it.waiting.waits

-- ---- places

-- places lie within so many exchanges
abbrev pub are_within : ℕ → List ℕ → Bool
are_within n [] = true
are_within n (i ∷ places) = ltb i n && are_within n places

-- ---- the rack

module _ {X : Type 0} {F : X → Type 0} where
  -- no connection has slot i
  abbrev pub is_beside : ℕ → List (Conn X F) → Bool
  is_beside i [] = true
  is_beside i (conn ∷ conns) = not (slot_of conn == i) && is_beside i conns

  abbrev pub are_taken : List SlotState → List (Conn X F) → Bool
  are_taken slots [] = true
  are_taken slots (conn ∷ conns) =
      is_taken (slice_get slots (slot_of conn))
      && (is_beside (slot_of conn) conns && are_taken slots conns)

  abbrev pub is_held : Library X F → Rack X F → Bool
  is_held it rack =
      are_taken (states (slots_of rack)) (conns_of it.connections)
      && are_named (connections_of it.connections)

  -- the request that waits fits the connections and descriptors
  abbrev pub is_fit : Library X F → Bool
  is_fit it = is_under_way_fit (connections_of it.connections) it.areas it.under_way
