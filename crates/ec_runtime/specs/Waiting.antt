-- What a call keeps while its request waits, in the words of the definitions.
use Rattle.std.specs.Prelude.{◌≡◌, ◌<◌, ℕ, List, [], ◌∷◌, length, reverse, slice_get, Option, Some, None, Result, Ok, Err}
use Rattle.ec_link.specs.declared.request.Request.{Request}
use Rattle.ec_link.specs.declared.request.Request.TheVariants as request
use Rattle.ec_link.specs.Logged.{IsAsk, IsConnect}
use Rattle.ec_meaning_defs.specs.evaluation.State.{Connection}
use Rattle.ec_call_defs.specs.Areas.{Areas}
use Rattle.ec_call_defs.specs.Connections.{connection_named}
use Rattle.ec_stopping_defs.specs.Resuming.{Asking, Behind as Further, asks, begun, closes, commits, connects, controls, deallocates, prepares, replies}
use Rattle.ec_runtime.specs.declared.stop.Stop.{Stop}
use Rattle.ec_runtime.specs.declared.waiting.Behind.{Behind}
use Rattle.ec_runtime.specs.declared.waiting.Behind.TheVariants as behinds
use Rattle.ec_runtime.specs.declared.waiting.Waiting.{Waiting}
use Rattle.ec_runtime.specs.declared.waiting.Waits.{Waits}
use Rattle.ec_runtime.specs.declared.waiting.Waits.TheVariants as waits
use Rattle.ec_runtime.specs.Statements.{IsThere, outputs_view}

abbrev pub behind_view : Behind → Further
behind_view (behinds.Begun request outputs) = begun request (outputs_view outputs)
behind_view (behinds.Replied outputs) = replies (outputs_view outputs)
behind_view behinds.Controlled = controls
behind_view (behinds.Committed on) = commits on
behind_view (behinds.Kept name text) = prepares name text
behind_view (behinds.Forgotten name) = deallocates name

-- the slot of a connection that is there
abbrev pub slot_for : Option Connection → ℕ
slot_for None = 0
slot_for (Some c) = c.slot

-- this connection is closed, and then those are
abbrev pub closing_with : List Connection → Option Connection → Asking
closing_with cs None = asks 0 request.Close (closes [] [])
closing_with cs (Some c) = asks c.slot request.Close (closes c.name cs)

-- the first of these is closed, and then the others are
abbrev pub closing_first : List Connection → Asking
closing_first [] = closing_with [] None
closing_first (c ∷ cs) = closing_with cs (Some c)

abbrev pub waits_view : List Connection → Request → Waits → Asking
waits_view cs request (waits.Over at behind) =
    asks (slot_for (slice_get cs at)) request (behind_view behind)
waits_view cs request (waits.Connecting name) = connects name request
waits_view cs request (waits.ClosingOne at) = closing_with [] (slice_get cs at)
waits_view cs request waits.ClosingAll = closing_first (reverse cs)

-- over these connections
abbrev pub asking_of : List Connection → Waiting → Asking
asking_of cs it = waits_view cs it.request it.waits

abbrev pub asking_in : List Connection → Option Waiting → Option Asking
asking_in cs None = None
asking_in cs (Some it) = Some (asking_of cs it)

abbrev pub asking_seen : List Connection → Result (Option Waiting) Stop → Result (Option Asking) Stop
asking_seen cs (Ok it) = Ok (asking_in cs it)
asking_seen cs (Err stop) = Err stop

-- a request over a slot, and what is done behind its answer
abbrev pub first_in : ℕ → Option (Request × Behind) → Option Asking
first_in slot None = None
first_in slot (Some it) = Some (asks slot it.0 (behind_view it.1))

abbrev pub first_seen : ℕ → Result (Option (Request × Behind)) Stop → Result (Option Asking) Stop
first_seen slot (Ok it) = Ok (first_in slot it)
first_seen slot (Err stop) = Err stop

abbrev pub some_of : {A : Type 0} → Result A Stop → Result (Option A) Stop
some_of (Ok it) = Ok (Some it)
some_of (Err stop) = Err stop

-- over the connection at a place
abbrev pub waiting_at : ℕ → Option (Request × Behind) → Option Waiting
waiting_at at None = None
waiting_at at (Some it) = Some (record { request = it.0; waits = waits.Over at it.1 })

abbrev pub over_at : ℕ → Result (Option (Request × Behind)) Stop → Result (Option Waiting) Stop
over_at at (Ok it) = Ok (waiting_at at it)
over_at at (Err stop) = Err stop

-- ---- the request fits where it goes

abbrev pub BehindFits : Areas → Behind → Type 0
BehindFits areas (behinds.Begun request outputs) =
    IsAsk request × IsThere (outputs_view outputs) areas
BehindFits areas (behinds.Replied outputs) = IsThere (outputs_view outputs) areas
BehindFits areas behinds.Controlled = Unit {0}
BehindFits areas (behinds.Committed on) = Unit {0}
BehindFits areas (behinds.Kept name text) = Unit {0}
BehindFits areas (behinds.Forgotten name) = Unit {0}

abbrev pub WaitsFit : List Connection → Areas → Request → Waits → Type 0
WaitsFit cs areas r (waits.Over at behind) =
    (at < length cs) × IsAsk r × BehindFits areas behind
WaitsFit cs areas r (waits.Connecting name) =
    IsConnect r × (connection_named name cs ≡ None)
WaitsFit cs areas r (waits.ClosingOne at) = (at < length cs) × (r ≡ request.Close)
WaitsFit cs areas r waits.ClosingAll = (0 < length cs) × (r ≡ request.Close)

abbrev pub FirstFits : Areas → Option (Request × Behind) → Type 0
FirstFits areas None = Unit {0}
FirstFits areas (Some it) = IsAsk it.0 × BehindFits areas it.1

abbrev pub Fits : List Connection → Areas → Option Waiting → Type 0
Fits cs areas None = Unit {0}
Fits cs areas (Some it) = WaitsFit cs areas it.request it.waits
