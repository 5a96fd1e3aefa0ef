-- The tests say what the relations say.
use Rattle.std.proofs.Common.{◌≡◌, ◌==◌, ap, refl, true, false, inl, inr, Bool, Option, Some, None, List, [], ◌∷◌, ℕ, length, ◌∙◌, sym}
use Rattle.std.specs.Option.{is_some}
use Rattle.std.specs.Prelude.{◌&&◌, not, slice_get}
use Rattle.std.proofs.Math.Dec.{ltb}
use Rattle.std.proofs.lemmas.Bool.{false≢true, lt-ltb, ltb-true}
use Rattle.std.proofs.lemmas.Bool.Decides.{eqb_tells}
use Rattle.ec_call_defs.specs.Areas.{Areas}
use Rattle.ec_call_defs.specs.Connections.{connection_named, same_name}
use Rattle.ec_call_defs.specs.Outcomes.{Text}
use Rattle.ec_call_defs.specs.Running.{Outputs, nowhere, hosts, area}
use Rattle.ec_meaning_defs.specs.evaluation.State.{Connection}
use Rattle.ec_link.specs.declared.connection.Conn.{Conn}
use Rattle.ec_link.specs.declared.rack.Rack.{Rack}
use Rattle.ec_link.specs.declared.request.Request.{Request}
use Rattle.ec_link.specs.declared.request.Request.TheVariants as request
use Rattle.ec_link.specs.Conn.{slot_of}
use Rattle.ec_link.specs.Logged.{IsAsk, IsConnect}
use Rattle.ec_link.specs.Rack.{slots_of}
use Rattle.ec_link.specs.Slot.{states}
use Rattle.ec_link.specs.SlotState.{SlotState, free, ready, taken, dropped}
use Rattle.ec_runtime.specs.Calling.{AllNamed, Holds, NoneNamed, connections_of, conns_of}
use Rattle.ec_runtime.specs.Proceeding.{IsFit, UnderWayFits}
use Rattle.ec_runtime.specs.Racks.{AllTaken, Beside}
use Rattle.ec_runtime.specs.Statements.{IsThere, outputs_view}
use Rattle.ec_runtime.specs.Waiting.{BehindFits, WaitsFit}
use Rattle.ec_runtime.specs.declared.waiting.Behind.{Behind}
use Rattle.ec_runtime.specs.declared.waiting.Behind.TheVariants as behinds
use Rattle.ec_runtime.specs.declared.waiting.UnderWay.{UnderWay}
use Rattle.ec_runtime.specs.declared.waiting.Waits.{Waits}
use Rattle.ec_runtime.specs.declared.waiting.Waits.TheVariants as waits
use Rattle.ec_stopping_defs.specs.Places.{AllWithin}
use Rattle.ec_runtime.specs.declared.library.Library.{Library}
use Rattle.ec_calling.specs.Held.{are_fit, are_named, are_taken, are_within, is_ask, is_behind_fit, is_beside, is_close, is_connect, is_fit, is_held, is_taken, is_there, is_under_way_fit, is_unnamed}

there : (o : Option SlotState) → is_taken o ≡ true → (name : List ℕ) × (o ≡ Some (taken name))
there None h = absurd (false≢true h)
there (Some (free name)) h = absurd (false≢true h)
there (Some (ready name)) h = absurd (false≢true h)
there (Some (taken name)) h = (name, refl)
there (Some (dropped name)) h = absurd (false≢true h)

first_of : (a b : Bool) → (a && b) ≡ true → a ≡ true
first_of true b h = refl
first_of false b h = absurd (false≢true h)

second_of : (a b : Bool) → (a && b) ≡ true → b ≡ true
second_of true b h = h
second_of false b h = absurd (false≢true h)

both_of : (a b : Bool) → a ≡ true → b ≡ true → (a && b) ≡ true
both_of true b h k = k
both_of false b h k = absurd (false≢true h)

is_not : (b : Bool) → not b ≡ true → b ≡ false
is_not true h = absurd (false≢true h)
is_not false h = refl

unnamed : (name : Text) (cs : List Connection) → is_unnamed name cs ≡ true → NoneNamed name cs
unnamed name [] h = tt
unnamed name (c ∷ cs) h = (is_not (same_name c.name name) (first_of _ _ h), unnamed name cs (second_of (not (same_name c.name name)) _ h))

has_none : (name : Text) (cs : List Connection) → NoneNamed name cs → is_unnamed name cs ≡ true
has_none name [] h = refl
has_none name (c ∷ cs) h = both_of _ _ (ap not h.0) (has_none name cs h.1)

named : (cs : List Connection) → are_named cs ≡ true → AllNamed cs
named [] h = tt
named (c ∷ cs) h = (unnamed c.name cs (first_of _ _ h), named cs (second_of (is_unnamed c.name cs) _ h))

has_names : (cs : List Connection) → AllNamed cs → are_named cs ≡ true
has_names [] h = refl
has_names (c ∷ cs) h = both_of _ _ (has_none c.name cs h.0) (has_names cs h.1)

-- ---- places

pub within : (n : ℕ) (places : List ℕ) → are_within n places ≡ true → AllWithin n places
within n [] h = tt
within n (i ∷ places) h = (ltb-true i n (first_of (ltb i n) (are_within n places) h), within n places (second_of (ltb i n) (are_within n places) h))

pub has_within : (n : ℕ) (places : List ℕ) → AllWithin n places → are_within n places ≡ true
has_within n [] h = refl
has_within n (i ∷ places) h = both_of (ltb i n) (are_within n places) (lt-ltb i n h.0) (has_within n places h.1)

-- ---- the request that waits

asks_so : (r : Request) → is_ask r ≡ true → IsAsk r
asks_so (request.Connect target user password) h = absurd (false≢true h)
asks_so (request.Text text params) h = tt
asks_so (request.Prepare name text) h = tt
asks_so (request.Exec name params) h = tt
asks_so (request.Deallocate name) h = tt
asks_so request.Close h = absurd (false≢true h)

has_asks : (r : Request) → IsAsk r → is_ask r ≡ true
has_asks (request.Connect target user password) h = absurd h
has_asks (request.Text text params) h = refl
has_asks (request.Prepare name text) h = refl
has_asks (request.Exec name params) h = refl
has_asks (request.Deallocate name) h = refl
has_asks request.Close h = absurd h

connects_so : (r : Request) → is_connect r ≡ true → IsConnect r
connects_so (request.Connect target user password) h = tt
connects_so (request.Text text params) h = absurd (false≢true h)
connects_so (request.Prepare name text) h = absurd (false≢true h)
connects_so (request.Exec name params) h = absurd (false≢true h)
connects_so (request.Deallocate name) h = absurd (false≢true h)
connects_so request.Close h = absurd (false≢true h)

has_connects : (r : Request) → IsConnect r → is_connect r ≡ true
has_connects (request.Connect target user password) h = refl
has_connects (request.Text text params) h = absurd h
has_connects (request.Prepare name text) h = absurd h
has_connects (request.Exec name params) h = absurd h
has_connects (request.Deallocate name) h = absurd h
has_connects request.Close h = absurd h

closes_so : (r : Request) → is_close r ≡ true → r ≡ request.Close
closes_so (request.Connect target user password) h = absurd (false≢true h)
closes_so (request.Text text params) h = absurd (false≢true h)
closes_so (request.Prepare name text) h = absurd (false≢true h)
closes_so (request.Exec name params) h = absurd (false≢true h)
closes_so (request.Deallocate name) h = absurd (false≢true h)
closes_so request.Close h = refl

none_so : {A : Type 0} (o : Option A) → not (is_some o) ≡ true → o ≡ None
none_so None h = refl
none_so (Some x) h = absurd (false≢true h)

there_so : (o : Outputs) (areas : Areas) → is_there o areas ≡ true → IsThere o areas
there_so nowhere areas h = tt
there_so (hosts places) areas h = tt
there_so (area name) areas h = h

has_there : (o : Outputs) (areas : Areas) → IsThere o areas → is_there o areas ≡ true
has_there nowhere areas h = refl
has_there (hosts places) areas h = refl
has_there (area name) areas h = h

behind_so : (areas : Areas) (b : Behind) → is_behind_fit areas b ≡ true → BehindFits areas b
behind_so areas (behinds.Begun r o) h = (asks_so r (first_of (is_ask r) (is_there (outputs_view o) areas) h), there_so (outputs_view o) areas (second_of (is_ask r) (is_there (outputs_view o) areas) h))
behind_so areas (behinds.Replied o) h = there_so (outputs_view o) areas h
behind_so areas behinds.Controlled h = tt
behind_so areas (behinds.Committed on) h = tt
behind_so areas (behinds.Kept name text) h = tt
behind_so areas (behinds.Forgotten name) h = tt

has_behind : (areas : Areas) (b : Behind) → BehindFits areas b → is_behind_fit areas b ≡ true
has_behind areas (behinds.Begun r o) h = both_of (is_ask r) (is_there (outputs_view o) areas) (has_asks r h.0) (has_there (outputs_view o) areas h.1)
has_behind areas (behinds.Replied o) h = has_there (outputs_view o) areas h
has_behind areas behinds.Controlled h = refl
has_behind areas (behinds.Committed on) h = refl
has_behind areas (behinds.Kept name text) h = refl
has_behind areas (behinds.Forgotten name) h = refl

module _ (cs : List Connection) (areas : Areas) (r : Request) where
  waits_so : (w : Waits) → are_fit cs areas r w ≡ true → WaitsFit cs areas r w
  waits_so (waits.Over at b) h =
      let rest = second_of (ltb at (length cs)) (is_ask r && is_behind_fit areas b) h in
      (ltb-true at (length cs) (first_of (ltb at (length cs)) (is_ask r && is_behind_fit areas b) h), asks_so r (first_of (is_ask r) (is_behind_fit areas b) rest), behind_so areas b (second_of (is_ask r) (is_behind_fit areas b) rest))
  waits_so (waits.Connecting name) h =
      (connects_so r (first_of (is_connect r) (not (is_some (connection_named name cs))) h), none_so (connection_named name cs) (second_of (is_connect r) (not (is_some (connection_named name cs))) h))
  waits_so (waits.ClosingOne at) h = (ltb-true at (length cs) (first_of (ltb at (length cs)) (is_close r) h), closes_so r (second_of (ltb at (length cs)) (is_close r) h))
  waits_so waits.ClosingAll h = (ltb-true 0 (length cs) (first_of (ltb 0 (length cs)) (is_close r) h), closes_so r (second_of (ltb 0 (length cs)) (is_close r) h))

  has_waits : (w : Waits) → WaitsFit cs areas r w → are_fit cs areas r w ≡ true
  has_waits (waits.Over at b) h =
      both_of (ltb at (length cs)) (is_ask r && is_behind_fit areas b) (lt-ltb at (length cs) h.0)
      (both_of (is_ask r) (is_behind_fit areas b) (has_asks r h.1) (has_behind areas b h.2))
  has_waits (waits.Connecting name) h = both_of (is_connect r) (not (is_some (connection_named name cs))) (has_connects r h.0) (ap (λ o. not (is_some o)) h.1)
  has_waits (waits.ClosingOne at) h = both_of (ltb at (length cs)) (is_close r) (lt-ltb at (length cs) h.0) (ap is_close h.1)
  has_waits waits.ClosingAll h = both_of (ltb 0 (length cs)) (is_close r) (lt-ltb 0 (length cs) h.0) (ap is_close h.1)

module _ (cs : List Connection) (areas : Areas) where
  under_way_so : (o : Option UnderWay) → is_under_way_fit cs areas o ≡ true → UnderWayFits cs areas o
  under_way_so None h = tt
  under_way_so (Some it) h = waits_so cs areas it.waiting.request it.waiting.waits h

  has_under_way : (o : Option UnderWay) → UnderWayFits cs areas o → is_under_way_fit cs areas o ≡ true
  has_under_way None h = refl
  has_under_way (Some it) h = has_waits cs areas it.waiting.request it.waiting.waits h

-- ---- the rack

module _ {X : Type 0} {F : X → Type 0} where
  pub fits : (it : Library X F) → is_fit it ≡ true → IsFit it
  fits it h = under_way_so (connections_of it.connections) it.areas it.under_way h

  pub has_fit : (it : Library X F) → IsFit it → is_fit it ≡ true
  has_fit it h = has_under_way (connections_of it.connections) it.areas it.under_way h

  -- nothing waits
  pub idle_fit : (it : Library X F) → it.under_way ≡ None → is_fit it ≡ true
  idle_fit it e = ap (λ u. is_under_way_fit (connections_of it.connections) it.areas u) e

  beside : (i : ℕ) (conns : List (Conn X F)) → is_beside i conns ≡ true → Beside i conns
  beside i [] h = tt
  beside i (conn ∷ conns) h = elim (eqb_tells (slot_of conn) i) [
    | inl e ↦ absurd (false≢true (sym (ap not e.0) ∙ first_of (not (slot_of conn == i)) (is_beside i conns) h))
    | inr n ↦ (n.1, beside i conns (second_of (not (slot_of conn == i)) (is_beside i conns) h))
  ]

  has_beside : (i : ℕ) (conns : List (Conn X F)) → Beside i conns → is_beside i conns ≡ true
  has_beside i [] h = refl
  has_beside i (conn ∷ conns) h = elim (eqb_tells (slot_of conn) i) [
    | inl e ↦ absurd (h.0 e.1)
    | inr n ↦ both_of (not (slot_of conn == i)) (is_beside i conns) (ap not n.0) (has_beside i conns h.1)
  ]

  all_taken : (slots : List SlotState) (conns : List (Conn X F)) → are_taken slots conns ≡ true → AllTaken slots conns
  all_taken slots [] h = tt
  all_taken slots (conn ∷ conns) h =
      let first = first_of (is_taken (slice_get slots (slot_of conn))) (is_beside (slot_of conn) conns && are_taken slots conns) h in
      let rest = second_of (is_taken (slice_get slots (slot_of conn))) (is_beside (slot_of conn) conns && are_taken slots conns) h in
      (there (slice_get slots (slot_of conn)) first, beside (slot_of conn) conns (first_of (is_beside (slot_of conn) conns) (are_taken slots conns) rest), all_taken slots conns (second_of (is_beside (slot_of conn) conns) (are_taken slots conns) rest))

  has_taken : (slots : List SlotState) (conns : List (Conn X F)) → AllTaken slots conns → are_taken slots conns ≡ true
  has_taken slots [] h = refl
  has_taken slots (conn ∷ conns) h =
      both_of (is_taken (slice_get slots (slot_of conn))) (is_beside (slot_of conn) conns && are_taken slots conns) (ap is_taken h.0.1)
      (both_of (is_beside (slot_of conn) conns) (are_taken slots conns) (has_beside (slot_of conn) conns h.1) (has_taken slots conns h.2))

  pub holds : (it : Library X F) (rack : Rack X F) → is_held it rack ≡ true → Holds it.connections rack
  holds it rack h = record {
    taken = all_taken (states (slots_of rack)) (conns_of it.connections) (first_of (are_taken (states (slots_of rack)) (conns_of it.connections)) (are_named (connections_of it.connections)) h);
    named = named (connections_of it.connections) (second_of (are_taken (states (slots_of rack)) (conns_of it.connections)) (are_named (connections_of it.connections)) h);
  }

  pub held : (it : Library X F) (rack : Rack X F) → Holds it.connections rack → is_held it rack ≡ true
  held it rack h = both_of (are_taken (states (slots_of rack)) (conns_of it.connections)) (are_named (connections_of it.connections)) (has_taken (states (slots_of rack)) (conns_of it.connections) h.taken) (has_names (connections_of it.connections) h.named)
