-- A call up to its first request, from its parts.
use Rattle.std.proofs.Common.{◌≡◌, ◌<◌, ℕ, Bool, true, false, List, [], ◌∷◌, ◌++◌, length, map, Option, Some, None, Result, Ok, Err, refl, sym, subst, ap, ◌∙◌, codes, arith}
use Rattle.std.specs.Prelude.{slice_get, slice_set, IfOk, IfErr}
use Rattle.ec_arguments.specs.Arguments.{TextArg as TextData, Member}
use Rattle.ec_base.specs.declared.stop.Trap.{Trap}
use Rattle.ec_link.specs.declared.request.Request.{Request}
use Rattle.ec_link.specs.declared.request.Request.TheVariants as request
use Rattle.ec_link.specs.Conn.{slot_of}
use Rattle.ec_memory_defs.specs.Memory.{Memory}
use Rattle.ec_transfer_defs.specs.declared.finding.Finding.TheVariants as found
use Rattle.ec_transfer_defs.specs.Codes.{code_of, state_of, text_of_finding}
use Rattle.ec_meaning_defs.specs.evaluation.State.{Connection, State}
use Rattle.ec_call_defs.specs.Areas.{Areas}
use Rattle.ec_call_defs.specs.Autocommit.{commits_first, with_autocommit}
use Rattle.ec_call_defs.specs.Connections.{begins, begin_text, connection_for, found_connection}
use Rattle.ec_call_defs.specs.Inputs.{text_read, given_read, Inputs, no_inputs, with_param, with_area as named_by, inputs_read, value_read}
use Rattle.ec_call_defs.specs.Connecting.{set_connection_call}
use Rattle.ec_call_defs.specs.Library.{call_done}
use Rattle.ec_call_defs.specs.Marks.{with_marks}
use Rattle.ec_call_defs.specs.Outcomes.{Text, Field, Outcome, trapped, gives, finished, over, next, with_memory, fresh_area, told_area, begun_area}
use Rattle.ec_call_defs.specs.Running.{Wanted as Sought, Outputs as Going, text, places_of, into_places, outputs_read, params_of, params_behind, outputs_found, request_of, prepared_text, found_text, statement_read as statement_said}
use Rattle.ec_stopping_defs.specs.Resuming.{Asking, asks, asks_with, begun, call_started, commits, deallocates, ending, statement_asks, switching}
use Rattle.ec_runtime.specs.declared.call.Act.{Act}
use Rattle.ec_runtime.specs.declared.call.Act.TheVariants as acts
use Rattle.ec_runtime.specs.declared.call.Describe.{Describe}
use Rattle.ec_runtime.specs.declared.call.Describe.TheVariants as describes
use Rattle.ec_runtime.specs.declared.call.Destination.{Destination}
use Rattle.ec_runtime.specs.declared.call.Destination.TheVariants as into
use Rattle.ec_runtime.specs.declared.call.Kind.{Kind}
use Rattle.ec_runtime.specs.declared.call.Kind.TheVariants as kinds
use Rattle.ec_runtime.specs.declared.call.Statement.{Statement}
use Rattle.ec_runtime.specs.declared.call.Wanted.{Wanted}
use Rattle.ec_runtime.specs.declared.call.Wanted.TheVariants as wants
use Rattle.ec_runtime.specs.declared.firsts.Ready.{Ready}
use Rattle.ec_runtime.specs.declared.firsts.Ready.TheVariants as readies
use Rattle.ec_runtime.specs.declared.host.Host.{Host}
use Rattle.ec_runtime.specs.declared.inputs.GivenText.{GivenText}
use Rattle.ec_runtime.specs.declared.inputs.Input.{Input}
use Rattle.ec_runtime.specs.declared.inputs.Input.TheVariants as inputs
use Rattle.ec_runtime.specs.declared.open.Open.{Open}
use Rattle.ec_runtime.specs.declared.order.Order.{Order}
use Rattle.ec_runtime.specs.declared.order.Outputs.{Outputs}
use Rattle.ec_runtime.specs.declared.order.Outputs.TheVariants as goes
use Rattle.ec_runtime.specs.declared.order.What.{What}
use Rattle.ec_runtime.specs.declared.order.What.TheVariants as whats
use Rattle.ec_runtime.specs.declared.sessions.Sessions.{Sessions}
use Rattle.ec_runtime.specs.declared.stop.Stop.{Stop}
use Rattle.ec_runtime.specs.declared.stop.Stop.TheVariants as stops
use Rattle.ec_runtime.specs.declared.waiting.Behind.{Behind}
use Rattle.ec_runtime.specs.declared.waiting.Behind.TheVariants as behinds
use Rattle.ec_runtime.specs.declared.waiting.Waiting.{Waiting}
use Rattle.ec_runtime.specs.Calling.{AllBeside, AllNamed, Stays, connections_of, seen_by}
use Rattle.ec_runtime.specs.Closing.{at_place}
use Rattle.ec_runtime.specs.Does.{Around, Seen, placed, seen, Does}
use Rattle.ec_runtime.specs.Opening.{open_view}
use Rattle.ec_runtime.specs.Racks.{Beside}
use Rattle.ec_runtime.specs.Reading.{given_view, input_view, values_read, TextIs}
use Rattle.ec_runtime.specs.Says.{Changed, Quiet, Says, giving}
use Rattle.ec_runtime.specs.Seeking.{place_sought, sought}
use Rattle.ec_runtime.specs.Starts.{act_read, deallocated_first, ordered_first, over_first, ready_first, standing, Leads, StartsOver}
use Rattle.ec_runtime.specs.Statements.{act_view, area_members, area_read, describe_view, kind_view, marks_read, name_there, outputs_view, reached, request_made, statement_read, target_view, targets_read, targets_view, wanted_read, wanted_view, what_view}
use Rattle.ec_runtime.specs.Views.{host_view, hosts_view}
use Rattle.ec_runtime.specs.Waiting.{asking_seen, behind_view, first_seen, over_at, slot_for, some_of, FirstFits, Fits}
use Rattle.ec_runtime.proofs.Joining.{changed_among, said_nothing}
use Rattle.ec_runtime.proofs.Making.{links, links_among, named_same, none_at, split_at, views, views_among, Splits}
use Rattle.ec_runtime.proofs.Seeking.{sought_at}
use Rattle.ec_runtime.proofs.Starting.{connection_sought, next_next, only, with_area, with_values}
use Rattle.ec_runtime.proofs.Targets.{stopped_next}

-- ---- one part, and then what follows

pub leads_quiet : {A : Type 0} (r : Result A Stop) (action : State → Outcome A) (x : Seen) (a : Areas) (m : Memory) → Quiet r action x.memory m → Leads r action x a (record x { memory = m }) a
leads_quiet r action x a m q = λ s. q (standing x a s)

pub leads_changed : {A : Type 0} (r : Result A Stop) (action : State → Outcome A) (x : Seen) (a b : Areas) (m : Memory) → Changed r action x.memory a m b → Leads r action x a (record x { memory = m }) b
leads_changed r action x a b m q = λ s. q (standing x a s)

pub leads_next : {A B : Type 0} (first : State → Outcome A) (go : A → State → Outcome B) (x y z : Seen) (a b c : Areas) (v : A) (r : Result B Stop) → Leads (Ok v) first x a y b → Leads r (go v) y b z c → Leads r (λ s. next (first s) go) x a z c
leads_next first go x y z a b c v r p q = λ s. subst (λ o. Says r (next o go) (standing z c s)) (sym (p s)) (q s)

pub leads_stop : {A B : Type 0} (first : State → Outcome A) (go : A → State → Outcome B) (x y : Seen) (a b : Areas) (stop : Stop) → Leads {A = A} (Err stop) first x a y b → Leads {A = B} (Err stop) (λ s. next (first s) go) x a y b
leads_stop first go x y a b stop p = λ s. stopped_next stop (first (standing x a s)) (standing y b s) go (p s)

pub leads_same : {A : Type 0} (action other : State → Outcome A) (x y : Seen) (a b : Areas) (r : Result A Stop) → ((s : State) → action s ≡ other s) → Leads r other x a y b → Leads r action x a y b
leads_same action other x y a b r e p = λ s. subst (λ o. Says r o (standing y b s)) (sym (e (standing x a s))) (p s)

-- a part that says nothing
pub leads_does : {A : Type 0} (action : State → Outcome A) (x y : Seen) (a : Areas) (r : Result A Stop) → Does action x y [] r → Leads r action x a y a
leads_does action x y a r p = λ s.
    subst (λ t. Says r (action (standing x a s)) (placed y s.answers t)) (said_nothing (record s { descriptors = a })) (p.says (record s { descriptors = a }) s.answers)

-- the call is at its end behind it
pub leads_ended : (action : State → Outcome (Unit {0})) (x y : Seen) (a b : Areas) (cs : List Connection) (r : Result (Unit {0}) Stop) (r' : Result (Option Waiting) Stop) → r' ≡ giving None r
    → Leads r action x a y b → Leads (asking_seen cs r') (λ s. ending (action s)) x a y b
leads_ended action x y a b cs r r' e p = subst (λ q. Leads (asking_seen cs q) (λ s. ending (action s)) x a y b) (sym e) (go r p)
  where
    go : (r : Result (Unit {0}) Stop) → Leads r action x a y b → Leads (asking_seen cs (giving None r)) (λ s. ending (action s)) x a y b
    go (Ok u) p = λ s j. ending (p s j)
    go (Err stop) p = leads_stop action (λ _ t. gives None t) x y a b stop p

-- ---- the connection

module _ (line : ℕ) (name : Option Text) (m m1 : Memory) (cs : List Connection) (current : Option Text) (a : Areas) (is : m1 ≡ fresh_area m) where
  pub reaches : (c : Connection) → sought name current cs ≡ Some c → Leads (Ok c) (reached line name) (only m cs current) a (only m1 cs current) a
  reaches c e = λ s.
      connection_sought line name (standing (only (fresh_area m) cs current) a s)
      ∙ (λ j. found_connection line (e j) (standing (only (fresh_area m) cs current) a s))
      ∙ (λ j. gives c (standing (only (sym is j) cs current) a s))

  pub reaches_none : (m' : Memory) (stop : Stop) → sought name current cs ≡ None → m' ≡ told_area (code_of found.NoConnection) (state_of found.NoConnection) (text_of_finding found.NoConnection) line m1 → stop ≡ stops.Finished
      → Leads {A = Connection} (Err stop) (reached line name) (only m cs current) a (only m' cs current) a
  reaches_none m' stop e told end =
      subst (λ x. Leads {A = Connection} (Err x) (reached line name) (only m cs current) a (only m' cs current) a) (sym end) (λ s.
      connection_sought line name (standing (only (fresh_area m) cs current) a s)
      ∙ (λ j. found_connection line (e j) (standing (only (fresh_area m) cs current) a s))
      ∙ (λ j. finished (standing (only (sym (told ∙ ap (told_area (code_of found.NoConnection) (state_of found.NoConnection) (text_of_finding found.NoConnection) line) is) j) cs current) a s)))

-- ---- what is asked over one connection

module _ {X : Type 0} {F : X → Type 0} (line : ℕ) (ready : Ready) (m m' : Memory) (a : Areas) (o : Open X F) where
  abbrev Starts : Result (Option (Request × Behind)) Stop → Type 0
  Starts r = StartsOver r (λ c s. ready_first line ready c s) a m o m' o

  pub starts_arm : (k : Ready) (r : Result (Request × Behind) Stop) (r' : Result (Option (Request × Behind)) Stop) → ready ≡ k → r' ≡ some_of r
      → Changed (first_seen (slot_of o.conn) (some_of r)) (ready_first line k (open_view o)) m a m' a → Starts r'
  starts_arm k r r' e is p = λ around apart s.
      subst (λ q. Says (first_seen (slot_of o.conn) q) (ready_first line ready (open_view o) (standing (seen around m o) a s)) (standing (seen around m' o) a s)) (sym is)
      (subst (λ x. Says (first_seen (slot_of o.conn) (some_of r)) (ready_first line x (open_view o) (standing (seen around m o) a s)) (standing (seen around m' o) a s)) (sym e)
      (p (standing (seen around m o) a s)))

pub control_so : {X : Type 0} {F : X → Type 0} (line : ℕ) (m : Memory) (a : Areas) (o : Open X F) (bytes : Text) (made : Request × Behind) → made ≡ (request.Text bytes [], behinds.Controlled)
    → Changed (first_seen (slot_of o.conn) (some_of (Ok made))) (ready_first line (readies.Control bytes) (open_view o)) m a m a
control_so line m a o bytes made is = λ s j. gives (Some (asks (slot_of o.conn) (sym is j).0 (behind_view (sym is j).1))) (record s { memory = m; descriptors = a })

pub prepare_so : {X : Type 0} {F : X → Type 0} (line : ℕ) (m : Memory) (a : Areas) (o : Open X F) (name bytes : Text) (r : Result (Request × Behind) Stop) → IfOk r (λ it. it ≡ (request.Prepare name bytes, behinds.Kept name bytes))
    → IfErr r (λ stop. stop ≡ stops.OutOfMemory) → Changed (first_seen (slot_of o.conn) (some_of r)) (ready_first line (readies.Prepare name bytes) (open_view o)) m a m a
prepare_so line m a o name bytes (Ok made) is none = λ s j. gives (Some (asks (slot_of o.conn) (sym is j).0 (behind_view (sym is j).1))) (record s { memory = m; descriptors = a })
prepare_so line m a o name bytes (Err stop) is none = λ s.
    subst (λ x. Says {A = Option Asking} (Err x) (ready_first line (readies.Prepare name bytes) (open_view o) (record s { memory = m; descriptors = a })) (record s { memory = m; descriptors = a })) (sym none) tt

-- a request that keeps to this slot
module _ {X : Type 0} {F : X → Type 0} (o : Open X F) (made : Request) (outputs : Outputs) where
  abbrev Begins : Request × Behind → Type 0
  Begins it = (s : State) → Says (first_seen (slot_of o.conn) (some_of (Ok it))) (statement_asks (begins (open_view o)) (slot_of o.conn) made (outputs_view outputs) s) s

  pub begins_not : begins (open_view o) ≡ false → Begins (made, behinds.Replied outputs)
  begins_not e = λ s j. statement_asks (e j) (slot_of o.conn) made (outputs_view outputs) s

  pub begins_so : (first : Request) → begins (open_view o) ≡ true → first ≡ request.Text begin_text [] → Begins (first, behinds.Begun made outputs)
  begins_so first e is = λ s.
      (λ j. statement_asks (e j) (slot_of o.conn) made (outputs_view outputs) s)
      ∙ (λ j. gives (Some (asks (slot_of o.conn) (sym is j) (begun made (outputs_view outputs)))) s)

-- the statement's request, behind what it looks up
module _ {X : Type 0} {F : X → Type 0} (line : ℕ) (order : Order) (outputs : Outputs) (o : Open X F) (m m1 m2 : Memory) (a : Areas) where
  abbrev Looked : Result (Request × Behind) Stop → Memory → Type 0
  Looked r m' = Changed (first_seen (slot_of o.conn) (some_of r)) (ordered_first line order (outputs_view outputs) (open_view o)) m a m' a

  abbrev found_then : Request → State → Outcome (Option Asking)
  found_then made t = next (outputs_found line (outputs_view outputs) t) (λ _ u. statement_asks (begins (open_view o)) (slot_of o.conn) made (outputs_view outputs) u)

  pub order_unmade : (stop : Stop) → Changed {A = Request} (Err stop) (request_made line order (open_view o)) m a m1 a → Looked (Err stop) m1
  order_unmade stop p = λ s. stopped_next stop (request_made line order (open_view o) (record s { memory = m; descriptors = a })) (record s { memory = m1; descriptors = a }) found_then (p s)

  module _ (made : Request) (p : Changed (Ok made) (request_made line order (open_view o)) m a m1 a) where
    pub order_unfound : (stop : Stop) → Changed {A = Unit {0}} (Err stop) (outputs_found line (outputs_view outputs)) m1 a m2 a → Looked (Err stop) m2
    order_unfound stop q = λ s.
        subst (λ x. Says {A = Option Asking} (Err stop) (next x found_then) (record s { memory = m2; descriptors = a })) (sym (p s))
        (stopped_next stop (outputs_found line (outputs_view outputs) (record s { memory = m1; descriptors = a })) (record s { memory = m2; descriptors = a })
        (λ _ u. statement_asks (begins (open_view o)) (slot_of o.conn) made (outputs_view outputs) u) (q s))

    pub order_found : (r : Result (Request × Behind) Stop) → Changed (Ok (tt {0})) (outputs_found line (outputs_view outputs)) m1 a m2 a
        → ((s : State) → Says (first_seen (slot_of o.conn) (some_of r)) (statement_asks (begins (open_view o)) (slot_of o.conn) made (outputs_view outputs) s) s) → Looked r m2
    order_found r q h = λ s.
        subst (λ x. Says (first_seen (slot_of o.conn) (some_of r)) (next x found_then) (record s { memory = m2; descriptors = a })) (sym (p s))
        (subst (λ x. Says (first_seen (slot_of o.conn) (some_of r)) (next x (λ _ u. statement_asks (begins (open_view o)) (slot_of o.conn) made (outputs_view outputs) u)) (record s { memory = m2; descriptors = a })) (sym (q s))
        (h (record s { memory = m2; descriptors = a })))

-- the name of what is deallocated
module _ {X : Type 0} {F : X → Type 0} (line : ℕ) (name : Text) (o : Open X F) (m m' : Memory) where
  abbrev Forgets : Result (Request × Behind) Stop → Type 0
  Forgets r = Quiet (first_seen (slot_of o.conn) (some_of r)) (deallocated_first line name (open_view o)) m m'

  abbrev then_asks : Unit {0} → State → Outcome (Option Asking)
  then_asks u t = asks_with (slot_of o.conn) (request.Deallocate name) (deallocates name) t

  pub deallocate_missing : (stop : Stop) → Quiet {A = Unit {0}} (Err stop) (name_there line name (open_view o)) m m' → Forgets (Err stop)
  deallocate_missing stop q = λ s. stopped_next stop (name_there line name (open_view o) (with_memory m s)) (with_memory m' s) then_asks (q s)

  pub deallocate_there : (copy : Text) → copy ≡ name → Quiet (Ok (tt {0})) (name_there line name (open_view o)) m m' → Forgets (Ok (request.Deallocate copy, behinds.Forgotten name))
  deallocate_there copy e q = λ s. (λ j. next (q s j) then_asks) ∙ (λ j. gives (Some (asks (slot_of o.conn) (request.Deallocate (sym e j)) (deallocates name))) (with_memory m' s))

-- autocommit
module _ {X : Type 0} {F : X → Type 0} (on : Bool) (m : Memory) (a : Areas) (o : Open X F) where
  abbrev Switches : Result (Option (Request × Behind)) Stop → Open X F → Type 0
  Switches r now = StartsOver r (λ c s. switching (commits_first on c) on c.slot s) a m o m now

  pub switched_at_once : commits_first on (open_view o) ≡ false → Switches (Ok None) (record o { autocommit = on })
  switched_at_once e = λ around apart s.
      (λ j. switching (e j) on (slot_of o.conn) (standing (seen around m o) a s))
      ∙ (λ j. gives None (record (standing (seen around m o) a s) { connections = changed_among (with_autocommit on) (open_view o) around.before around.behind apart j }))

  pub switched_behind : (made : Request) → commits_first on (open_view o) ≡ true → made ≡ request.Text (codes "commit") [] → Switches (Ok (Some (made, behinds.Committed on))) o
  switched_behind made e is = λ around apart s.
      (λ j. switching (e j) on (slot_of o.conn) (standing (seen around m o) a s))
      ∙ (λ j. gives (Some (asks (slot_of o.conn) (sym is j) (commits on))) (standing (seen around m o) a s))

-- ---- over the connections of a library

pub seen_so : (cs : List Connection) (at slot : ℕ) (first : Result (Option (Request × Behind)) Stop) → slot_for (slice_get cs at) ≡ slot → asking_seen cs (over_at at first) ≡ first_seen slot first
seen_so cs at slot (Ok None) e = refl
seen_so cs at slot (Ok (Some it)) e = λ j. Ok (Some (asks (e j) it.0 (behind_view it.1)))
seen_so cs at slot (Err stop) e = refl

pub fits_so : (cs : List Connection) (areas : Areas) (at : ℕ) (first : Result (Option (Request × Behind)) Stop) → at < length cs → IfOk first (λ it. FirstFits areas it) → IfOk (over_at at first) (λ it. Fits cs areas it)
fits_so cs areas at (Ok None) w h = tt
fits_so cs areas at (Ok (Some it)) w h = (w, h.0, h.1)
fits_so cs areas at (Err stop) w h = tt

module _ {X : Type 0} {F : X → Type 0} where
  place_end : (before behind : List (Open X F)) (o : Open X F) → slice_get (views (before ++ o ∷ behind)) (length before) ≡ Some (open_view o)
  place_end [] behind o = refl
  place_end (p ∷ before) behind o = place_end before behind o

  inside : (before behind : List (Open X F)) (o : Open X F) → length before < length (views (before ++ o ∷ behind))
  inside [] behind o = omega arith
  inside (p ∷ before) behind o = let h = inside before behind o in omega (arith, h)

  apart_here : (before behind : List (Open X F)) (o : Open X F) → AllBeside (links (before ++ o ∷ behind)) → Beside (slot_of o.conn) (links before)
  apart_here [] behind o h = tt
  apart_here (p ∷ before) behind o h = (λ e. at before h.0 (sym e), apart_here before behind o h.1)
    where
      at : (xs : List (Open X F)) → Beside (slot_of p.conn) (links (xs ++ o ∷ behind)) → slot_of o.conn ≡ slot_of p.conn → ⊥
      at [] b e = b.0 e
      at (x ∷ xs) b e = at xs b.1 e

  -- the one at a place
  module _ (was : List (Open X F)) (at : ℕ) (o o' : Open X F) (there : slice_get was at ≡ Some o) where
    abbrev s : Splits was at o
    s = split_at was at o there

    abbrev after : List (Open X F)
    after = slice_set was at o'

    pub still_there : slice_get (views after) at ≡ Some (open_view o')
    still_there = (λ j. slice_get (views (s.set o' j)) (s.place j)) ∙ place_end s.before s.behind o'

    still_inside : at < length (views after)
    still_inside = subst (λ n. n < length (views after)) (sym s.place) (subst (λ xs. length s.before < length (views xs)) (sym (s.set o')) (inside s.before s.behind o'))

    pub all_fit : (areas : Areas) (first : Result (Option (Request × Behind)) Stop) (r : Result (Option Waiting) Stop) → r ≡ over_at at first → IfOk first (λ it. FirstFits areas it) → IfOk r (λ it. Fits (views after) areas it)
    all_fit areas first r e h = subst (λ x. IfOk x (λ it. Fits (views after) areas it)) (sym e) (fits_so (views after) areas at first still_inside h)

    pub over_found : (line : ℕ) (ready : Ready) (name current : Option Text) (m m1 m' : Memory) (a : Areas) (first : Result (Option (Request × Behind)) Stop) (r : Result (Option Waiting) Stop)
        → Some at ≡ place_sought name current (views was) → m1 ≡ fresh_area m → AllBeside (links was) → o'.conn ≡ o.conn → r ≡ over_at at first
        → StartsOver first (λ c s. ready_first line ready c s) a m1 o m' o'
        → Leads (asking_seen (views after) r) (over_first line ready name) (only m (views was) current) a (only m' (views after) current) a
    over_found line ready name current m m1 m' a first r place fresh beside conn is p =
        leads_next (reached line name) (λ c t. ready_first line ready c t) (only m (views was) current) (only m1 (views was) current) (only m' (views after) current) a a a (open_view o) (asking_seen (views after) r)
        (reaches line name m m1 (views was) current a fresh (open_view o) (sought_at name current (views was) ∙ ap (at_place (views was)) (sym place) ∙ was_there))
        (λ t.
        subst (λ q. Says (asking_seen (views after) q) (ready_first line ready (open_view o) (standing (only m1 (views was) current) a t)) (standing (only m' (views after) current) a t)) (sym is)
        (subst (λ q. Says q (ready_first line ready (open_view o) (standing (only m1 (views was) current) a t)) (standing (only m' (views after) current) a t)) (sym (seen_so (views after) at (slot_of o.conn) first (ap slot_for still_there ∙ ap slot_of conn)))
        (subst (λ cs. Says (first_seen (slot_of o.conn) first) (ready_first line ready (open_view o) (standing (only m1 cs current) a t)) (standing (only m' (views after) current) a t)) (sym (ap views s.is ∙ views_among s.before s.behind o))
        (subst (λ cs. Says (first_seen (slot_of o.conn) first) (ready_first line ready (open_view o) (standing (seen around m1 o) a t)) (standing (only m' cs current) a t)) (sym (ap views (s.set o') ∙ views_among s.before s.behind o'))
        (p around (none_at (slot_of o.conn) s.before (apart_here s.before s.behind o (subst (λ xs. AllBeside (links xs)) s.is beside))) t)))))
      where
        around : Around
        around = record { before = views s.before; behind = views s.behind; current = current }

        was_there : slice_get (views was) at ≡ Some (open_view o)
        was_there = (λ j. slice_get (views (s.is j)) (s.place j)) ∙ place_end s.before s.behind o

  pub all_stay : (was now : Sessions X F) (at : ℕ) (o o' : Open X F) → slice_get was.sessions.items at ≡ Some o → now.sessions.items ≡ slice_set was.sessions.items at o' → o'.conn ≡ o.conn → o'.name ≡ o.name → Stays was now
  all_stay was now at o o' there set conn name =
      let s = split_at was.sessions.items at o there in
      let now_is : now.sessions.items ≡ s.before ++ o' ∷ s.behind = set ∙ s.set o' in
      record {
        links = ap links now_is ∙ links_among s.before s.behind o' ∙ (λ j. links s.before ++ conn j ∷ links s.behind) ∙ sym (ap links s.is ∙ links_among s.before s.behind o);
        named = λ h. subst (λ xs. AllNamed (views xs)) (sym now_is) (named_same s.before s.behind o o' name (subst (λ xs. AllNamed (views xs)) s.is h));
      }

  pub over_missing : (line : ℕ) (ready : Ready) (name : Option Text) (m m1 m' : Memory) (a : Areas) (was : Sessions X F) (stop : Stop) → None ≡ place_sought name was.current (connections_of was) → m1 ≡ fresh_area m
      → m' ≡ told_area (code_of found.NoConnection) (state_of found.NoConnection) (text_of_finding found.NoConnection) line m1 → stop ≡ stops.Finished
      → Leads {A = Option Asking} (Err stop) (over_first line ready name) (seen_by m was) a (seen_by m' was) a
  over_missing line ready name m m1 m' a was stop place fresh told end =
      leads_stop (reached line name) (λ c t. ready_first line ready c t) (seen_by m was) (seen_by m' was) a a stop
      (reaches_none line name m m1 (connections_of was) was.current a fresh m' stop (sought_at name was.current (connections_of was) ∙ ap (at_place (connections_of was)) (sym place)) told end)

-- ---- a call is what is read, and then what is asked

-- the values, and the name of a descriptor behind them
abbrev given_inputs : List Field → Option Text → Inputs
given_inputs fields name = record { params = fields; area = name }

abbrev with_name : Option GivenText → List Field → State → Outcome Inputs
with_name given fields t = next (area_read given t) (λ name u. gives (given_inputs fields name) u)

one_more : (field : Field) (given : Option GivenText) (o : Outcome (List Field))
    → next (next o (λ fields t. with_name given fields t)) (λ rest u. gives (with_param field rest) u) ≡ next (next o (λ fields u. gives (field ∷ fields) u)) (λ fields t. with_name given fields t)
one_more field given (gives fields s) = by_name (area_read given s)
  where
    by_name : (o : Outcome (Option Text)) → next (next o (λ name u. gives (given_inputs fields name) u)) (λ rest u. gives (with_param field rest) u) ≡ next o (λ name u. gives (given_inputs (field ∷ fields) name) u)
    by_name (gives name u) = refl
    by_name (finished u) = refl
    by_name (over halt u) = refl
one_more field given (finished s) = refl
one_more field given (over halt s) = refl

-- the members of a statement's inputs
abbrev members_of : List Input → Option GivenText → List (Member ℕ)
members_of ins given = map input_view ins ++ area_members given

inputs_split : (ins : List Input) (given : Option GivenText) (s : State) → inputs_read (members_of ins given) s ≡ next (values_read (map input_view ins) s) (λ fields t. with_name given fields t)
inputs_split [] None s = refl
inputs_split [] (Some given) s = by_text (given_read (given_view given) s)
  where
    by_text : (o : Outcome Text) → next o (λ bytes t. next (gives no_inputs t) (λ rest u. gives (named_by bytes rest) u)) ≡ next (next o (λ bytes t. gives (Some bytes) t)) (λ name u. gives (given_inputs [] name) u)
    by_text (gives bytes t) = refl
    by_text (finished t) = refl
    by_text (over halt t) = refl
inputs_split (inputs.Host h ∷ ins) given s = by_value (λ t. inputs_split ins given t) (value_read (host_view h) s)
  where
    by_value : ((t : State) → inputs_read (members_of ins given) t ≡ next (values_read (map input_view ins) t) (λ fields u. with_name given fields u)) → (o : Outcome Field)
        → next o (λ field t. next (inputs_read (members_of ins given) t) (λ rest u. gives (with_param field rest) u))
        ≡ next (next o (λ field t. next (values_read (map input_view ins) t) (λ fields u. gives (field ∷ fields) u))) (λ fields t. with_name given fields t)
    by_value split (gives field t) = (λ j. next (split t j) (λ rest u. gives (with_param field rest) u)) ∙ one_more field given (values_read (map input_view ins) t)
    by_value split (finished t) = refl
    by_value split (over halt t) = refl
inputs_split (inputs.Constant bytes ∷ ins) given s =
    (λ j. next (inputs_split ins given s j) (λ rest u. gives (with_param (Some bytes) rest) u)) ∙ one_more (Some bytes) given (values_read (map input_view ins) s)

all_places : (hs : List Host) → places_of (map target_view hs) ≡ Some (hosts_view hs)
all_places [] = refl
all_places (h ∷ hs) = λ j. elim (all_places hs j) [ None ↦ None | Some ps ↦ Some (host_view h ∷ ps) ]

outputs_known : (outs : Destination) (s : State) → outputs_read (targets_view outs) s ≡ next (targets_read outs s) (λ outputs t. gives (outputs_view outputs) t)
outputs_known (into.Hosts []) s = refl
outputs_known (into.Hosts (h ∷ hs)) s = λ j. into_places (all_places (h ∷ hs) j) s
outputs_known (into.Area given) s = sym (next_next (given_read (given_view given) s) (λ bytes t. gives (goes.Area bytes) t) (λ outputs t. gives (outputs_view outputs) t))

-- a statement from where all is read
abbrev asked_first : ℕ → Option Text → Sought → Inputs → Going → State → Outcome (Option Asking)
asked_first line name wanted given outputs s =
    next (begun_area s) (λ _ s.
    next (connection_for line name s) (λ c s.
    next (request_of line wanted c s) (λ made s.
    next (params_of line given s) (λ params s.
    next (outputs_found line outputs s) (λ _ s.
    statement_asks (begins c) c.slot (made params) outputs s)))))

module _ (line : ℕ) (what : What) (name : Option Text) (fields : List Field) (called : Option Text) where
  abbrev order_of : Order
  order_of = record { what = what; params = fields; area = called }

  -- once the request is known
  behind_request : (outputs : Going) (c : Connection) (o : Outcome (List Field → Request))
      → next o (λ made t. next (params_behind line fields called t) (λ params u. next (outputs_found line outputs u) (λ _ v. statement_asks (begins c) c.slot (made params) outputs v)))
      ≡ next (next o (λ made t. next (params_behind line fields called t) (λ params u. gives (made params) u))) (λ made t. next (outputs_found line outputs t) (λ _ u. statement_asks (begins c) c.slot made outputs u))
  behind_request outputs c (gives made t) = sym (next_next (params_behind line fields called t) (λ params u. gives (made params) u) (λ made u. next (outputs_found line outputs u) (λ _ v. statement_asks (begins c) c.slot made outputs v)))
  behind_request outputs c (finished t) = refl
  behind_request outputs c (over halt t) = refl

  asked_there : (outputs : Outputs) (s : State) → asked_first line name (what_view what) (given_inputs fields called) (outputs_view outputs) s ≡ over_first line (readies.Run order_of outputs) name s
  asked_there outputs s = λ j.
      next (connection_for line name (with_memory (fresh_area s.memory) s)) (λ c t. behind_request (outputs_view outputs) c (request_of line (what_view what) c t) j)

  -- once it is known where the rows go
  behind_outputs : (o : Outcome Outputs) → next (next o (λ outputs t. gives (outputs_view outputs) t)) (λ outputs u. asked_first line name (what_view what) (given_inputs fields called) outputs u)
      ≡ next (next o (λ outputs u. gives (readies.Run order_of outputs) u)) (λ ready u. over_first line ready name u)
  behind_outputs (gives outputs u) = asked_there outputs u
  behind_outputs (finished u) = refl
  behind_outputs (over halt u) = refl

module _ (line : ℕ) (it : Statement) (name : Option Text) where
  abbrev AsOrder : Order → State → Outcome (Option Asking)
  AsOrder order t = next (next (targets_read it.outs t) (λ outputs u. gives (readies.Run order outputs) u)) (λ ready u. over_first line ready name u)

  module _ (what : What) where
    abbrev AsInputs : Inputs → State → Outcome (Option Asking)
    AsInputs given t = next (outputs_read (targets_view it.outs) t) (λ outputs u. asked_first line name (what_view what) given outputs u)

    -- once the name of the inputs' descriptor is known
    behind_area : (fields : List Field) (o : Outcome (Option Text))
        → next (next o (λ called u. gives (given_inputs fields called) u)) (λ given u. AsInputs given u)
        ≡ next (next o (λ called u. gives (record { what = what; params = fields; area = called }) u)) (λ order u. AsOrder order u)
    behind_area fields (gives called u) =
        (λ j. next (outputs_known it.outs u j) (λ outputs v. asked_first line name (what_view what) (given_inputs fields called) outputs v))
        ∙ behind_outputs line what name fields called (targets_read it.outs u)
    behind_area fields (finished u) = refl
    behind_area fields (over halt u) = refl

    behind_values : (o : Outcome (List Field))
        → next (next o (λ fields t. with_name it.area fields t)) (λ given t. AsInputs given t)
        ≡ next (next o (λ fields t. with_area it.area what fields t)) (λ order t. AsOrder order t)
    behind_values (gives fields t) = behind_area fields (area_read it.area t)
    behind_values (finished t) = refl
    behind_values (over halt t) = refl

  -- once it is read what is asked for
  abbrev InParts : Sought → State → Outcome (Option Asking)
  InParts wanted s =
      next (inputs_read (members_of it.ins it.area) s) (λ given t. next (outputs_read (targets_view it.outs) t) (λ outputs u. asked_first line name wanted given outputs u))

  with_what : (what : What) (s : State) → InParts (what_view what) s ≡ next (with_values it what s) (λ order t. AsOrder order t)
  with_what what s =
      (λ j. next (inputs_split it.ins it.area s j) (λ given t. AsInputs what given t))
      ∙ behind_values what (values_read (map input_view it.ins) s)

  behind_text : (o : Outcome Text)
      → next (next o (λ bytes t. gives (text bytes) t)) (λ wanted t. InParts wanted t)
      ≡ next (next (next o (λ bytes t. gives (whats.Text bytes) t)) (λ what t. with_values it what t)) (λ order t. AsOrder order t)
  behind_text (gives bytes t) = with_what (whats.Text bytes) t
  behind_text (finished t) = refl
  behind_text (over halt t) = refl

  behind_wanted : (w : Wanted) (s : State)
      → next (statement_said (wanted_view w) s) (λ wanted t. InParts wanted t)
      ≡ next (next (wanted_read w s) (λ what t. with_values it what t)) (λ order t. AsOrder order t)
  behind_wanted (wants.Normal bytes) s = with_what (whats.Text bytes) s
  behind_wanted (wants.Prepared own) s = with_what (whats.Execution own) s
  behind_wanted (wants.Immediate given) s = behind_text (given_read (given_view given) s)
  behind_wanted (wants.Opening head own) s = with_what (whats.Cursor head own) s

  run_is : (s : State) → next (statement_said (wanted_view it.wanted) s) (λ wanted t. InParts wanted t) ≡ next (act_read (acts.Run it) s) (λ ready u. over_first line ready name u)
  run_is s =
      behind_wanted it.wanted s
      ∙ sym (next_next (statement_read it s) (λ order t. next (targets_read it.outs t) (λ outputs u. gives (readies.Run order outputs) u)) (λ ready u. over_first line ready name u))

module _ (line : ℕ) (named : TextData ℕ) (own : Text) (s : State) where
  prepare_is : (given : GivenText) → call_started line (act_view named (acts.Prepare own given)) s ≡ next (text_read named s) (λ called t. next (act_read (acts.Prepare own given) t) (λ ready u. over_first line ready called u))
  prepare_is given = λ j. next (text_read named s) (λ called t. go called (given_read (given_view given) t) j)
    where
      go : (called : Option Text) (o : Outcome Text) → next o (λ bytes u. over_first line (readies.Prepare own (with_marks bytes)) called u)
          ≡ next (next (next o (λ bytes t. gives (with_marks bytes) t)) (λ bytes u. gives (readies.Prepare own bytes) u)) (λ ready u. over_first line ready called u)
      go called (gives bytes u) = refl
      go called (finished u) = refl
      go called (over halt u) = refl

  deallocate_is : call_started line (act_view named (acts.Deallocate own)) s ≡ next (text_read named s) (λ called t. next (act_read (acts.Deallocate own) t) (λ ready u. over_first line ready called u))
  deallocate_is = λ j. next (text_read named s) (λ called t. next (connection_for line called (with_memory (fresh_area t.memory) t)) (λ c u.
      sym (next_next (found_text line (prepared_text own c.prepared) (λ bytes. bytes) u) (λ _ v. gives (tt {0}) v) (λ _ v. asks_with c.slot (request.Deallocate own) (deallocates own) v)) j))

act_is : (line : ℕ) (named : TextData ℕ) (act : Act) (s : State) → call_started line (act_view named act) s ≡ next (text_read named s) (λ name t. next (act_read act t) (λ ready u. over_first line ready name u))
act_is line named (acts.Run it) s = λ j. next (text_read named s) (λ name t. run_is line it name t j)
act_is line named (acts.Control bytes) s = refl
act_is line named (acts.Autocommit on) s = refl
act_is line named (acts.Prepare own given) s = prepare_is line named own s given
act_is line named (acts.Deallocate own) s = deallocate_is line named own s

module _ (line : ℕ) (named : TextData ℕ) (act : Act) (x y : Seen) (a : Areas) where
  abbrev Whole : Result (Option Asking) Stop → Seen → Type 0
  Whole r z = Leads r (λ s. call_started line (act_view named act) s) x a z a

  abbrev read_then : Option Text → State → Outcome (Option Asking)
  read_then name t = next (act_read act t) (λ ready u. over_first line ready name u)

  pub act_trapped : (trap : Trap) → ((s : State) → text_read named (with_memory x.memory s) ≡ over (trapped trap) (with_memory x.memory s)) → Whole (Err (stops.Trapped trap)) x
  act_trapped trap is =
      leads_same (λ s. call_started line (act_view named act) s) (λ s. next (text_read named s) read_then) x x a a (Err (stops.Trapped trap)) (act_is line named act)
      (λ s j. next (is (standing x a s) j) read_then)

  module _ (name : Option Text) (is : TextIs named x.memory name) where
    found_name : (r : Result (Option Asking) Stop) (z : Seen) → Leads r (read_then name) x a z a → Whole r z
    found_name r z p =
        leads_same (λ s. call_started line (act_view named act) s) (λ s. next (text_read named s) read_then) x z a a r (act_is line named act)
        (leads_next (text_read named) read_then x x z a a a name r (leads_quiet (Ok name) (text_read named) x a x.memory is) p)

    pub act_unread : (stop : Stop) → Quiet {A = Ready} (Err stop) (act_read act) x.memory x.memory → Whole (Err stop) x
    act_unread stop q = found_name (Err stop) x (leads_stop (act_read act) (λ ready u. over_first line ready name u) x x a a stop (leads_quiet (Err stop) (act_read act) x a x.memory q))

    pub act_given : (ready : Ready) (r : Result (Option Asking) Stop) → Quiet (Ok ready) (act_read act) x.memory x.memory → Leads r (over_first line ready name) x a y a → Whole r y
    act_given ready r q p = found_name r y (leads_next (act_read act) (λ ready u. over_first line ready name u) x x y a a a ready r (leads_quiet (Ok ready) (act_read act) x a x.memory q) p)

-- ---- what a statement is given

module _ (it : Statement) (m : Memory) where
  pub run_unread : (stop : Stop) → Quiet {A = Order} (Err stop) (statement_read it) m m → Quiet {A = Ready} (Err stop) (act_read (acts.Run it)) m m
  run_unread stop q = λ s. stopped_next stop (statement_read it (with_memory m s)) (with_memory m s) (λ order t. next (targets_read it.outs t) (λ outputs u. gives (readies.Run order outputs) u)) (q s)

  module _ (order : Order) (p : Quiet (Ok order) (statement_read it) m m) where
    pub run_untold : (stop : Stop) → Quiet {A = Outputs} (Err stop) (targets_read it.outs) m m → Quiet {A = Ready} (Err stop) (act_read (acts.Run it)) m m
    run_untold stop q = λ s.
        subst (λ o. Says {A = Ready} (Err stop) (next o (λ order t. next (targets_read it.outs t) (λ outputs u. gives (readies.Run order outputs) u))) (with_memory m s)) (sym (p s))
        (stopped_next stop (targets_read it.outs (with_memory m s)) (with_memory m s) (λ outputs u. gives (readies.Run order outputs) u) (q s))

-- a kind of call
pub act_seen : (r : Result Ready Stop) (act k : Act) (m : Memory) → act ≡ k → Quiet r (act_read k) m m → Quiet r (act_read act) m m
act_seen r act k m e q = subst (λ x. Quiet r (act_read x) m m) (sym e) q

pub marks_unread : (own : Text) (given : GivenText) (m : Memory) (stop : Stop) → Quiet {A = Text} (Err stop) (marks_read given) m m → Quiet {A = Ready} (Err stop) (act_read (acts.Prepare own given)) m m
marks_unread own given m stop q = λ s. stopped_next stop (marks_read given (with_memory m s)) (with_memory m s) (λ bytes t. gives (readies.Prepare own bytes) t) (q s)

pub marks_told : (own : Text) (given : GivenText) (m : Memory) (bytes : Text) → Quiet (Ok bytes) (marks_read given) m m → Quiet (Ok (readies.Prepare own bytes)) (act_read (acts.Prepare own given)) m m
marks_told own given m bytes q = λ s j. next (q s j) (λ b t. gives (readies.Prepare own b) t)

-- ---- by the kind of a call

-- a call on a descriptor asks nothing
described_is : (line : ℕ) (name : GivenText) (what : Describe) (s : State) → call_started line (kind_view (kinds.Describe name what)) s ≡ ending (call_done line (describe_view (given_view name) what) s)
described_is line name describes.Allocate s = refl
described_is line name describes.Deallocate s = refl
described_is line name (describes.GetCount h) s = refl
described_is line name (describes.SetCount value) s = refl
described_is line name (describes.GetItems index wanted) s = refl
described_is line name (describes.SetItems index given) s = refl

module _ (line : ℕ) (kind : Kind) where
  pub kind_leads : (k : Kind) (x y : Seen) (a b : Areas) (r : Result (Option Asking) Stop) → kind ≡ k → Leads r (λ s. call_started line (kind_view k) s) x a y b → Leads r (λ s. call_started line (kind_view kind) s) x a y b
  kind_leads k x y a b r e p = subst (λ z. Leads r (λ s. call_started line (kind_view z) s) x a y b) (sym e) p

  pub kind_some : (k : Kind) (x y : Seen) (a : Areas) (cs : List Connection) (first : Result Waiting Stop) (r : Result (Option Waiting) Stop) → kind ≡ k → r ≡ some_of first
      → Leads (asking_seen cs (some_of first)) (λ s. call_started line (kind_view k) s) x a y a → Leads (asking_seen cs r) (λ s. call_started line (kind_view kind) s) x a y a
  kind_some k x y a cs first r e is p =
      kind_leads k x y a a (asking_seen cs r) e (subst (λ q. Leads (asking_seen cs q) (λ s. call_started line (kind_view k) s) x a y a) (sym is) p)

  pub kind_ended : (text : GivenText) (x y : Seen) (a : Areas) (cs : List Connection) (done : Result (Unit {0}) Stop) (r : Result (Option Waiting) Stop) → kind ≡ kinds.SetConnection text → r ≡ giving None done
      → Does (set_connection_call line (given_view text)) x y [] done → Leads (asking_seen cs r) (λ s. call_started line (kind_view kind) s) x a y a
  kind_ended given x y a cs done r e is p =
      kind_leads (kinds.SetConnection given) x y a a (asking_seen cs r) e
      (leads_ended (set_connection_call line (given_view given)) x y a a cs done r is (leads_does (set_connection_call line (given_view given)) x y a done p))

  pub kind_described : (name : GivenText) (what : Describe) (x : Seen) (m' : Memory) (a b : Areas) (cs : List Connection) (done : Result (Unit {0}) Stop) (r : Result (Option Waiting) Stop) → kind ≡ kinds.Describe name what → r ≡ giving None done
      → Changed done (λ s. call_done line (describe_view (given_view name) what) s) x.memory a m' b → Leads (asking_seen cs r) (λ s. call_started line (kind_view kind) s) x a (record x { memory = m' }) b
  kind_described name what x m' a b cs done r e is p =
      kind_leads (kinds.Describe name what) x (record x { memory = m' }) a b (asking_seen cs r) e (λ s.
      subst (λ o. Says (asking_seen cs r) o (standing (record x { memory = m' }) b s)) (sym (described_is line name what (standing x a s)))
      (leads_ended (λ s. call_done line (describe_view (given_view name) what) s) x (record x { memory = m' }) a b cs done r is (leads_changed done (λ s. call_done line (describe_view (given_view name) what) s) x a b m' p) s))

pub fits_first : (areas : Areas) (first : Result (Request × Behind) Stop) (r : Result (Option (Request × Behind)) Stop) → r ≡ some_of first → IfOk first (λ it. FirstFits areas (Some it)) → IfOk r (λ it. FirstFits areas it)
fits_first areas first r e h = subst (λ x. IfOk x (λ it. FirstFits areas it)) (sym e) (go first h)
  where
    go : (first : Result (Request × Behind) Stop) → IfOk first (λ it. FirstFits areas (Some it)) → IfOk (some_of first) (λ it. FirstFits areas it)
    go (Ok it) h = h
    go (Err stop) h = tt

pub fits_some : (cs : List Connection) (areas : Areas) (first : Result Waiting Stop) (r : Result (Option Waiting) Stop) → r ≡ some_of first → IfOk first (λ it. Fits cs areas (Some it)) → IfOk r (λ it. Fits cs areas it)
fits_some cs areas first r e h = subst (λ x. IfOk x (λ it. Fits cs areas it)) (sym e) (go first h)
  where
    go : (first : Result Waiting Stop) → IfOk first (λ it. Fits cs areas (Some it)) → IfOk (some_of first) (λ it. Fits cs areas it)
    go (Ok it) h = h
    go (Err stop) h = tt
