-- A whole call, from its parts.
use Rattle.std.proofs.Common.{◌≡◌, ◌<◌, ℕ, zero, suc, List, [], ◌∷◌, ◌++◌, length, Option, Some, None, Result, Ok, Err, refl, sym, subst, ap, ◌∙◌, arith}
use Rattle.std.specs.Prelude.{reverse, slice_get, slice_set, IfOk}
use Rattle.std.specs.declared.alloc.Global.{Global}
use Rattle.std.specs.declared.dyn_box.DynBox.{DynBox}
use Rattle.ec_base.specs.declared.line.Line.{Line}
use Rattle.ec_link.specs.declared.connection.Conn.{Conn}
use Rattle.ec_link.specs.declared.logged.Logged.{Logged}
use Rattle.ec_link.specs.declared.rack.Rack.{Rack}
use Rattle.ec_link.specs.Logged.{Talk}
use Rattle.ec_link.specs.Rack.{slots_of}
use Rattle.ec_link.specs.Slot.{states}
use Rattle.ec_link.specs.SlotState.{SlotState, TakenAt}
use Rattle.ec_link.specs.Conn.{slot_of}
use Rattle.ec_memory_defs.specs.Memory.{Memory}
use Rattle.ec_meaning_defs.specs.observed.Observed.{answers_in}
use Rattle.ec_meaning_defs.specs.evaluation.State.{Connection, State}
use Rattle.ec_arguments.specs.Arguments.{Cut}
use Rattle.ec_call_defs.specs.Areas.{Areas}
use Rattle.ec_call_defs.specs.Outcomes.{Outcome}
use Rattle.ec_link.specs.declared.request.Request.{Request}
use Rattle.ec_link.specs.declared.request.Request.TheVariants as request
use Rattle.ec_stopping_defs.specs.Resuming.{Asking, asks_for, call_started, is_asked_over, started, stepped}
use Rattle.ec_stopping_defs.specs.Saying.{requests_left, IsNearer}
use Rattle.ec_stopping_defs.proofs.Once.{stepped_nearer}
use Rattle.ec_runtime.specs.declared.library.Library.{Library}
use Rattle.ec_runtime.specs.declared.library.Progress.{Progress}
use Rattle.ec_runtime.specs.declared.sessions.Sessions.{Sessions}
use Rattle.ec_runtime.specs.declared.open.Open.{Open}
use Rattle.ec_runtime.specs.declared.stop.Stop.{Stop}
use Rattle.ec_runtime.specs.declared.stop.Stop.TheVariants as stops
use Rattle.ec_runtime.specs.declared.stop.CallStop.{CallStop}
use Rattle.ec_runtime.specs.declared.waiting.UnderWay.{UnderWay}
use Rattle.ec_runtime.specs.declared.waiting.Waiting.{Waiting}
use Rattle.ec_runtime.specs.declared.waiting.Waits.{Waits}
use Rattle.ec_runtime.specs.declared.waiting.Waits.TheVariants as waits
use Rattle.ec_runtime.specs.Calling.{AllBeside, AllNamed, Changes, ChangesWith, Holds, Stays, connections_of, placed_by, seen_by}
use Rattle.ec_runtime.specs.Does.{LeftFrom, Placing, saying}
use Rattle.ec_runtime.specs.Proceeding.{asked_of, kept_of, left_of, progress_of, waiting_in, waiting_of, IsEnd, IsFit, IsOnce, Nears, Proceeds, Resumes, Starts, StoppedAt, UnderWayFits}
use Rattle.ec_runtime.specs.Racks.{AllTaken}
use Rattle.ec_runtime.specs.Says.{Says, giving}
use Rattle.ec_runtime.specs.Starts.{Leads}
use Rattle.ec_runtime.specs.Waiting.{asking_of, asking_seen, closing_first, closing_with, waits_view, Fits, WaitsFit}
use Rattle.ec_runtime.proofs.Connections.{taken_here}
use Rattle.ec_runtime.proofs.Joining.{lifted}
use Rattle.ec_runtime.proofs.Single.{once_by}
use Rattle.ec_runtime.proofs.Making.{held_same, links, links_among, named_same, split_at, views}

-- a part that leaves the descriptors
pub changes_with : {A : Type 0} {X : Type 0} {F : X → Type 0} (talk : DynBox X Global F → Option Talk) (faults : DynBox X Global F → ℕ) (action : State → Outcome A) (m m' : Memory) (a : Areas) (old new : Rack X F) (was now : Sessions X F) (r : Result A Stop)
    → Changes talk faults action m old was m' new now r → ChangesWith talk faults action m a old was m' a new now r
changes_with talk faults action m m' a old new was now r p =
    record { growth = p.growth; moves = p.moves; does = lifted action (seen_by m was) (seen_by m' now) a p.growth r p.does }

-- ---- what is under way fits

pub views_within : {X : Type 0} {F : X → Type 0} (items : List (Open X F)) (at : ℕ) → at < length (views items) → at < length items
views_within [] at h = absurd (omega (arith, h))
views_within (x ∷ items) zero h = omega arith
views_within (x ∷ items) (suc at) h = let k = views_within items at (omega (arith, h)) in omega (arith, k)

abbrev no_more : Option Waiting
no_more = None

pub fits_giving : (cs : List Connection) (areas : Areas) (r : Result (Unit {0}) Stop) (result : Result (Option Waiting) Stop) → result ≡ giving None r → IfOk result (λ it. Fits cs areas it)
fits_giving cs areas r result e = subst (λ x. IfOk x (λ it. Fits cs areas it)) (sym e) (go r)
  where
    go : (r : Result (Unit {0}) Stop) → IfOk (giving no_more r) (λ it. Fits cs areas it)
    go (Ok u) = tt
    go (Err stop) = tt

pub kept_fits : (cs : List Connection) (areas : Areas) (line : Line) (part : Result (Option Waiting) Stop) (kept : Option UnderWay) → kept ≡ kept_of line part → IfOk part (λ it. Fits cs areas it) → UnderWayFits cs areas kept
kept_fits cs areas line part kept e h = subst (λ x. UnderWayFits cs areas x) (sym e) (go part h)
  where
    go : (part : Result (Option Waiting) Stop) → IfOk part (λ it. Fits cs areas it) → UnderWayFits cs areas (kept_of line part)
    go (Ok None) h = tt
    go (Ok (Some it)) h = h
    go (Err stop) h = tt

-- ---- how far it is

proceeds : (cs : List Connection) (line : Line) (part : Result (Option Waiting) Stop) (o : Outcome (Option Asking)) (s : State) → Says (asking_seen cs part) o s → Proceeds (progress_of part) (waiting_in cs (kept_of line part)) line.0 o s
proceeds cs line (Ok None) o s h = (refl, subst (λ p. IsEnd p s) (sym h) refl)
proceeds cs line (Ok (Some it)) o s h = (asking_of cs it, refl, h)
proceeds cs line (Err stops.Finished) o s h = (refl, subst (λ p. IsEnd p s) (sym h) refl)
proceeds cs line (Err (stops.Trapped trap)) o s h = (refl, h)
proceeds cs line (Err stops.OutOfMemory) o s h = refl

proceeds_kept : (cs : List Connection) (line : Line) (part : Result (Option Waiting) Stop) (kept : Option UnderWay) (result : Result Progress CallStop) (o : Outcome (Option Asking)) (s : State) → kept ≡ kept_of line part → result ≡ progress_of part
    → Says (asking_seen cs part) o s → Proceeds result (waiting_in cs kept) line.0 o s
proceeds_kept cs line part kept result o s e is h =
    subst (λ r. Proceeds r (waiting_in cs kept) line.0 o s) (sym is) (subst (λ k. Proceeds (progress_of part) (waiting_in cs k) line.0 o s) (sym e) (proceeds cs line part o s h))

stopped_at : (action : State → Outcome (Option Asking)) (from : Placing) (growth : List Logged) (cs : List Connection) (part : Result (Option Waiting) Stop) → LeftFrom action from growth (asking_seen cs part) → StoppedAt action from growth (progress_of part)
stopped_at action from growth cs (Ok None) l = tt
stopped_at action from growth cs (Ok (Some it)) l = tt
stopped_at action from growth cs (Err stops.Finished) l = tt
stopped_at action from growth cs (Err (stops.Trapped trap)) l = tt
stopped_at action from growth cs (Err stops.OutOfMemory) l = l

-- some state
abbrev pub nowhere_yet : State
nowhere_yet = record { memory = []; output = []; errors = []; connections = []; current = None; descriptors = []; conversation = []; answers = []; turns = 0 }

nearer_by : (n : ℕ) (o : Outcome (Option Asking)) (cs : List Connection) (line : Line) (part : Result (Option Waiting) Stop) (s : State) → IsNearer n o → Says (asking_seen cs part) o s → Nears (progress_of part) n (left_of (waiting_in cs (kept_of line part)))
nearer_by n o cs line (Ok None) s h e = tt
nearer_by n o cs line (Ok (Some it)) s h e = subst (λ p. IsNearer n p) e h
nearer_by n o cs line (Err stops.Finished) s h e = tt
nearer_by n o cs line (Err (stops.Trapped trap)) s h e = tt
nearer_by n o cs line (Err stops.OutOfMemory) s h e = tt

module _ {X : Type 0} {F : X → Type 0} where
  -- a call was begun
  pub starts_so : (c : Cut ℕ) (line : Line) (m m' : Memory) (was now : Library X F) (part : Result (Option Waiting) Stop) (result : Result Progress CallStop) → c.line ≡ line.0 → now.under_way ≡ kept_of line part → result ≡ progress_of part
      → Leads (asking_seen (connections_of now.connections) part) (started c) (seen_by m was.connections) was.areas (seen_by m' now.connections) now.areas → Starts c m was m' now result
  starts_so c line m m' was now part result lines e is p = λ s rest.
      subst (λ l. Proceeds result (waiting_of now) l (started c (placed_by m was rest s)) (placed_by m' now rest s)) (sym lines)
      (proceeds_kept (connections_of now.connections) line part now.under_way result (started c (placed_by m was rest s)) (placed_by m' now rest s) e is (p (record s { answers = rest })))

  module _ (talk : DynBox X Global F → Option Talk) (faults : DynBox X Global F → ℕ) where
    -- a request was made
    pub resumes_so : (line : Line) (u : Asking) (m m' : Memory) (old new : Rack X F) (was now : Library X F) (part : Result (Option Waiting) Stop) (result : Result Progress CallStop) → now.under_way ≡ kept_of line part → result ≡ progress_of part
        → ChangesWith talk faults (stepped line.0 u) m was.areas old was.connections m' now.areas new now.connections (asking_seen (connections_of now.connections) part)
        → Resumes talk faults line.0 u m old was m' new now result
    resumes_so line u m m' old new was now part result e is p = record {
      growth = p.growth;
      moves = p.moves;
      proceeds = λ s rest. proceeds_kept (connections_of now.connections) line part now.under_way result (stepped line.0 u (placed_by m was (answers_in p.growth ++ rest) s)) (placed_by m' now rest (saying p.growth s)) e is (p.does.says s rest);
      once = subst (λ r. IsOnce u r p.growth) (sym is)
          (once_by line.0 u (placed_by m was [] nowhere_yet) refl p.growth (connections_of now.connections) part (placed_by m' now [] (saying p.growth nowhere_yet)) refl refl (p.does.says nowhere_yet [])
          (λ out. subst (λ q. LeftFrom (stepped line.0 u) (placed_by m was) p.growth (asking_seen (connections_of now.connections) q)) out p.does.left nowhere_yet []));
      left = subst (λ r. StoppedAt (stepped line.0 u) (placed_by m was) p.growth r) (sym is) (stopped_at (stepped line.0 u) (placed_by m was) p.growth (connections_of now.connections) part p.does.left);
    }

    pub nears_so : (line : Line) (u : Asking) (m m' : Memory) (old new : Rack X F) (was now : Library X F) (part : Result (Option Waiting) Stop) (result : Result Progress CallStop) → now.under_way ≡ kept_of line part → result ≡ progress_of part
        → ChangesWith talk faults (stepped line.0 u) m was.areas old was.connections m' now.areas new now.connections (asking_seen (connections_of now.connections) part)
        → Nears result (requests_left u) (left_of (waiting_of now))
    nears_so line u m m' old new was now part result e is p =
        subst (λ r. Nears r (requests_left u) (left_of (waiting_of now))) (sym is)
        (subst (λ k. Nears (progress_of part) (requests_left u) (left_of (waiting_in (connections_of now.connections) k))) (sym e)
        (nearer_by (requests_left u) (stepped line.0 u (placed_by m was (answers_in p.growth ++ []) nowhere_yet)) (connections_of now.connections) line part (placed_by m' now [] (saying p.growth nowhere_yet))
        (stepped_nearer line.0 u (placed_by m was (answers_in p.growth ++ []) nowhere_yet)) (p.does.says nowhere_yet [])))

  -- ---- the links stay

  pub beside_held : (slots : List SlotState) (conns : List (Conn X F)) → AllTaken slots conns → AllBeside conns
  beside_held slots [] h = tt
  beside_held slots (conn ∷ conns) h = (h.1, beside_held slots conns h.2)

  pub set_stays : (was now : Sessions X F) → now.sessions.items ≡ was.sessions.items → Stays was now
  set_stays was now e = record { links = ap links e; named = λ h. subst (λ xs. AllNamed (views xs)) (sym e) h }

  pub stays_held : (rack : Rack X F) (was now : Sessions X F) → Stays was now → Holds was rack → Holds now rack
  stays_held rack was now stays holds = record { taken = subst (λ cs. AllTaken (states (slots_of rack)) cs) (sym stays.links) holds.taken; named = stays.named holds.named }

module _ {X : Type 0} {F : X → Type 0} (old : Rack X F) (was : Sessions X F) (at : ℕ) (o : Open X F) (there : slice_get was.sessions.items at ≡ Some o) (holds : Holds was old) where
  -- its slot is taken
  pub act_taken : TakenAt (states (slots_of old)) (slot_of o.conn)
  act_taken =
      let s = split_at was.sessions.items at o there in
      taken_here (states (slots_of old)) (links s.before) (links s.behind) o.conn
      (subst (λ cs. AllTaken (states (slots_of old)) cs) (links_among s.before s.behind o) (subst (λ xs. AllTaken (states (slots_of old)) (links xs)) s.is holds.taken))

  pub act_holds : (o' : Open X F) (new : Rack X F) (now : Sessions X F) → slot_of o'.conn ≡ slot_of o.conn → slots_of new ≡ slots_of old → o'.name ≡ o.name → now.sessions.items ≡ slice_set was.sessions.items at o' → Holds now new
  act_holds o' new now slot slots name set =
      let s = split_at was.sessions.items at o there in
      let is : now.sessions.items ≡ s.before ++ o' ∷ s.behind = set ∙ s.set o' in
      record {
        taken = subst (λ xs. AllTaken (states (slots_of new)) (links xs)) (sym is) (held_same old new s.before s.behind o o' slot slots (subst (λ xs. AllTaken (states (slots_of old)) (links xs)) s.is holds.taken));
        named = subst (λ xs. AllNamed (views xs)) (sym is) (named_same s.before s.behind o o' name (subst (λ xs. AllNamed (views xs)) s.is holds.named));
      }

-- ---- with what is under way

-- the line and the request of what waits
abbrev pub line_or : ℕ → Option (ℕ × Asking) → ℕ
line_or line None = line
line_or line (Some it) = it.0

abbrev pub asking_or : Asking → Option (ℕ × Asking) → Asking
asking_or u None = u
asking_or u (Some it) = it.1

closing_request : (cs : List Connection) (o : Option Connection) → request.Close ≡ asks_for (closing_with cs o)
closing_request cs None = refl
closing_request cs (Some c) = refl

first_request : (cs : List Connection) → request.Close ≡ asks_for (closing_first cs)
first_request [] = refl
first_request (c ∷ cs) = refl

pub pending_so : (cs : List Connection) (areas : Areas) (it : UnderWay) (o : Option UnderWay) (slot : Option ℕ) → o ≡ Some it → UnderWayFits cs areas o → slot ≡ is_asked_over (waits_view cs it.waiting.request it.waiting.waits)
    → Some (slot, it.waiting.request) ≡ asked_of (waiting_in cs o)
pending_so cs areas it o slot e fits is = (λ j. Some (is j, requested j)) ∙ (λ j. asked_of (waiting_in cs (sym e j)))
  where
    requests_same : (r : Request) (w : Waits) → WaitsFit cs areas r w → r ≡ asks_for (waits_view cs r w)
    requests_same r (waits.Over at behind) h = refl
    requests_same r (waits.Connecting name) h = refl
    requests_same r (waits.ClosingOne at) h = h.1 ∙ closing_request [] (slice_get cs at)
    requests_same r waits.ClosingAll h = h.1 ∙ first_request (reverse cs)

    requested : it.waiting.request ≡ asks_for (waits_view cs it.waiting.request it.waiting.waits)
    requested = requests_same it.waiting.request it.waiting.waits (subst (λ u. UnderWayFits cs areas u) e fits)

module _ {X : Type 0} {F : X → Type 0} where
  pub settled_fits : (line : Line) (now : Library X F) (it : Sessions X F) (areas : Areas) (part : Result (Option Waiting) Stop) → now.under_way ≡ kept_of line part → now.connections ≡ it → now.areas ≡ areas
      → IfOk part (λ w. Fits (connections_of it) areas w) → IsFit now
  settled_fits line now it areas part e cs ds h =
      subst (λ x. UnderWayFits (connections_of x) now.areas now.under_way) (sym cs) (subst (λ x. UnderWayFits (connections_of it) x now.under_way) (sym ds) (kept_fits (connections_of it) areas line part now.under_way e h))

  pub settled_starts : (c : Cut ℕ) (line : Line) (m m' : Memory) (was now : Library X F) (it : Sessions X F) (areas : Areas) (part : Result (Option Waiting) Stop) (result : Result Progress CallStop) → c.line ≡ line.0 → now.under_way ≡ kept_of line part → result ≡ progress_of part
      → now.connections ≡ it → now.areas ≡ areas → Leads (asking_seen (connections_of it) part) (λ s. call_started line.0 c.call s) (seen_by m was.connections) was.areas (seen_by m' it) areas → Starts c m was m' now result
  settled_starts c line m m' was now it areas part result lines e is cs ds p =
      starts_so c line m m' was now part result lines e is
      (subst (λ x. Leads (asking_seen (connections_of x) part) (started c) (seen_by m was.connections) was.areas (seen_by m' x) now.areas) (sym cs)
      (subst (λ x. Leads (asking_seen (connections_of it) part) (started c) (seen_by m was.connections) was.areas (seen_by m' it) x) (sym ds)
      (subst (λ l. Leads (asking_seen (connections_of it) part) (λ s. call_started l c.call s) (seen_by m was.connections) was.areas (seen_by m' it) areas) (sym lines) p)))

  module _ (talk : DynBox X Global F → Option Talk) (faults : DynBox X Global F → ℕ) (own : Line) (w : Waiting) where
    abbrev Steps : Memory → Areas → Rack X F → Sessions X F → Memory → Areas → Rack X F → Sessions X F → Result (Option Waiting) Stop → Type 0
    Steps m a old was m' b new now part = ChangesWith talk faults (stepped own.0 (asking_of (connections_of was) w)) m a old was m' b new now (asking_seen (connections_of now) part)

    module _ (m m' : Memory) (old new : Rack X F) (was now : Library X F) (it : Sessions X F) (areas : Areas) (part : Result (Option Waiting) Stop) (result : Result Progress CallStop) where
      step_there : now.connections ≡ it → now.areas ≡ areas → Steps m was.areas old was.connections m' areas new it part → Steps m was.areas old was.connections m' now.areas new now.connections part
      step_there cs ds p = subst (λ x. Steps m was.areas old was.connections m' now.areas new x part) (sym cs) (subst (λ x. Steps m was.areas old was.connections m' x new it part) (sym ds) p)

    pub settled_resumes : (line : ℕ) (u : Asking) (m m' : Memory) (old new : Rack X F) (was now : Library X F) (it : Sessions X F) (areas : Areas) (part : Result (Option Waiting) Stop) (result : Result Progress CallStop)
        → was.under_way ≡ Some (record { line = own; waiting = w }) → waiting_of was ≡ Some (line, u) → now.under_way ≡ kept_of own part → result ≡ progress_of part → now.connections ≡ it → now.areas ≡ areas
        → Steps m was.areas old was.connections m' areas new it part → Resumes talk faults line u m old was m' new now result
    settled_resumes line u m m' old new was now it areas part result waits is e says cs ds p =
        let both : Some (line, u) ≡ Some (own.0, asking_of (connections_of was.connections) w) = sym is ∙ ap (waiting_in (connections_of was.connections)) waits in
        let lines : own.0 ≡ line = sym (ap (line_or line) both) in
        let asks : asking_of (connections_of was.connections) w ≡ u = sym (ap (asking_or u) both) in
        subst (λ l. Resumes talk faults l u m old was m' new now result) lines
        (subst (λ v. Resumes talk faults own.0 v m old was m' new now result) asks
        (resumes_so talk faults own (asking_of (connections_of was.connections) w) m m' old new was now part result e says (step_there m m' old new was now it areas part result cs ds p)))

    pub settled_nears : (m m' : Memory) (old new : Rack X F) (was now : Library X F) (it : Sessions X F) (areas : Areas) (part : Result (Option Waiting) Stop) (result : Result Progress CallStop)
        → was.under_way ≡ Some (record { line = own; waiting = w }) → now.under_way ≡ kept_of own part → result ≡ progress_of part → now.connections ≡ it → now.areas ≡ areas
        → Steps m was.areas old was.connections m' areas new it part → Nears result (left_of (waiting_of was)) (left_of (waiting_of now))
    settled_nears m m' old new was now it areas part result waits e says cs ds p =
        subst (λ o. Nears result (left_of (waiting_in (connections_of was.connections) o)) (left_of (waiting_of now))) (sym waits)
        (nears_so talk faults own (asking_of (connections_of was.connections) w) m m' old new was now part result e says (step_there m m' old new was now it areas part result cs ds p))
