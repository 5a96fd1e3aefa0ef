-- From one request to the next, from its parts.
use Rattle.std.proofs.Common.{◌≡◌, ◌<◌, ◌+◌, ℕ, List, [], ◌∷◌, ◌++◌, length, reverse, Option, Some, None, Result, Ok, Err, refl, sym, subst, ap, ◌∙◌, append-nil, arith}
use Rattle.std.specs.Prelude.{slice_get, slice_set}
use Rattle.std.specs.List.{remove}
use Rattle.std.specs.declared.alloc.Global.{Global}
use Rattle.std.specs.declared.dyn_box.DynBox.{DynBox}
use Rattle.ec_link.specs.declared.rack.Rack.{Rack}
use Rattle.ec_link.specs.declared.reply.Reply.{Reply}
use Rattle.ec_link.specs.declared.request.Request.{Request}
use Rattle.ec_link.specs.declared.request.Request.TheVariants as request
use Rattle.ec_link.specs.declared.logged.Logged.{Logged}
use Rattle.ec_link.specs.Conn.{slot_of}
use Rattle.ec_link.specs.Logged.{Talk}
use Rattle.ec_link.specs.Rack.{slots_of}
use Rattle.ec_link.specs.Slot.{states}
use Rattle.ec_memory_defs.specs.Memory.{Memory}
use Rattle.ec_meaning_defs.specs.evaluation.State.{Connection, State}
use Rattle.ec_call_defs.specs.Answers.{replied, taken}
use Rattle.ec_call_defs.specs.Areas.{Areas}
use Rattle.ec_call_defs.specs.Autocommit.{with_autocommit}
use Rattle.ec_call_defs.specs.Connections.{asked, changed_at, controlled}
use Rattle.ec_call_defs.specs.Disconnecting.{closed, removed}
use Rattle.ec_call_defs.specs.Outcomes.{Outcome, gives, finished, over, next}
use Rattle.ec_call_defs.specs.Preparing.{prepared_anew, with_text, without_text}
use Rattle.ec_call_defs.specs.Running.{is_wanted, table_kept}
use Rattle.ec_stopping_defs.specs.Resuming.{Asking, asks, ending, stepped}
use Rattle.ec_runtime.specs.declared.open.Open.{Open}
use Rattle.ec_runtime.specs.declared.sessions.Sessions.{Sessions}
use Rattle.ec_runtime.specs.declared.stop.Stop.{Stop}
use Rattle.ec_runtime.specs.declared.waiting.Behind.{Behind}
use Rattle.ec_runtime.specs.declared.waiting.Behind.TheVariants as behinds
use Rattle.ec_runtime.specs.declared.waiting.Waiting.{Waiting}
use Rattle.ec_runtime.specs.declared.waiting.Waits.{Waits}
use Rattle.ec_runtime.specs.Calling.{Changes, ChangesWith, Holds, connections_of, seen_by}
use Rattle.ec_runtime.specs.Does.{DoesFrom, DoesWith, Over, OverWith, Placing, placed, placed_with}
use Rattle.ec_runtime.specs.Opening.{open_view}
use Rattle.ec_runtime.specs.Racks.{AllTaken, Moves}
use Rattle.ec_runtime.specs.Resuming.{closing_asks, further, over_done, over_part}
use Rattle.ec_runtime.specs.Says.{giving}
use Rattle.ec_runtime.specs.Statements.{outputs_view}
use Rattle.ec_runtime.specs.Waiting.{asking_seen, behind_view, closing_first, closing_with, first_in, first_seen, over_at, slot_for, waits_view}
use Rattle.ec_runtime.proofs.Begun.{seen_so, still_there}
use Rattle.ec_runtime.proofs.Closes.{element, reversed_at, view_there, views_without}
use Rattle.ec_runtime.proofs.Connections.{apart_before, taken_here}
use Rattle.ec_runtime.proofs.Grows.{same_front}
use Rattle.ec_runtime.proofs.Joining.{lifted, next_from, over_with, same_from, stop_from, with_changed, with_next, with_stop}
use Rattle.ec_runtime.proofs.Making.{links, links_among, none_at, split_at, views, views_among}
use Rattle.ec_runtime.proofs.Moving.{moves_asked}
use Rattle.ec_runtime.proofs.Starting.{next_next, only}

-- ---- what is given behind a part

-- nothing is asked by that
gives_from : {A : Type 0} (x : A) (to : Placing) → DoesFrom (λ t. gives x t) to to [] (Ok x)
gives_from x to = record { says = λ s rest j. gives x (to rest (kept s j)); left = tt }
  where
    kept : (s : State) → s ≡ record s { conversation = s.conversation ++ [] }
    kept s = λ j. record s { conversation = sym (append-nil s.conversation) j }

nothing_more : (g : List Logged) → g ++ [] ≡ g
nothing_more g = append-nil g

abbrev nothing_asked : Unit {0} → Option Asking
nothing_asked u = None

abbrev pub mapped : {A B : Type 0} → (A → B) → Result A Stop → Result B Stop
mapped f (Ok x) = Ok (f x)
mapped f (Err stop) = Err stop

module _ {A B : Type 0} (action : State → Outcome A) (f : A → B) (from to : Placing) (g : List Logged) where
  pub map_from : (r : Result A Stop) → DoesFrom action from to g r → DoesFrom (λ s. next (action s) (λ x t. gives (f x) t)) from to g (mapped f r)
  map_from (Ok x) p = subst (λ h. DoesFrom (λ s. next (action s) (λ x t. gives (f x) t)) from to h (Ok (f x))) (nothing_more g) (next_from action (λ x t. gives (f x) t) from to to x g [] (Ok (f x)) p (gives_from (f x) to))
  map_from (Err stop) p = stop_from action (λ x t. gives (f x) t) from to g stop (λ x t. same_front t.conversation) p

-- ---- over one connection

module _ {X : Type 0} {F : X → Type 0} (talk : DynBox X Global F → Option Talk) (faults : DynBox X Global F → ℕ) where
  module _ {A : Type 0} (x : A) (action : State → Outcome (Unit {0})) (m m' : Memory) (a b : Areas) (old new : Rack X F) (was now : Open X F) where
    pub with_giving : (r : Result (Unit {0}) Stop) → OverWith talk faults action m a old was m' b new now r → OverWith talk faults (λ s. next (action s) (λ _ t. gives x t)) m a old was m' b new now (giving x r)
    with_giving (Ok u) p =
        with_next talk faults action (λ _ t. gives x t) m m' m' a b b old was new now new now u (Ok x) p
        (with_changed talk faults (λ t. gives x t) m' m' b b new now (Ok x) (λ t. same_front t.conversation) (λ t. refl))
    with_giving (Err stop) p = with_stop talk faults action (λ _ t. gives x t) m m' a b old was new now stop (λ _ t. same_front t.conversation) p

  module _ (line : ℕ) (r : Request) (behind : Behind) (m m' : Memory) (a b : Areas) (old new : Rack X F) (was now : Open X F) where
    -- by what is done behind the answer
    pub part_arm : (k : Behind) (done : Result (Unit {0}) Stop) (result : Result (Option (Request × Behind)) Stop) → behind ≡ k → result ≡ giving (further k) done
        → OverWith talk faults (over_done line (slot_of was.conn) r k) m a old was m' b new now done
        → OverWith talk faults (over_part line (slot_of was.conn) r behind) m a old was m' b new now result
    part_arm k done result e is p =
        subst (λ q. OverWith talk faults (over_part line (slot_of was.conn) r behind) m a old was m' b new now q) (sym is)
        (subst (λ x. OverWith talk faults (over_part line (slot_of was.conn) r x) m a old was m' b new now (giving (further k) done)) (sym e)
        (with_giving (further k) (over_done line (slot_of was.conn) r k) m m' a b old new was now done p))

  module _ (line : ℕ) (r : Request) (behind : Behind) (m m' : Memory) (a : Areas) (old new : Rack X F) (was now : Open X F) where
    -- where the descriptors stay
    pub part_still : (k : Behind) (done : Result (Unit {0}) Stop) (result : Result (Option (Request × Behind)) Stop) → behind ≡ k → result ≡ giving (further k) done
        → Over talk faults (over_done line (slot_of was.conn) r k) m old was m' new now done
        → OverWith talk faults (over_part line (slot_of was.conn) r behind) m a old was m' a new now result
    part_still k done result e is p = part_arm line r behind m m' a a old new was now k done result e is (over_with talk faults (over_done line (slot_of was.conn) r k) m m' a old was new now done p)

-- ---- a part is the words of the definitions

-- what is given behind what is given
twice : {A B : Type 0} (f : A) (h : A → B) (o : Outcome (Unit {0})) → next o (λ _ t. gives (h f) t) ≡ next (next o (λ _ t. gives f t)) (λ x t. gives (h x) t)
twice f h (gives u t) = refl
twice f h (finished t) = refl
twice f h (over halt t) = refl

module _ (line slot : ℕ) (r : Request) where
  abbrev As : Behind → State → Outcome (Option Asking)
  As behind s = next (over_part line slot r behind s) (λ x t. gives (first_in slot x) t)

  behind_reply : (f : Option (Request × Behind)) (o : Outcome Reply) (k : Reply → State → Outcome (Unit {0}))
      → next o (λ reply t. next (k reply t) (λ _ u. gives (first_in slot f) u)) ≡ next (next (next o k) (λ _ t. gives f t)) (λ x t. gives (first_in slot x) t)
  behind_reply f (gives reply t) k = twice f (first_in slot) (k reply t)
  behind_reply f (finished t) k = refl
  behind_reply f (over halt t) k = refl

  -- with a change behind it
  behind_change : (o : Outcome Reply) (k : Reply → State → Outcome (Unit {0})) (change : Unit {0} → State → Outcome (Unit {0}))
      → next o (λ reply t. ending (next (k reply t) change)) ≡ next (next (next (next o k) change) (λ _ t. gives None t)) (λ x t. gives (first_in slot x) t)
  behind_change o k change =
      behind_reply None o (λ reply t. next (k reply t) change)
      ∙ (λ j. next (next (sym (next_next o k change) j) (λ _ t. gives None t)) (λ x t. gives (first_in slot x) t))

  pub stepped_is : (behind : Behind) (s : State) → stepped line (asks slot r (behind_view behind)) s ≡ As behind s
  stepped_is (behinds.Begun second outputs) s = behind_reply (Some (second, behinds.Replied outputs)) (asked slot r s) (λ reply t. controlled line reply t)
  stepped_is (behinds.Replied outputs) s = behind_reply None (asked slot r s) (λ reply t. replied line (is_wanted (outputs_view outputs)) (table_kept line (outputs_view outputs)) reply t)
  stepped_is behinds.Controlled s = behind_reply None (asked slot r s) (λ reply t. controlled line reply t)
  stepped_is (behinds.Committed on) s = behind_change (asked slot r s) (λ reply t. controlled line reply t) (λ _ t. gives tt (record t { connections = changed_at slot (with_autocommit on) t.connections }))
  stepped_is (behinds.Kept name text) s = behind_change (asked slot r s) (λ reply t. taken line reply t) (λ _ t. gives tt (prepared_anew slot (with_text name text) t))
  stepped_is (behinds.Forgotten name) s = behind_change (asked slot r s) (λ reply t. taken line reply t) (λ _ t. gives tt (prepared_anew slot (without_text name) t))

-- ---- over the connections of a library

mapped_seen : (slot : ℕ) (r : Result (Option (Request × Behind)) Stop) → mapped (first_in slot) r ≡ first_seen slot r
mapped_seen slot (Ok x) = refl
mapped_seen slot (Err stop) = refl

module _ {X : Type 0} {F : X → Type 0} (talk : DynBox X Global F → Option Talk) (faults : DynBox X Global F → ℕ) where
  module _ (line at : ℕ) (r : Request) (behind : Behind) (m m' : Memory) (a b : Areas) (old new : Rack X F) (was now : Sessions X F) (o o' : Open X F)
      (there : slice_get was.sessions.items at ≡ Some o) (set : now.sessions.items ≡ slice_set was.sessions.items at o') (same : now.current ≡ was.current) (held : Holds was old) where
    pub over_stepped : (first : Result (Option (Request × Behind)) Stop) (result : Result (Option Waiting) Stop) → result ≡ over_at at first
        → OverWith talk faults (over_part line (slot_of o.conn) r behind) m a old o m' b new o' first
        → ChangesWith talk faults (stepped line (asks (slot_for (slice_get (connections_of was) at)) r (behind_view behind))) m a old was m' b new now (asking_seen (connections_of now) result)
    over_stepped first result is p =
        let s = split_at was.sessions.items at o there in
        let links_was : links was.sessions.items ≡ links s.before ++ o.conn ∷ links s.behind = ap links s.is ∙ links_among s.before s.behind o in
        let links_now : links now.sessions.items ≡ links s.before ++ o'.conn ∷ links s.behind = ap links (set ∙ s.set o') ∙ links_among s.before s.behind o' in
        let views_was : connections_of was ≡ views s.before ++ open_view o ∷ views s.behind = ap views s.is ∙ views_among s.before s.behind o in
        let views_now : connections_of now ≡ views s.before ++ open_view o' ∷ views s.behind = ap views (set ∙ s.set o') ∙ views_among s.before s.behind o' in
        let taken : AllTaken (states (slots_of old)) (links s.before ++ o.conn ∷ links s.behind) = subst (λ cs. AllTaken (states (slots_of old)) cs) links_was held.taken in
        let apart = apart_before (states (slots_of old)) (links s.before) (links s.behind) o.conn taken in
        let done : DoesWith (over_part line (slot_of o.conn) r behind) (seen_by m was) a (seen_by m' now) b p.growth first =
        subst (λ cs. DoesWith (over_part line (slot_of o.conn) r behind) (only m cs was.current) a (seen_by m' now) b p.growth first) (sym views_was)
        (subst (λ cs. DoesWith (over_part line (slot_of o.conn) r behind) (only m (views s.before ++ open_view o ∷ views s.behind) was.current) a (only m' cs now.current) b p.growth first) (sym views_now)
        (subst (λ n. DoesWith (over_part line (slot_of o.conn) r behind) (only m (views s.before ++ open_view o ∷ views s.behind) was.current) a (only m' (views s.before ++ open_view o' ∷ views s.behind) n) b p.growth first) (sym same)
        (p.does (record { before = views s.before; behind = views s.behind; current = was.current }) (none_at (slot_of o.conn) s.before apart)))) in
        let slot_is : slot_for (slice_get (connections_of was) at) ≡ slot_of o.conn = ap slot_for (view_there was.sessions.items at o there) in
        let slot_now : slot_for (slice_get (connections_of now) at) ≡ slot_of o.conn = ap (λ xs. slot_for (slice_get (views xs) at)) set ∙ ap slot_for (still_there was.sessions.items at o o' there) ∙ p.asks.slot in
        record {
          growth = p.growth;
          moves = subst (λ cs. Moves talk faults old cs new (links now.sessions.items) p.growth) (sym links_was)
              (subst (λ cs. Moves talk faults old (links s.before ++ o.conn ∷ links s.behind) new cs p.growth) (sym links_now)
              (moves_asked talk faults old new o.conn o'.conn (links s.before) (links s.behind) p.growth apart p.asks (taken_here (states (slots_of old)) (links s.before) (links s.behind) o.conn taken)));
          does =
              subst (λ q. DoesWith (stepped line (asks (slot_for (slice_get (connections_of was) at)) r (behind_view behind))) (seen_by m was) a (seen_by m' now) b p.growth (asking_seen (connections_of now) q)) (sym is)
              (subst (λ q. DoesWith (stepped line (asks (slot_for (slice_get (connections_of was) at)) r (behind_view behind))) (seen_by m was) a (seen_by m' now) b p.growth q) (sym (seen_so (connections_of now) at (slot_of o.conn) first slot_now))
              (subst (λ n. DoesWith (stepped line (asks n r (behind_view behind))) (seen_by m was) a (seen_by m' now) b p.growth (first_seen (slot_of o.conn) first)) (sym slot_is)
              (same_from (stepped line (asks (slot_of o.conn) r (behind_view behind))) (As line (slot_of o.conn) r behind) (placed_with (seen_by m was) a) (placed_with (seen_by m was) a) (placed_with (seen_by m' now) b) p.growth (first_seen (slot_of o.conn) first)
              (λ t answers. stepped_is line (slot_of o.conn) r behind (placed_with (seen_by m was) a answers t))
              (subst (λ q. DoesWith (As line (slot_of o.conn) r behind) (seen_by m was) a (seen_by m' now) b p.growth q) (mapped_seen (slot_of o.conn) first)
              (map_from (over_part line (slot_of o.conn) r behind) (first_in (slot_of o.conn)) (placed_with (seen_by m was) a) (placed_with (seen_by m' now) b) p.growth first done)))));
        }

  -- the call is at its end behind it
  module _ (action : State → Outcome (Unit {0})) (m m' : Memory) (a : Areas) (old new : Rack X F) (was now : Sessions X F) where
    ended_seen : (r : Result (Unit {0}) Stop) → mapped nothing_asked r ≡ asking_seen (connections_of now) (giving None r)
    ended_seen (Ok u) = refl
    ended_seen (Err stop) = refl

    pub changes_ended : (r : Result (Unit {0}) Stop) (result : Result (Option Waiting) Stop) → result ≡ giving None r → Changes talk faults action m old was m' new now r
        → ChangesWith talk faults (λ s. ending (action s)) m a old was m' a new now (asking_seen (connections_of now) result)
    changes_ended r result is p =
        subst (λ q. ChangesWith talk faults (λ s. ending (action s)) m a old was m' a new now (asking_seen (connections_of now) q)) (sym is)
        (record {
          growth = p.growth;
          moves = p.moves;
          does = lifted (λ s. ending (action s)) (seen_by m was) (seen_by m' now) a p.growth (asking_seen (connections_of now) (giving None r))
              (subst (λ q. DoesFrom (λ s. ending (action s)) (placed (seen_by m was)) (placed (seen_by m' now)) p.growth q) (ended_seen r)
              (map_from action nothing_asked (placed (seen_by m was)) (placed (seen_by m' now)) p.growth r p.does));
        })

  -- the actions of the same kind of request
  pub step_arm : (line : ℕ) (cs : List Connection) (r : Request) (w k : Waits) (m m' : Memory) (a b : Areas) (old new : Rack X F) (was now : Sessions X F) (result : Result (Option Asking) Stop) → w ≡ k
      → ChangesWith talk faults (stepped line (waits_view cs r k)) m a old was m' b new now result → ChangesWith talk faults (stepped line (waits_view cs r w)) m a old was m' b new now result
  step_arm line cs r w k m m' a b old new was now result e p = subst (λ x. ChangesWith talk faults (stepped line (waits_view cs r x)) m a old was m' b new now result) (sym e) p

  -- ---- connections are closed

  module _ (line : ℕ) (m : Memory) (a : Areas) (old new : Rack X F) (was now : Sessions X F) where
    pub one_stepped : (at : ℕ) (r : Result (Unit {0}) Stop) (result : Result (Option Waiting) Stop) → at < length was.sessions.items → result ≡ giving None r
        → ((c : Connection) → slice_get (connections_of was) at ≡ Some c → Changes talk faults (closed c) m old was m new now r)
        → ChangesWith talk faults (stepped line (closing_with [] (slice_get (connections_of was) at))) m a old was m a new now (asking_seen (connections_of now) result)
    one_stepped at r result within is go =
        let o = element was.sessions.items at within in
        let there = view_there was.sessions.items at o.0 o.1 in
        let c : Connection = open_view o.0 in
        let p = changes_ended (closed c) m m a old new was now r result is (go c there) in
        subst (λ x. ChangesWith talk faults (stepped line (closing_with [] x)) m a old was m a new now (asking_seen (connections_of now) result)) (sym there)
        (record {
          growth = p.growth;
          moves = p.moves;
          does = same_from (stepped line (closing_with [] (Some c))) (λ s. ending (closed c s)) (placed_with (seen_by m was) a) (placed_with (seen_by m was) a) (placed_with (seen_by m now) a) p.growth (asking_seen (connections_of now) result)
              (λ s answers. sym (next_next (asked c.slot request.Close (placed_with (seen_by m was) a answers s)) (λ reply t. gives tt (removed c.name t)) (λ _ t. gives None t))) p.does;
        })

    -- the first of those that are closed
    first_stepped : (c : Connection) (cs : List Connection) (s : State) → stepped line (closing_first (c ∷ cs)) s ≡ next (closed c s) (λ _ t. gives (closing_asks cs) t)
    first_stepped c [] s = sym (next_next (asked c.slot request.Close s) (λ reply t. gives tt (removed c.name t)) (λ _ t. gives None t))
    first_stepped c (d ∷ ds) s = sym (next_next (asked c.slot request.Close s) (λ reply t. gives tt (removed c.name t)) (λ _ t. gives (closing_asks (d ∷ ds)) t))

    module _ (at : ℕ) (within : at < length was.sessions.items) (last : at + 1 ≡ length was.sessions.items) where
      others : reverse (connections_of was) ≡ open_view (element was.sessions.items at within).0 ∷ reverse (remove (connections_of was) at)
      others = let o = element was.sessions.items at within in reversed_at was.sessions.items at o.0 o.1 last ∙ ap (λ cs. open_view o.0 ∷ reverse cs) (views_without was.sessions.items at)

      pub last_stepped : (r : Result (Unit {0}) Stop) (result : Result (Option Asking) Stop) → result ≡ mapped (λ (u : Unit {0}). closing_asks (reverse (remove (connections_of was) at))) r
          → ((c : Connection) → slice_get (connections_of was) at ≡ Some c → Changes talk faults (closed c) m old was m new now r)
          → Changes talk faults (stepped line (closing_first (reverse (connections_of was)))) m old was m new now result
      last_stepped r result is go =
          let o = element was.sessions.items at within in
          let c : Connection = open_view o.0 in
          let rest : List Connection = reverse (remove (connections_of was) at) in
          let p = go c (view_there was.sessions.items at o.0 o.1) in
          record {
            growth = p.growth;
            moves = p.moves;
            does = same_from (stepped line (closing_first (reverse (connections_of was)))) (λ s. next (closed c s) (λ _ t. gives (closing_asks rest) t)) (placed (seen_by m was)) (placed (seen_by m was)) (placed (seen_by m now)) p.growth result
                (λ s answers. (λ j. stepped line (closing_first (others j)) (placed (seen_by m was) answers s)) ∙ first_stepped c rest (placed (seen_by m was) answers s))
                (subst (λ q. DoesFrom (λ s. next (closed c s) (λ _ t. gives (closing_asks rest) t)) (placed (seen_by m was)) (placed (seen_by m now)) p.growth q) (sym is)
                (map_from (closed c) (λ (u : Unit {0}). closing_asks rest) (placed (seen_by m was)) (placed (seen_by m now)) p.growth r p.does));
          }

-- there is one
pub not_none : (n k : ℕ) → n ≡ k → 0 < k → n ≡ 0 → ⊥
not_none n k e h z = omega (arith, e, h, z)
