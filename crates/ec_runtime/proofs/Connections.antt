-- What a rack's calls that open and close a connection do to it and to the connections of a library.
use Rattle.std.proofs.Common.{◌≡◌, ◌≢◌, ◌==◌, ◌≤◌, ℕ, false, cond, Option, Some, None, IfSome, IsSomeAnd, List, [], ◌∷◌, ◌++◌, map, filter, not, slice_get, option_and_then, refl, sym, ap, ◌∙◌, arith, subst, inl, inr, ◌⊎◌}
use Rattle.std.specs.Prelude.{option_map}
use Rattle.std.proofs.lemmas.Bool.{eq-eqb}
use Rattle.std.proofs.lemmas.Bool.Decides.{eqb_tells}
use Rattle.std.proofs.lemmas.List.{append-nil, map-append}
use Rattle.std.proofs.lemmas.Option.{slice_get-map}
use Rattle.std.proofs.lemmas.List.Elements.{All-nil, All-cons, All-contains}
use Rattle.std.specs.declared.alloc.Global.{Global}
use Rattle.std.specs.declared.dyn_box.DynBox.{DynBox}
use Rattle.ec_link.specs.declared.connection.Conn.{Conn}
use Rattle.ec_link.specs.declared.logged.Logged.{Logged}
use Rattle.ec_link.specs.declared.rack.Rack.{Rack}
use Rattle.ec_link.specs.declared.reply.Reply.{Reply}
use Rattle.ec_link.specs.declared.reply.Reply.TheVariants.{Connected, NoTarget, Rows, Done, Refused, Broken}
use Rattle.ec_link.specs.declared.request.Request.{Request}
use Rattle.ec_link.specs.declared.request.Request.TheVariants.{Connect, Text, Prepare, Exec, Deallocate, Close}
use Rattle.ec_link.specs.declared.slot.Slot.{Slot}
use Rattle.ec_link.specs.declared.slot.Slot.TheVariants.{Free, Taken, Dropped}
use Rattle.ec_link.specs.Calls.{FindsNone, Answers, Connects, Declines, OpensNone, Unsaid, Closes}
use Rattle.ec_link.specs.Conn.{slot_of, link_of}
use Rattle.ec_link.specs.Logged.{Talk, IsConnect, target_of, talk_of}
use Rattle.ec_link.specs.Rack.{slots_of, log_of}
use Rattle.ec_link.specs.Reply.{is_connected}
use Rattle.ec_link.specs.Slot.{states, state_of, link_in, link_at}
use Rattle.ec_link.specs.SlotState.{SlotState, Slots, TakenAt, free_slot}
use Rattle.ec_link.proofs.Free.{free-found}
use Rattle.ec_link.proofs.Opening.{taken_apart, Slots-OpensNone, Slots-Connects, Slots-Closes, TakenAt-Connects, TakenAt-Connects_other, TakenAt-Closes, states-OpensNone}
use Rattle.ec_link.proofs.Places.{slice_get-slice_set, slice_get-slice_set_other}
use Rattle.ec_link.proofs.Runs.{growth_of-grown, other_slot, talk_of-one}
use Rattle.ec_link.proofs.Talks.{talk_of-cons_other, told_more-nil}
use Rattle.ec_runtime.specs.Racks.{AllOwn, open_behind, open_in, Beside, AllTaken, link_for, Grew, Moves}
use Rattle.ec_runtime.proofs.Moving.{has_slot, beside_before, beside_behind, beside_both, link_absent, link_same, link_here, link_there, Grows, grows_same, grows_by, Stays}

-- ---- requests that open, and replies that don't

by_connect : (P : Request → Type 0) → ((target : List ℕ) (user password : Option (List ℕ)) → P (Connect target user password)) → (request : Request) → IsConnect request → P request
by_connect P go (Connect target user password) c = go target user password
by_connect P go (Text _ _) c = absurd c
by_connect P go (Prepare _ _) c = absurd c
by_connect P go (Exec _ _) c = absurd c
by_connect P go (Deallocate _) c = absurd c
by_connect P go Close c = absurd c

unconnected : (reply : Reply) → reply ≢ Connected → is_connected reply ≡ false
unconnected Connected n = absurd (n refl)
unconnected NoTarget n = refl
unconnected (Rows _ _ _) n = refl
unconnected (Done _ _ _) n = refl
unconnected (Refused _ _ _) n = refl
unconnected Broken n = refl

opens_more : (i : ℕ) (request : Request) (slots : List ℕ) → IsConnect request → open_behind (Some i) request Connected slots ≡ slots ++ i ∷ []
opens_more i request slots c = by_connect (λ r. open_behind (Some i) r Connected slots ≡ slots ++ i ∷ []) (λ target user password. refl) request c

opens_none : (i : ℕ) (request : Request) (reply : Reply) (slots : List ℕ) → IsConnect request → reply ≢ Connected → open_behind (Some i) request reply slots ≡ slots
opens_none i request reply slots c n = by_connect (λ r. open_behind (Some i) r reply slots ≡ slots)
    (λ target user password. ap (λ t. cond t (slots ++ i ∷ []) slots) (unconnected reply n)) request c

-- a slot without talk in one exchange isn't that of the exchange
untalked : (i k : ℕ) (x : Logged) → x.slot ≡ Some k → talk_of i (x ∷ []) ≡ [] → i ≢ k
untalked i k x s n = λ e. let one : talk_of k (x ∷ []) ≡ (x.request, x.reply) ∷ [] = talk_of-one k x s in
    let none : talk_of k (x ∷ []) ≡ [] = subst (λ j. talk_of j (x ∷ []) ≡ []) e n in cc

-- the slots without one of them
filter_apart : {X : Type 0} {F : X → Type 0} (i : ℕ) (conns : List (Conn X F)) → Beside i conns → filter (λ k. not (k == i)) (map slot_of conns) ≡ map slot_of conns
filter_apart i [] b = refl
filter_apart i (conn ∷ conns) b = elim (eqb_tells (slot_of conn) i) [
  | inl h ↦ absurd (b.0 h.1)
  | inr h ↦ ap (λ t. cond (not t) (slot_of conn ∷ filter (λ k. not (k == i)) (map slot_of conns)) (filter (λ k. not (k == i)) (map slot_of conns))) h.0 ∙ ap (λ is. slot_of conn ∷ is) (filter_apart i conns b.1)
]

filter_one : {X : Type 0} {F : X → Type 0} (conn : Conn X F) (before behind : List (Conn X F)) → Beside (slot_of conn) before → Beside (slot_of conn) behind
    → filter (λ k. not (k == slot_of conn)) (map slot_of (before ++ conn ∷ behind)) ≡ map slot_of (before ++ behind)
filter_one conn [] behind b c =
    ap (λ t. cond (not t) (slot_of conn ∷ filter (λ k. not (k == slot_of conn)) (map slot_of behind)) (filter (λ k. not (k == slot_of conn)) (map slot_of behind))) (eq-eqb (slot_of conn) (slot_of conn) refl)
    ∙ filter_apart (slot_of conn) behind c
filter_one conn (other ∷ before) behind b c = elim (eqb_tells (slot_of other) (slot_of conn)) [
  | inl h ↦ absurd (b.0 h.1)
  | inr h ↦ ap (λ t. cond (not t) (slot_of other ∷ filter (λ k. not (k == slot_of conn)) (map slot_of (before ++ conn ∷ behind))) (filter (λ k. not (k == slot_of conn)) (map slot_of (before ++ conn ∷ behind)))) h.0
      ∙ ap (λ is. slot_of other ∷ is) (filter_one conn before behind b.1 c)
]

module _ {X : Type 0} {F : X → Type 0} where
  -- ---- slots that are taken

  pub taken_here : (slots : List SlotState) (before behind : List (Conn X F)) (conn : Conn X F) → AllTaken slots (before ++ conn ∷ behind) → TakenAt slots (slot_of conn)
  taken_here slots [] behind conn h = h.0
  taken_here slots (other ∷ before) behind conn h = taken_here slots before behind conn h.2

  pub apart_before : (slots : List SlotState) (before behind : List (Conn X F)) (conn : Conn X F) → AllTaken slots (before ++ conn ∷ behind) → Beside (slot_of conn) before
  apart_before slots [] behind conn h = tt
  apart_before slots (other ∷ before) behind conn h =
      ((λ e. (beside_behind (slot_of other) before (conn ∷ behind) h.1).0 (sym e)), apart_before slots before behind conn h.2)

  pub apart_behind : (slots : List SlotState) (before behind : List (Conn X F)) (conn : Conn X F) → AllTaken slots (before ++ conn ∷ behind) → Beside (slot_of conn) behind
  apart_behind slots [] behind conn h = h.1
  apart_behind slots (other ∷ before) behind conn h = apart_behind slots before behind conn h.2

  beside_same : (i : ℕ) (before behind : List (Conn X F)) (was now : Conn X F) → slot_of now ≡ slot_of was → Beside i (before ++ was ∷ behind) → Beside i (before ++ now ∷ behind)
  beside_same i [] behind was now e b = ((λ h. b.0 (sym e ∙ h)), b.1)
  beside_same i (other ∷ before) behind was now e b = (b.0, beside_same i before behind was now e b.1)

  -- one of them is another connection over its slot
  pub taken_same : (old new : List SlotState) (before behind : List (Conn X F)) (was now : Conn X F) → slot_of now ≡ slot_of was → new ≡ old → AllTaken old (before ++ was ∷ behind) → AllTaken new (before ++ now ∷ behind)
  taken_same old new before behind was now e s h = subst (λ slots. AllTaken slots (before ++ now ∷ behind)) (sym s) (go before h)
    where
      go : (before : List (Conn X F)) → AllTaken old (before ++ was ∷ behind) → AllTaken old (before ++ now ∷ behind)
      go [] h = (subst (λ i. TakenAt old i) (sym e) h.0, subst (λ i. Beside i behind) (sym e) h.1, h.2)
      go (other ∷ before) h = (h.0, beside_same (slot_of other) before behind was now e h.1, go before h.2)

  -- one more is opened
  pub taken_more : (old new : List SlotState) (conns : List (Conn X F)) (conn : Conn X F) → ((i : ℕ) → TakenAt old i → i ≢ slot_of conn) → ((i : ℕ) → i ≢ slot_of conn → TakenAt old i → TakenAt new i) → TakenAt new (slot_of conn)
      → AllTaken old conns → AllTaken new (conns ++ conn ∷ [])
  taken_more old new [] conn apart keep here h = (here, tt, tt)
  taken_more old new (other ∷ conns) conn apart keep here h =
      (keep (slot_of other) (apart (slot_of other) h.0) h.0, beside_both (slot_of other) conns (conn ∷ []) h.1 ((λ e. apart (slot_of other) h.0 (sym e)), tt), taken_more old new conns conn apart keep here h.2)

  -- one of them is closed
  taken_others : (old new : List SlotState) (i : ℕ) (conns : List (Conn X F)) → ((k : ℕ) → k ≢ i → TakenAt old k → TakenAt new k) → Beside i conns → AllTaken old conns → AllTaken new conns
  taken_others old new i [] keep b h = tt
  taken_others old new i (conn ∷ conns) keep b h = (keep (slot_of conn) b.0 h.0, h.1, taken_others old new i conns keep b.1 h.2)

  beside_less : (i : ℕ) (before behind : List (Conn X F)) (conn : Conn X F) → Beside i (before ++ conn ∷ behind) → Beside i (before ++ behind)
  beside_less i before behind conn b = beside_both i before behind (beside_before i before (conn ∷ behind) b) (beside_behind i before (conn ∷ behind) b).1

  pub taken_less : (old new : List SlotState) (before behind : List (Conn X F)) (conn : Conn X F) → ((k : ℕ) → k ≢ slot_of conn → TakenAt old k → TakenAt new k) → Beside (slot_of conn) before
      → AllTaken old (before ++ conn ∷ behind) → AllTaken new (before ++ behind)
  taken_less old new [] behind conn keep b h = taken_others old new (slot_of conn) behind keep h.1 h.2
  taken_less old new (other ∷ before) behind conn keep b h = (keep (slot_of other) b.0 h.0, beside_less (slot_of other) before behind conn h.1, taken_less old new before behind conn keep b.1 h.2)

  -- connections don't have a slot that isn't taken
  pub untaken : (slots : List SlotState) (i : ℕ) (conns : List (Conn X F)) → ((k : ℕ) → TakenAt slots k → k ≢ i) → AllTaken slots conns → Beside i conns
  untaken slots i [] n h = tt
  untaken slots i (conn ∷ conns) n h = (n (slot_of conn) h.0, untaken slots i conns n h.2)

  link_in_place : (slots : List (Slot X F)) (i : ℕ) (slot : Slot X F) → slice_get slots i ≡ Some slot → link_at slots i ≡ link_in slot
  link_in_place slots i slot e = ap (option_and_then link_in) e

  module _ (talk : DynBox X Global F → Option Talk) (faults : DynBox X Global F → ℕ) where
    -- an answer of a link
    grew_once : (i : ℕ) (request : Request) (reply : Reply) (old : List Logged) (was : DynBox X Global F) (new : List Logged) (now : DynBox X Global F) → Answers talk faults i request reply old was new now
        → Grew talk faults was now ((request, reply) ∷ [])
    grew_once i request reply old was new now a = record {
      told = a.told;
      later = a.later;
      broken = λ c. a.broken (All-contains (λ (r : Reply). reply ≡ r) (reply ∷ []) Broken (All-cons (λ (r : Reply). reply ≡ r) reply [] refl (All-nil (λ (r : Reply). reply ≡ r))) c);
    }

    module _ (request : Request) (c : IsConnect request) (old new : Rack X F) (conns : List (Conn X F)) (held : AllTaken (states (slots_of old)) conns) where
      -- no slot is free
      moves_none : FindsNone request old new → (growth : List Logged) → growth ≡ record { slot = None; request = request; reply = NoTarget } ∷ [] → Slots (states (slots_of old)) growth (states (slots_of new)) → Moves talk faults old conns new conns growth
      moves_none h growth g s = record {
        logged = h.logged ∙ ap (λ w. log_of old ++ w) (sym g);
        exchanged = s;
        opened = ap (open_in (map slot_of conns)) (sym g);
        own = subst (λ w. AllOwn (map slot_of conns) w) (sym g) (inl c, tt);
        links = λ i. grows_same talk faults (link_for (slots_of old) conns i) (link_for (slots_of new) conns i) (talk_of i growth) (ap (λ s. link_for s conns i) h.slots) (ap (talk_of i) g);
        others = λ i b n. (b, inl (ap (λ (s : List (Slot X F)). slice_get s i) h.slots));
      }

      -- a link said something else
      module _ (h : Declines talk faults request old new) where
        abbrev declined : Logged
        declined = record { slot = Some h.slot; request = request; reply = h.reply }

        declined_apart : Beside h.slot conns
        declined_apart = untaken (states (slots_of old)) h.slot conns (λ k t. taken_apart (states (slots_of old)) (target_of request) h.slot k h.first t) held

        elsewhere : (i : ℕ) → i ≢ h.slot → slice_get (slots_of new) i ≡ slice_get (slots_of old) i
        elsewhere i n = ap (λ (s : List (Slot X F)). slice_get s i) h.now ∙ slice_get-slice_set_other (slots_of old) h.slot i (Free (target_of request) h.back) n

        back_there : slice_get (slots_of new) h.slot ≡ Some (Free (target_of request) h.back)
        back_there = ap (λ (s : List (Slot X F)). slice_get s h.slot) h.now ∙ slice_get-slice_set (slots_of old) h.slot (Free (target_of request) h.link) (Free (target_of request) h.back) h.was

        declined_links : (i : ℕ) → Grows talk faults (link_for (slots_of old) conns i) (link_for (slots_of new) conns i) (talk_of i (declined ∷ []))
        declined_links i = elim (eqb_tells i h.slot) [
          | inl e ↦ subst (λ k. Grows talk faults (link_for (slots_of old) conns k) (link_for (slots_of new) conns k) (talk_of k (declined ∷ []))) (sym e.1)
              (subst (λ t. Grows talk faults (link_for (slots_of old) conns h.slot) (link_for (slots_of new) conns h.slot) t) (sym (talk_of-one h.slot declined refl))
              (grows_by talk faults (link_for (slots_of old) conns h.slot) (link_for (slots_of new) conns h.slot) h.link h.back ((request, h.reply) ∷ [])
              (link_absent (slots_of old) conns h.slot declined_apart ∙ link_in_place (slots_of old) h.slot (Free (target_of request) h.link) h.was)
              (link_absent (slots_of new) conns h.slot declined_apart ∙ link_in_place (slots_of new) h.slot (Free (target_of request) h.back) back_there)
              (grew_once h.slot request h.reply (log_of old) h.link (log_of new) h.back h.answered)))
          | inr n ↦ grows_same talk faults (link_for (slots_of old) conns i) (link_for (slots_of new) conns i) (talk_of i (declined ∷ []))
              (link_same (slots_of old) (slots_of new) conns i (ap (option_and_then link_in) (elsewhere i n.1))) (talk_of-cons_other i declined [] (other_slot i h.slot declined.slot n.1 refl))
        ]

        moves_declined : Slots (states (slots_of old)) (declined ∷ []) (states (slots_of new)) → Moves talk faults old conns new conns (declined ∷ [])
        moves_declined s = record {
          logged = h.answered.logged;
          exchanged = s;
          own = (inl c, tt);
          opened = sym (opens_none h.slot request h.reply (map slot_of conns) c h.declined);
          links = declined_links;
          others = λ i b n. (b, inl (elsewhere i (untalked i h.slot declined refl n)));
        }

      -- there was no memory to say anything
      grows_still : (was now : Option (DynBox X Global F)) → option_and_then talk now ≡ option_and_then talk was → IfSome now (λ n. IsSomeAnd was (λ w. faults w ≤ faults n)) → Grows talk faults was now []
      grows_still was None t l = tt
      grows_still None (Some now) t l = absurd l
      grows_still (Some was) (Some now) t l = record { told = t ∙ sym (told_more-nil (talk was)); later = l; broken = λ c. absurd (omega (arith, c.1)) }

      still_links : (u : Unsaid talk faults request old new) (some : List (Conn X F)) (i : ℕ) → Grows talk faults (link_for (slots_of old) some i) (link_for (slots_of new) some i) []
      still_links u [] i = grows_still (link_at (slots_of old) i) (link_at (slots_of new) i) (u.told i) (u.later i)
      still_links u (conn ∷ some) i = elim (eqb_tells (slot_of conn) i) [
        | inl h ↦ subst (λ t. Grows talk faults (cond t (Some (link_of conn)) (link_for (slots_of old) some i)) (cond t (Some (link_of conn)) (link_for (slots_of new) some i)) []) (sym h.0)
            (grows_same talk faults (Some (link_of conn)) (Some (link_of conn)) [] refl refl)
        | inr h ↦ subst (λ t. Grows talk faults (cond t (Some (link_of conn)) (link_for (slots_of old) some i)) (cond t (Some (link_of conn)) (link_for (slots_of new) some i)) []) (sym h.0)
            (still_links u some i)
      ]

      -- the slot that is free first
      first_stays : (i : ℕ) → free_slot (target_of request) (states (slots_of old)) ≡ Some i → states (slots_of new) ≡ states (slots_of old) → Stays talk faults (slice_get (slots_of old) i) (slice_get (slots_of new) i)
      first_stays i f e = go (slice_get (slots_of old) i) (slice_get (slots_of new) i) refl refl
          (sym (slice_get-map state_of (slots_of new) i) ∙ ap (λ s. slice_get s i) e ∙ slice_get-map state_of (slots_of old) i)
        where
          go : (x y : Option (Slot X F)) → slice_get (slots_of old) i ≡ x → slice_get (slots_of new) i ≡ y → option_map state_of y ≡ option_map state_of x → Stays talk faults x y
          go None None a b s = inl refl
          go None (Some new_slot) a b s = absurd (cc (s))
          go (Some old_slot) None a b s = absurd (cc (s))
          go (Some old_slot) (Some new_slot) a b s =
              let was = free-found (target_of request) (slots_of old) i old_slot f a in
              let now = free-found (target_of request) (slots_of new) i new_slot (ap (free_slot (target_of request)) e ∙ f) b in
              inr (record { name = target_of request; link = was.0; other = now.0; was = ap Some was.1; now = ap Some now.1 })

      pub moves_unsaid : Unsaid talk faults request old new → Moves talk faults old conns new conns []
      moves_unsaid u = record {
        logged = u.log ∙ sym (append-nil (log_of old));
        exchanged = u.slots;
        opened = refl;
        own = tt;
        links = still_links u conns;
        others = λ i b n. (b, by_first i (free_slot (target_of request) (states (slots_of old))) refl);
      }
        where
          by_first : (i : ℕ) (o : Option ℕ) → free_slot (target_of request) (states (slots_of old)) ≡ o → Stays talk faults (slice_get (slots_of old) i) (slice_get (slots_of new) i)
          by_first i None e = inl (u.others i (λ f. absurd (cc (e, f))))
          by_first i (Some k) e = elim (eqb_tells k i) [
            | inl h ↦ first_stays i (e ∙ ap Some h.1) u.slots
            | inr h ↦ inl (u.others i (λ f. h.1 (let same : Some k ≡ Some i = sym e ∙ f in cc)))
          ]

      -- a connection was opened
      module _ (conn : Conn X F) (h : Connects talk faults request old new conn) where
        abbrev connected : Logged
        connected = record { slot = Some (slot_of conn); request = request; reply = Connected }

        connected_apart : Beside (slot_of conn) conns
        connected_apart = untaken (states (slots_of old)) (slot_of conn) conns (λ k t. taken_apart (states (slots_of old)) (target_of request) (slot_of conn) k h.first t) held

        other_places : (i : ℕ) → i ≢ slot_of conn → slice_get (slots_of new) i ≡ slice_get (slots_of old) i
        other_places i n = ap (λ (s : List (Slot X F)). slice_get s i) h.now ∙ slice_get-slice_set_other (slots_of old) (slot_of conn) i (Taken (target_of request)) n

        connected_links : (i : ℕ) → Grows talk faults (link_for (slots_of old) conns i) (link_for (slots_of new) (conns ++ conn ∷ []) i) (talk_of i (connected ∷ []))
        connected_links i = elim (eqb_tells i (slot_of conn)) [
          | inl e ↦ subst (λ k. Grows talk faults (link_for (slots_of old) conns k) (link_for (slots_of new) (conns ++ conn ∷ []) k) (talk_of k (connected ∷ []))) (sym e.1)
              (subst (λ t. Grows talk faults (link_for (slots_of old) conns (slot_of conn)) (link_for (slots_of new) (conns ++ conn ∷ []) (slot_of conn)) t) (sym (talk_of-one (slot_of conn) connected refl))
              (grows_by talk faults (link_for (slots_of old) conns (slot_of conn)) (link_for (slots_of new) (conns ++ conn ∷ []) (slot_of conn)) h.link (link_of conn) ((request, Connected) ∷ [])
              (link_absent (slots_of old) conns (slot_of conn) connected_apart ∙ link_in_place (slots_of old) (slot_of conn) (Free (target_of request) h.link) h.was)
              (link_here (slots_of new) conns [] conn connected_apart)
              (grew_once (slot_of conn) request Connected (log_of old) h.link (log_of new) (link_of conn) h.answered)))
          | inr n ↦ grows_same talk faults (link_for (slots_of old) conns i) (link_for (slots_of new) (conns ++ conn ∷ []) i) (talk_of i (connected ∷ []))
              (link_there (slots_of new) conns [] conn i n.1 ∙ ap (λ cs. link_for (slots_of new) cs i) (append-nil conns) ∙ link_same (slots_of old) (slots_of new) conns i (ap (option_and_then link_in) (other_places i n.1)))
              (talk_of-cons_other i connected [] (other_slot i (slot_of conn) connected.slot n.1 refl))
        ]

        pub moves_connected : Moves talk faults old conns new (conns ++ conn ∷ []) (connected ∷ [])
        moves_connected = record {
          logged = h.answered.logged;
          exchanged = subst (λ g. Slots (states (slots_of old)) g (states (slots_of new))) (growth_of-grown (log_of old) (log_of new) (connected ∷ []) h.answered.logged) (Slots-Connects talk faults request old new conn h c);
          own = (inl c, tt);
          opened = map-append slot_of conns (conn ∷ []) ∙ sym (opens_more (slot_of conn) request (map slot_of conns) c);
          links = connected_links;
          others = λ i b n. (beside_both i conns (conn ∷ []) b ((λ e. untalked i (slot_of conn) connected refl n (sym e)), tt), inl (other_places i (untalked i (slot_of conn) connected refl n)));
        }

        pub taken_connected : AllTaken (states (slots_of new)) (conns ++ conn ∷ [])
        taken_connected = taken_more (states (slots_of old)) (states (slots_of new)) conns conn (λ k t. taken_apart (states (slots_of old)) (target_of request) (slot_of conn) k h.first t)
            (λ k n t. TakenAt-Connects_other talk faults request old new conn h k n t) (TakenAt-Connects talk faults request old new conn h) held

      -- a connection was not opened
      module _ (h : OpensNone talk faults request old new) where
        pub taken_unopened : AllTaken (states (slots_of new)) conns
        taken_unopened = subst (λ s. AllTaken s conns) (sym (states-OpensNone talk faults request old new h)) held

      -- what the log got then
      pub record Unopened : Type 0 where
        pub slot : Option ℕ
        pub reply : Reply
        pub apart : (slot ≡ None) ⊎ (reply ≢ Connected)
        pub moves : Moves talk faults old conns new conns (record { slot = slot; request = request; reply = reply } ∷ [])

      pub moves_unopened : OpensNone talk faults request old new → Unopened
      moves_unopened (inl h) =
          let x : Logged = record { slot = None; request = request; reply = NoTarget } in
          record {
            slot = None;
            reply = NoTarget;
            apart = inl refl;
            moves = moves_none h (x ∷ []) refl (subst (λ g. Slots (states (slots_of old)) g (states (slots_of new))) (growth_of-grown (log_of old) (log_of new) (x ∷ []) h.logged) (Slots-OpensNone talk faults request old new c (inl h)));
          }
      moves_unopened (inr h) = record {
        slot = Some h.slot;
        reply = h.reply;
        apart = inr h.declined;
        moves = moves_declined h (subst (λ g. Slots (states (slots_of old)) g (states (slots_of new))) (growth_of-grown (log_of old) (log_of new) (declined h ∷ []) h.answered.logged) (Slots-OpensNone talk faults request old new c (inr h)));
      }

    -- ---- a connection among others was closed

    module _ (old new : Rack X F) (conn : Conn X F) (before behind : List (Conn X F)) (h : Closes talk faults old conn new) (held : AllTaken (states (slots_of old)) (before ++ conn ∷ behind)) where
      abbrev closed : Logged
      closed = record { slot = Some (slot_of conn); request = Close; reply = h.reply }

      gone_places : (i : ℕ) → i ≢ slot_of conn → slice_get (slots_of new) i ≡ slice_get (slots_of old) i
      gone_places i n = ap (λ (s : List (Slot X F)). slice_get s i) h.dropped.now ∙ slice_get-slice_set_other (slots_of old) (slot_of conn) i (Dropped h.dropped.name) n

      gone : slice_get (slots_of new) (slot_of conn) ≡ Some (Dropped h.dropped.name)
      gone = ap (λ (s : List (Slot X F)). slice_get s (slot_of conn)) h.dropped.now ∙ slice_get-slice_set (slots_of old) (slot_of conn) (Taken h.dropped.name) (Dropped h.dropped.name) h.dropped.was

      left_apart : Beside (slot_of conn) (before ++ behind)
      left_apart = beside_both (slot_of conn) before behind (apart_before (states (slots_of old)) before behind conn held) (apart_behind (states (slots_of old)) before behind conn held)

      closed_links : (i : ℕ) → Grows talk faults (link_for (slots_of old) (before ++ conn ∷ behind) i) (link_for (slots_of new) (before ++ behind) i) (talk_of i (closed ∷ []))
      closed_links i = elim (eqb_tells i (slot_of conn)) [
        | inl e ↦ subst (λ k. Grows talk faults (link_for (slots_of old) (before ++ conn ∷ behind) k) (link_for (slots_of new) (before ++ behind) k) (talk_of k (closed ∷ []))) (sym e.1)
            (subst (λ o. Grows talk faults (link_for (slots_of old) (before ++ conn ∷ behind) (slot_of conn)) o (talk_of (slot_of conn) (closed ∷ [])))
            (sym (link_absent (slots_of new) (before ++ behind) (slot_of conn) left_apart ∙ link_in_place (slots_of new) (slot_of conn) (Dropped h.dropped.name) gone)) tt)
        | inr n ↦ grows_same talk faults (link_for (slots_of old) (before ++ conn ∷ behind) i) (link_for (slots_of new) (before ++ behind) i) (talk_of i (closed ∷ []))
            (link_same (slots_of old) (slots_of new) (before ++ behind) i (ap (option_and_then link_in) (gone_places i n.1)) ∙ sym (link_there (slots_of old) before behind conn i n.1))
            (talk_of-cons_other i closed [] (other_slot i (slot_of conn) closed.slot n.1 refl))
      ]

      pub moves_closed : Moves talk faults old (before ++ conn ∷ behind) new (before ++ behind) (closed ∷ [])
      moves_closed = record {
        logged = h.answered.logged;
        exchanged = subst (λ g. Slots (states (slots_of old)) g (states (slots_of new))) (growth_of-grown (log_of old) (log_of new) (closed ∷ []) h.answered.logged) (Slots-Closes talk faults old conn new h);
        own = (inr (has_slot before behind conn), tt);
        opened = sym (filter_one conn before behind (apart_before (states (slots_of old)) before behind conn held) (apart_behind (states (slots_of old)) before behind conn held));
        links = closed_links;
        others = λ i b n. (beside_less i before behind conn b, inl (gone_places i (untalked i (slot_of conn) closed refl n)));
      }

      pub taken_closed : AllTaken (states (slots_of new)) (before ++ behind)
      taken_closed = taken_less (states (slots_of old)) (states (slots_of new)) before behind conn (λ k n t. TakenAt-Closes talk faults old conn new h k n t) (apart_before (states (slots_of old)) before behind conn held) held
