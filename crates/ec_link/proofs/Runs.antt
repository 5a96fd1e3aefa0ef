-- What the calls of a rack do to its slots and talks, one after another.
use Rattle.std.proofs.Common.{◌≡◌, ◌≢◌, ◌==◌, ◌≤◌, ℕ, Bool, true, false, cond, Option, Some, List, [], ◌∷◌, ◌++◌, All, Contains, length, ◌-◌, slice_get, slice_set, option_map, option_and_then, refl, sym, ap, ◌∙◌, arith, subst, inl, inr, append_assoc}
use Rattle.std.proofs.lemmas.Bool.{eqb-true, eq-eqb}
use Rattle.std.proofs.lemmas.Bool.Decides.{nat_tests}
use Rattle.std.proofs.lemmas.Option.{slice_get-map}
use Rattle.std.proofs.lemmas.List.{map-set, map-append, append-nil, drop_at, set_at, length_push}
use Rattle.std.proofs.lemmas.List.Elements.{All-append, All-cons, All-nil, All-contains, All-weaker, Contains-append_cases}
use Rattle.std.specs.declared.alloc.Global.{Global}
use Rattle.std.specs.declared.dyn_box.DynBox.{DynBox}
use Rattle.ec_base.specs.Causes.{Rose}
use Rattle.ec_link.specs.declared.connection.Conn.{Conn}
use Rattle.ec_link.specs.declared.logged.Logged.{Logged}
use Rattle.ec_link.specs.declared.rack.Rack.{Rack}
use Rattle.ec_link.specs.declared.reply.Reply.{Reply}
use Rattle.ec_link.specs.declared.reply.Reply.TheVariants.{Broken}
use Rattle.ec_link.specs.declared.request.Request.{Request}
use Rattle.ec_link.specs.declared.slot.Slot.{Slot}
use Rattle.ec_link.specs.declared.slot.Slot.TheVariants.{Free, Ready, Taken}
use Rattle.ec_link.specs.Calls.{TakesReady, GivesBack, AsksOnce, Asks}
use Rattle.ec_link.specs.Conn.{slot_of, link_of}
use Rattle.ec_link.specs.Link.{told_more, talk_after}
use Rattle.ec_link.specs.Logged.{Talk, IsAsk, is_slot, talk_of, growth_of, last_reply_of, replies_of}
use Rattle.ec_link.specs.Rack.{slots_of, log_of}
use Rattle.ec_link.specs.Slot.{state_of, states, link_in, talk_at}
use Rattle.ec_link.specs.SlotState.{SlotState, Slots, TakenAt, free, ready, taken}
use Rattle.ec_link.specs.Told.{told_at, KeepsTalks, SparesDropped}
use Rattle.ec_link.proofs.Places.{slice_get-last, slice_get-slice_set, slice_get-slice_set_other}
use Rattle.ec_link.proofs.Steps.{Slots-asks, SparesDropped-slice_set, is_slot-other}
use Rattle.ec_link.proofs.Talks.{talk_of-append, talk_of-cons, talk_of-none, told_more-nil, told_more-append, KeepsTalks-told, KeepsTalks-same}

-- what a log grew by
pub growth_of-append : (log growth : List Logged) → growth_of log (log ++ growth) ≡ growth
growth_of-append log growth = drop_at log growth _ refl

-- the same, of a log that is equal to that
pub growth_of-grown : (old new growth : List Logged) → new ≡ old ++ growth → growth_of old new ≡ growth
growth_of-grown old new growth e = ap (λ log. growth_of old log) e ∙ growth_of-append old growth

-- the reply of the last exchange
pub last_reply_of-append : (log : List Logged) (x : Logged) → last_reply_of (log ++ x ∷ []) ≡ Some x.reply
last_reply_of-append log x = ap (option_map (λ (y : Logged). y.reply)) (slice_get-last log x)

-- a log with an exchange that was put over a blank one
pub log-set : (old between new : List Logged) (blank x : Logged) → between ≡ old ++ blank ∷ [] → new ≡ slice_set between (length between - 1) x → new ≡ old ++ x ∷ []
log-set old between new blank x b n =
    n ∙ ap (λ log. slice_set log (length log - 1) x) b ∙ set_at old blank [] x (length (old ++ blank ∷ []) - 1) (omega (arith, length_push old blank))

-- a choice between two talks, by its cases
told_cases : (b : Bool) (x y z : Option Talk) → (b ≡ true → x ≡ z) → (b ≡ false → y ≡ z) → cond b x y ≡ z
told_cases true x y z f g = f refl
told_cases false x y z f g = g refl

-- a choice between a talk that grew and one that stays
grown_cases : (b : Bool) (was now other : Option Talk) (more : Talk) → (b ≡ true → now ≡ told_more was more) → (b ≡ false → more ≡ []) → cond b now other ≡ told_more (cond b was other) more
grown_cases true was now other more f g = f refl
grown_cases false was now other more f g = sym (ap (told_more other) (g refl) ∙ told_more-nil other)

-- two numbers whose test fails differ
apart : (i k : ℕ) → (k == i) ≡ false → i ≢ k
apart i k e = grind (arith, nat_tests)

-- an exchange over slot k has another slot than i
pub other_slot : (i k : ℕ) (slot : Option ℕ) → i ≢ k → slot ≡ Some k → is_slot i slot ≡ false
other_slot i k slot n e = ap (is_slot i) e ∙ is_slot-other i k n

-- one exchange over slot i is the talk of that slot
pub talk_of-one : (i : ℕ) (x : Logged) → x.slot ≡ Some i → talk_of i (x ∷ []) ≡ (x.request, x.reply) ∷ []
talk_of-one i x e = talk_of-cons i x [] (ap (is_slot i) e ∙ eq-eqb i i refl)

module _ {X : Type 0} {F : X → Type 0} where
  -- the states of slots of which one was changed
  pub states-slice_set : (slots : List (Slot X F)) (i : ℕ) (slot : Slot X F) → states (slice_set slots i slot) ≡ slice_set (states slots) i (state_of slot)
  states-slice_set slots i slot = map-set state_of slots i slot

  -- the state of one slot
  pub slice_get-states : (slots : List (Slot X F)) (i : ℕ) (slot : Slot X F) → slice_get slots i ≡ Some slot → slice_get (states slots) i ≡ Some (state_of slot)
  slice_get-states slots i slot e = slice_get-map state_of slots i ∙ ap (option_map state_of) e

  -- the slot of a connection that was just taken
  pub TakenAt-TakesReady : (old new : List (Slot X F)) (conn : Conn X F) → TakesReady old new conn → TakenAt (states new) (slot_of conn)
  TakenAt-TakesReady old new conn t =
      (t.name, slice_get-states new (slot_of conn) (Taken t.name) (ap (λ slots. slice_get slots (slot_of conn)) t.now ∙ slice_get-slice_set old (slot_of conn) (Ready t.name (link_of conn)) (Taken t.name) t.was))

  module _ (talk : DynBox X Global F → Option Talk) (faults : DynBox X Global F → ℕ) where
    -- the talk of a slot, by what stands there
    pub talk_at-same : (old new : List (Slot X F)) (i : ℕ) → slice_get new i ≡ slice_get old i → talk_at talk new i ≡ talk_at talk old i
    talk_at-same old new i e = ap (λ (slot : Option (Slot X F)). option_and_then talk (option_and_then link_in slot)) e

    pub talk_at-slot : (slots : List (Slot X F)) (i : ℕ) (slot : Slot X F) → slice_get slots i ≡ Some slot → talk_at talk slots i ≡ option_and_then talk (link_in slot)
    talk_at-slot slots i slot e = ap (λ (o : Option (Slot X F)). option_and_then talk (option_and_then link_in o)) e

    -- a link that moves from its slot into a connection tells what it told
    pub KeepsTalks-TakesReady : (old new : List (Slot X F)) (conn : Conn X F) → TakesReady old new conn → KeepsTalks (told_at talk old []) (told_at talk new (conn ∷ [])) []
    KeepsTalks-TakesReady old new conn t = KeepsTalks-same (told_at talk old []) (told_at talk new (conn ∷ [])) (λ i.
        told_cases (slot_of conn == i) (talk (link_of conn)) (talk_at talk new i) (talk_at talk old i)
        (λ e. let same : slot_of conn ≡ i = eqb-true (slot_of conn) i e in
        sym (talk_at-slot old i (Ready t.name (link_of conn)) (subst (λ (n : ℕ). slice_get old n ≡ Some (Ready t.name (link_of conn))) same t.was)))
        (λ e. talk_at-same old new i (ap (λ (slots : List (Slot X F)). slice_get slots i) t.now ∙ slice_get-slice_set_other old (slot_of conn) i (Taken t.name) (apart i (slot_of conn) e))))

    -- a link that moves from a connection into its slot tells what it told
    pub KeepsTalks-GivesBack : (old new : List (Slot X F)) (conn : Conn X F) → GivesBack old new conn → KeepsTalks (told_at talk old (conn ∷ [])) (told_at talk new []) []
    KeepsTalks-GivesBack old new conn t = KeepsTalks-same (told_at talk old (conn ∷ [])) (told_at talk new []) (λ i. sym (
        told_cases (slot_of conn == i) (talk (link_of conn)) (talk_at talk old i) (talk_at talk new i)
        (λ e. let same : slot_of conn ≡ i = eqb-true (slot_of conn) i e in
        let there : slice_get new (slot_of conn) ≡ Some (Free t.name (link_of conn)) = ap (λ (slots : List (Slot X F)). slice_get slots (slot_of conn)) t.now ∙ slice_get-slice_set old (slot_of conn) (Taken t.name) (Free t.name (link_of conn)) t.was in
        sym (talk_at-slot new i (Free t.name (link_of conn)) (subst (λ (n : ℕ). slice_get new n ≡ Some (Free t.name (link_of conn))) same there)))
        (λ e. sym (talk_at-same old new i (ap (λ (slots : List (Slot X F)). slice_get slots i) t.now ∙ slice_get-slice_set_other old (slot_of conn) i (Free t.name (link_of conn)) (apart i (slot_of conn) e))))))

    -- one ask is some asks
    pub Asks-AsksOnce : (request : Request) (old new : Rack X F) (was now : Conn X F) → slots_of new ≡ slots_of old → slot_of now ≡ slot_of was → IsAsk request → faults (link_of was) ≤ faults (link_of now) → (once : AsksOnce talk faults request (log_of old) was (log_of new) now) → Asks talk faults old was new now (record { slot = Some (slot_of was); request = request; reply = once.reply } ∷ [])
    Asks-AsksOnce request old new was now slots slot open' later once = record {
      slots = slots;
      slot = slot;
      logged = once.logged;
      asked = All-cons (λ (x : Logged). (x.slot ≡ Some (slot_of was)) × IsAsk x.request) _ [] (refl, open') (All-nil (λ (x : Logged). (x.slot ≡ Some (slot_of was)) × IsAsk x.request));
      told = once.told ∙ ap (told_more (talk (link_of was))) (sym (talk_of-one (slot_of was) (record { slot = Some (slot_of was); request = request; reply = once.reply }) refl));
      later = later;
      broken = λ c. once.broken (All-contains (λ (r : Reply). once.reply ≡ r) (once.reply ∷ []) Broken (All-cons (λ (r : Reply). once.reply ≡ r) once.reply [] refl (All-nil (λ (r : Reply). once.reply ≡ r))) c);
    }

    -- no ask
    pub Asks-nil : (old new : Rack X F) (was now : Conn X F) → slots_of new ≡ slots_of old → slot_of now ≡ slot_of was → log_of new ≡ log_of old → talk (link_of now) ≡ talk (link_of was) → faults (link_of was) ≤ faults (link_of now) → Asks talk faults old was new now []
    Asks-nil old new was now slots slot logged told later = record {
      slots = slots;
      slot = slot;
      logged = logged ∙ sym (append-nil (log_of old));
      asked = All-nil (λ (x : Logged). (x.slot ≡ Some (slot_of was)) × IsAsk x.request);
      told = told ∙ sym (told_more-nil (talk (link_of was)));
      later = later;
      broken = λ c. absurd (omega (arith, c.1));
    }

    -- one ask, whose exchange was put over a blank one at the end of the log
    pub AsksOnce-set : (request : Request) (old between new : List Logged) (was now : Conn X F) (blank x : Logged) → between ≡ old ++ blank ∷ [] → new ≡ slice_set between (length between - 1) x → x.slot ≡ Some (slot_of was) → x.request ≡ request → talk (link_of now) ≡ talk_after (talk (link_of was)) request x.reply → (x.reply ≡ Broken → Rose (faults (link_of was)) (faults (link_of now))) → AsksOnce talk faults request old was new now
    AsksOnce-set request old between new was now blank x b n slot asked told broken = record {
      reply = x.reply;
      logged = log-set old between new blank x b n ∙ ap (λ s. old ++ record { slot = s; request = x.request; reply = x.reply } ∷ []) slot ∙ ap (λ r. old ++ record { slot = Some (slot_of was); request = r; reply = x.reply } ∷ []) asked;
      told = told;
      broken = broken;
    }

    -- some asks, by what the log grew by
    pub Asks-growth_of : (old : Rack X F) (was : Conn X F) (new : Rack X F) (now : Conn X F) (growth : List Logged) → Asks talk faults old was new now growth → Asks talk faults old was new now (growth_of (log_of old) (log_of new))
    Asks-growth_of old was new now growth a = subst (λ (log : List Logged). Asks talk faults old was new now log) (sym (growth_of-grown (log_of old) (log_of new) growth a.logged)) a

    -- some asks and then some more
    pub Asks-append : (first : Rack X F) (was : Conn X F) (between : Rack X F) (mid : Conn X F) (last : Rack X F) (now : Conn X F) (xs ys : List Logged) → Asks talk faults first was between mid xs → Asks talk faults between mid last now ys → Asks talk faults first was last now (xs ++ ys)
    Asks-append first was between mid last now xs ys a b = record {
      slots = b.slots ∙ a.slots;
      slot = b.slot ∙ a.slot;
      logged = b.logged ∙ ap (λ log. log ++ ys) a.logged ∙ append_assoc (log_of first) xs ys;
      asked = All-append (λ (x : Logged). (x.slot ≡ Some (slot_of was)) × IsAsk x.request) xs ys a.asked
          (subst (λ (i : ℕ). All (λ (x : Logged). (x.slot ≡ Some i) × IsAsk x.request) ys) a.slot b.asked);
      told = subst (λ (i : ℕ). talk (link_of now) ≡ told_more (talk (link_of mid)) (talk_of i ys)) a.slot b.told
          ∙ ap (λ t. told_more t (talk_of (slot_of was) ys)) a.told
          ∙ told_more-append (talk (link_of was)) (talk_of (slot_of was) xs) (talk_of (slot_of was) ys)
          ∙ ap (told_more (talk (link_of was))) (sym (talk_of-append (slot_of was) xs ys));
      later = omega (arith, a.later, b.later);
      broken = λ c. elim (Contains-append_cases (replies_of xs) (replies_of ys) Broken (subst (λ (rs : List Reply). Contains rs Broken) (map-append (λ (x : Logged). x.reply) xs ys) c)) [
        | inl h ↦ (let rose = a.broken h in omega (arith, rose, b.later))
        | inr h ↦ (let rose = b.broken h in omega (arith, rose, a.later))
      ];
    }

    -- What asks of one connection keep of the talks, also beside other connections.
    pub KeepsTalks-Asks : (old : Rack X F) (was : Conn X F) (new : Rack X F) (now : Conn X F) (growth : List Logged) (others : List (Conn X F)) → Asks talk faults old was new now growth → KeepsTalks (told_at talk (slots_of old) (was ∷ others)) (told_at talk (slots_of new) (now ∷ others)) growth
    KeepsTalks-Asks old was new now growth others a = KeepsTalks-told (told_at talk (slots_of old) (was ∷ others)) (told_at talk (slots_of new) (now ∷ others)) growth (λ i.
        let stays : told_at talk (slots_of new) (now ∷ others) i ≡ cond (slot_of was == i) (talk (link_of now)) (told_at talk (slots_of old) others i) =
        ap (λ n. cond (n == i) (talk (link_of now)) (told_at talk (slots_of new) others i)) a.slot ∙ ap (λ slots. cond (slot_of was == i) (talk (link_of now)) (told_at talk slots others i)) a.slots in
        stays ∙ grown_cases (slot_of was == i) (talk (link_of was)) (talk (link_of now)) (told_at talk (slots_of old) others i) (talk_of i growth)
        (λ e. let same : slot_of was ≡ i = eqb-true (slot_of was) i e in subst (λ (n : ℕ). talk (link_of now) ≡ told_more (talk (link_of was)) (talk_of n growth)) same a.told)
        (λ e. talk_of-none i growth (All-weaker (λ (x : Logged). (x.slot ≡ Some (slot_of was)) × IsAsk x.request) (λ (x : Logged). is_slot i x.slot ≡ false) (λ x h. other_slot i (slot_of was) x.slot (apart i (slot_of was) e) h.0) growth a.asked)))

    -- asks over a taken slot leave the states of the slots
    pub Slots-Asks : (old : Rack X F) (was : Conn X F) (new : Rack X F) (now : Conn X F) (growth : List Logged) → TakenAt (states (slots_of old)) (slot_of was) → Asks talk faults old was new now growth → Slots (states (slots_of old)) growth (states (slots_of new))
    Slots-Asks old was new now growth t a =
        subst (λ (slots : List (Slot X F)). Slots (states (slots_of old)) growth (states slots)) (sym a.slots) (Slots-asks (states (slots_of old)) (slot_of was) growth t a.asked)

    -- the dropped slots are no first ready slot, and no taken one
    pub SparesDropped-TakesReady : (old new : List (Slot X F)) (conn : Conn X F) → TakesReady old new conn → SparesDropped (states old) (states new) []
    SparesDropped-TakesReady old new conn t =
        subst (λ (slots : List SlotState). SparesDropped (states old) slots []) (sym (ap states t.now ∙ states-slice_set old (slot_of conn) (Taken t.name)))
        (SparesDropped-slice_set (states old) (slot_of conn) (ready t.name) (taken t.name) (slice_get-states old (slot_of conn) (Ready t.name (link_of conn)) t.was) (λ name e. cc))

    pub SparesDropped-GivesBack : (old new : List (Slot X F)) (conn : Conn X F) → GivesBack old new conn → SparesDropped (states old) (states new) []
    SparesDropped-GivesBack old new conn t =
        subst (λ (slots : List SlotState). SparesDropped (states old) slots []) (sym (ap states t.now ∙ states-slice_set old (slot_of conn) (Free t.name (link_of conn))))
        (SparesDropped-slice_set (states old) (slot_of conn) (taken t.name) (free t.name) (slice_get-states old (slot_of conn) (Taken t.name) t.was) (λ name e. cc))
