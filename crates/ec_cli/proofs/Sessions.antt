-- A whole run: a connection to the first ready slot is opened, calls are made, and the slots of the connections that are open
-- at the end are free again.
use Rattle.std.proofs.Common.{◌≡◌, ◌≢◌, ℕ, Option, Some, None, IfSome, IsSomeAnd, List, [], ◌∷◌, ◌++◌, All, map, reverse, slice_get, option_map, option_and_then, refl, sym, ap, ◌∙◌, subst, inl, inr, ◌⊎◌}
use Rattle.std.specs.Prelude.{Contains}
use Rattle.std.proofs.lemmas.Bool.Decides.{eqb_tells}
use Rattle.std.proofs.lemmas.List.{reverse-append}
use Rattle.std.proofs.lemmas.List.Elements.{All-head, All-cons, All-nil, All-contains, All-contains_itself, Contains-append_right}
use Rattle.std.proofs.lemmas.Option.{slice_get-map}
use Rattle.std.specs.declared.alloc.Global.{Global as Allocator}
use Rattle.std.specs.declared.dyn_box.DynBox.{DynBox}
use Rattle.ec_link.specs.declared.connection.Conn.{Conn}
use Rattle.ec_link.specs.declared.logged.Logged.{Logged}
use Rattle.ec_link.specs.declared.rack.Rack.{Rack}
use Rattle.ec_link.specs.declared.slot.Slot.{Slot}
use Rattle.ec_link.specs.declared.slot.Slot.TheVariants.{Free, Taken}
use Rattle.ec_link.specs.Conn.{slot_of, link_of}
use Rattle.ec_link.specs.Logged.{Talk, talk_of}
use Rattle.ec_link.specs.Rack.{slots_of, log_of}
use Rattle.ec_link.specs.Slot.{state_of, states, link_in, link_at, talk_at}
use Rattle.ec_link.specs.SlotState.{SlotState, Slots, ready_slot, taken, dropped}
use Rattle.ec_link.specs.Told.{KeepsTalks, SparesDropped}
use Rattle.ec_link.proofs.Places.{slice_get-slice_set, slice_get-slice_set_other}
use Rattle.ec_link.proofs.Runs.{states-slice_set, SparesDropped-TakesReady}
use Rattle.ec_link.proofs.Steps.{SparesDropped-Slots}
use Rattle.ec_link.proofs.Talks.{IfSome-told}
use Rattle.ec_runtime.specs.Calling.{TakesFirst}
use Rattle.ec_runtime.specs.Racks.{AllOwn, AllTaken, Beside, GivesAll, Grew, HasOther, KeepsLinks, Moves, link_for, open_in}
use Rattle.ec_runtime.proofs.Moving.{beside_before, beside_behind, link_absent, link_here, link_there}
use Rattle.ec_cli.specs.Racks.{IsFreed, RunsOver, begun_slots, first_slots, taken_first}

-- the first of some numbers is one of them
first_in : (x : ℕ) (xs : List ℕ) → Contains (x ∷ xs) x
first_in x xs = All-head (λ k. Contains (x ∷ xs) k) x xs (All-contains_itself (x ∷ xs))

later_in : (x i : ℕ) (xs : List ℕ) → Contains xs i → Contains (x ∷ xs) i
later_in x i xs c = Contains-append_right (x ∷ []) xs i c

module _ {X : Type 0} {F : X → Type 0} where
  -- ---- one connection of some

  abbrev pub Member : Conn X F → List (Conn X F) → Type 0
  Member conn [] = ⊥
  Member conn (other ∷ conns) = (other ≡ conn) ⊎ Member conn conns

  member_append : (conn : Conn X F) (xs ys : List (Conn X F)) → Member conn (xs ++ ys) → Member conn xs ⊎ Member conn ys
  member_append conn [] ys m = inr m
  member_append conn (x ∷ xs) ys (inl e) = inl (inl e)
  member_append conn (x ∷ xs) ys (inr m) = elim (member_append conn xs ys m) [
    | inl h ↦ inl (inr h)
    | inr h ↦ inr h
  ]

  member_one : (conn other : Conn X F) → Member conn (other ∷ []) → other ≡ conn
  member_one conn other (inl e) = e
  member_one conn other (inr m) = absurd m

  member_reverse : (conn : Conn X F) (xs : List (Conn X F)) → Member conn (reverse xs) → Member conn xs
  member_reverse conn [] m = m
  member_reverse conn (x ∷ xs) m = elim (member_append conn (reverse xs) (x ∷ []) (subst (λ cs. Member conn cs) (reverse-append (x ∷ []) xs) m)) [
    | inl h ↦ inr (member_reverse conn xs h)
    | inr h ↦ inl (member_one conn x h)
  ]

  member_apart : (i : ℕ) (conn : Conn X F) (conns : List (Conn X F)) → Beside i conns → Member conn conns → slot_of conn ≢ i
  member_apart i conn [] b m = absurd m
  member_apart i conn (other ∷ conns) b (inl e) = subst (λ (c : Conn X F). slot_of c ≢ i) e b.0
  member_apart i conn (other ∷ conns) b (inr m) = member_apart i conn conns b.1 m

  member_in : (conn : Conn X F) (conns : List (Conn X F)) → Member conn conns → Contains (map slot_of conns) (slot_of conn)
  member_in conn [] m = absurd m
  member_in conn (other ∷ conns) (inl e) = subst (λ (c : Conn X F). Contains (slot_of other ∷ map slot_of conns) (slot_of c)) e (first_in (slot_of other) (map slot_of conns))
  member_in conn (other ∷ conns) (inr m) = later_in (slot_of other) (slot_of conn) (map slot_of conns) (member_in conn conns m)

  -- its link is that of its slot
  member_link : (slots : List (Slot X F)) (state : List SlotState) (conn : Conn X F) (conns : List (Conn X F)) → AllTaken state conns → Member conn conns → link_for slots conns (slot_of conn) ≡ Some (link_of conn)
  member_link slots state conn [] t m = absurd m
  member_link slots state conn (other ∷ conns) t (inl e) =
      subst (λ (c : Conn X F). link_for slots (other ∷ conns) (slot_of c) ≡ Some (link_of c)) e (link_here slots [] conns other tt)
  member_link slots state conn (other ∷ conns) t (inr m) =
      link_there slots [] conns other (slot_of conn) (member_apart (slot_of other) conn conns t.1 m) ∙ member_link slots state conn conns t.2 m

  -- ---- slots of no connection

  beside_absent : (i : ℕ) (conns : List (Conn X F)) → (Contains (map slot_of conns) i → ⊥) → Beside i conns
  beside_absent i [] n = tt
  beside_absent i (conn ∷ conns) n = (
    (λ e. n (subst (λ (k : ℕ). Contains (slot_of conn ∷ map slot_of conns) k) e (first_in (slot_of conn) (map slot_of conns)))),
    beside_absent i conns (λ c. n (later_in (slot_of conn) i (map slot_of conns) c)),
  )

  beside_all : (i : ℕ) (conns : List (Conn X F)) → Beside i conns → All (λ k. k ≢ i) (map slot_of conns)
  beside_all i [] b = All-nil (λ (k : ℕ). k ≢ i)
  beside_all i (conn ∷ conns) b = All-cons (λ (k : ℕ). k ≢ i) (slot_of conn) (map slot_of conns) b.0 (beside_all i conns b.1)

  beside_not_in : (i : ℕ) (conns : List (Conn X F)) → Beside i conns → Contains (map slot_of conns) i → ⊥
  beside_not_in i conns b c = All-contains (λ (k : ℕ). k ≢ i) (map slot_of conns) i (beside_all i conns b) c refl

  -- ---- the start

  starts : (before after : List (Slot X F)) (was : List (Conn X F)) → TakesFirst before was after → map slot_of was ≡ begun_slots (states before)
  starts before after [] t = sym (ap first_slots t.0)
  starts before after (conn ∷ []) t = sym (ap first_slots t.first)
  starts before after (conn ∷ other ∷ conns) t = absurd t

  start_states : (before after : List (Slot X F)) (was : List (Conn X F)) → TakesFirst before was after → states after ≡ taken_first (ready_slot (states before)) (states before)
  start_states before after [] t = ap states t.1 ∙ sym (ap (λ f. taken_first f (states before)) t.0)
  start_states before after (conn ∷ []) t =
      ap states t.now ∙ states-slice_set before (slot_of conn) (Taken t.name) ∙ sym (ap (λ f. taken_first f (states before)) t.first)
  start_states before after (conn ∷ other ∷ conns) t = absurd t

  start_others : (before after : List (Slot X F)) (was : List (Conn X F)) (i : ℕ) → TakesFirst before was after → Beside i was → slice_get after i ≡ slice_get before i
  start_others before after [] i t b = ap (λ (slots : List (Slot X F)). slice_get slots i) t.1
  start_others before after (conn ∷ []) i t b =
      ap (λ (slots : List (Slot X F)). slice_get slots i) t.now ∙ slice_get-slice_set_other before (slot_of conn) i (Taken t.name) (λ e. b.0 (sym e))
  start_others before after (conn ∷ other ∷ conns) i t b = absurd t

  start_links : (before after : List (Slot X F)) (was : List (Conn X F)) (i : ℕ) → TakesFirst before was after → link_for after was i ≡ link_at before i
  start_links before after [] i t = ap (λ (slots : List (Slot X F)). link_at slots i) t.1
  start_links before after (conn ∷ []) i t = elim (eqb_tells (slot_of conn) i) [
    | inl h ↦ subst (λ (k : ℕ). link_for after (conn ∷ []) k ≡ link_at before k) h.1
        (link_here after [] [] conn tt ∙ sym (ap (λ (o : Option (Slot X F)). option_and_then link_in o) t.was))
    | inr h ↦ link_there after [] [] conn i (λ e. h.1 (sym e))
        ∙ ap (λ (o : Option (Slot X F)). option_and_then link_in o) (start_others before after (conn ∷ []) i t (h.1, tt))
  ]
  start_links before after (conn ∷ other ∷ conns) i t = absurd t

  start_dropped : (talk : DynBox X Allocator F → Option Talk) (faults : DynBox X Allocator F → ℕ) (before after : List (Slot X F)) (was : List (Conn X F)) → TakesFirst before was after
      → (i : ℕ) (name : List ℕ) → slice_get (states before) i ≡ Some (dropped name) → slice_get (states after) i ≡ Some (dropped name)
  start_dropped talk faults before after [] t i name d = ap (λ (slots : List (Slot X F)). slice_get (states slots) i) t.1 ∙ d
  start_dropped talk faults before after (conn ∷ []) t i name d = (SparesDropped-TakesReady talk faults before after conn t i name d).0
  start_dropped talk faults before after (conn ∷ other ∷ conns) t i name d = absurd t

  -- ---- the end

  -- a taken slot is free again, with the link of a connection
  pub record Back (old new : Option (Slot X F)) (conn : Conn X F) : Type 0 where
    pub name : List ℕ
    pub was : old ≡ Some (Taken name)
    pub now : new ≡ Some (Free name (link_of conn))

  -- what becomes of slot i where connections are given back
  abbrev pub GivenAt : List (Slot X F) → List (Conn X F) → List (Slot X F) → ℕ → Type 0
  GivenAt before conns after i = (Beside i conns × (slice_get after i ≡ slice_get before i))
      ⊎ ((conn : Conn X F) × Member conn conns × (slot_of conn ≡ i) × Back (slice_get before i) (slice_get after i) conn)

  given_here : (before between after : List (Slot X F)) (conn : Conn X F) (conns : List (Conn X F)) (i : ℕ) (name : List ℕ) → slot_of conn ≡ i → slice_get before i ≡ Some (Taken name)
      → slice_get between i ≡ Some (Free name (link_of conn)) → GivenAt between conns after i → GivenAt before (conn ∷ conns) after i
  given_here before between after conn conns i name at was now (inl h) = inr (conn, inl refl, at, record { name = name; was = was; now = h.1 ∙ now })
  given_here before between after conn conns i name at was now (inr h) = absurd (
      let both : Some (Free name (link_of conn)) ≡ Some (Taken h.3.name) = sym now ∙ h.3.was in cc (both))

  given_there : (before between after : List (Slot X F)) (conn : Conn X F) (conns : List (Conn X F)) (i : ℕ) → slot_of conn ≢ i → slice_get between i ≡ slice_get before i
      → GivenAt between conns after i → GivenAt before (conn ∷ conns) after i
  given_there before between after conn conns i n same (inl h) = inl ((n, h.0), h.1 ∙ same)
  given_there before between after conn conns i n same (inr h) = inr (h.0, inr h.1, h.2, record { name = h.3.name; was = sym same ∙ h.3.was; now = h.3.now })

  given_at : (before : List (Slot X F)) (conns : List (Conn X F)) (after : List (Slot X F)) (i : ℕ) → GivesAll before conns after → GivenAt before conns after i
  given_at before [] after i g = inl (tt, ap (λ (slots : List (Slot X F)). slice_get slots i) g)
  given_at before (conn ∷ conns) after i g = elim (eqb_tells (slot_of conn) i) [
    | inl h ↦ given_here before g.0 after conn conns i g.1.name h.1
        (subst (λ (k : ℕ). slice_get before k ≡ Some (Taken g.1.name)) h.1 g.1.was)
        (subst (λ (k : ℕ). slice_get g.0 k ≡ Some (Free g.1.name (link_of conn))) h.1
        (ap (λ (slots : List (Slot X F)). slice_get slots (slot_of conn)) g.1.now ∙ slice_get-slice_set before (slot_of conn) (Taken g.1.name) (Free g.1.name (link_of conn)) g.1.was))
        (given_at g.0 conns after i g.2)
    | inr h ↦ given_there before g.0 after conn conns i h.1
        (ap (λ (slots : List (Slot X F)). slice_get slots i) g.1.now ∙ slice_get-slice_set_other before (slot_of conn) i (Free g.1.name (link_of conn)) (λ e. h.1 (sym e)))
        (given_at g.0 conns after i g.2)
  ]

  -- the state of a slot
  one_state : (slots : List (Slot X F)) (i : ℕ) (slot : Option (Slot X F)) → slice_get slots i ≡ slot → slice_get (states slots) i ≡ option_map state_of slot
  one_state slots i slot e = slice_get-map state_of slots i ∙ ap (option_map state_of) e

  same_state : (old new : List (Slot X F)) (i : ℕ) → slice_get new i ≡ slice_get old i → slice_get (states new) i ≡ slice_get (states old) i
  same_state old new i e = one_state new i (slice_get old i) e ∙ sym (one_state old i (slice_get old i) refl)

  end_freed : (before after : List (Slot X F)) (conns : List (Conn X F)) (i : ℕ) → (Beside i conns → ⊥) → (Beside i (reverse conns) → Beside i conns) → GivenAt before (reverse conns) after i → IsFreed i (states before) (states after)
  end_freed before after conns i n turned (inl h) = absurd (n (turned h.0))
  end_freed before after conns i n turned (inr h) = record {
    name = h.3.name;
    was = one_state before i (Some (Taken h.3.name)) h.3.was;
    now = one_state after i (Some (Free h.3.name (link_of h.0))) h.3.now;
  }

  -- a slot of no connection, also where they are turned round
  beside_reverse : (i : ℕ) (conns : List (Conn X F)) → Beside i (reverse conns) → Beside i conns
  beside_reverse i [] b = tt
  beside_reverse i (conn ∷ conns) b =
      let both : Beside i (reverse conns ++ conn ∷ []) = subst (λ cs. Beside i cs) (reverse-append (conn ∷ []) conns) b in
      ((beside_behind i (reverse conns) (conn ∷ []) both).0, beside_reverse i conns (beside_before i (reverse conns) (conn ∷ []) both))

  end_same : (before after : List (Slot X F)) (conns : List (Conn X F)) (i : ℕ) → Beside i conns → GivenAt before (reverse conns) after i → slice_get after i ≡ slice_get before i
  end_same before after conns i b (inl h) = h.1
  end_same before after conns i b (inr h) = absurd (member_apart i h.0 conns b (member_reverse h.0 conns h.1) h.2)

  end_links : (before after : List (Slot X F)) (conns : List (Conn X F)) (i : ℕ) → AllTaken (states before) conns → GivenAt before (reverse conns) after i → link_at after i ≡ link_for before conns i
  end_links before after conns i t (inl h) =
      ap (λ (o : Option (Slot X F)). option_and_then link_in o) h.1 ∙ sym (link_absent before conns i (beside_reverse i conns h.0))
  end_links before after conns i t (inr h) =
      ap (λ (o : Option (Slot X F)). option_and_then link_in o) h.3.now
      ∙ sym (subst (λ (k : ℕ). link_for before conns k ≡ Some (link_of h.0)) h.2 (member_link before (states before) h.0 conns t (member_reverse h.0 conns h.1)))

  end_dropped : (before after : List (Slot X F)) (conns : List (Conn X F)) (i : ℕ) (name : List ℕ) → GivenAt before conns after i → slice_get (states before) i ≡ Some (dropped name) → slice_get (states after) i ≡ Some (dropped name)
  end_dropped before after conns i name (inl h) d = same_state before after i h.1 ∙ d
  end_dropped before after conns i name (inr h) d = absurd (
      let both : Some (taken h.3.name) ≡ Some (dropped name) = sym (one_state before i (Some (Taken h.3.name)) h.3.was) ∙ d in cc (both))

  -- ---- a link tells what the log has for its slot
  module _ (talk : DynBox X Allocator F → Option Talk) (faults : DynBox X Allocator F → ℕ) where
    told_one : (before after : Option (DynBox X Allocator F)) (said : Talk) → IfSome after (λ now. IsSomeAnd before (λ was. Grew talk faults was now said))
        → IfSome (option_and_then talk after) (λ now. IsSomeAnd (option_and_then talk before) (λ was. now ≡ was ++ said))
    told_one before None said g = tt
    told_one None (Some now) said g = absurd g
    told_one (Some was) (Some now) said g = IfSome-told (talk was) (talk now) said g.told

    pub KeepsTalks-links : (before after : List (Slot X F)) (growth : List Logged) → KeepsLinks talk faults (link_at before) (link_at after) growth → KeepsTalks (talk_at talk before) (talk_at talk after) growth
    KeepsTalks-links before after growth k i = told_one (link_at before i) (link_at after i) (talk_of i growth) (k i)

    -- ---- the whole

    module _ (first opened closing last : Rack X F) (was now : List (Conn X F)) (growth : List Logged)
        (taken_here : TakesFirst (slots_of first) was (slots_of opened)) (moves : Moves talk faults opened was closing now growth)
        (held : AllTaken (states (slots_of closing)) now) (given : GivesAll (slots_of closing) (reverse now) (slots_of last)) where
      back : (i : ℕ) → GivenAt (slots_of closing) (reverse now) (slots_of last) i
      back i = given_at (slots_of closing) (reverse now) (slots_of last) i given

      begins : map slot_of was ≡ begun_slots (states (slots_of first))
      begins = starts (slots_of first) (slots_of opened) was taken_here

      -- the slots of the connections at the end
      ends : map slot_of now ≡ open_in (begun_slots (states (slots_of first))) growth
      ends = moves.opened ∙ ap (λ slots. open_in slots growth) begins

      pub run_logged : log_of opened ≡ log_of first → log_of last ≡ log_of closing → log_of last ≡ log_of first ++ growth
      run_logged e f = f ∙ moves.logged ∙ ap (λ w. w ++ growth) e

      other_slots : (i : ℕ) → Beside i was → talk_of i growth ≡ [] → (slice_get (slots_of last) i ≡ slice_get (slots_of first) i)
          ⊎ HasOther (slice_get (slots_of first) i) (slice_get (slots_of last) i)
      other_slots i b s =
          let stays = moves.others i b s in
          let begun = start_others (slots_of first) (slots_of opened) was i taken_here b in
          let ended = end_same (slots_of closing) (slots_of last) now i stays.0 (back i) in
          subst (λ (o : Option (Slot X F)). (slice_get (slots_of last) i ≡ o) ⊎ HasOther o (slice_get (slots_of last) i)) begun
          (subst (λ (o : Option (Slot X F)). (o ≡ slice_get (slots_of opened) i) ⊎ HasOther (slice_get (slots_of opened) i) o) (sym ended) stays.1)

      -- what becomes of the slots
      pub RunsOver-run : RunsOver (slots_of first) growth (slots_of last)
      RunsOver-run = record {
        ended = states (slots_of closing);
        exchanged = subst (λ (slots : List SlotState). Slots slots growth (states (slots_of closing))) (start_states (slots_of first) (slots_of opened) was taken_here) moves.exchanged;
        own = subst (λ (slots : List ℕ). AllOwn slots growth) begins moves.own;
        freed = λ i c. end_freed (slots_of closing) (slots_of last) now i
            (λ b. beside_not_in i now b (subst (λ (slots : List ℕ). Contains slots i) (sym ends) c)) (beside_reverse i now) (back i);
        stays = λ i n. same_state (slots_of closing) (slots_of last) i
            (end_same (slots_of closing) (slots_of last) now i (beside_absent i now (λ c. n (subst (λ (slots : List ℕ). Contains slots i) ends c))) (back i));
        others = λ i n s. other_slots i (beside_absent i was (λ c. n (subst (λ (slots : List ℕ). Contains slots i) begins c))) s;
      }

      -- what becomes of the links
      pub KeepsLinks-run : KeepsLinks talk faults (link_at (slots_of first)) (link_at (slots_of last)) growth
      KeepsLinks-run i =
          subst (λ (o : Option (DynBox X Allocator F)). IfSome o (λ now'. IsSomeAnd (link_at (slots_of first) i) (λ was'. Grew talk faults was' now' (talk_of i growth))))
          (sym (end_links (slots_of closing) (slots_of last) now i held (back i)))
          (subst (λ (o : Option (DynBox X Allocator F)). IfSome (link_for (slots_of closing) now i) (λ now'. IsSomeAnd o (λ was'. Grew talk faults was' now' (talk_of i growth))))
          (start_links (slots_of first) (slots_of opened) was i taken_here) (moves.links i))

      -- no dropped slot gets an exchange
      pub SparesDropped-run : SparesDropped (states (slots_of first)) (states (slots_of last)) growth
      SparesDropped-run i name d =
          let begun = start_dropped talk faults (slots_of first) (slots_of opened) was taken_here i name d in
          let over = SparesDropped-Slots (states (slots_of opened)) growth (states (slots_of closing)) moves.exchanged i name begun in
          (end_dropped (slots_of closing) (slots_of last) (reverse now) i name (back i) over.0, over.1)
