-- What calls of a library do to a rack and its connections: no call, one call behind another, and requests over one connection among others.
use Rattle.std.proofs.Common.{◌≡◌, ◌≢◌, ◌==◌, ℕ, true, cond, Option, Some, None, IfSome, IsSomeAnd, List, [], ◌∷◌, ◌++◌, All, map, slice_get, refl, sym, ap, ◌∙◌, arith, subst, inl, inr, ◌⊎◌, append_assoc}
use Rattle.std.specs.Prelude.{Contains}
use Rattle.std.proofs.lemmas.Bool.{eq-eqb}
use Rattle.std.proofs.lemmas.Bool.Decides.{eqb_tells}
use Rattle.std.proofs.lemmas.List.{append-nil, map-append}
use Rattle.std.proofs.lemmas.List.Elements.{All-head, All-tail, Contains-append_cases, Contains-append_right, All-contains_itself}
use Rattle.std.specs.declared.alloc.Global.{Global}
use Rattle.std.specs.declared.dyn_box.DynBox.{DynBox}
use Rattle.ec_link.specs.declared.connection.Conn.{Conn}
use Rattle.ec_link.specs.declared.logged.Logged.{Logged}
use Rattle.ec_link.specs.declared.rack.Rack.{Rack}
use Rattle.ec_link.specs.declared.reply.Reply.{Reply}
use Rattle.ec_link.specs.declared.reply.Reply.TheVariants.{Broken}
use Rattle.ec_link.specs.declared.request.Request.{Request}
use Rattle.ec_link.specs.declared.request.Request.TheVariants.{Connect, Text, Prepare, Exec, Deallocate, Close}
use Rattle.ec_link.specs.declared.slot.Slot.{Slot}
use Rattle.ec_link.specs.declared.slot.Slot.TheVariants.{Free}
use Rattle.ec_link.specs.Calls.{Asks}
use Rattle.ec_link.specs.Conn.{slot_of, link_of}
use Rattle.ec_link.specs.Link.{told_more}
use Rattle.ec_link.specs.Logged.{Talk, IsAsk, talk_of, is_slot, replies_of}
use Rattle.ec_link.specs.Rack.{slots_of, log_of}
use Rattle.ec_link.specs.Slot.{states, link_at}
use Rattle.ec_link.specs.SlotState.{TakenAt}
use Rattle.ec_link.proofs.Runs.{Slots-Asks, other_slot}
use Rattle.ec_link.proofs.Steps.{Slots-append}
use Rattle.ec_link.proofs.Talks.{talk_of-append, talk_of-cons, talk_of-cons_other, told_more-nil, told_more-append}
use Rattle.ec_runtime.specs.Racks.{AllOwn, open_behind, open_in, Beside, link_for, HasOther, Grew, Moves}

-- ---- the slots of connections that are open

pub open_in-append : (slots : List ℕ) (xs ys : List Logged) → open_in slots (xs ++ ys) ≡ open_in (open_in slots xs) ys
open_in-append slots [] ys = refl
open_in-append slots (x ∷ xs) ys = open_in-append (open_behind x.slot x.request x.reply slots) xs ys

-- an ask leaves them
open_behind-ask : (slot : Option ℕ) (request : Request) (reply : Reply) (slots : List ℕ) → IsAsk request → open_behind slot request reply slots ≡ slots
open_behind-ask None request reply slots a = refl
open_behind-ask (Some i) (Connect _ _ _) reply slots a = absurd a
open_behind-ask (Some i) (Text _ _) reply slots a = refl
open_behind-ask (Some i) (Prepare _ _) reply slots a = refl
open_behind-ask (Some i) (Exec _ _) reply slots a = refl
open_behind-ask (Some i) (Deallocate _) reply slots a = refl
open_behind-ask (Some i) Close reply slots a = absurd a

open_in-asks : (i : ℕ) (slots : List ℕ) (log : List Logged) → All (λ x. (x.slot ≡ Some i) × IsAsk x.request) log → open_in slots log ≡ slots
open_in-asks i slots [] a = refl
open_in-asks i slots (x ∷ log) a =
    ap (λ s. open_in s log) (open_behind-ask x.slot x.request x.reply slots (All-head (λ (y : Logged). (y.slot ≡ Some i) × IsAsk y.request) x log a).1)
    ∙ open_in-asks i slots log (All-tail (λ (y : Logged). (y.slot ≡ Some i) × IsAsk y.request) x log a)

-- ---- what is said is over connections that are open

own_both : (slots : List ℕ) (xs ys : List Logged) → AllOwn slots xs → AllOwn (open_in slots xs) ys → AllOwn slots (xs ++ ys)
own_both slots [] ys a b = b
own_both slots (x ∷ xs) ys a b = (a.0, own_both (open_behind x.slot x.request x.reply slots) xs ys a.1 b)

own_asks : (i : ℕ) (slots : List ℕ) (log : List Logged) → Contains slots i → All (λ x. (x.slot ≡ Some i) × IsAsk x.request) log → AllOwn slots log
own_asks i slots [] c a = tt
own_asks i slots (x ∷ log) c a =
    let first = All-head (λ (y : Logged). (y.slot ≡ Some i) × IsAsk y.request) x log a in (
      inr (subst (λ o. IsSomeAnd o (λ k. Contains slots k)) (sym first.0) c),
      subst (λ s. AllOwn s log) (sym (open_behind-ask x.slot x.request x.reply slots first.1)) (own_asks i slots log c (All-tail (λ (y : Logged). (y.slot ≡ Some i) × IsAsk y.request) x log a)),
    )

-- ---- the talk of a log

no_head : {A : Type 0} (xs ys : List A) → xs ++ ys ≡ [] → xs ≡ []
no_head [] ys e = refl
no_head (x ∷ xs) ys e = cc

no_rest : {A : Type 0} (xs ys : List A) → xs ++ ys ≡ [] → ys ≡ []
no_rest [] ys e = e
no_rest (x ∷ xs) ys e = cc

-- the exchanges of asks over one slot are those of the log, and no other slot has one
asks_talk : (i : ℕ) (log : List Logged) → All (λ x. (x.slot ≡ Some i) × IsAsk x.request) log → map (λ (x : Request × Reply). x.1) (talk_of i log) ≡ replies_of log
asks_talk i [] a = refl
asks_talk i (x ∷ log) a =
    let here = (All-head (λ (y : Logged). (y.slot ≡ Some i) × IsAsk y.request) x log a).0 in
    let own : is_slot i x.slot ≡ true = ap (is_slot i) here ∙ eq-eqb i i refl in
    ap (map (λ (y : Request × Reply). y.1)) (talk_of-cons i x log own) ∙ ap (λ rs. x.reply ∷ rs) (asks_talk i log (All-tail (λ (y : Logged). (y.slot ≡ Some i) × IsAsk y.request) x log a))

asks_apart : (i k : ℕ) (log : List Logged) → k ≢ i → All (λ x. (x.slot ≡ Some i) × IsAsk x.request) log → talk_of k log ≡ []
asks_apart i k [] n a = refl
asks_apart i k (x ∷ log) n a =
    let here = (All-head (λ (y : Logged). (y.slot ≡ Some i) × IsAsk y.request) x log a).0 in
    talk_of-cons_other k x log (other_slot k i x.slot n here) ∙ asks_apart i k log n (All-tail (λ (y : Logged). (y.slot ≡ Some i) × IsAsk y.request) x log a)

module _ {X : Type 0} {F : X → Type 0} where
  -- ---- connections of other slots

  pub beside_before : (i : ℕ) (xs ys : List (Conn X F)) → Beside i (xs ++ ys) → Beside i xs
  beside_before i [] ys b = tt
  beside_before i (x ∷ xs) ys b = (b.0, beside_before i xs ys b.1)

  pub beside_behind : (i : ℕ) (xs ys : List (Conn X F)) → Beside i (xs ++ ys) → Beside i ys
  beside_behind i [] ys b = b
  beside_behind i (x ∷ xs) ys b = beside_behind i xs ys b.1

  pub beside_both : (i : ℕ) (xs ys : List (Conn X F)) → Beside i xs → Beside i ys → Beside i (xs ++ ys)
  beside_both i [] ys b c = c
  beside_both i (x ∷ xs) ys b c = (b.0, beside_both i xs ys b.1 c)

  -- ---- the link of a slot

  pub link_absent : (slots : List (Slot X F)) (conns : List (Conn X F)) (i : ℕ) → Beside i conns → link_for slots conns i ≡ link_at slots i
  link_absent slots [] i b = refl
  link_absent slots (conn ∷ conns) i b = elim (eqb_tells (slot_of conn) i) [
    | inl h ↦ absurd (b.0 h.1)
    | inr h ↦ ap (λ t. cond t (Some (link_of conn)) (link_for slots conns i)) h.0 ∙ link_absent slots conns i b.1
  ]

  pub link_same : (old new : List (Slot X F)) (conns : List (Conn X F)) (i : ℕ) → link_at new i ≡ link_at old i → link_for new conns i ≡ link_for old conns i
  link_same old new [] i e = e
  link_same old new (conn ∷ conns) i e = ap (λ o. cond (slot_of conn == i) (Some (link_of conn)) o) (link_same old new conns i e)

  -- of one connection among others
  pub link_here : (slots : List (Slot X F)) (before behind : List (Conn X F)) (conn : Conn X F) → Beside (slot_of conn) before → link_for slots (before ++ conn ∷ behind) (slot_of conn) ≡ Some (link_of conn)
  link_here slots [] behind conn b = ap (λ t. cond t (Some (link_of conn)) (link_for slots behind (slot_of conn))) (eq-eqb (slot_of conn) (slot_of conn) refl)
  link_here slots (other ∷ before) behind conn b = elim (eqb_tells (slot_of other) (slot_of conn)) [
    | inl h ↦ absurd (b.0 h.1)
    | inr h ↦ ap (λ t. cond t (Some (link_of other)) (link_for slots (before ++ conn ∷ behind) (slot_of conn))) h.0 ∙ link_here slots before behind conn b.1
  ]

  -- of another slot than that of the connection
  pub link_there : (slots : List (Slot X F)) (before behind : List (Conn X F)) (conn : Conn X F) (i : ℕ) → i ≢ slot_of conn → link_for slots (before ++ conn ∷ behind) i ≡ link_for slots (before ++ behind) i
  link_there slots [] behind conn i n = elim (eqb_tells (slot_of conn) i) [
    | inl h ↦ absurd (n (sym h.1))
    | inr h ↦ ap (λ t. cond t (Some (link_of conn)) (link_for slots behind i)) h.0
  ]
  link_there slots (other ∷ before) behind conn i n = ap (λ o. cond (slot_of other == i) (Some (link_of other)) o) (link_there slots before behind conn i n)

  map_among : (before behind : List (Conn X F)) (was now : Conn X F) → slot_of now ≡ slot_of was → map slot_of (before ++ now ∷ behind) ≡ map slot_of (before ++ was ∷ behind)
  map_among [] behind was now e = ap (λ i. i ∷ map slot_of behind) e
  map_among (other ∷ before) behind was now e = ap (λ is. slot_of other ∷ is) (map_among before behind was now e)

  pub has_slot : (before behind : List (Conn X F)) (conn : Conn X F) → Contains (map slot_of (before ++ conn ∷ behind)) (slot_of conn)
  has_slot before behind conn =
      subst (λ is. Contains is (slot_of conn)) (sym (map-append slot_of before (conn ∷ behind)))
      (Contains-append_right (map slot_of before) (slot_of conn ∷ map slot_of behind) (slot_of conn) (All-head (λ k. Contains (slot_of conn ∷ map slot_of behind) k) (slot_of conn) (map slot_of behind) (All-contains_itself (slot_of conn ∷ map slot_of behind))))

  beside_among : (i : ℕ) (before behind : List (Conn X F)) (was now : Conn X F) → slot_of now ≡ slot_of was → Beside i (before ++ was ∷ behind) → Beside i (before ++ now ∷ behind)
  beside_among i [] behind was now e b = ((λ h. b.0 (sym e ∙ h)), b.1)
  beside_among i (other ∷ before) behind was now e b = (b.0, beside_among i before behind was now e b.1)

  module _ (talk : DynBox X Global F → Option Talk) (faults : DynBox X Global F → ℕ) where
    -- ---- links that grew

    abbrev pub Grows : Option (DynBox X Global F) → Option (DynBox X Global F) → Talk → Type 0
    Grows before after said = IfSome after (λ now. IsSomeAnd before (λ was. Grew talk faults was now said))

    grew_not : (link : DynBox X Global F) → Grew talk faults link link []
    grew_not link = record { told = sym (told_more-nil (talk link)); later = omega arith; broken = λ c. absurd (omega (arith, c.1)) }

    grew_both : (was mid now : DynBox X Global F) (p q : Talk) → Grew talk faults was mid p → Grew talk faults mid now q → Grew talk faults was now (p ++ q)
    grew_both was mid now p q a b = record {
      told = b.told ∙ ap (λ t. told_more t q) a.told ∙ told_more-append (talk was) p q;
      later = omega (arith, a.later, b.later);
      broken = λ c. elim (Contains-append_cases (map (λ (x : Request × Reply). x.1) p) (map (λ (x : Request × Reply). x.1) q) Broken (subst (λ (rs : List Reply). Contains rs Broken) (map-append (λ (x : Request × Reply). x.1) p q) c)) [
        | inl h ↦ (let rose = a.broken h in omega (arith, rose, b.later))
        | inr h ↦ (let rose = b.broken h in omega (arith, rose, a.later))
      ];
    }

    pub grows_same : (before after : Option (DynBox X Global F)) (said : Talk) → after ≡ before → said ≡ [] → Grows before after said
    grows_same before None said e s = tt
    grows_same None (Some now) said e s = cc
    grows_same (Some was) (Some now) said e s = let same : now ≡ was = cc in subst (λ t. Grew talk faults was now t) (sym s) (subst (λ l. Grew talk faults was l []) (sym same) (grew_not was))

    pub grows_by : (before after : Option (DynBox X Global F)) (was now : DynBox X Global F) (said : Talk) → before ≡ Some was → after ≡ Some now → Grew talk faults was now said → Grows before after said
    grows_by before after was now said b a g = subst (λ o. Grows o after said) (sym b) (subst (λ o. Grows (Some was) o said) (sym a) g)

    grows_both : (x y z : Option (DynBox X Global F)) (p q r : Talk) → Grows x y p → Grows y z q → r ≡ p ++ q → Grows x z r
    grows_both x y None p q r f g e = tt
    grows_both x None (Some c) p q r f g e = absurd g
    grows_both None (Some b) (Some c) p q r f g e = absurd f
    grows_both (Some a) (Some b) (Some c) p q r f g e = subst (λ t. Grew talk faults a c t) (sym e) (grew_both a b c p q f g)

    -- ---- slots that stay as they are

    abbrev pub Stays : Option (Slot X F) → Option (Slot X F) → Type 0
    Stays old new = (new ≡ old) ⊎ HasOther old new

    other_again : (x y z : Option (Slot X F)) → HasOther x y → HasOther y z → HasOther x z
    other_again x y z a b =
        let both : Some (Free a.name a.other) ≡ Some (Free b.name b.link) = sym a.now ∙ b.was in
        let same : a.name ≡ b.name = cc in
        record { name = a.name; link = a.link; other = b.other; was = a.was; now = b.now ∙ ap (λ n. Some (Free n b.other)) (sym same) }

    stays_both : (x y z : Option (Slot X F)) → Stays x y → Stays y z → Stays x z
    stays_both x y z (inl a) (inl b) = inl (b ∙ a)
    stays_both x y z (inl a) (inr b) = inr (subst (λ o. HasOther o z) a b)
    stays_both x y z (inr a) (inl b) = inr (subst (λ o. HasOther x o) (sym b) a)
    stays_both x y z (inr a) (inr b) = inr (other_again x y z a b)

    -- ---- nothing was said

    pub moves_not : (old new : Rack X F) (conns : List (Conn X F)) → log_of new ≡ log_of old → slots_of new ≡ slots_of old → Moves talk faults old conns new conns []
    moves_not old new conns log slots = record {
      logged = log ∙ sym (append-nil (log_of old));
      exchanged = ap states slots;
      opened = refl;
      own = tt;
      links = λ i. grows_same (link_for (slots_of old) conns i) (link_for (slots_of new) conns i) [] (ap (λ s. link_for s conns i) slots) refl;
      others = λ i b n. (b, inl (ap (λ (s : List (Slot X F)). slice_get s i) slots));
    }

    -- ---- one call behind another

    pub moves_both : (first between last : Rack X F) (was mid now : List (Conn X F)) (xs ys : List Logged) → Moves talk faults first was between mid xs → Moves talk faults between mid last now ys → Moves talk faults first was last now (xs ++ ys)
    moves_both first between last was mid now xs ys a b = record {
      logged = b.logged ∙ ap (λ log. log ++ ys) a.logged ∙ append_assoc (log_of first) xs ys;
      exchanged = Slots-append (states (slots_of first)) (states (slots_of between)) (states (slots_of last)) xs ys a.exchanged b.exchanged;
      own = own_both (map slot_of was) xs ys a.own (subst (λ s. AllOwn s ys) a.opened b.own);
      opened = b.opened ∙ ap (λ s. open_in s ys) a.opened ∙ sym (open_in-append (map slot_of was) xs ys);
      links = λ i. grows_both (link_for (slots_of first) was i) (link_for (slots_of between) mid i) (link_for (slots_of last) now i) (talk_of i xs) (talk_of i ys) (talk_of i (xs ++ ys)) (a.links i) (b.links i) (talk_of-append i xs ys);
      others = λ i c n.
          let none : talk_of i xs ++ talk_of i ys ≡ [] = sym (talk_of-append i xs ys) ∙ n in
          let x = a.others i c (no_head (talk_of i xs) (talk_of i ys) none) in
          let y = b.others i x.0 (no_rest (talk_of i xs) (talk_of i ys) none) in
          (y.0, stays_both (slice_get (slots_of first) i) (slice_get (slots_of between) i) (slice_get (slots_of last) i) x.1 y.1);
    }

    -- ---- asks over one connection among others

    module _ (old new : Rack X F) (was now : Conn X F) (before behind : List (Conn X F)) (growth : List Logged) (apart : Beside (slot_of was) before) (a : Asks talk faults old was new now growth) where
      asked_links : (i : ℕ) → Grows (link_for (slots_of old) (before ++ was ∷ behind) i) (link_for (slots_of new) (before ++ now ∷ behind) i) (talk_of i growth)
      asked_links i = elim (eqb_tells i (slot_of was)) [
        | inl h ↦ subst (λ k. Grows (link_for (slots_of old) (before ++ was ∷ behind) k) (link_for (slots_of new) (before ++ now ∷ behind) k) (talk_of k growth)) (sym h.1)
            (grows_by (link_for (slots_of old) (before ++ was ∷ behind) (slot_of was)) (link_for (slots_of new) (before ++ now ∷ behind) (slot_of was)) (link_of was) (link_of now) (talk_of (slot_of was) growth)
            (link_here (slots_of old) before behind was apart)
            (subst (λ k. link_for (slots_of new) (before ++ now ∷ behind) k ≡ Some (link_of now)) a.slot (link_here (slots_of new) before behind now (subst (λ k. Beside k before) (sym a.slot) apart)))
            (record { told = a.told; later = a.later; broken = λ c. a.broken (subst (λ (rs : List Reply). Contains rs Broken) (asks_talk (slot_of was) growth a.asked) c) }))
        | inr h ↦ grows_same (link_for (slots_of old) (before ++ was ∷ behind) i) (link_for (slots_of new) (before ++ now ∷ behind) i) (talk_of i growth)
            (link_there (slots_of new) before behind now i (λ e. h.1 (e ∙ a.slot))
            ∙ link_same (slots_of old) (slots_of new) (before ++ behind) i (ap (λ s. link_at s i) a.slots)
            ∙ sym (link_there (slots_of old) before behind was i h.1))
            (asks_apart (slot_of was) i growth h.1 a.asked)
      ]

      pub moves_asked : TakenAt (states (slots_of old)) (slot_of was) → Moves talk faults old (before ++ was ∷ behind) new (before ++ now ∷ behind) growth
      moves_asked t = record {
        logged = a.logged;
        exchanged = Slots-Asks talk faults old was new now growth t a;
        opened = map_among before behind was now a.slot ∙ sym (open_in-asks (slot_of was) (map slot_of (before ++ was ∷ behind)) growth a.asked);
        own = own_asks (slot_of was) (map slot_of (before ++ was ∷ behind)) growth (has_slot before behind was) a.asked;
        links = asked_links;
        others = λ i b n. (beside_among i before behind was now a.slot b, inl (ap (λ (s : List (Slot X F)). slice_get s i) a.slots));
      }
