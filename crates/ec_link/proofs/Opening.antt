-- What calls that open and close connections do to the slots and to the talks, also beside other connections.
use Rattle.std.proofs.Common.{◌≡◌, ◌≢◌, ◌==◌, ◌≤◌, ℕ, true, false, cond, Option, Some, None, IfSome, IsSomeAnd, List, [], ◌∷◌, ◌++◌, All, length, ◌-◌, take, get_or, slice_get, slice_set, if◌then◌else◌, option_and_then, refl, sym, ap, ◌∙◌, arith, subst, inl, inr, ◌⊎◌}
use Rattle.std.proofs.lemmas.Bool.{eq-eqb, false≢true}
use Rattle.std.proofs.lemmas.Bool.Decides.{eqb_tells}
use Rattle.std.proofs.lemmas.Option.{get_or_from_slice_get}
use Rattle.std.proofs.lemmas.List.{set-set, length_push, append-nil}
use Rattle.std.proofs.lemmas.List.Elements.{All-head, All-tail}
use Rattle.std.proofs.lemmas.List.Quantifiers.{position-Some}
use Rattle.std.proofs.Math.Seq.{take-append_seam}
use Rattle.std.specs.declared.alloc.Global.{Global}
use Rattle.std.specs.declared.dyn_box.DynBox.{DynBox}
use Rattle.ec_base.specs.Causes.{Rose}
use Rattle.ec_link.specs.declared.connection.Conn.{Conn}
use Rattle.ec_link.specs.declared.logged.Logged.{Logged}
use Rattle.ec_link.specs.declared.rack.Rack.{Rack}
use Rattle.ec_link.specs.declared.reply.Reply.{Reply}
use Rattle.ec_link.specs.declared.reply.Reply.TheVariants.{Connected, NoTarget, Rows, Done, Refused, Broken}
use Rattle.ec_link.specs.declared.request.Request.{Request}
use Rattle.ec_link.specs.declared.request.Request.TheVariants.{Connect, Text, Prepare, Exec, Deallocate, Close}
use Rattle.ec_link.specs.declared.slot.Slot.{Slot}
use Rattle.ec_link.specs.declared.slot.Slot.TheVariants.{Free, Taken, Dropped}
use Rattle.ec_link.specs.Calls.{TakesFree, GivesBack, DropsSlot, FindsNone, Answers, Connects, Declines, OpensNone, Unsaid, Closes}
use Rattle.ec_link.specs.Conn.{slot_of, link_of}
use Rattle.ec_link.specs.Link.{told_more, talk_after}
use Rattle.ec_link.specs.Logged.{Talk, IsConnect, target_of, talk_of, growth_of, last_reply_of}
use Rattle.ec_link.specs.Rack.{slots_of, log_of}
use Rattle.ec_link.specs.Reply.{is_connected}
use Rattle.ec_link.specs.Slot.{states, link_in, link_at, talk_at}
use Rattle.ec_link.specs.SlotState.{SlotState, Exchanged, Slots, TakenAt, is_free, free, taken, dropped, free_slot}
use Rattle.ec_link.specs.Told.{told_at, KeepsTalks}
use Rattle.ec_link.proofs.Places.{slice_get-slice_set, slice_get-slice_set_other, slice_set-same}
use Rattle.ec_link.proofs.Runs.{log-set, growth_of-grown, last_reply_of-append, states-slice_set, slice_get-states, talk_of-one, other_slot, talk_at-same, talk_at-slot}
use Rattle.ec_link.proofs.Talks.{IfSome-told, KeepsTalks-told, KeepsTalks-same, talk_of-cons_other, told_more-nil}

-- a log with a blank exchange that was taken away
pub log-dropped : (old between new : List Logged) (blank : Logged) → between ≡ old ++ blank ∷ [] → new ≡ take (length between - 1) between → new ≡ old
log-dropped old between new blank b n =
    let before : length (old ++ blank ∷ []) - 1 ≡ length old = omega (arith, length_push old blank) in
    n ∙ ap (λ log. take (length log - 1) log) b ∙ ap (λ k. take k (old ++ blank ∷ [])) before
    ∙ take-append_seam old (blank ∷ [])

-- a log that didn't grow
pub growth_of-same : (old new : List Logged) → new ≡ old → growth_of old new ≡ []
growth_of-same old new e = growth_of-grown old new [] (e ∙ sym (append-nil old))

-- another reply than Connected
not_connected : (reply : Reply) → reply ≢ Connected → is_connected reply ≡ false
not_connected Connected n = absurd (n refl)
not_connected NoTarget n = refl
not_connected (Rows _ _ _) n = refl
not_connected (Done _ _ _) n = refl
not_connected (Refused _ _ _) n = refl
not_connected Broken n = refl

-- a reply that is told to be Connected, and one that is told not to be
connected_reply : (reply : Reply) → is_connected reply ≡ true → reply ≡ Connected
connected_reply Connected e = refl
connected_reply NoTarget e = absurd (false≢true e)
connected_reply (Rows _ _ _) e = absurd (false≢true e)
connected_reply (Done _ _ _) e = absurd (false≢true e)
connected_reply (Refused _ _ _) e = absurd (false≢true e)
connected_reply Broken e = absurd (false≢true e)

other_reply : (reply : Reply) → is_connected reply ≡ false → reply ≢ Connected
other_reply reply e = λ same. false≢true (sym e ∙ ap is_connected same)

-- a Connect that stands at the first free slot
Exchanged-found : (before after : List SlotState) (i : ℕ) (request : Request) (reply : Reply) → IsConnect request → free_slot (target_of request) before ≡ Some i → after ≡ (if is_connected reply then slice_set before i (taken (target_of request)) else before) → Exchanged before (Some i) request reply after
Exchanged-found before after i (Connect _ _ _) reply c f e = (f, e)
Exchanged-found before after i (Text _ _) reply c f e = absurd c
Exchanged-found before after i (Prepare _ _) reply c f e = absurd c
Exchanged-found before after i (Exec _ _) reply c f e = absurd c
Exchanged-found before after i (Deallocate _) reply c f e = absurd c
Exchanged-found before after i Close reply c f e = absurd c

-- a Connect that stands at no slot
Exchanged-none : (before after : List SlotState) (request : Request) → IsConnect request → free_slot (target_of request) before ≡ None → after ≡ before → Exchanged before None request NoTarget after
Exchanged-none before after (Connect _ _ _) c f e = (f, refl, e)
Exchanged-none before after (Text _ _) c f e = absurd c
Exchanged-none before after (Prepare _ _) c f e = absurd c
Exchanged-none before after (Exec _ _) c f e = absurd c
Exchanged-none before after (Deallocate _) c f e = absurd c
Exchanged-none before after Close c f e = absurd c

-- a taken slot is not the first one that is free
pub taken_apart : (slots : List SlotState) (target : List ℕ) (i k : ℕ) → free_slot target slots ≡ Some i → TakenAt slots k → k ≢ i
taken_apart slots target i k f t =
    λ e. let passes = (position-Some (is_free target) slots i (taken t.0) f).1 in
    let here : slice_get slots i ≡ Some (taken t.0) = subst (λ (m : ℕ). slice_get slots m ≡ Some (taken t.0)) e t.1 in
    let is : get_or slots i (taken t.0) ≡ taken t.0 = get_or_from_slice_get slots i (taken t.0) (taken t.0) here in
    false≢true (sym (ap (is_free target) is) ∙ passes)

-- one exchange, as what a log grew by
Slots-grown : (before after : List SlotState) (old new : List Logged) (x : Logged) → new ≡ old ++ x ∷ [] → Exchanged before x.slot x.request x.reply after → Slots before (growth_of old new) after
Slots-grown before after old new x e h =
    subst (λ (log : List Logged). Slots before log after) (sym (growth_of-grown old new (x ∷ []) e)) (after, h, refl)

-- no exchange
pub Slots-same : (before after : List SlotState) (old new : List Logged) → new ≡ old → after ≡ before → Slots before (growth_of old new) after
Slots-same before after old new e same =
    subst (λ (log : List Logged). Slots before log after) (sym (growth_of-same old new e)) same

-- one exchange over slot i: its link tells it, or is gone, and the others tell what they told
KeepsTalks-one : (before after : ℕ → Option Talk) (i : ℕ) (x : Logged) → x.slot ≡ Some i → (after i ≡ None) ⊎ (after i ≡ told_more (before i) ((x.request, x.reply) ∷ [])) → ((k : ℕ) → k ≢ i → after k ≡ before k) → KeepsTalks before after (x ∷ [])
KeepsTalks-one before after i x s here others = λ k. elim (eqb_tells k i) [
  | inl h ↦ subst (λ (n : ℕ). IfSome (after n) (λ now. IsSomeAnd (before n) (λ was. now ≡ was ++ talk_of n (x ∷ [])))) (sym h.1) (elim here [
    | inl gone ↦ subst (λ (o : Option Talk). IfSome o (λ now. IsSomeAnd (before i) (λ was. now ≡ was ++ talk_of i (x ∷ [])))) (sym gone) tt
    | inr told ↦ IfSome-told (before i) (after i) (talk_of i (x ∷ [])) (told ∙ ap (told_more (before i)) (sym (talk_of-one i x s)))
  ])
  | inr h ↦ IfSome-told (before k) (after k) (talk_of k (x ∷ [])) (others k h.1 ∙ sym (told_more-nil (before k)) ∙ ap (told_more (before k)) (sym (talk_of-cons_other k x [] (other_slot k i x.slot h.1 s))))
]

-- the same, as what a log grew by
KeepsTalks-grown : (before after : ℕ → Option Talk) (old new : List Logged) (i : ℕ) (x : Logged) → new ≡ old ++ x ∷ [] → x.slot ≡ Some i → (after i ≡ None) ⊎ (after i ≡ told_more (before i) ((x.request, x.reply) ∷ [])) → ((k : ℕ) → k ≢ i → after k ≡ before k) → KeepsTalks before after (growth_of old new)
KeepsTalks-grown before after old new i x e s here others =
    subst (λ (log : List Logged). KeepsTalks before after log) (sym (growth_of-grown old new (x ∷ []) e)) (KeepsTalks-one before after i x s here others)

module _ {X : Type 0} {F : X → Type 0} where
  -- connections of other slots than slot i
  abbrev pub Beside : ℕ → List (Conn X F) → Type 0
  Beside i others = All (λ conn. slot_of conn ≢ i) others

  module _ (talk : DynBox X Global F → Option Talk) (faults : DynBox X Global F → ℕ) where
    -- what is told of slot i, where no connection has it
    told_at-absent : (slots : List (Slot X F)) (others : List (Conn X F)) (i : ℕ) → Beside i others → told_at talk slots others i ≡ talk_at talk slots i
    told_at-absent slots [] i b = refl
    told_at-absent slots (conn ∷ others) i b = elim (eqb_tells (slot_of conn) i) [
      | inl h ↦ absurd (All-head (λ (c : Conn X F). slot_of c ≢ i) conn others b h.1)
      | inr h ↦ ap (λ t. cond t (talk (link_of conn)) (told_at talk slots others i)) h.0 ∙ told_at-absent slots others i (All-tail (λ (c : Conn X F). slot_of c ≢ i) conn others b)
    ]

    -- what is told of a slot whose own link tells the same
    told_at-same : (old new : List (Slot X F)) (others : List (Conn X F)) (i : ℕ) → talk_at talk new i ≡ talk_at talk old i → told_at talk new others i ≡ told_at talk old others i
    told_at-same old new [] i e = e
    told_at-same old new (conn ∷ others) i e = ap (λ t. cond (slot_of conn == i) (talk (link_of conn)) t) (told_at-same old new others i e)

    -- what is told of the slot of the first connection
    told_at-here : (slots : List (Slot X F)) (conn : Conn X F) (others : List (Conn X F)) → told_at talk slots (conn ∷ others) (slot_of conn) ≡ talk (link_of conn)
    told_at-here slots conn others = ap (λ t. cond t (talk (link_of conn)) (told_at talk slots others (slot_of conn))) (eq-eqb (slot_of conn) (slot_of conn) refl)

    -- what is told of another slot
    told_at-there : (slots : List (Slot X F)) (conn : Conn X F) (others : List (Conn X F)) (i : ℕ) → i ≢ slot_of conn → told_at talk slots (conn ∷ others) i ≡ told_at talk slots others i
    told_at-there slots conn others i n = elim (eqb_tells (slot_of conn) i) [
      | inl h ↦ absurd (n (sym h.1))
      | inr h ↦ ap (λ t. cond t (talk (link_of conn)) (told_at talk slots others i)) h.0
    ]

    -- the talk of another slot than the one that was changed
    talk_at-slice_set : (old new : List (Slot X F)) (i k : ℕ) (slot : Slot X F) → new ≡ slice_set old i slot → k ≢ i → talk_at talk new k ≡ talk_at talk old k
    talk_at-slice_set old new i k slot e n = talk_at-same talk faults old new k (ap (λ (slots : List (Slot X F)). slice_get slots k) e ∙ slice_get-slice_set_other old i k slot n)

    -- an exchange that was put over a blank one at the end of the log
    Answers-set : (i : ℕ) (request : Request) (old between new : List Logged) (was now : DynBox X Global F) (blank x : Logged) → between ≡ old ++ blank ∷ [] → new ≡ slice_set between (length between - 1) x → x.slot ≡ Some i → x.request ≡ request → talk now ≡ talk_after (talk was) request x.reply → faults was ≤ faults now → (x.reply ≡ Broken → Rose (faults was) (faults now)) → Answers talk faults i request x.reply old was new now
    Answers-set i request old between new was now blank x b n slot asked told later broken = record {
      logged = log-set old between new blank x b n ∙ ap (λ s. old ++ record { slot = s; request = x.request; reply = x.reply } ∷ []) slot ∙ ap (λ r. old ++ record { slot = Some i; request = r; reply = x.reply } ∷ []) asked;
      told = told;
      later = later;
      broken = broken;
    }

    -- a link that was taken out of the first free slot, and put back
    returned : (target : List ℕ) (old between new : List (Slot X F)) (was now : Conn X F) → TakesFree target old between was → slot_of now ≡ slot_of was → GivesBack between new now → new ≡ slice_set old (slot_of was) (Free target (link_of now))
    returned target old between new was now t slot g =
        let there : slice_get between (slot_of was) ≡ Some (Taken target) = ap (λ slots. slice_get slots (slot_of was)) t.now ∙ slice_get-slice_set old (slot_of was) (Free target (link_of was)) (Taken target) t.was in
        let here : slice_get between (slot_of was) ≡ Some (Taken g.name) = ap (λ i. slice_get between i) (sym slot) ∙ g.was in
        let same : g.name ≡ target = cc in
        g.now ∙ ap (λ i. slice_set between i (Free g.name (link_of now))) slot
        ∙ ap (λ name. slice_set between (slot_of was) (Free name (link_of now))) same
        ∙ ap (λ slots. slice_set slots (slot_of was) (Free target (link_of now))) t.now
        ∙ set-set old (slot_of was) (Taken target) (Free target (link_of now))

    -- a count of faults that stays
    later-same : (o p : Option (DynBox X Global F)) → p ≡ o → IfSome p (λ now. IsSomeAnd o (λ was. faults was ≤ faults now))
    later-same o None e = tt
    later-same None (Some b) e = cc
    later-same (Some a) (Some b) e = let same : b ≡ a = cc in subst (λ (link : DynBox X Global F). faults a ≤ faults link) (sym same) (omega arith)

    -- a count of faults that may have risen
    later-risen : (o p : Option (DynBox X Global F)) (a b : DynBox X Global F) → o ≡ Some a → p ≡ Some b → faults a ≤ faults b → IfSome p (λ now. IsSomeAnd o (λ was. faults was ≤ faults now))
    later-risen o p a b d e le =
        subst (λ (q : Option (DynBox X Global F)). IfSome q (λ now. IsSomeAnd o (λ was. faults was ≤ faults now))) (sym e)
        (subst (λ (q : Option (DynBox X Global F)). IsSomeAnd q (λ was. faults was ≤ faults b)) (sym d) le)

    module _ (request : Request) (old new : Rack X F) where
      -- NoTarget was put over a blank exchange
      pub FindsNone-made : (target : List ℕ) (between : List Logged) (blank : Logged) → target ≡ target_of request → free_slot target (states (slots_of old)) ≡ None → slots_of new ≡ slots_of old → between ≡ log_of old ++ blank ∷ [] → log_of new ≡ slice_set between (length between - 1) (record { slot = None; request = request; reply = NoTarget }) → FindsNone request old new
      FindsNone-made target between blank t none slots b n = record {
        none = ap (λ name. free_slot name (states (slots_of old))) (sym t) ∙ none;
        logged = log-set (log_of old) between (log_of new) blank _ b n;
        slots = slots;
      }

      module _ (target : List ℕ) (free_now : target ≡ target_of request) (mid : List (Slot X F)) (was now : Conn X F) (takes : TakesFree target (slots_of old) mid was) (slot : slot_of now ≡ slot_of was) where
        -- the link was taken out of the first slot that is free for the server of the request
        takes_its : TakesFree (target_of request) (slots_of old) mid was
        takes_its = subst (λ (name : List ℕ). TakesFree name (slots_of old) mid was) free_now takes

        -- the link was asked, and its slot stays taken
        pub Connects-made : (between : List Logged) (blank x : Logged) → slots_of new ≡ mid → between ≡ log_of old ++ blank ∷ [] → log_of new ≡ slice_set between (length between - 1) x → x.slot ≡ Some (slot_of was) → x.request ≡ request → talk (link_of now) ≡ talk_after (talk (link_of was)) request x.reply → faults (link_of was) ≤ faults (link_of now) → (x.reply ≡ Broken → Rose (faults (link_of was)) (faults (link_of now))) → is_connected x.reply ≡ true → Connects talk faults request old new now
        Connects-made between blank x slots b n stands asked told later broken connected =
            let its = takes_its in
            record {
              link = link_of was;
              first = its.first ∙ ap (λ i. Some i) (sym slot);
              was = ap (λ i. slice_get (slots_of old) i) slot ∙ its.was;
              answered = subst (λ (reply : Reply). Answers talk faults (slot_of now) request reply (log_of old) (link_of was) (log_of new) (link_of now)) (connected_reply x.reply connected)
                  (Answers-set (slot_of now) request (log_of old) between (log_of new) (link_of was) (link_of now) blank x b n (stands ∙ ap (λ i. Some i) (sym slot)) asked told later broken);
              now = slots ∙ its.now ∙ ap (λ i. slice_set (slots_of old) i (Taken (target_of request))) (sym slot);
            }

        -- the link was asked, and is back in its slot
        pub Declines-made : (between last : List Logged) (blank x : Logged) → GivesBack mid (slots_of new) now → between ≡ log_of old ++ blank ∷ [] → last ≡ slice_set between (length between - 1) x → log_of new ≡ last → x.slot ≡ Some (slot_of was) → x.request ≡ request → talk (link_of now) ≡ talk_after (talk (link_of was)) request x.reply → faults (link_of was) ≤ faults (link_of now) → (x.reply ≡ Broken → Rose (faults (link_of was)) (faults (link_of now))) → is_connected x.reply ≡ false → Declines talk faults request old new
        Declines-made between last blank x gives b n grown stands asked told later broken other =
            let its = takes_its in
            record {
              slot = slot_of was;
              link = link_of was;
              back = link_of now;
              reply = x.reply;
              first = its.first;
              was = its.was;
              answered = Answers-set (slot_of was) request (log_of old) between (log_of new) (link_of was) (link_of now) blank x b (grown ∙ n) stands asked told later broken;
              declined = other_reply x.reply other;
              now = returned (target_of request) (slots_of old) mid (slots_of new) was now its slot gives;
            }

        -- the link had no memory to be asked, and is back in its slot
        pub Unsaid-made : GivesBack mid (slots_of new) now → log_of new ≡ log_of old → talk (link_of now) ≡ talk (link_of was) → faults (link_of was) ≤ faults (link_of now) → Unsaid talk faults request old new
        Unsaid-made gives log told later =
            let its = takes_its in
            let is : slots_of new ≡ slice_set (slots_of old) (slot_of was) (Free (target_of request) (link_of now)) = returned (target_of request) (slots_of old) mid (slots_of new) was now its slot gives in
            let there : slice_get (slots_of new) (slot_of was) ≡ Some (Free (target_of request) (link_of now)) = ap (λ (slots : List (Slot X F)). slice_get slots (slot_of was)) is ∙ slice_get-slice_set (slots_of old) (slot_of was) (Free (target_of request) (link_of was)) (Free (target_of request) (link_of now)) its.was in
            record {
              log = log;
              slots = ap states is ∙ states-slice_set (slots_of old) (slot_of was) (Free (target_of request) (link_of now))
                  ∙ slice_set-same (states (slots_of old)) (slot_of was) (free (target_of request)) (slice_get-states (slots_of old) (slot_of was) (Free (target_of request) (link_of was)) its.was);
              told = λ i. elim (eqb_tells i (slot_of was)) [
                | inl h ↦ subst (λ (k : ℕ). talk_at talk (slots_of new) k ≡ talk_at talk (slots_of old) k) (sym h.1)
                    (talk_at-slot talk faults (slots_of new) (slot_of was) (Free (target_of request) (link_of now)) there ∙ told ∙ sym (talk_at-slot talk faults (slots_of old) (slot_of was) (Free (target_of request) (link_of was)) its.was))
                | inr h ↦ talk_at-slice_set (slots_of old) (slots_of new) (slot_of was) i (Free (target_of request) (link_of now)) is h.1
              ];
              later = λ i. elim (eqb_tells i (slot_of was)) [
                | inl h ↦ subst (λ (k : ℕ). IfSome (link_at (slots_of new) k) (λ n. IsSomeAnd (link_at (slots_of old) k) (λ w. faults w ≤ faults n))) (sym h.1)
                    (later-risen (link_at (slots_of old) (slot_of was)) (link_at (slots_of new) (slot_of was)) (link_of was) (link_of now) (ap (option_and_then link_in) its.was) (ap (option_and_then link_in) there) later)
                | inr h ↦ later-same (link_at (slots_of old) i) (link_at (slots_of new) i) (ap (option_and_then link_in) (ap (λ (slots : List (Slot X F)). slice_get slots i) is ∙ slice_get-slice_set_other (slots_of old) (slot_of was) i (Free (target_of request) (link_of now)) h.1))
              ];
              others = λ i other. ap (λ (slots : List (Slot X F)). slice_get slots i) is
                  ∙ slice_get-slice_set_other (slots_of old) (slot_of was) i (Free (target_of request) (link_of now)) (λ same. other (its.first ∙ ap (λ k. Some k) (sym same)));
            }

      -- a Connect that no slot is free for
      Slots-FindsNone : IsConnect request → FindsNone request old new → Slots (states (slots_of old)) (growth_of (log_of old) (log_of new)) (states (slots_of new))
      Slots-FindsNone c h = Slots-grown (states (slots_of old)) (states (slots_of new)) (log_of old) (log_of new) _ h.logged (Exchanged-none (states (slots_of old)) (states (slots_of new)) request c h.none (ap states h.slots))

      KeepsTalks-FindsNone : (others : List (Conn X F)) → FindsNone request old new → KeepsTalks (told_at talk (slots_of old) others) (told_at talk (slots_of new) others) (growth_of (log_of old) (log_of new))
      KeepsTalks-FindsNone others h =
          let x : Logged = record { slot = None; request = request; reply = NoTarget } in
          subst (λ (log : List Logged). KeepsTalks (told_at talk (slots_of old) others) (told_at talk (slots_of new) others) log) (sym (growth_of-grown (log_of old) (log_of new) (x ∷ []) h.logged))
          (KeepsTalks-told (told_at talk (slots_of old) others) (told_at talk (slots_of new) others) (x ∷ []) (λ i.
          ap (λ (slots : List (Slot X F)). told_at talk slots others i) h.slots ∙ sym (told_more-nil (told_at talk (slots_of old) others i))))

      last-FindsNone : FindsNone request old new → last_reply_of (log_of new) ≡ Some NoTarget
      last-FindsNone h = ap last_reply_of h.logged ∙ last_reply_of-append (log_of old) _

      -- a Connect that opened a connection
      module _ (conn : Conn X F) (h : Connects talk faults request old new conn) where
        pub states-Connects : states (slots_of new) ≡ slice_set (states (slots_of old)) (slot_of conn) (taken (target_of request))
        states-Connects = ap states h.now ∙ states-slice_set (slots_of old) (slot_of conn) (Taken (target_of request))

        pub TakenAt-Connects : TakenAt (states (slots_of new)) (slot_of conn)
        TakenAt-Connects = (
          target_of request,
          ap (λ (slots : List SlotState). slice_get slots (slot_of conn)) states-Connects
              ∙ slice_get-slice_set (states (slots_of old)) (slot_of conn) (free (target_of request)) (taken (target_of request)) (slice_get-states (slots_of old) (slot_of conn) (Free (target_of request) h.link) h.was),
        )

        -- other taken slots stay taken
        pub TakenAt-Connects_other : (i : ℕ) → i ≢ slot_of conn → TakenAt (states (slots_of old)) i → TakenAt (states (slots_of new)) i
        TakenAt-Connects_other i n t = (t.0, ap (λ (slots : List SlotState). slice_get slots i) states-Connects ∙ slice_get-slice_set_other (states (slots_of old)) (slot_of conn) i (taken (target_of request)) n ∙ t.1)

        pub Slots-Connects : IsConnect request → Slots (states (slots_of old)) (growth_of (log_of old) (log_of new)) (states (slots_of new))
        Slots-Connects c = Slots-grown (states (slots_of old)) (states (slots_of new)) (log_of old) (log_of new) _ h.answered.logged
            (Exchanged-found (states (slots_of old)) (states (slots_of new)) (slot_of conn) request Connected c h.first states-Connects)

        pub KeepsTalks-Connects : (others : List (Conn X F)) → Beside (slot_of conn) others → KeepsTalks (told_at talk (slots_of old) others) (told_at talk (slots_of new) (conn ∷ others)) (growth_of (log_of old) (log_of new))
        KeepsTalks-Connects others b =
            let was : told_at talk (slots_of old) others (slot_of conn) ≡ talk h.link = told_at-absent (slots_of old) others (slot_of conn) b ∙ talk_at-slot talk faults (slots_of old) (slot_of conn) (Free (target_of request) h.link) h.was in
            KeepsTalks-grown (told_at talk (slots_of old) others) (told_at talk (slots_of new) (conn ∷ others)) (log_of old) (log_of new) (slot_of conn) _ h.answered.logged refl
            (inr (told_at-here (slots_of new) conn others ∙ h.answered.told ∙ ap (λ t. told_more t ((request, Connected) ∷ [])) (sym was)))
            (λ k n. told_at-there (slots_of new) conn others k n ∙ told_at-same (slots_of old) (slots_of new) others k (talk_at-slice_set (slots_of old) (slots_of new) (slot_of conn) k (Taken (target_of request)) h.now n))

        pub last-Connects : last_reply_of (log_of new) ≡ Some Connected
        last-Connects = ap last_reply_of h.answered.logged ∙ last_reply_of-append (log_of old) _

      -- a Connect that opened none
      module _ (h : Declines talk faults request old new) where
        states-Declines : states (slots_of new) ≡ states (slots_of old)
        states-Declines = ap states h.now ∙ states-slice_set (slots_of old) h.slot (Free (target_of request) h.back)
            ∙ slice_set-same (states (slots_of old)) h.slot (free (target_of request)) (slice_get-states (slots_of old) h.slot (Free (target_of request) h.link) h.was)

        Slots-Declines : IsConnect request → Slots (states (slots_of old)) (growth_of (log_of old) (log_of new)) (states (slots_of new))
        Slots-Declines c = Slots-grown (states (slots_of old)) (states (slots_of new)) (log_of old) (log_of new) _ h.answered.logged
            (Exchanged-found (states (slots_of old)) (states (slots_of new)) h.slot request h.reply c h.first
            (states-Declines ∙ sym (ap (λ t. cond t (slice_set (states (slots_of old)) h.slot (taken (target_of request))) (states (slots_of old))) (not_connected h.reply h.declined))))

        KeepsTalks-Declines : (others : List (Conn X F)) → Beside h.slot others → KeepsTalks (told_at talk (slots_of old) others) (told_at talk (slots_of new) others) (growth_of (log_of old) (log_of new))
        KeepsTalks-Declines others b =
            let was : told_at talk (slots_of old) others h.slot ≡ talk h.link = told_at-absent (slots_of old) others h.slot b ∙ talk_at-slot talk faults (slots_of old) h.slot (Free (target_of request) h.link) h.was in
            let there : slice_get (slots_of new) h.slot ≡ Some (Free (target_of request) h.back) = ap (λ (slots : List (Slot X F)). slice_get slots h.slot) h.now ∙ slice_get-slice_set (slots_of old) h.slot (Free (target_of request) h.link) (Free (target_of request) h.back) h.was in
            let now : told_at talk (slots_of new) others h.slot ≡ talk h.back = told_at-absent (slots_of new) others h.slot b ∙ talk_at-slot talk faults (slots_of new) h.slot (Free (target_of request) h.back) there in
            KeepsTalks-grown (told_at talk (slots_of old) others) (told_at talk (slots_of new) others) (log_of old) (log_of new) h.slot _ h.answered.logged refl
            (inr (now ∙ h.answered.told ∙ ap (λ t. told_more t ((request, h.reply) ∷ [])) (sym was)))
            (λ k n. told_at-same (slots_of old) (slots_of new) others k (talk_at-slice_set (slots_of old) (slots_of new) h.slot k (Free (target_of request) h.back) h.now n))

        last-Declines : IsSomeAnd (last_reply_of (log_of new)) (λ reply. reply ≢ Connected)
        last-Declines = subst (λ (o : Option Reply). IsSomeAnd o (λ reply. reply ≢ Connected)) (sym (ap last_reply_of h.answered.logged ∙ last_reply_of-append (log_of old) _)) h.declined

      -- a Connect that opened no connection, for either reason
      pub Slots-OpensNone : IsConnect request → OpensNone talk faults request old new → Slots (states (slots_of old)) (growth_of (log_of old) (log_of new)) (states (slots_of new))
      Slots-OpensNone c (inl h) = Slots-FindsNone c h
      Slots-OpensNone c (inr h) = Slots-Declines h c

      pub KeepsTalks-OpensNone : (others : List (Conn X F)) → ((i : ℕ) → free_slot (target_of request) (states (slots_of old)) ≡ Some i → Beside i others) → OpensNone talk faults request old new → KeepsTalks (told_at talk (slots_of old) others) (told_at talk (slots_of new) others) (growth_of (log_of old) (log_of new))
      KeepsTalks-OpensNone others b (inl h) = KeepsTalks-FindsNone others h
      KeepsTalks-OpensNone others b (inr h) = KeepsTalks-Declines h others (b h.slot h.first)

      pub last-OpensNone : OpensNone talk faults request old new → IsSomeAnd (last_reply_of (log_of new)) (λ reply. reply ≢ Connected)
      last-OpensNone (inl h) = subst (λ (o : Option Reply). IsSomeAnd o (λ reply. reply ≢ Connected)) (sym (last-FindsNone h)) (λ e. cc)
      last-OpensNone (inr h) = last-Declines h

      pub states-OpensNone : OpensNone talk faults request old new → states (slots_of new) ≡ states (slots_of old)
      states-OpensNone (inl h) = ap states h.slots
      states-OpensNone (inr h) = states-Declines h

      -- a Connect without memory
      module _ (h : Unsaid talk faults request old new) where
        pub Slots-Unsaid : Slots (states (slots_of old)) (growth_of (log_of old) (log_of new)) (states (slots_of new))
        Slots-Unsaid = Slots-same (states (slots_of old)) (states (slots_of new)) (log_of old) (log_of new) h.log h.slots

        pub KeepsTalks-Unsaid : (others : List (Conn X F)) → KeepsTalks (told_at talk (slots_of old) others) (told_at talk (slots_of new) others) (growth_of (log_of old) (log_of new))
        KeepsTalks-Unsaid others =
            subst (λ (log : List Logged). KeepsTalks (told_at talk (slots_of old) others) (told_at talk (slots_of new) others) log) (sym (growth_of-same (log_of old) (log_of new) h.log))
            (KeepsTalks-same (told_at talk (slots_of old) others) (told_at talk (slots_of new) others) (λ i. told_at-same (slots_of old) (slots_of new) others i (h.told i)))

    -- the link of a connection was asked to close it, and its slot is dropped
    pub Closes-made : (old : Rack X F) (conn : Conn X F) (new : Rack X F) (now : Conn X F) (between last : List Logged) (blank x : Logged) → DropsSlot (slot_of now) (slots_of old) (slots_of new) → slot_of now ≡ slot_of conn → between ≡ log_of old ++ blank ∷ [] → last ≡ slice_set between (length between - 1) x → log_of new ≡ last → x.slot ≡ Some (slot_of conn) → x.request ≡ Close → talk (link_of now) ≡ talk_after (talk (link_of conn)) Close x.reply → faults (link_of conn) ≤ faults (link_of now) → (x.reply ≡ Broken → Rose (faults (link_of conn)) (faults (link_of now))) → Closes talk faults old conn new
    Closes-made old conn new now between last blank x drops slot b n grown stands asked told later broken = record {
      link = link_of now;
      reply = x.reply;
      answered = Answers-set (slot_of conn) Close (log_of old) between (log_of new) (link_of conn) (link_of now) blank x b (grown ∙ n) stands asked told later broken;
      dropped = subst (λ (i : ℕ). DropsSlot i (slots_of old) (slots_of new)) slot drops;
    }

    -- a connection that was closed
    module _ (old : Rack X F) (conn : Conn X F) (new : Rack X F) (h : Closes talk faults old conn new) where
      pub states-Closes : states (slots_of new) ≡ slice_set (states (slots_of old)) (slot_of conn) (dropped h.dropped.name)
      states-Closes = ap states h.dropped.now ∙ states-slice_set (slots_of old) (slot_of conn) (Dropped h.dropped.name)

      -- other taken slots stay taken
      pub TakenAt-Closes : (i : ℕ) → i ≢ slot_of conn → TakenAt (states (slots_of old)) i → TakenAt (states (slots_of new)) i
      TakenAt-Closes i n t = (t.0, ap (λ (slots : List SlotState). slice_get slots i) states-Closes ∙ slice_get-slice_set_other (states (slots_of old)) (slot_of conn) i (dropped h.dropped.name) n ∙ t.1)

      pub Slots-Closes : Slots (states (slots_of old)) (growth_of (log_of old) (log_of new)) (states (slots_of new))
      Slots-Closes = Slots-grown (states (slots_of old)) (states (slots_of new)) (log_of old) (log_of new) _ h.answered.logged
          (h.dropped.name, slice_get-states (slots_of old) (slot_of conn) (Taken h.dropped.name) h.dropped.was, states-Closes)

      pub KeepsTalks-Closes : (others : List (Conn X F)) → Beside (slot_of conn) others → KeepsTalks (told_at talk (slots_of old) (conn ∷ others)) (told_at talk (slots_of new) others) (growth_of (log_of old) (log_of new))
      KeepsTalks-Closes others b =
          let there : slice_get (slots_of new) (slot_of conn) ≡ Some (Dropped h.dropped.name) = ap (λ (slots : List (Slot X F)). slice_get slots (slot_of conn)) h.dropped.now ∙ slice_get-slice_set (slots_of old) (slot_of conn) (Taken h.dropped.name) (Dropped h.dropped.name) h.dropped.was in
          KeepsTalks-grown (told_at talk (slots_of old) (conn ∷ others)) (told_at talk (slots_of new) others) (log_of old) (log_of new) (slot_of conn) _ h.answered.logged refl
          (inl (told_at-absent (slots_of new) others (slot_of conn) b ∙ talk_at-slot talk faults (slots_of new) (slot_of conn) (Dropped h.dropped.name) there))
          (λ k n. told_at-same (slots_of old) (slots_of new) others k (talk_at-slice_set (slots_of old) (slots_of new) (slot_of conn) k (Dropped h.dropped.name) h.dropped.now n) ∙ sym (told_at-there (slots_of old) conn others k n))
