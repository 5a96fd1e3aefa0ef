-- Slots that others have taken stay so, whatever is said over one's own connections.
use Rattle.std.proofs.Common.{◌≡◌, ◌≢◌, ◌∙◌, ◌==◌, ◌⊎◌, inl, inr, refl, sym, ap, subst, arith, ℕ, zero, suc, Bool, true, false, List, [], ◌∷◌, ◌++◌, map, Option, Some, None}
use Rattle.std.specs.Prelude.{if◌then◌else◌, IsSomeAnd, Contains, filter, not, slice_get, slice_set}
use Rattle.std.proofs.lemmas.Bool.Decides.{eqb_tells}
use Rattle.std.specs.declared.alloc.Global.{Global}
use Rattle.std.specs.declared.dyn_box.DynBox.{DynBox}
use Rattle.ec_link.specs.declared.connection.Conn.{Conn}
use Rattle.ec_link.specs.declared.logged.Logged.{Logged}
use Rattle.ec_link.specs.declared.rack.Rack.{Rack}
use Rattle.ec_link.specs.declared.reply.Reply.{Reply}
use Rattle.ec_link.specs.declared.request.Request.{Request}
use Rattle.ec_link.specs.declared.request.Request.TheVariants as request
use Rattle.ec_link.specs.declared.slot.Slot.{Slot}
use Rattle.ec_link.specs.declared.slot.Slot.TheVariants as slot
use Rattle.ec_link.specs.Conn.{slot_of}
use Rattle.ec_link.specs.Logged.{IsConnect, Talk, is_slot, talk_of}
use Rattle.ec_link.specs.Rack.{slots_of}
use Rattle.ec_link.specs.Reply.{is_connected}
use Rattle.ec_link.specs.Slot.{states}
use Rattle.ec_link.specs.SlotState.{Exchanged, SlotState, Slots, TakenAt, dropped, free_slot, taken}
use Rattle.ec_link.proofs.Opening.{taken_apart}
use Rattle.ec_link.proofs.Places.{slice_get-slice_set, slice_get-slice_set_other}
use Rattle.ec_link.proofs.Ready.{taken-found}
use Rattle.ec_runtime.specs.Racks.{AllOwn, Beside, HasOther, Moves, open_behind, open_in}

-- ---- numbers of slots

-- a slot isn't one of these
abbrev pub Apart : ℕ → List ℕ → Type 0
Apart i [] = Unit {0}
Apart i (k ∷ slots) = (k ≢ i) × Apart i slots

not_among : (i : ℕ) (slots : List ℕ) → Apart i slots → Contains slots i → ⊥
not_among i [] a (k, lt, e) = absurd (omega (arith, lt))
not_among i (n ∷ slots) a (zero, lt, e) = a.0 e
not_among i (n ∷ slots) a (suc k, lt, e) = not_among i slots a.1 (k, omega (arith, lt), e)

apart_more : (i k : ℕ) (slots : List ℕ) → k ≢ i → Apart i slots → Apart i (slots ++ k ∷ [])
apart_more i k [] n a = (n, tt)
apart_more i k (j ∷ slots) n a = (a.0, apart_more i k slots n a.1)

apart_first : (i k : ℕ) (slots : List ℕ) → Apart i (slots ++ k ∷ []) → Apart i slots × (k ≢ i)
apart_first i k [] a = (tt, a.0)
apart_first i k (j ∷ slots) a = let r = apart_first i k slots a.1 in ((a.0, r.0), r.1)

-- the first one is kept or left out by this test
by_test : (b : Bool) (i j : ℕ) (rest : List ℕ) → j ≢ i → Apart i rest → Apart i (if b then j ∷ rest else rest)
by_test true i j rest n a = (n, a)
by_test false i j rest n a = a

apart_less : (i k : ℕ) (slots : List ℕ) → Apart i slots → Apart i (filter (λ j. not (j == k)) slots)
apart_less i k [] a = tt
apart_less i k (j ∷ slots) a = by_test (not (j == k)) i j (filter (λ n. not (n == k)) slots) a.0 (apart_less i k slots a.1)

-- it was left out, or it is another one
was_kept : (i k j : ℕ) (rest : List ℕ) → k ≢ i → Apart i (if not (j == k) then j ∷ rest else rest) → (j ≢ i) × Apart i rest
was_kept i k j rest n a = elim (eqb_tells j k) [
  | inl e ↦ ((λ s. n (sym e.1 ∙ s)), subst (λ b. Apart i (if not b then j ∷ rest else rest)) e.0 a)
  | inr m ↦ let there = subst (λ b. Apart i (if not b then j ∷ rest else rest)) m.0 a in (there.0, there.1)
]

apart_before : (i k : ℕ) (slots : List ℕ) → k ≢ i → Apart i (filter (λ j. not (j == k)) slots) → Apart i slots
apart_before i k [] n a = tt
apart_before i k (j ∷ slots) n a =
    let r = was_kept i k j (filter (λ m. not (m == k)) slots) n a in
    (r.0, apart_before i k slots n r.1)

-- ---- one exchange

-- over slot k, where i is another one
module _ (i k : ℕ) (n : k ≢ i) where
  kept_set : (before : List SlotState) (s : SlotState) → slice_get (slice_set before k s) i ≡ slice_get before i
  kept_set before s = slice_get-slice_set_other before k i s (λ e. n (sym e))

  kept_opened : (b : Bool) (before after : List SlotState) (target : List ℕ) → after ≡ (if b then slice_set before k (taken target) else before) → slice_get after i ≡ slice_get before i
  kept_opened true before after target e = ap (λ (l : List SlotState). slice_get l i) e ∙ kept_set before (taken target)
  kept_opened false before after target e = ap (λ (l : List SlotState). slice_get l i) e

  kept_at : (before after : List SlotState) (r : Request) (reply : Reply) → Exchanged before (Some k) r reply after → slice_get after i ≡ slice_get before i
  kept_at before after (request.Connect target user password) reply x = kept_opened (is_connected reply) before after target x.1
  kept_at before after (request.Text text params) reply x = ap (λ (l : List SlotState). slice_get l i) x.1
  kept_at before after (request.Prepare name text) reply x = ap (λ (l : List SlotState). slice_get l i) x.1
  kept_at before after (request.Exec name params) reply x = ap (λ (l : List SlotState). slice_get l i) x.1
  kept_at before after (request.Deallocate name) reply x = ap (λ (l : List SlotState). slice_get l i) x.1
  kept_at before after request.Close reply x = ap (λ (l : List SlotState). slice_get l i) x.2 ∙ kept_set before (dropped x.0)

  apart_opened : (b : Bool) (slots : List ℕ) → Apart i slots → Apart i (if b then slots ++ k ∷ [] else slots)
  apart_opened true slots a = apart_more i k slots n a
  apart_opened false slots a = a

  apart_behind : (r : Request) (reply : Reply) (slots : List ℕ) → Apart i slots → Apart i (open_behind (Some k) r reply slots)
  apart_behind (request.Connect target user password) reply slots a = apart_opened (is_connected reply) slots a
  apart_behind (request.Text text params) reply slots a = a
  apart_behind (request.Prepare name text) reply slots a = a
  apart_behind (request.Exec name params) reply slots a = a
  apart_behind (request.Deallocate name) reply slots a = a
  apart_behind request.Close reply slots a = apart_less i k slots a

  was_apart_opened : (b : Bool) (slots : List ℕ) → Apart i (if b then slots ++ k ∷ [] else slots) → Apart i slots
  was_apart_opened true slots a = (apart_first i k slots a).0
  was_apart_opened false slots a = a

  was_apart : (r : Request) (reply : Reply) (slots : List ℕ) → Apart i (open_behind (Some k) r reply slots) → Apart i slots
  was_apart (request.Connect target user password) reply slots a = was_apart_opened (is_connected reply) slots a
  was_apart (request.Text text params) reply slots a = a
  was_apart (request.Prepare name text) reply slots a = a
  was_apart (request.Exec name params) reply slots a = a
  was_apart (request.Deallocate name) reply slots a = a
  was_apart request.Close reply slots a = apart_before i k slots n a

-- over no slot nothing changes
none_kept : (before after : List SlotState) (r : Request) (reply : Reply) → Exchanged before None r reply after → after ≡ before
none_kept before after (request.Connect target user password) reply x = x.2
none_kept before after (request.Text text params) reply x = absurd x
none_kept before after (request.Prepare name text) reply x = absurd x
none_kept before after (request.Exec name params) reply x = absurd x
none_kept before after (request.Deallocate name) reply x = absurd x
none_kept before after request.Close reply x = absurd x

-- a slot that was taken, of none of one's own connections, isn't that of an exchange
own_apart : (i k : ℕ) (before after : List SlotState) (r : Request) (reply : Reply) (slots : List ℕ) → TakenAt before i → Apart i slots → IsConnect r ⊎ Contains slots k → Exchanged before (Some k) r reply after → k ≢ i
own_apart i k before after (request.Connect target user password) reply slots t a own x = λ e. taken_apart before target k i x.0 t (sym e)
own_apart i k before after (request.Text text params) reply slots t a (inl c) x = absurd c
own_apart i k before after (request.Text text params) reply slots t a (inr c) x = λ e. not_among i slots a (subst (Contains slots) e c)
own_apart i k before after (request.Prepare name text) reply slots t a (inl c) x = absurd c
own_apart i k before after (request.Prepare name text) reply slots t a (inr c) x = λ e. not_among i slots a (subst (Contains slots) e c)
own_apart i k before after (request.Exec name params) reply slots t a (inl c) x = absurd c
own_apart i k before after (request.Exec name params) reply slots t a (inr c) x = λ e. not_among i slots a (subst (Contains slots) e c)
own_apart i k before after (request.Deallocate name) reply slots t a (inl c) x = absurd c
own_apart i k before after (request.Deallocate name) reply slots t a (inr c) x = λ e. not_among i slots a (subst (Contains slots) e c)
own_apart i k before after request.Close reply slots t a (inl c) x = absurd c
own_apart i k before after request.Close reply slots t a (inr c) x = λ e. not_among i slots a (subst (Contains slots) e c)

-- one that is taken behind it, of none of one's own connections then, isn't that of it either
opened_apart : (i k : ℕ) (b : Bool) (before after : List SlotState) (target : List ℕ) (slots : List ℕ) → TakenAt after i → Apart i (if b then slots ++ k ∷ [] else slots) → free_slot target before ≡ Some k → after ≡ (if b then slice_set before k (taken target) else before) → k ≢ i
opened_apart i k true before after target slots t a f e = (apart_first i k slots a).1
opened_apart i k false before after target slots t a f e = λ s. taken_apart before target k i f (subst (λ l. TakenAt l i) e t) (sym s)

behind_apart : (i k : ℕ) (before after : List SlotState) (r : Request) (reply : Reply) (slots : List ℕ) → TakenAt after i → Apart i (open_behind (Some k) r reply slots) → IsConnect r ⊎ Contains slots k → Exchanged before (Some k) r reply after → k ≢ i
behind_apart i k before after (request.Connect target user password) reply slots t a own x = opened_apart i k (is_connected reply) before after target slots t a x.0 x.1
behind_apart i k before after (request.Text text params) reply slots t a (inl c) x = absurd c
behind_apart i k before after (request.Text text params) reply slots t a (inr c) x = λ e. not_among i slots a (subst (Contains slots) e c)
behind_apart i k before after (request.Prepare name text) reply slots t a (inl c) x = absurd c
behind_apart i k before after (request.Prepare name text) reply slots t a (inr c) x = λ e. not_among i slots a (subst (Contains slots) e c)
behind_apart i k before after (request.Exec name params) reply slots t a (inl c) x = absurd c
behind_apart i k before after (request.Exec name params) reply slots t a (inr c) x = λ e. not_among i slots a (subst (Contains slots) e c)
behind_apart i k before after (request.Deallocate name) reply slots t a (inl c) x = absurd c
behind_apart i k before after (request.Deallocate name) reply slots t a (inr c) x = λ e. not_among i slots a (subst (Contains slots) e c)
behind_apart i k before after request.Close reply slots t a own x = λ e. dropped_taken k before after x.0 x.1 x.2 (subst (TakenAt after) (sym e) t)
  where
    dropped_taken : (k : ℕ) (before after : List SlotState) (name : List ℕ) → slice_get before k ≡ Some (taken name) → after ≡ slice_set before k (dropped name) → TakenAt after k → ⊥
    dropped_taken k before after name was now t =
        let here : slice_get after k ≡ Some (dropped name) = ap (λ (l : List SlotState). slice_get l k) now ∙ slice_get-slice_set before k (taken name) (dropped name) was in
        let other : Some (dropped name) ≡ Some (taken t.0) = sym here ∙ t.1 in
        cc

-- ---- logs

talk_apart : (i k : ℕ) (x : Logged) (log : List Logged) → x.slot ≡ Some k → k ≢ i → talk_of i log ≡ [] → talk_of i (x ∷ log) ≡ []
talk_apart i k x log e n t = elim (eqb_tells k i) [
  | inl s ↦ absurd (n s.1)
  | inr m ↦ (λ j. talk_with (is_slot i (e j))) ∙ ap talk_with m.0 ∙ t
]
  where
    talk_with : Bool → Talk
    talk_with b = map (λ y. (y.request, y.reply)) (if b then x ∷ filter (λ y. is_slot i y.slot) log else filter (λ y. is_slot i y.slot) log)

talk_none : (i : ℕ) (x : Logged) (log : List Logged) → x.slot ≡ None → talk_of i log ≡ [] → talk_of i (x ∷ log) ≡ []
talk_none i x log e t = (λ j. talk_with (is_slot i (e j))) ∙ t
  where
    talk_with : Bool → Talk
    talk_with b = map (λ y. (y.request, y.reply)) (if b then x ∷ filter (λ y. is_slot i y.slot) log else filter (λ y. is_slot i y.slot) log)

-- what an exchange that is one's own tells of a slot of others
pub record Spared (i : ℕ) (x : Logged) (before between : List SlotState) (slots : List ℕ) : Type 0 where
  pub untold : (log : List Logged) → talk_of i log ≡ [] → talk_of i (x ∷ log) ≡ []
  pub same : slice_get between i ≡ slice_get before i
  pub apart : Apart i slots → Apart i (open_behind x.slot x.request x.reply slots)
  pub was_apart : Apart i (open_behind x.slot x.request x.reply slots) → Apart i slots

spared_none : (i : ℕ) (x : Logged) (before between : List SlotState) (slots : List ℕ) → x.slot ≡ None → Exchanged before x.slot x.request x.reply between → Spared i x before between slots
spared_none i x before between slots e h = record {
  untold = λ log t. talk_none i x log e t;
  same = ap (λ (l : List SlotState). slice_get l i) (none_kept before between x.request x.reply (subst (λ s. Exchanged before s x.request x.reply between) e h));
  apart = λ a. subst (λ s. Apart i (open_behind s x.request x.reply slots)) (sym e) a;
  was_apart = λ a. subst (λ s. Apart i (open_behind s x.request x.reply slots)) e a;
}

spared_some : (i k : ℕ) (x : Logged) (before between : List SlotState) (slots : List ℕ) → x.slot ≡ Some k → k ≢ i → Exchanged before x.slot x.request x.reply between → Spared i x before between slots
spared_some i k x before between slots e n h = record {
  untold = λ log t. talk_apart i k x log e n t;
  same = kept_at i k n before between x.request x.reply (subst (λ s. Exchanged before s x.request x.reply between) e h);
  apart = λ a. subst (λ s. Apart i (open_behind s x.request x.reply slots)) (sym e) (apart_behind i k n x.request x.reply slots a);
  was_apart = λ a. was_apart i k n x.request x.reply slots (subst (λ s. Apart i (open_behind s x.request x.reply slots)) e a);
}

-- the exchange is one's own
abbrev Own : Logged → List ℕ → Type 0
Own x slots = IsConnect x.request ⊎ IsSomeAnd x.slot (λ i. Contains slots i)

over_own : (k : ℕ) (x : Logged) (slots : List ℕ) → x.slot ≡ Some k → Own x slots → IsConnect x.request ⊎ Contains slots k
over_own k x slots e (inl c) = inl c
over_own k x slots e (inr c) = inr (subst (λ s. IsSomeAnd s (λ i. Contains slots i)) e c)

spared_before : (i : ℕ) (o : Option ℕ) (x : Logged) (before between : List SlotState) (slots : List ℕ) → x.slot ≡ o → TakenAt before i → Apart i slots → Own x slots → Exchanged before x.slot x.request x.reply between → Spared i x before between slots
spared_before i None x before between slots e t a own h = spared_none i x before between slots e h
spared_before i (Some k) x before between slots e t a own h =
    spared_some i k x before between slots e (own_apart i k before between x.request x.reply slots t a (over_own k x slots e own) (subst (λ s. Exchanged before s x.request x.reply between) e h)) h

spared_behind : (i : ℕ) (o : Option ℕ) (x : Logged) (before between : List SlotState) (slots : List ℕ) → x.slot ≡ o → TakenAt between i → Apart i (open_behind x.slot x.request x.reply slots) → Own x slots → Exchanged before x.slot x.request x.reply between → Spared i x before between slots
spared_behind i None x before between slots e t a own h = spared_none i x before between slots e h
spared_behind i (Some k) x before between slots e t a own h =
    spared_some i k x before between slots e (behind_apart i k before between x.request x.reply slots t (subst (λ s. Apart i (open_behind s x.request x.reply slots)) e a) (over_own k x slots e own) (subst (λ s. Exchanged before s x.request x.reply between) e h)) h

-- nothing is said over a slot that others took before
pub untold : (i : ℕ) (log : List Logged) (before after : List SlotState) (slots : List ℕ) → TakenAt before i → Apart i slots → AllOwn slots log → Slots before log after → talk_of i log ≡ []
untold i [] before after slots t a own h = refl
untold i (x ∷ log) before after slots t a own (between, e, rest) =
    let s = spared_before i x.slot x before between slots refl t a own.0 e in
    s.untold log (untold i log between after (open_behind x.slot x.request x.reply slots) (t.0, s.same ∙ t.1) (s.apart a) own.1 rest)

-- and one that others hold behind it was theirs before
pub held_before : (i : ℕ) (log : List Logged) (before after : List SlotState) (slots : List ℕ) → TakenAt after i → Apart i (open_in slots log) → AllOwn slots log → Slots before log after → TakenAt before i × Apart i slots
held_before i [] before after slots t a own h = (subst (λ l. TakenAt l i) h t, a)
held_before i (x ∷ log) before after slots t a own (between, e, rest) =
    let r = held_before i log between after (open_behind x.slot x.request x.reply slots) t a own.1 rest in
    let s = spared_behind i x.slot x before between slots refl r.0 r.1 own.0 e in
    ((r.0.0, sym s.same ∙ r.0.1), s.was_apart r.1)

-- ---- racks

module _ {X : Type 0} {F : X → Type 0} where
  apart_of : (i : ℕ) (conns : List (Conn X F)) → Beside i conns → Apart i (map slot_of conns)
  apart_of i [] b = tt
  apart_of i (conn ∷ conns) b = (b.0, apart_of i conns b.1)

  beside_of : (i : ℕ) (conns : List (Conn X F)) → Apart i (map slot_of conns) → Beside i conns
  beside_of i [] a = tt
  beside_of i (conn ∷ conns) a = (a.0, beside_of i conns a.1)

  not_free : (i : ℕ) (old new : List (Slot X F)) → TakenAt (states old) i → HasOther (slice_get old i) (slice_get new i) → ⊥
  not_free i old new t h =
      let is : slot.Free h.name h.link ≡ slot.Taken t.0 = taken-found old i (slot.Free h.name h.link) t h.was in
      cc

  module _ (talk : DynBox X Global F → Option Talk) (faults : DynBox X Global F → ℕ) (old new : Rack X F) (was now : List (Conn X F)) (growth : List Logged) (m : Moves talk faults old was new now growth) where
    -- a slot that others took is as it was
    pub others_stay : (i : ℕ) → TakenAt (states (slots_of old)) i → Beside i was → Beside i now × (slice_get (slots_of new) i ≡ slice_get (slots_of old) i)
    others_stay i t b =
        let r = m.others i b (untold i growth (states (slots_of old)) (states (slots_of new)) (map slot_of was) t (apart_of i was b) m.own m.exchanged) in (
          r.0,
          elim r.1 [
            | inl e ↦ e
            | inr h ↦ absurd (not_free i (slots_of old) (slots_of new) t h)
          ],
        )

    -- and there are no more of them
    pub others_were : (i : ℕ) → TakenAt (states (slots_of new)) i → Beside i now → TakenAt (states (slots_of old)) i × Beside i was
    others_were i t b =
        let r = held_before i growth (states (slots_of old)) (states (slots_of new)) (map slot_of was) t (subst (Apart i) m.opened (apart_of i now b)) m.own m.exchanged in
        (r.0, beside_of i was r.1)
