-- The first ready slot, by its place.
use Rattle.std.proofs.Common.{◌≡◌, ℕ, suc, ◌+◌, ◌<◌, ◌≤◌, Bool, true, cond, Option, Some, None, List, [], ◌∷◌, length, get_or, drop, slice_get, slice_set, option_map, refl, sym, ap, ◌∙◌, arith, add-zero, add-one}
use Rattle.std.specs.List.{position_from}
use Rattle.std.proofs.lemmas.List.{at_drop_more, at_drop_all, set-set}
use Rattle.std.proofs.lemmas.Option.{slice_get-map}
use Rattle.std.specs.declared.alloc.Global.{Global}
use Rattle.std.specs.declared.dyn_box.DynBox.{DynBox}
use Rattle.ec_link.specs.declared.connection.Conn.{Conn}
use Rattle.ec_link.specs.declared.slot.Slot.{Slot}
use Rattle.ec_link.specs.declared.slot.Slot.TheVariants.{Free, Ready, Taken, Dropped}
use Rattle.ec_link.specs.Calls.{TakesReady, GivesBack}
use Rattle.ec_link.specs.Conn.{slot_of, link_of}
use Rattle.ec_link.specs.Slot.{state_of, states}
use Rattle.ec_link.specs.SlotState.{TakenAt, taken, is_ready, ready_slot}

-- a place, one further on
abbrev next_place : ℕ × List ℕ → ℕ × List ℕ
next_place f = (f.0 + 1, f.1)

-- a place, counted from i on
abbrev place_from : ℕ → ℕ × List ℕ → ℕ
place_from i f = i + f.0

-- a place
abbrev place : ℕ × List ℕ → ℕ
place f = f.0

-- a place that is counted from one further on
shifted : (i : ℕ) (found : Option (ℕ × List ℕ)) → option_map (place_from (i + 1)) found ≡ option_map (place_from i) (option_map next_place found)
shifted i None = refl
shifted i (Some f) = let e : i + 1 + f.0 ≡ i + (f.0 + 1) = omega arith in ap (λ n. Some n) e

-- what a place that is counted from one further on comes from
unshifted : (found : Option (ℕ × List ℕ)) (i : ℕ) (name : List ℕ) → option_map next_place found ≡ Some (i, name) → (k : ℕ) × (found ≡ Some (k, name)) × (i ≡ suc k)
unshifted None i name e = cc
unshifted (Some f) i name e =
    let parts : ◌≡◌ {A = ℕ × List ℕ} (f.0 + 1, f.1) (i, name) = cc in
    (f.0, ap (λ n. Some (f.0, n)) (ap (λ (p : ℕ × List ℕ). p.1) parts), sym (ap (λ (p : ℕ × List ℕ). p.0) parts) ∙ add-one f.0)

-- the same from the front
from_front : (found : Option (ℕ × List ℕ)) → option_map (place_from 0) found ≡ option_map place found
from_front None = refl
from_front (Some f) = let e : 0 + f.0 ≡ f.0 = omega arith in ap (λ n. Some n) e

-- what a place has whose slot is the first that is ready
found_cases : (found : Option (ℕ × List ℕ)) (i : ℕ) → Some i ≡ option_map place found → (name : List ℕ) × (found ≡ Some (i, name))
found_cases None i e = cc
found_cases (Some f) i e = let same : i ≡ f.0 = cc in (f.1, ap (λ k. Some (k, f.1)) (sym same))

module _ {X : Type 0} {F : X → Type 0} where
  -- whether a slot is ready
  abbrev pub test : Slot X F → Bool
  test slot = is_ready (state_of slot)

  -- the first place that passes, and the first ready slot
  pub position_from-ready : (slots : List (Slot X F)) (i : ℕ) → position_from test i slots ≡ option_map (place_from i) (ready_slot (states slots))
  position_from-ready [] i = refl
  position_from-ready (Free name link ∷ slots) i = position_from-ready slots (i + 1) ∙ shifted i (ready_slot (states slots))
  position_from-ready (Ready name link ∷ slots) i = ap (λ n. Some n) (sym (add-zero i))
  position_from-ready (Taken name ∷ slots) i = position_from-ready slots (i + 1) ∙ shifted i (ready_slot (states slots))
  position_from-ready (Dropped name ∷ slots) i = position_from-ready slots (i + 1) ∙ shifted i (ready_slot (states slots))

  -- a slot that passes, where none before it does
  pub ready_slot-here : (slots : List (Slot X F)) (i : ℕ) (slot : Slot X F) → i < length slots → slot ≡ get_or slots i slot → test slot ≡ true → position_from test i (drop i slots) ≡ position_from test 0 slots → Some i ≡ option_map place (ready_slot (states slots))
  ready_slot-here slots i slot lt is passes e =
      let here : test (get_or slots i slot) ≡ true = ap test (sym is) ∙ passes in
      let at : position_from test i (drop i slots) ≡ Some i = at_drop_more (position_from test i) slots i slot lt ∙ ap (λ b. cond b (Some i) (position_from test (i + 1) (drop (i + 1) slots))) here in
      sym at ∙ e ∙ position_from-ready slots 0 ∙ from_front (ready_slot (states slots))

  -- no slot passes
  pub ready_slot-none : (slots : List (Slot X F)) (i : ℕ) → length slots ≤ i → position_from test i (drop i slots) ≡ position_from test 0 slots → None ≡ option_map place (ready_slot (states slots))
  ready_slot-none slots i le e = sym (at_drop_all (position_from test i) slots i le) ∙ e ∙ position_from-ready slots 0 ∙ from_front (ready_slot (states slots))

  -- the first ready slot is one of the slots
  pub slice_get-ready_slot : (slots : List (Slot X F)) (i : ℕ) (name : List ℕ) → ready_slot (states slots) ≡ Some (i, name) → (link : DynBox X Global F) × (slice_get slots i ≡ Some (Ready name link))
  slice_get-ready_slot [] i name e = cc
  slice_get-ready_slot (Ready n link ∷ slots) i name e =
      let parts : ◌≡◌ {A = ℕ × List ℕ} (0, n) (i, name) = cc in
      (link, ap (λ k. slice_get (Ready n link ∷ slots) k) (sym (ap (λ (p : ℕ × List ℕ). p.0) parts)) ∙ ap (λ m. Some (Ready m link)) (ap (λ (p : ℕ × List ℕ). p.1) parts))
  slice_get-ready_slot (Free n l ∷ slots) i name e =
      let before = unshifted (ready_slot (states slots)) i name e in
      let rest = slice_get-ready_slot slots before.0 name before.1 in
      (rest.0, ap (λ k. slice_get (Free n l ∷ slots) k) before.2 ∙ rest.1)
  slice_get-ready_slot (Taken n ∷ slots) i name e =
      let before = unshifted (ready_slot (states slots)) i name e in
      let rest = slice_get-ready_slot slots before.0 name before.1 in
      (rest.0, ap (λ k. slice_get (Taken n ∷ slots) k) before.2 ∙ rest.1)
  slice_get-ready_slot (Dropped n ∷ slots) i name e =
      let before = unshifted (ready_slot (states slots)) i name e in
      let rest = slice_get-ready_slot slots before.0 name before.1 in
      (rest.0, ap (λ k. slice_get (Dropped n ∷ slots) k) before.2 ∙ rest.1)

  -- the first ready place of slots that were read
  pub ready_slot-read : (read slots : List (Slot X F)) (i : ℕ) → read ≡ slots → Some i ≡ option_map place (ready_slot (states read)) → Some i ≡ option_map place (ready_slot (states slots))
  ready_slot-read read slots i same e = e ∙ ap (λ (s : List (Slot X F)). option_map place (ready_slot (states s))) same

  -- the slot that stands at the first ready place
  pub ready-found : (slots : List (Slot X F)) (i : ℕ) (slot : Slot X F) → Some i ≡ option_map place (ready_slot (states slots)) → slice_get slots i ≡ Some slot → (name : List ℕ) × (link : DynBox X Global F) × (slot ≡ Ready name link) × (ready_slot (states slots) ≡ Some (i, name))
  ready-found slots i slot e there =
      let first = found_cases (ready_slot (states slots)) i e in
      let is = slice_get-ready_slot slots i first.0 first.1 in
      (first.0, is.0, cc (is.1, there), first.1)

  -- the first ready slot was replaced, and then taken
  pub TakesReady-replaced : (old between new : List (Slot X F)) (i : ℕ) (slot empty : Slot X F) (name : List ℕ) (link : DynBox X Global F) (conn : Conn X F) → slot_of conn ≡ i → link_of conn ≡ link → Some i ≡ option_map place (ready_slot (states old)) → slice_get old i ≡ Some slot → slot ≡ Ready name link → between ≡ slice_set old i empty → new ≡ slice_set between i (Taken name) → TakesReady old new conn
  TakesReady-replaced old between new i slot empty name link conn at has e there is b n =
      let found = ready-found old i slot e there in
      let same : found.0 ≡ name = cc (found.2, is) in
      let was : slice_get old i ≡ Some (Ready name link) = cc in
      record {
        name = name;
        first = found.3 ∙ ap (λ m. Some (i, m)) same ∙ ap (λ k. Some (k, name)) (sym at);
        was = ap (λ k. slice_get old k) at ∙ was ∙ ap (λ l. Some (Ready name l)) (sym has);
        now = n ∙ ap (λ slots. slice_set slots i (Taken name)) b ∙ set-set old i empty (Taken name) ∙ ap (λ k. slice_set old k (Taken name)) (sym at);
      }

  -- a slot whose state is taken
  taken_state : (slot : Slot X F) (name : List ℕ) → state_of slot ≡ taken name → slot ≡ Taken name
  taken_state (Taken n) name e = let same : n ≡ name = cc in ap (λ m. Taken m) same
  taken_state (Free n l) name e = cc
  taken_state (Ready n l) name e = cc
  taken_state (Dropped n) name e = cc

  -- the slot that stands at a taken place
  pub taken-found : (slots : List (Slot X F)) (i : ℕ) (slot : Slot X F) (t : TakenAt (states slots) i) → slice_get slots i ≡ Some slot → slot ≡ Taken t.0
  taken-found slots i slot t e =
      let shown : slice_get (states slots) i ≡ Some (state_of slot) = slice_get-map state_of slots i ∙ ap (option_map state_of) e in
      let told = t.1 in
      taken_state slot t.0 cc

  -- a taken slot was replaced, and then given its link back
  pub GivesBack-replaced : (old between new : List (Slot X F)) (i : ℕ) (slot empty : Slot X F) (name : List ℕ) (link : DynBox X Global F) (conn : Conn X F) → slot_of conn ≡ i → link_of conn ≡ link → slice_get old i ≡ Some slot → slot ≡ Taken name → between ≡ slice_set old i empty → new ≡ slice_set between i (Free name link) → GivesBack old new conn
  GivesBack-replaced old between new i slot empty name link conn at has there is b n = record {
    name = name;
    was = ap (λ k. slice_get old k) at ∙ there ∙ ap (λ s. Some s) is;
    now = n ∙ ap (λ slots. slice_set slots i (Free name link)) b ∙ set-set old i empty (Free name link) ∙ ap (λ k. slice_set old k (Free name link)) (sym at) ∙ ap (λ l. slice_set old (slot_of conn) (Free name l)) (sym has);
  }
