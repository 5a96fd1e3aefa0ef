-- The first slot that is free for a server, by its place, and slots whose link is moved out or let go.
use Rattle.std.proofs.Common.{◌≡◌, ℕ, ◌+◌, ◌<◌, ◌≤◌, Bool, true, not, cond, Option, Some, None, List, [], ◌∷◌, length, map, get_or, drop, nat_lt, slice_get, slice_set, refl, sym, ap, ◌∙◌}
use Rattle.std.specs.List.{position_from, prefix_len}
use Rattle.std.specs.Cmp.Lexicographic.{same_text}
use Rattle.std.proofs.lemmas.Bool.{false≢true}
use Rattle.std.proofs.lemmas.List.{at_drop_more, at_drop_all, length-map, set-set}
use Rattle.std.proofs.lemmas.Iterator.Adapters.{position_from-zero}
use Rattle.std.proofs.lemmas.List.Quantifiers.{position-Some}
use Rattle.std.proofs.lemmas.Option.{get_or_from_slice_get}
use Rattle.std.specs.declared.alloc.Global.{Global}
use Rattle.std.specs.declared.dyn_box.DynBox.{DynBox}
use Rattle.ec_link.specs.declared.connection.Conn.{Conn}
use Rattle.ec_link.specs.declared.slot.Slot.{Slot}
use Rattle.ec_link.specs.declared.slot.Slot.TheVariants.{Free, Ready, Taken, Dropped}
use Rattle.ec_link.specs.Calls.{TakesFree, DropsSlot}
use Rattle.ec_link.specs.Conn.{slot_of, link_of}
use Rattle.ec_link.specs.Slot.{state_of, states}
use Rattle.ec_link.specs.SlotState.{TakenAt, is_free, free_slot}
use Rattle.ec_link.proofs.Places.{slice_get-slice_set}
use Rattle.ec_link.proofs.Runs.{slice_get-states}

-- how many elements pass at the front, in a list and in its image
prefix_len-map : {A B : Type 0} (f : A → B) (p : B → Bool) (xs : List A) → prefix_len p (map f xs) ≡ prefix_len (λ x. p (f x)) xs
prefix_len-map f p [] = refl
prefix_len-map f p (x ∷ xs) = ap (λ n. cond (p (f x)) (1 + n) 0) (prefix_len-map f p xs)

module _ {X : Type 0} {F : X → Type 0} where
  -- the first slot that is free, by the test of a slot
  position_from-free : (target : List ℕ) (slots : List (Slot X F)) → position_from (λ slot. is_free target (state_of slot)) 0 slots ≡ free_slot target (states slots)
  position_from-free target slots =
      let test : Slot X F → Bool = λ slot. is_free target (state_of slot) in
      sym (position_from-zero test slots)
      ∙ sym (ap (λ n. cond (nat_lt n (length (states slots))) (Some n) None) (prefix_len-map state_of (λ s. not (is_free target s)) slots)
      ∙ ap (λ m. cond (nat_lt (prefix_len (λ slot. not (test slot)) slots) m) (Some (prefix_len (λ slot. not (test slot)) slots)) None) (length-map slots state_of))

  -- a slot that is free, where none before it is
  pub free_slot-here : (target : List ℕ) (slots : List (Slot X F)) (i : ℕ) (slot : Slot X F) → i < length slots → slot ≡ get_or slots i slot → is_free target (state_of slot) ≡ true → position_from (λ s. is_free target (state_of s)) i (drop i slots) ≡ position_from (λ s. is_free target (state_of s)) 0 slots → Some i ≡ free_slot target (states slots)
  free_slot-here target slots i slot lt is passes e =
      let test : Slot X F → Bool = λ s. is_free target (state_of s) in
      let here : test (get_or slots i slot) ≡ true = ap test (sym is) ∙ passes in
      let at : position_from test i (drop i slots) ≡ Some i = at_drop_more (position_from test i) slots i slot lt ∙ ap (λ b. cond b (Some i) (position_from test (i + 1) (drop (i + 1) slots))) here in
      sym at ∙ e ∙ position_from-free target slots

  -- no slot is free
  pub free_slot-none : (target : List ℕ) (slots : List (Slot X F)) (i : ℕ) → length slots ≤ i → position_from (λ s. is_free target (state_of s)) i (drop i slots) ≡ position_from (λ s. is_free target (state_of s)) 0 slots → None ≡ free_slot target (states slots)
  free_slot-none target slots i le e = sym (at_drop_all (position_from (λ s. is_free target (state_of s)) i) slots i le) ∙ e ∙ position_from-free target slots

  -- the first free place of slots that were read
  pub free_slot-read : (target : List ℕ) (read slots : List (Slot X F)) (found : Option ℕ) → read ≡ slots → found ≡ free_slot target (states read) → free_slot target (states slots) ≡ found
  free_slot-read target read slots found same e = ap (λ (s : List (Slot X F)). free_slot target (states s)) (sym same) ∙ sym e

  -- a slot that is free for a server
  free_state : (target : List ℕ) (slot : Slot X F) → is_free target (state_of slot) ≡ true → (link : DynBox X Global F) × (slot ≡ Free target link)
  free_state target (Free name link) e = (link, ap (λ n. Free n link) (same_text name target (sym e)))
  free_state target (Ready name link) e = absurd (false≢true e)
  free_state target (Taken name) e = absurd (false≢true e)
  free_state target (Dropped name) e = absurd (false≢true e)

  -- the slot that stands at the first free place
  pub free-found : (target : List ℕ) (slots : List (Slot X F)) (i : ℕ) (slot : Slot X F) → free_slot target (states slots) ≡ Some i → slice_get slots i ≡ Some slot → (link : DynBox X Global F) × (slot ≡ Free target link)
  free-found target slots i slot e there =
      let passes = (position-Some (is_free target) (states slots) i (state_of slot) e).1 in
      let is = get_or_from_slice_get (states slots) i (state_of slot) (state_of slot) (slice_get-states slots i slot there) in
      free_state target slot (ap (is_free target) (sym is) ∙ passes)

  -- the first free slot was replaced, and then taken
  pub TakesFree-replaced : (target : List ℕ) (old between new : List (Slot X F)) (i : ℕ) (slot empty : Slot X F) (name : List ℕ) (link : DynBox X Global F) (conn : Conn X F) → slot_of conn ≡ i → link_of conn ≡ link → free_slot target (states old) ≡ Some i → slice_get old i ≡ Some slot → slot ≡ Free name link → between ≡ slice_set old i empty → new ≡ slice_set between i (Taken name) → TakesFree target old new conn
  TakesFree-replaced target old between new i slot empty name link conn at has e there is b n =
      let found = free-found target old i slot e there in
      let same : name ≡ target = cc (found.1, is) in
      let was : slice_get old i ≡ Some (Free name link) = cc in
      record {
        first = e ∙ ap (λ k. Some k) (sym at);
        was = ap (λ k. slice_get old k) at ∙ was ∙ ap (λ m. Some (Free m link)) same ∙ ap (λ l. Some (Free target l)) (sym has);
        now = n ∙ ap (λ slots. slice_set slots i (Taken name)) b ∙ set-set old i empty (Taken name) ∙ ap (λ m. slice_set old i (Taken m)) same ∙ ap (λ k. slice_set old k (Taken target)) (sym at);
      }

  -- the slot of a connection that was just taken
  pub TakenAt-TakesFree : (target : List ℕ) (old new : List (Slot X F)) (conn : Conn X F) → TakesFree target old new conn → TakenAt (states new) (slot_of conn)
  TakenAt-TakesFree target old new conn t =
      (target, slice_get-states new (slot_of conn) (Taken target) (ap (λ slots. slice_get slots (slot_of conn)) t.now ∙ slice_get-slice_set old (slot_of conn) (Free target (link_of conn)) (Taken target) t.was))

  -- a taken slot was replaced, and then dropped
  pub DropsSlot-replaced : (old between new : List (Slot X F)) (i k : ℕ) (slot empty : Slot X F) (name : List ℕ) → k ≡ i → slice_get old i ≡ Some slot → slot ≡ Taken name → between ≡ slice_set old i empty → new ≡ slice_set between i (Dropped name) → DropsSlot k old new
  DropsSlot-replaced old between new i k slot empty name at there is b n = record {
    name = name;
    was = ap (λ j. slice_get old j) at ∙ there ∙ ap (λ s. Some s) is;
    now = n ∙ ap (λ slots. slice_set slots i (Dropped name)) b ∙ set-set old i empty (Dropped name) ∙ ap (λ j. slice_set old j (Dropped name)) (sym at);
  }
