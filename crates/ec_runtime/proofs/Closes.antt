-- DISCONNECT over the connections of a library.
use Rattle.std.proofs.Common.{◌≡◌, ◌≤◌, ◌<◌, ◌-◌, ◌+◌, ℕ, zero, suc, length, List, [], ◌∷◌, ◌++◌, reverse, Option, Some, None, Result, Ok, Err, refl, sym, ap, subst, ◌∙◌, arith, append-nil}
use Rattle.std.specs.Prelude.{IfErr, OnOk, option_map, slice_get, slice_set}
use Rattle.std.specs.List.{insert, remove}
use Rattle.std.proofs.lemmas.Option.{slice_get-map}
use Rattle.std.proofs.lemmas.List.{reverse-append}
use Rattle.std.specs.declared.alloc.Global.{Global}
use Rattle.std.specs.declared.dyn_box.DynBox.{DynBox}
use Rattle.ec_link.specs.declared.connection.Conn.{Conn}
use Rattle.ec_link.specs.declared.rack.Rack.{Rack}
use Rattle.ec_link.specs.declared.slot.Slot.{Slot}
use Rattle.ec_link.specs.declared.slot.Slot.TheVariants.{Free}
use Rattle.ec_link.specs.Calls.{Closes, GivesBack}
use Rattle.ec_link.specs.Conn.{slot_of, link_of}
use Rattle.ec_link.specs.Logged.{Talk}
use Rattle.ec_link.specs.Rack.{slots_of, log_of}
use Rattle.ec_link.specs.Slot.{states}
use Rattle.ec_link.specs.SlotState.{SlotState, TakenAt, free, ready_slot}
use Rattle.ec_link.proofs.Places.{slice_get-slice_set_other}
use Rattle.ec_link.proofs.Runs.{states-slice_set}
use Rattle.ec_memory_defs.specs.Memory.{Memory}
use Rattle.ec_meaning_defs.specs.evaluation.Whole.{ready_connections, ready_name}
use Rattle.ec_meaning_defs.specs.evaluation.State.{Connection}
use Rattle.ec_call_defs.specs.Disconnecting.{closed, current_without, last_name}
use Rattle.ec_call_defs.specs.Outcomes.{Text}
use Rattle.ec_runtime.specs.declared.sessions.Sessions.{Sessions}
use Rattle.ec_runtime.specs.declared.open.Open.{Open}
use Rattle.ec_runtime.specs.declared.stop.Stop.{Stop}
use Rattle.ec_runtime.specs.declared.stop.Stop.TheVariants as stops
use Rattle.ec_runtime.specs.Calling.{AllNamed, Changes, Holds, Opens, TakesFirst, connections_of, conns_of}
use Rattle.ec_runtime.specs.Opening.{open_view}
use Rattle.ec_runtime.specs.Racks.{AllTaken, GivesAll}
use Rattle.ec_runtime.proofs.Closing.{all_named_less, close_ended, close_taken, close_unasked}
use Rattle.ec_runtime.proofs.Connections.{apart_before, taken_here, taken_less}
use Rattle.ec_runtime.proofs.Making.{changes_from, held_same, links, links_among, made_along, named_same, split_at, views, views_among}

pub on_ok : {P : Type 0} (r : Result (Unit {0}) Stop) → P → OnOk r P
on_ok (Ok x) p = p
on_ok (Err stop) p = tt

shorter : {A : Type 0} (before behind : List A) (x : A) → length (before ++ behind) < length (before ++ x ∷ behind)
shorter [] behind x = omega arith
shorter (y ∷ before) behind x = let h = shorter before behind x in omega (arith, h)

pub element : {A : Type 0} (xs : List A) (at : ℕ) → at < length xs → (x : A) × (slice_get xs at ≡ Some x)
element [] at h = absurd (omega (arith, h))
element (x ∷ xs) zero h = (x, refl)
element (x ∷ xs) (suc at) h = element xs at (omega (arith, h))

-- the place of the last of so many
pub last_inside : (n k : ℕ) → n ≡ k → (n ≡ 0 → ⊥) → n - 1 < k
last_inside zero k e f = absurd (f refl)
last_inside (suc n) k e f = omega (arith, e)

pub last_place : (n k : ℕ) → n ≡ k → (n ≡ 0 → ⊥) → n - 1 + 1 ≡ k
last_place zero k e f = absurd (f refl)
last_place (suc n) k e f = omega (arith, e)

pub nothing : {A : Type 0} (xs : List A) → length xs ≡ 0 → xs ≡ []
nothing [] e = refl
nothing (x ∷ xs) e = absurd (omega (arith, e))

module _ {X : Type 0} {F : X → Type 0} where
  pub view_there : (items : List (Open X F)) (at : ℕ) (o : Open X F) → slice_get items at ≡ Some o → slice_get (views items) at ≡ Some (open_view o)
  view_there items at o e = slice_get-map open_view items at ∙ ap (option_map open_view) e

  -- the last one has the name that was opened last
  pub last_there : (os : List (Open X F)) (o : Open X F) → slice_get os (length os - 1) ≡ Some o → Some o.name ≡ last_name (views os)
  last_there [] o e = absurd (cc (e))
  last_there (x ∷ []) o e = let same : x ≡ o = cc in ap (λ p. Some p.name) (sym same)
  last_there (x ∷ y ∷ ys) o e =
      let place : length (x ∷ y ∷ ys) - 1 ≡ suc (length (y ∷ ys) - 1) = omega arith in
      last_there (y ∷ ys) o (sym (ap (slice_get (x ∷ y ∷ ys)) place) ∙ e)

  pub views_without : (items : List (Open X F)) (at : ℕ) → views (remove items at) ≡ remove (views items) at
  views_without [] zero = refl
  views_without [] (suc at) = refl
  views_without (x ∷ items) zero = refl
  views_without (x ∷ items) (suc at) = ap (λ cs. open_view x ∷ cs) (views_without items at)

  module _ (talk : DynBox X Global F → Option Talk) (faults : DynBox X Global F → ℕ) (old new : Rack X F) (was : Sessions X F) (at : ℕ) (o : Open X F) (there : slice_get was.sessions.items at ≡ Some o) (holds : Holds was old) where
    same_view : (c : Connection) → slice_get (connections_of was) at ≡ Some c → open_view o ≡ c
    same_view c e = let both : Some (open_view o) ≡ Some c = sym (view_there was.sessions.items at o there) ∙ e in cc

    pub shut_taken : TakenAt (states (slots_of old)) (slot_of o.conn)
    shut_taken =
        let s = split_at was.sessions.items at o there in
        taken_here (states (slots_of old)) (links s.before) (links s.behind) o.conn
        (subst (λ cs. AllTaken (states (slots_of old)) cs) (links_among s.before s.behind o) (subst (λ xs. AllTaken (states (slots_of old)) (links xs)) s.is holds.taken))

    module _ (h : Closes talk faults old o.conn new) (now : Sessions X F) (left : now.sessions.items ≡ remove was.sessions.items at) where
      pub shut : (m : Memory) (c : Connection) (name : Text) (rest : List (Open X F)) (r : Result (Unit {0}) Stop) → slice_get (connections_of was) at ≡ Some c → name ≡ o.name → rest ≡ remove was.sessions.items at
          → OnOk r (now.current ≡ current_without name was.current (views rest)) → IfErr r (λ stop. stop ≡ stops.OutOfMemory) → Changes talk faults (closed c) m old was m new now r
      shut m c name rest r e own is last n =
          let s = split_at was.sessions.items at o there in
          subst (λ d. Changes talk faults (closed d) m old was m new now r) (same_view c e)
          (changes_from talk faults
          (made_along talk faults s.is refl (left ∙ s.left) refl
          (close_ended talk faults m old new s.before s.behind o was.current (subst (λ xs. AllTaken (states (slots_of old)) (links xs)) s.is holds.taken) (subst (λ xs. AllNamed (views xs)) s.is holds.named) h now.current r
          (subst (λ xs. OnOk r (now.current ≡ current_without o.name was.current (views xs))) (is ∙ s.left) (subst (λ w. OnOk r (now.current ≡ current_without w was.current (views rest))) own last)) n)))

      pub shut_holds : Memory → Holds now new
      shut_holds m =
          let s = split_at was.sessions.items at o there in
          record {
            taken = subst (λ xs. AllTaken (states (slots_of new)) (links xs)) (sym (left ∙ s.left))
                (close_taken talk faults m old new s.before s.behind o was.current (subst (λ xs. AllTaken (states (slots_of old)) (links xs)) s.is holds.taken) (subst (λ xs. AllNamed (views xs)) s.is holds.named) h);
            named = subst (λ xs. AllNamed (views xs)) (sym (left ∙ s.left)) (all_named_less s.before s.behind o (subst (λ xs. AllNamed (views xs)) s.is holds.named));
          }

      pub shut_left : connections_of now ≡ remove (connections_of was) at
      shut_left = ap views left ∙ views_without was.sessions.items at

      pub shut_fewer : length now.sessions.items < length was.sessions.items
      shut_fewer =
          let s = split_at was.sessions.items at o there in
          subst (λ n. n < length was.sessions.items) (sym (ap length (left ∙ s.left)))
          (subst (λ n. length (s.before ++ s.behind) < n) (sym (ap length s.is)) (shorter s.before s.behind o))

    module _ (o' : Open X F) (now : Sessions X F) (rest : List (Open X F)) (slots : slots_of new ≡ slots_of old) (slot : slot_of o'.conn ≡ slot_of o.conn) (left : rest ≡ remove was.sessions.items at) (back : now.sessions.items ≡ insert rest at o') where
      back_there : let s = split_at was.sessions.items at o there in now.sessions.items ≡ s.before ++ o' ∷ s.behind
      back_there =
          let s = split_at was.sessions.items at o there in
          back ∙ (λ j. insert ((left ∙ s.left) j) at o') ∙ s.back o'

      pub unshut : (m : Memory) (c : Connection) → slice_get (connections_of was) at ≡ Some c → now.current ≡ was.current → log_of new ≡ log_of old → talk (link_of o'.conn) ≡ talk (link_of o.conn) → faults (link_of o.conn) ≤ faults (link_of o'.conn)
          → Changes talk faults (closed c) m old was m new now (Err stops.OutOfMemory)
      unshut m c e same log told later =
          let s = split_at was.sessions.items at o there in
          subst (λ d. Changes talk faults (closed d) m old was m new now (Err stops.OutOfMemory)) (same_view c e)
          (changes_from talk faults
          (made_along talk faults s.is refl back_there same
          (close_unasked talk faults m old new s.before s.behind o was.current (subst (λ xs. AllTaken (states (slots_of old)) (links xs)) s.is holds.taken) (subst (λ xs. AllNamed (views xs)) s.is holds.named) o' slots log slot told later)))

      pub unshut_holds : o'.name ≡ o.name → Holds now new
      unshut_holds name =
          let s = split_at was.sessions.items at o there in
          record {
            taken = subst (λ xs. AllTaken (states (slots_of new)) (links xs)) (sym back_there) (held_same old new s.before s.behind o o' slot slots (subst (λ xs. AllTaken (states (slots_of old)) (links xs)) s.is holds.taken));
            named = subst (λ xs. AllNamed (views xs)) (sym back_there) (named_same s.before s.behind o o' name (subst (λ xs. AllNamed (views xs)) s.is holds.named));
          }

-- ---- the ready connection, where there is none

opens_items : {X : Type 0} {F : X → Type 0} (slots : List (Slot X F)) (it : Sessions X F) → it.sessions.items ≡ [] → it.current ≡ None → ready_slot (states slots) ≡ None → Opens slots it slots
opens_items slots it e current none = record {
  connections = ap views e ∙ ap ready_connections (sym none);
  current = current ∙ ap ready_name (sym none);
  taken = subst (λ cs. TakesFirst slots cs slots) (sym (ap links e)) (none, refl);
}

no_links : {X : Type 0} {F : X → Type 0} (os : List (Open X F)) → links os ≡ [] → os ≡ []
no_links [] e = refl
no_links (o ∷ os) e = absurd (cc (e))

no_slot : (ready : Option (ℕ × List ℕ)) → None ≡ option_map (λ (found : ℕ × List ℕ). found.1) ready → ready ≡ None
no_slot None e = refl
no_slot (Some r) e = absurd (cc (e))

pub opens_not : {X : Type 0} {F : X → Type 0} (slots : List (Slot X F)) (it : Sessions X F) → conns_of it ≡ [] → it.current ≡ None → None ≡ option_map (λ (found : ℕ × List ℕ). found.1) (ready_slot (states slots)) → Opens slots it slots
opens_not slots it e current none = opens_items slots it (no_links it.sessions.items e) current (no_slot (ready_slot (states slots)) none)

-- ---- connections are given back

module _ {X : Type 0} {F : X → Type 0} where
  back_states : (old new : List (Slot X F)) (conn : Conn X F) (h : GivesBack old new conn) → states new ≡ slice_set (states old) (slot_of conn) (free h.name)
  back_states old new conn h = ap states h.now ∙ states-slice_set old (slot_of conn) (Free h.name (link_of conn))

  module _ (old new : List (Slot X F)) (before : List (Open X F)) (o : Open X F) (h : GivesBack old new o.conn) (held : AllTaken (states old) (links (before ++ o ∷ []))) where
    among_them : AllTaken (states old) (links before ++ o.conn ∷ [])
    among_them = subst (λ cs. AllTaken (states old) cs) (links_among before [] o) held

    pub last_taken : AllTaken (states new) (links before)
    last_taken = subst (λ cs. AllTaken (states new) cs) (append-nil (links before))
        (taken_less (states old) (states new) (links before) [] o.conn
        (λ k n t. (t.0, ap (λ (slots : List SlotState). slice_get slots k) (back_states old new o.conn h) ∙ slice_get-slice_set_other (states old) (slot_of o.conn) k (free h.name) n ∙ t.1))
        (apart_before (states old) (links before) [] o.conn among_them) among_them)

    pub last_gives : (after : List (Slot X F)) → GivesAll new (reverse (links before)) after → GivesAll old (reverse (links (before ++ o ∷ []))) after
    last_gives after rest =
        subst (λ cs. GivesAll old cs after) (sym (ap reverse (links_among before [] o) ∙ reverse-append (links before) (o.conn ∷ []))) (new, h, rest)

  pub last_is_taken : (slots : List (Slot X F)) (before : List (Open X F)) (o : Open X F) → AllTaken (states slots) (links (before ++ o ∷ [])) → TakenAt (states slots) (slot_of o.conn)
  last_is_taken slots before o held = taken_here (states slots) (links before) [] o.conn (subst (λ cs. AllTaken (states slots) cs) (links_among before [] o) held)

-- ---- the last one is closed, and then the others

long : {A : Type 0} (before behind : List A) (x : A) → length (before ++ x ∷ behind) ≡ length before + suc (length behind)
long [] behind x = omega arith
long (y ∷ before) behind x = let h = long before behind x in omega (arith, h)

module _ {X : Type 0} {F : X → Type 0} (items : List (Open X F)) (at : ℕ) (o : Open X F) (there : slice_get items at ≡ Some o) (last : at + 1 ≡ length items) where
  none_behind : let s = split_at items at o there in s.behind ≡ []
  none_behind =
      let s = split_at items at o there in
      let a : length items ≡ length (s.before ++ o ∷ s.behind) = ap length s.is in
      let b = long s.before s.behind o in
      nothing s.behind (omega (arith, last, s.place, a, b))

  pub reversed_at : reverse (views items) ≡ open_view o ∷ reverse (views (remove items at))
  reversed_at =
      let s = split_at items at o there in
      ap (λ xs. reverse (views xs)) (s.is ∙ ap (λ xs. s.before ++ o ∷ xs) none_behind)
      ∙ ap reverse (views_among s.before [] o)
      ∙ reverse-append (views s.before) (open_view o ∷ [])
      ∙ ap (λ xs. open_view o ∷ reverse (views xs)) (sym (s.left ∙ ap (λ xs. s.before ++ xs) none_behind ∙ append-nil s.before))

-- a place of one is a place of its view
pub views_inside : {X : Type 0} {F : X → Type 0} (items : List (Open X F)) (at : ℕ) → at < length items → at < length (views items)
views_inside [] at h = absurd (omega (arith, h))
views_inside (x ∷ items) zero h = omega arith
views_inside (x ∷ items) (suc at) h = let k = views_inside items at (omega (arith, h)) in omega (arith, k)
