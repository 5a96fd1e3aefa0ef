-- Parts of a call over the connections of a library, which are lists of one another.
use Rattle.std.proofs.Common.{◌≡◌, ℕ, zero, suc, inl, inr, length, List, [], ◌∷◌, ◌++◌, map, Option, Some, Result, refl, sym, ap, subst, ◌∙◌}
use Rattle.std.specs.Prelude.{slice_get, slice_set}
use Rattle.std.specs.List.{remove, insert}
use Rattle.std.proofs.lemmas.Bool.Decides.{eqb_tells}
use Rattle.std.proofs.lemmas.List.{map-append}
use Rattle.std.specs.declared.alloc.Global.{Global}
use Rattle.std.specs.declared.dyn_box.DynBox.{DynBox}
use Rattle.ec_link.specs.declared.connection.Conn.{Conn}
use Rattle.ec_link.specs.declared.logged.Logged.{Logged}
use Rattle.ec_link.specs.declared.rack.Rack.{Rack}
use Rattle.ec_link.specs.Conn.{slot_of}
use Rattle.ec_link.specs.Logged.{Talk}
use Rattle.ec_link.specs.Rack.{slots_of}
use Rattle.ec_link.specs.Slot.{states}
use Rattle.ec_memory_defs.specs.Memory.{Memory}
use Rattle.ec_meaning_defs.specs.evaluation.State.{Connection, State}
use Rattle.ec_call_defs.specs.Connections.{same_name}
use Rattle.ec_call_defs.specs.Outcomes.{Text, Outcome}
use Rattle.ec_runtime.specs.declared.sessions.Sessions.{Sessions}
use Rattle.ec_runtime.specs.declared.open.Open.{Open}
use Rattle.ec_runtime.specs.declared.stop.Stop.{Stop}
use Rattle.ec_runtime.specs.Calling.{AllNamed, Changes, NoneNamed}
use Rattle.ec_runtime.specs.Does.{NoneAt, Does}
use Rattle.ec_runtime.specs.Opening.{open_view}
use Rattle.ec_runtime.specs.Racks.{AllTaken, Beside, Moves}
use Rattle.ec_runtime.proofs.Connections.{taken_same}
use Rattle.ec_runtime.proofs.Moving.{moves_not}
use Rattle.ec_runtime.proofs.Starting.{only}

module _ {X : Type 0} {F : X → Type 0} where
  abbrev pub views : List (Open X F) → List Connection
  views os = map open_view os

  abbrev pub links : List (Open X F) → List (Conn X F)
  links os = map (λ o. o.conn) os

  -- one among others, by its place
  pub record Splits (items : List (Open X F)) (at : ℕ) (o : Open X F) : Type 0 where
    pub before : List (Open X F)
    pub behind : List (Open X F)
    pub is : items ≡ before ++ o ∷ behind
    pub place : at ≡ length before
    pub set : (now : Open X F) → slice_set items at now ≡ before ++ now ∷ behind
    pub left : remove items at ≡ before ++ behind
    pub back : (now : Open X F) → insert (before ++ behind) at now ≡ before ++ now ∷ behind

  pub split_at : (items : List (Open X F)) (at : ℕ) (o : Open X F) → slice_get items at ≡ Some o → Splits items at o
  split_at [] at o e = absurd (cc (e))
  split_at (x ∷ items) zero o e =
      let same : x ≡ o = cc in
      record {
        before = [];
        behind = items;
        is = ap (λ y. y ∷ items) same;
        place = refl;
        set = λ now. refl;
        left = refl;
        back = λ now. refl;
      }
  split_at (x ∷ items) (suc at) o e =
      let s = split_at items at o e in
      record {
        before = x ∷ s.before;
        behind = s.behind;
        is = ap (λ ys. x ∷ ys) s.is;
        place = ap suc s.place;
        set = λ now. ap (λ ys. x ∷ ys) (s.set now);
        left = ap (λ ys. x ∷ ys) s.left;
        back = λ now. ap (λ ys. x ∷ ys) (s.back now);
      }

  pub views_among : (before behind : List (Open X F)) (o : Open X F) → views (before ++ o ∷ behind) ≡ views before ++ open_view o ∷ views behind
  views_among before behind o = map-append open_view before (o ∷ behind)

  pub links_among : (before behind : List (Open X F)) (o : Open X F) → links (before ++ o ∷ behind) ≡ links before ++ o.conn ∷ links behind
  links_among before behind o = map-append (λ (p : Open X F). p.conn) before (o ∷ behind)

  -- no connection before has the slot
  pub none_at : (i : ℕ) (os : List (Open X F)) → Beside i (links os) → NoneAt i (views os)
  none_at i [] b = tt
  none_at i (o ∷ os) b = (elim (eqb_tells (slot_of o.conn) i) [ inl h ↦ absurd (b.0 h.1) | inr h ↦ h.0 ], none_at i os b.1)

  module _ (talk : DynBox X Global F → Option Talk) (faults : DynBox X Global F → ℕ) where
    pub record Made (action : State → Outcome (Unit {0})) (m : Memory) (old : Rack X F) (was : List (Open X F)) (first : Option Text)
        (m' : Memory) (new : Rack X F) (now : List (Open X F)) (last : Option Text) (result : Result (Unit {0}) Stop) : Type 0 where
      pub growth : List Logged
      pub moves : Moves talk faults old (links was) new (links now) growth
      pub does : Does action (only m (views was) first) (only m' (views now) last) growth result

    pub changes_from : {action : State → Outcome (Unit {0})} {m m' : Memory} {old new : Rack X F} {was now : Sessions X F} {r : Result (Unit {0}) Stop}
        → Made action m old was.sessions.items was.current m' new now.sessions.items now.current r → Changes talk faults action m old was m' new now r
    changes_from p = record { growth = p.growth; moves = p.moves; does = p.does }

    -- other lists that are equal
    pub made_along : {action : State → Outcome (Unit {0})} {m m' : Memory} {old new : Rack X F} {was was' now now' : List (Open X F)} {first first' last last' : Option Text} {r : Result (Unit {0}) Stop}
        → was' ≡ was → first' ≡ first → now' ≡ now → last' ≡ last → Made action m old was first m' new now last r → Made action m old was' first' m' new now' last' r
    made_along {action} {m} {m'} {old} {new} {was} {was'} {now} {now'} {first} {first'} {last} {last'} {r} a b c d p =
        subst (λ l. Made action m old was' first' m' new now' l r) (sym d)
        (subst (λ xs. Made action m old was' first' m' new xs last r) (sym c)
        (subst (λ l. Made action m old was' l m' new now last r) (sym b)
        (subst (λ xs. Made action m old xs first m' new now last r) (sym a) p)))

    -- nothing was asked
    pub made_still : (action : State → Outcome (Unit {0})) (m m' : Memory) (rack : Rack X F) (os : List (Open X F)) (first last : Option Text) (r : Result (Unit {0}) Stop)
        → Does action (only m (views os) first) (only m' (views os) last) [] r → Made action m rack os first m' rack os last r
    made_still action m m' rack os first last r d = record { growth = []; moves = moves_not talk faults rack rack (links os) refl refl; does = d }

    -- over one among others
    module _ (old new : Rack X F) (before behind : List (Open X F)) (was now : Open X F) (growth : List Logged) where
      pub links_moved : Moves talk faults old (links before ++ was.conn ∷ links behind) new (links before ++ now.conn ∷ links behind) growth → Moves talk faults old (links (before ++ was ∷ behind)) new (links (before ++ now ∷ behind)) growth
      links_moved p =
          subst (λ cs. Moves talk faults old (links (before ++ was ∷ behind)) new cs growth) (sym (links_among before behind now))
          (subst (λ cs. Moves talk faults old cs new (links before ++ now.conn ∷ links behind) growth) (sym (links_among before behind was)) p)

  -- ---- what is held

  none_named : (name : Text) (before behind : List (Open X F)) (was now : Open X F) → (open_view now).name ≡ (open_view was).name → NoneNamed name (views (before ++ was ∷ behind)) → NoneNamed name (views (before ++ now ∷ behind))
  none_named name [] behind was now e h = ((λ j. same_name (e j) name) ∙ h.0, h.1)
  none_named name (o ∷ before) behind was now e h = (h.0, none_named name before behind was now e h.1)

  -- a connection that is replaced by one of its name
  pub named_same : (before behind : List (Open X F)) (was now : Open X F) → (open_view now).name ≡ (open_view was).name → AllNamed (views (before ++ was ∷ behind)) → AllNamed (views (before ++ now ∷ behind))
  named_same [] behind was now e h = (subst (λ n. NoneNamed n (views behind)) (sym e) h.0, h.1)
  named_same (o ∷ before) behind was now e h = (none_named o.name before behind was now e h.0, named_same before behind was now e h.1)

  pub held_same : (old new : Rack X F) (before behind : List (Open X F)) (was now : Open X F) → slot_of now.conn ≡ slot_of was.conn → slots_of new ≡ slots_of old
      → AllTaken (states (slots_of old)) (links (before ++ was ∷ behind)) → AllTaken (states (slots_of new)) (links (before ++ now ∷ behind))
  held_same old new before behind was now e s h =
      subst (λ cs. AllTaken (states (slots_of new)) cs) (sym (links_among before behind now))
      (taken_same (states (slots_of old)) (states (slots_of new)) (links before) (links behind) was.conn now.conn e (ap states s)
      (subst (λ cs. AllTaken (states (slots_of old)) cs) (links_among before behind was) h))
