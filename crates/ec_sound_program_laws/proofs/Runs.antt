-- Parts of the walk through statements: where nothing is wrong, names have types and are not reserved behind each, and its answer is sound.
use Rattle.std.proofs.Common.{◌≡◌, ◌∙◌, ℕ, ◌+◌, ◌≤◌, Bool, List, [], ◌∷◌, length, Option, Some, None, refl, sym, ap, subst, arith}
use Rattle.ec_language.specs.Letters.{Text}
use Rattle.ec_typing_defs.specs.Tables.{Named, find}
use Rattle.ec_typing_defs.specs.Worlds.{EntryData, object, function, ScopeData, World, Rule, Out, look_up, look_up_in, or_else, entered, left, enter, leave, change, chain as check_chain, pure as check_pure}
use Rattle.ec_typing_defs.specs.Worlds as checked
use Rattle.ec_meaning_defs.specs.observed.Run.{IsFront}
use Rattle.ec_resolving_defs.specs.Statements.{scoped}
use Rattle.ec_resolving_defs.specs.Storage.{Site, Storage, Reached, Resolving, LibraryCall, inside_block, in_block, chain, pure, checks, stored, arrange}
use Rattle.ec_sim_world_laws.specs.growth.Growth.{Grows}
use Rattle.ec_sim_world_laws.proofs.growth_lemmas.Rules.{grows_itself, grows_further, begins_itself, begins_further, enter_grows, leave_grows}
use Rattle.ec_sim_world_laws.proofs.known_lemmas.NamesRules.{NamesStay, Staying}
use Rattle.ec_sim_world_laws.proofs.known_lemmas.SitesIdle.{Idle}
use Rattle.ec_resolving_defs.specs.Agreement.{Finds}
use Rattle.ec_sound_form_laws.specs.Names.{EntryStands}
use Rattle.ec_sound_expression_laws.proofs.Storing.{Stores}
use Rattle.ec_sim_program_laws.proofs.types_lemmas.Rules.{Sound, Shallow, shallow_before, both_none, Stays, Typing, leave_types}
use Rattle.ec_sound_defs.specs.Sound.{Signature}
use Rattle.ec_sound_expression_laws.specs.Standing as mine
use Rattle.ec_sound_expression_laws.proofs.Basics.{none_not}
use Rattle.ec_sound_expression_laws.proofs.Walks.{Walk}
use Rattle.ec_sound_statement_laws.specs.Sites.{NamesStand, ScopesStand, in_scope, Room}
use Rattle.ec_sound_statement_laws.proofs.Making.{in_block_full}
use Rattle.ec_sound_statement_laws.proofs.Scopes.{left_here, left_outer}
use Rattle.ec_sound_statement_laws.proofs.Sites.{Quiet, Sites, quiet, quiet_pure, quiet_checks, scope_kept, room_kept, scoped_sites, block_sites, sites_stand, names_grow, scopes_grow}
use Rattle.ec_sound_statement_laws.proofs.Sites as sites
use Rattle.ec_sound_program_laws.specs.Standing.{Free, IsGood, IsKnown}

pub same_names : (w z : World) → NamesStay w z → (name : Text) → look_up name z ≡ look_up name w
same_names w z h name = λ j. or_else (find name (h.here j)) (look_up_in (h.outer j) name)

module _ (gs : List Signature) (calls : List LibraryCall) (written : Bool) where
  abbrev pub Good : World → Type 0
  Good w = IsGood written w

  abbrev pub Known : Storage → World → Type 0
  Known s w = IsKnown gs written s w

  -- ---- names, by scopes

  found_either : (n : ℕ) (xs : List Site) (ds : Named (Unit {0})) (name : Text) (entry : EntryData) (a b : Option EntryData) → (a ≡ Some entry → EntryStands gs n xs ds name entry)
      → (b ≡ Some entry → EntryStands gs n xs ds name entry) → or_else a b ≡ Some entry → EntryStands gs n xs ds name entry
  found_either n xs ds name entry None b f g e = g e
  found_either n xs ds name entry (Some x) b f g e = f e

  found_outside : (n : ℕ) (xs : List Site) (ds : Named (Unit {0})) (ss : List ScopeData) → ScopesStand gs n xs ds ss → (name : Text) (entry : EntryData) → look_up_in ss name ≡ Some entry → EntryStands gs n xs ds name entry
  found_outside n xs ds [] h name entry e = none_not e
  found_outside n xs ds (s ∷ ss) h name entry e =
      found_either n xs ds name entry (find name s.names) (look_up_in ss name) (λ f. h.0 name entry f) (λ f. found_outside n xs ds ss h.1 name entry f) e

  -- what names stand for, by the scopes
  pub scopes_stand : (n : ℕ) (xs : List Site) (ds : Named (Unit {0})) (w : World) → NamesStand gs n xs ds w.here.names → ScopesStand gs n xs ds w.outer
      → (name : Text) (entry : EntryData) → look_up name w ≡ Some entry → EntryStands gs n xs ds name entry
  scopes_stand n xs ds w h g name entry is =
      found_either n xs ds name entry (find name w.here.names) (look_up_in w.outer name) (λ f. h name entry f) (λ f. found_outside n xs ds w.outer g name entry f) is

  pub known_stands : (n : ℕ) (s : Storage) (w : World) → in_scope s ≡ n → Known s w → mine.IsStanding gs n written s w
  known_stands n s w e h = record {
    is_written = h.good.is_written;
    sound = h.good.sound;
    names = subst (λ k. mine.NamesStand gs k s.sites s.defined w) e (record {
      defined_there = h.defined;
      stand = λ name entry is. found_either (in_scope s) s.sites s.defined name entry (find name w.here.names) (look_up_in w.outer name)
          (λ f. h.standing.here name entry f) (λ f. found_outside (in_scope s) s.sites s.defined w.outer h.standing.outer name entry f) is;
      free = h.good.free;
    });
  }

  -- ---- parts of the walk

  pub record RunStep {A B : Type 0} (n a : ℕ) (seen : B → A) (R : World → Type 0) (P : World → B → Type 0) (s : Storage) (w : World) (r : Reached B) (o : Out A) : Type 0 where
    pub answer : seen r.answer ≡ o.answer
    pub world : r.world ≡ o.world
    pub grows : Grows w r.world
    pub calls_grow : IsFront s.calls r.storage.calls
    pub fits : Known s w → in_scope s ≡ n → Room a s → R w → o.found ≡ [] → Shallow r.world → IsFront r.storage.calls calls → Good r.world × P r.world r.answer

  -- with so many objects in scope, and so many to be made before it and behind it
  pub record Run {A B : Type 0} (n a b : ℕ) (seen : B → A) (R : World → Type 0) (P : World → B → Type 0) (m : Resolving B) (c : Rule A) : Type 0 where
    pub sites : Sites gs a b m
    pub steps : (s : Storage) (w : World) → RunStep n a seen R P s w (m s w) (c w)

  pub chained : {A B C D : Type 0} {n a b d : ℕ} {seen : B → A} {also : D → C} {R : World → Type 0} {P : World → B → Type 0} {Q : World → D → Type 0} {m : Resolving B} {c : Rule A} {f : B → Resolving D} (g : A → Rule C)
      → Run n a b seen R P m c → ((x : B) → Run n b d also (λ w. P w x) Q (f x) (g (seen x))) → Run n a d also R Q (chain m f) (check_chain c g)
  unfolding chain check_chain
  chained {n = n} {m = m} {c = c} {f = f} g h k = record {
    sites = sites.chained gs h.sites (λ x. (k x).sites);
    steps = λ s w.
        let x = h.steps s w in
        let y = (k (m s w).answer).steps (m s w).storage (m s w).world in
        record {
          answer = y.answer ∙ (λ i. (g (x.answer i) (x.world i)).answer);
          world = y.world ∙ (λ i. (g (x.answer i) (x.world i)).world);
          grows = grows_further w (m s w).world (f (m s w).answer (m s w).storage (m s w).world).world x.grows y.grows;
          calls_grow = begins_further s.calls (m s w).storage.calls (f (m s w).answer (m s w).storage (m s w).world).storage.calls x.calls_grow y.calls_grow;
          fits = λ known scope room r found shallow front.
              let e = both_none (c w).found (g (c w).answer (c w).world).found found in
              let p = x.fits known scope room r e.0 (shallow_before y.grows shallow) (begins_further (m s w).storage.calls (f (m s w).answer (m s w).storage (m s w).world).storage.calls calls y.calls_grow front) in
              let mid : Known (m s w).storage (m s w).world = record {
                good = p.0;
                defined = x.grows.defined ∙ known.defined ∙ sym (h.sites.makes.defined s w);
                standing = (sites_stand gs h.sites).standing s w known.standing room;
              } in
              y.fits mid (scope_kept gs h.sites.makes s w ∙ scope) (room_kept gs h.sites.makes s w room) p.1 ((λ i. (g (x.answer i) (x.world i)).found) ∙ e.1) shallow front;
        };
  }

  pub from : {A B : Type 0} {n a b : ℕ} {seen : B → A} {R S : World → Type 0} {P : World → B → Type 0} {m : Resolving B} {c : Rule A} → ((w : World) → R w → S w) → Run n a b seen S P m c → Run n a b seen R P m c
  from g h = record {
    sites = h.sites;
    steps = λ s w. let x = h.steps s w in record { answer = x.answer; world = x.world; grows = x.grows; calls_grow = x.calls_grow; fits = λ known scope room r found shallow front. x.fits known scope room (g w r) found shallow front };
  }

  pub beside : {A B : Type 0} {n a b : ℕ} {seen : B → A} {R : World → Type 0} {P : World → B → Type 0} {m : Resolving B} {c : Rule A} (X : World → Type 0) → Stays X → Run n a b seen R P m c
      → Run n a b seen (λ w. X w × R w) (λ w b. X w × P w b) m c
  beside {m = m} X stays h = record {
    sites = h.sites;
    steps = λ s w. let x = h.steps s w in record {
      answer = x.answer;
      world = x.world;
      grows = x.grows;
      calls_grow = x.calls_grow;
      fits = λ known scope room r found shallow front. let p = x.fits known scope room r.1 found shallow front in (p.0, (stays w (m s w).world x.grows r.0, p.1));
    };
  }

  -- what has nothing to do with what is known
  pub carried : {A B : Type 0} {n a b : ℕ} {seen : B → A} {P : World → B → Type 0} {m : Resolving B} {c : Rule A} (X : Type 0) → Run n a b seen (λ w. Unit {0}) P m c → Run n a b seen (λ w. X) (λ w b. X × P w b) m c
  carried X h = from (λ w x. (x, tt)) (beside (λ w. X) (λ w z g x. x) h)

  pub room_is : {A B : Type 0} {n a b d : ℕ} {seen : B → A} {R : World → Type 0} {P : World → B → Type 0} {m : Resolving B} {c : Rule A} → a ≡ b → Run n b d seen R P m c → Run n a d seen R P m c
  room_is {n = n} {d = d} {seen = seen} {R = R} {P = P} {m = m} {c = c} e h = subst (λ k. Run n k d seen R P m c) (sym e) h

  -- what is quiet
  pub embed : {A B : Type 0} {n a : ℕ} {seen : B → A} {R : Type 0} {P : B → Type 0} {m : Resolving B} {c : Rule A} → Quiet m → Walk gs calls n written seen R P m c → Run n a a seen (λ w. R) (λ w b. P b) m c
  embed {n = n} q h = record {
    sites = quiet gs q;
    steps = λ s w. let x = h.steps s w in record {
      answer = x.answer;
      world = x.world;
      grows = x.grows;
      calls_grow = x.calls_grow;
      fits = λ known scope room r found shallow front.
          let p = x.fits (known_stands n s w scope known) r found shallow front in
          (record { is_written = p.0.is_written; sound = p.0.sound; free = p.0.names.free }, p.1);
    };
  }

  pub free_stays : (w z : World) → NamesStay w z → Free w → Free z
  free_stays w z h free name entry is = free name entry (sym (same_names w z h name) ∙ is)

  -- a rule of the checks by which names stay
  pub checked_run : {A : Type 0} {n a : ℕ} {R : World → Type 0} {P : World → A → Type 0} {c : Rule A} → Staying c → Typing R P c → Run n a a (λ x. x) R P (checks c) c
  unfolding checks
  checked_run {c = c} st h = record {
    sites = quiet gs (quiet_checks st);
    steps = λ s w. record {
      answer = refl;
      world = refl;
      grows = h.growing.grows w;
      calls_grow = begins_itself s.calls;
      fits = λ known scope room r found shallow front.
          let p = h.types w known.good.sound r found shallow in
          (record { is_written = (h.growing.grows w).written ∙ known.good.is_written; sound = p.0; free = free_stays w (c w).world (st.stays w) known.good.free }, p.1);
    };
  }

  -- what the checks find, too
  pub found_run : {A : Type 0} {n a : ℕ} {R : World → Type 0} {P : World → A → Type 0} {m : Resolving A} {c : Rule A} → Quiet m → Finds (λ x. x) m c → Stores m → Staying c → Typing R P c → Run n a a (λ x. x) R P m c
  found_run {P = P} {m = m} {c = c} q f t st h = record {
    sites = quiet gs q;
    steps = λ s w. record {
      answer = f.answer s w;
      world = f.world s w;
      grows = subst (λ z. Grows w z) (sym (f.world s w)) (h.growing.grows w);
      calls_grow = t.calls s w;
      fits = λ known scope room r found shallow front.
          let p = h.types w known.good.sound r found (subst (λ z. Shallow z) (f.world s w) shallow) in
          let good : Good (c w).world = record { is_written = (h.growing.grows w).written ∙ known.good.is_written; sound = p.0; free = free_stays w (c w).world (st.stays w) known.good.free } in
          (subst (λ z. Good z) (sym (f.world s w)) good, (λ (x : P (c w).world (c w).answer). subst (λ z. P z (m s w).answer) (sym (f.world s w)) (subst (λ b. P (c w).world b) (sym (f.answer s w)) x)) p.1);
    };
  }

  -- behind a rule of the checks alone
  pub skip_first : {A B : Type 0} {n a b : ℕ} {seen : B → A} {R : World → Type 0} {P : World → B → Type 0} {m : Resolving B} (d : Rule (Unit {0})) (g : Unit {0} → Rule A) → Idle d → Run n a b seen R P m (g tt) → Run n a b seen R P m (check_chain d g)
  unfolding check_chain
  skip_first d g idle h = record {
    sites = h.sites;
    steps = λ s w.
        let x = h.steps s w in
        record {
          answer = x.answer ∙ (λ i. (g tt (sym (idle.world w) i)).answer);
          world = x.world ∙ (λ i. (g tt (sym (idle.world w) i)).world);
          grows = x.grows;
          calls_grow = x.calls_grow;
          fits = λ known scope room r found shallow front. x.fits known scope room r ((λ i. (g tt (sym (idle.world w) i)).found) ∙ (both_none (d w).found (g tt (d w).world).found found).1) shallow front;
        };
  }

  pub pure_run : {A B : Type 0} {n a : ℕ} {seen : B → A} {R : World → Type 0} {P : World → B → Type 0} (b : B) → ((w : World) → R w → P w b) → Run n a a seen R P (pure b) (check_pure (seen b))
  unfolding pure check_pure
  pure_run b g = record {
    sites = quiet gs (quiet_pure b);
    steps = λ s w. record { answer = refl; world = refl; grows = grows_itself w; calls_grow = begins_itself s.calls; fits = λ known scope room r found shallow front. (known.good, g w r) };
  }

  -- another answer
  pub answered : {A B D : Type 0} {n a b : ℕ} {seen : B → A} {also : D → A} {R : World → Type 0} {P : World → B → Type 0} {Q : World → D → Type 0} {m : Resolving B} {c : Rule A} (f : B → D)
      → ((x : B) → also (f x) ≡ seen x) → ((w : World) (x : B) → P w x → Q w (f x)) → Run n a b seen R P m c → Run n a b also R Q (chain m (λ x. pure (f x))) c
  unfolding chain pure
  answered {m = m} f same to h = record {
    sites = sites.chained gs h.sites (λ x. quiet gs (quiet_pure (f x)));
    steps = λ s w. let x = h.steps s w in record {
      answer = same (m s w).answer ∙ x.answer;
      world = x.world;
      grows = x.grows;
      calls_grow = x.calls_grow;
      fits = λ known scope room r found shallow front. let p = x.fits known scope room r found shallow front in (p.0, to (m s w).world (m s w).answer p.1);
    };
  }

  -- ---- scopes and blocks

  nothing_named : {C : Type 0} (x : Text) (entry : EntryData) → find x [] ≡ Some entry → C
  nothing_named x entry e = none_not e

  known_inside : (s : Storage) (w : World) → Known s w → Known s (entered w)
  known_inside s w h = record {
    good = record {
      is_written = h.good.is_written;
      sound = record { here = λ x entry e. nothing_named x entry e; outer = (h.good.sound.here, h.good.sound.outer); structs = h.good.sound.structs };
      free = h.good.free;
    };
    defined = h.defined;
    standing = record { here = λ x entry e. nothing_named x entry e; outer = (h.standing.here, h.standing.outer); sites = h.standing.sites };
  }

  sound_left : (w : World) → Sound w → Shallow (left w) → Sound (left w)
  unfolding leave change
  sound_left w h shallow = (leave_types.types w h tt refl shallow).0

  left_grows : (w : World) → Grows w (left w)
  unfolding leave change
  left_grows w = leave_grows.grows w

  entered_grows : (w : World) → Grows w (entered w)
  unfolding enter change
  entered_grows w = enter_grows.grows w

  free_left : (w z : World) → z.outer ≡ w.here ∷ w.outer → Free w → Free (left z)
  free_left w z e free name entry is =
      free name entry (sym (λ j. or_else (find name (left_here z w.here w.outer e j).names) (look_up_in (left_outer z w.here w.outer e j) name)) ∙ is)

  -- in a scope of its own
  pub scoped_run : {B : Type 0} {n a b : ℕ} {seen : B → Unit {0}} {R : Type 0} {P : B → Type 0} {m : Resolving B} {c : Rule (Unit {0})} → Run n a b seen (λ w. R) (λ w x. P x) m c
      → Run n a b seen (λ w. R) (λ w x. P x) (scoped m) (checked.scoped c)
  unfolding chain checks pure enter leave change check_chain
  scoped_run {m = m} {c = c} h = record {
    sites = scoped_sites gs h.sites;
    steps = λ s w.
        let x = h.steps s (entered w) in
        let z = (m s (entered w)).world in
        record {
          answer = refl;
          world = ap left x.world;
          grows = grows_further w (entered w) (left z) (entered_grows w) (grows_further (entered w) z (left z) x.grows (left_grows z));
          calls_grow = x.calls_grow;
          fits = λ known scope room r found shallow front.
              let p = x.fits (known_inside s w known) scope room r (both_none (c (entered w)).found [] found).0 (shallow_before (left_grows z) shallow) front in (
                record {
                  is_written = (left_grows z).written ∙ p.0.is_written;
                  sound = sound_left z p.0.sound shallow;
                  free = free_left w z (h.sites.outer s (entered w)) known.good.free;
                },
                p.1,
              );
        };
  }

  pub known_in_block : (k : ℕ) (s : Storage) (w : World) → Known s w → Known (inside_block k s) w
  known_in_block k s w h = record {
    good = h.good;
    defined = h.defined;
    standing = record {
      here = names_grow gs (in_scope s) (in_scope (inside_block k s)) s.sites s.sites s.defined w.here.names (more (in_scope s) k) (begins_itself s.sites) h.standing.here;
      outer = scopes_grow gs (in_scope s) (in_scope (inside_block k s)) s.sites s.sites s.defined w.outer (more (in_scope s) k) (begins_itself s.sites) h.standing.outer;
      sites = h.standing.sites;
    };
  }
    where
      more : (a b : ℕ) → a ≤ a + b
      more a b = omega (arith)

  -- a block of so many objects
  pub block_run : {B : Type 0} {n a : ℕ} {seen : B → Unit {0}} {R : Type 0} {P : B → Type 0} {m : Resolving B} {c : Rule (Unit {0})} (k : ℕ) → Run (n + k) (k + 0) 0 seen (λ w. R) (λ w x. P x) m c
      → Run n a a (λ x. seen x.1) (λ w. R) (λ w x. (length x.0 ≡ k) × P x.1) (in_block k (scoped m)) (checked.scoped c)
  unfolding chain stored arrange pure
  block_run {n = n} {m = m} k h = record {
    sites = block_sites gs k h.sites;
    steps = λ s w.
        let x = (scoped_run h).steps (inside_block k s) w in
        record {
          answer = refl;
          world = x.world;
          grows = x.grows;
          calls_grow = x.calls_grow;
          fits = λ known scope room r found shallow front.
              let p = x.fits (known_in_block k s w known) (ap (λ j. j + k) scope) (none_made k) r found shallow front in
              (p.0, (in_block_full k (scoped m) (scoped_sites gs h.sites).makes s w, p.1));
        };
  }
    where
      none_made : (k : ℕ) → 0 + (k + 0) ≡ k
      none_made k = omega (arith)
