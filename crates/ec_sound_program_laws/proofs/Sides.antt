-- Walks beside rules that leave what is known as it is.
use Rattle.std.proofs.Common.{◌≡◌, ◌∙◌, ℕ, Bool, List, [], refl, sym, ap, subst}
use Rattle.ec_typing_defs.specs.Worlds.{World, Rule, chain as check_chain, pure as check_pure}
use Rattle.ec_resolving_defs.specs.Storage.{Storage, Resolving, LibraryCall, chain, pure, checks, ask}
use Rattle.ec_sim_world_laws.specs.growth.Growth.{Grows}
use Rattle.ec_sim_world_laws.proofs.growth_lemmas.Rules.{grows_itself, begins_itself, begins_further}
use Rattle.ec_sim_world_laws.proofs.known_lemmas.SitesIdle.{Idle}
use Rattle.ec_sim_program_laws.proofs.types_lemmas.Rules.{Shallow, both_none}
use Rattle.ec_sound_defs.specs.Sound.{Signature}
use Rattle.ec_sound_expression_laws.specs.Standing.{NamesStand}
use Rattle.ec_sound_expression_laws.proofs.Storing.{Stores}
use Rattle.ec_sound_expression_laws.proofs.Walks.{Stands, Step, Walk, stands_still}

module _ (gs : List Signature) (calls : List LibraryCall) (n : ℕ) (written : Bool) where
  pub grows_still : (w z : World) → z ≡ w → Grows w z
  grows_still w z e = subst (λ x. Grows w x) (sym e) (grows_itself w)

  -- what is answered beside a rule
  pub idle_pure : {A B : Type 0} {seen : B → A} {R : Type 0} {P : B → Type 0} (b : B) (c : Rule A) → Idle c → ((w : World) → seen b ≡ (c w).answer) → ((w : World) → R → (c w).found ≡ [] → P b) → Walk gs calls n written seen R P (pure b) c
  unfolding pure
  idle_pure b c idle same g = record {
    steps = λ s w. record { answer = same w; world = sym (idle.world w); grows = grows_itself w; calls_grow = begins_itself s.calls; fits = λ stands r found shallow front. (stands, g w r found) };
  }

  -- what is asked beside it
  pub idle_ask : {A B : Type 0} {seen : B → A} {R : Type 0} {P : B → Type 0} (f : World → B) (c : Rule A) → Idle c → ((w : World) → seen (f w) ≡ (c w).answer) → ((w : World) → R → (c w).found ≡ [] → P (f w)) → Walk gs calls n written seen R P (ask f) c
  unfolding ask
  idle_ask f c idle same g = record {
    steps = λ s w. record { answer = same w; world = sym (idle.world w); grows = grows_itself w; calls_grow = begins_itself s.calls; fits = λ stands r found shallow front. (stands, g w r found) };
  }

  -- the rule itself
  pub idle_checks : {A : Type 0} {R : Type 0} {P : A → Type 0} (c : Rule A) → Idle c → ((w : World) → R → (c w).found ≡ [] → P (c w).answer) → Walk gs calls n written (λ a. a) R P (checks c) c
  unfolding checks
  idle_checks c idle g = record {
    steps = λ s w. record {
      answer = refl;
      world = refl;
      grows = grows_still w (c w).world (idle.world w);
      calls_grow = begins_itself s.calls;
      fits = λ stands r found shallow front. (stands_still gs calls n written s w (c w).world (idle.world w) stands, g w r found);
    };
  }

  -- behind a rule of the checks alone
  pub idle_first : {A B : Type 0} {seen : B → A} {R : Type 0} {P : B → Type 0} {m : Resolving B} (d : Rule (Unit {0})) (c : Unit {0} → Rule A) → Idle d → Walk gs calls n written seen R P m (c tt) → Walk gs calls n written seen R P m (check_chain d c)
  unfolding check_chain
  idle_first {seen = seen} {R = R} {P = P} {m = m} d c idle h = record {
    steps = λ s w.
        let x = h.steps s w in
        record {
          answer = x.answer ∙ (λ i. (c tt (sym (idle.world w) i)).answer);
          world = x.world ∙ (λ i. (c tt (sym (idle.world w) i)).world);
          grows = x.grows;
          calls_grow = x.calls_grow;
          fits = λ stands r found shallow front. x.fits stands r ((λ i. (c tt (sym (idle.world w) i)).found) ∙ (both_none (d w).found (c tt (d w).world).found found).1) shallow front;
        };
  }

  -- what is only looked up
  pub asked_first : {A B C : Type 0} {seen : B → A} {R : Type 0} {P : B → Type 0} {c : Rule A} (f : World → C) (k : C → Resolving B) → ((a : C) → Walk gs calls n written seen R P (k a) c) → Walk gs calls n written seen R P (chain (ask f) k) c
  unfolding chain ask
  asked_first f k h = record {
    steps = λ s w. let x = (h (f w)).steps s w in record { answer = x.answer; world = x.world; grows = x.grows; calls_grow = x.calls_grow; fits = x.fits };
  }

  -- another answer of it
  pub then_pure : {A B C D : Type 0} {seen : B → A} {also : D → C} {R : Type 0} {P : B → Type 0} {Q : D → Type 0} {m : Resolving B} {c : Rule A} (f : B → D) (g : A → C)
      → ((b : B) → also (f b) ≡ g (seen b)) → ((b : B) → P b → Q (f b)) → Walk gs calls n written seen R P m c → Walk gs calls n written also R Q (chain m (λ b. pure (f b))) (check_chain c (λ a. check_pure (g a)))
  unfolding chain pure check_chain check_pure
  then_pure {m = m} {c = c} f g same to h = record {
    steps = λ s w.
        let x = h.steps s w in
        record {
          answer = same (m s w).answer ∙ ap g x.answer;
          world = x.world;
          grows = x.grows;
          calls_grow = x.calls_grow;
          fits = λ stands r found shallow front. let p = x.fits stands r (both_none (c w).found [] found).0 shallow front in (p.0, to (m s w).answer p.1);
        };
  }

  pub then_answer : {A B D : Type 0} {seen : B → A} {also : D → A} {R : Type 0} {P : B → Type 0} {Q : D → Type 0} {m : Resolving B} {c : Rule A} (f : B → D)
      → ((b : B) → also (f b) ≡ seen b) → ((b : B) → P b → Q (f b)) → Walk gs calls n written seen R P m c → Walk gs calls n written also R Q (chain m (λ b. pure (f b))) c
  unfolding chain pure
  then_answer {m = m} f same to h = record {
    steps = λ s w.
        let x = h.steps s w in
        record {
          answer = same (m s w).answer ∙ x.answer;
          world = x.world;
          grows = x.grows;
          calls_grow = x.calls_grow;
          fits = λ stands r found shallow front. let p = x.fits stands r found shallow front in (p.0, to (m s w).answer p.1);
        };
  }

  -- ---- what makes literals alone, and finds nothing more

  pub record Aside {A : Type 0} (R : Type 0) (P : A → Type 0) (m : Resolving A) : Type 0 where
    pub world : (s : Storage) (w : World) → (m s w).world ≡ w
    pub stores : Stores m
    pub fits : (s : Storage) (w : World) → R → P (m s w).answer

  stands_stored : (s t : Storage) (w : World) → t.sites ≡ s.sites → t.defined ≡ s.defined → Stands gs calls n written s w → Stands gs calls n written t w
  stands_stored s t w e f h = record {
    is_written = h.is_written;
    sound = h.sound;
    names = subst (λ xs. NamesStand gs n xs t.defined w) (sym e) (subst (λ d. NamesStand gs n s.sites d w) (sym f) h.names);
  }

  -- behind what is found
  pub and_aside : {A B C D : Type 0} {seen : B → A} {also : D → A} {R : Type 0} {P : B → Type 0} {Q : C → Type 0} {S : D → Type 0} {m : Resolving B} {c : Rule A} (k : B → Resolving C) (f : B → C → D)
      → ((b : B) (x : C) → also (f b x) ≡ seen b) → ((b : B) (x : C) → P b → Q x → S (f b x)) → ((b : B) → Aside (P b) Q (k b)) → Walk gs calls n written seen R P m c
      → Walk gs calls n written also R S (chain m (λ b. chain (k b) (λ x. pure (f b x)))) c
  unfolding chain pure
  and_aside {m = m} k f same to aside h = record {
    steps = λ s w.
        let x = h.steps s w in
        let b = (m s w).answer in
        let t = (m s w).storage in
        let z = (m s w).world in
        let a = aside b in
        let still = a.world t z in
        record {
          answer = same b (k b t z).answer ∙ x.answer;
          world = still ∙ x.world;
          grows = subst (λ y. Grows w y) (sym still) x.grows;
          calls_grow = begins_further s.calls t.calls (k b t z).storage.calls x.calls_grow (a.stores.calls t z);
          fits = λ stands r found shallow front.
              let p = x.fits stands r found (subst (λ y. Shallow y) still shallow) (begins_further t.calls (k b t z).storage.calls calls (a.stores.calls t z) front) in (
                stands_still gs calls n written (k b t z).storage z (k b t z).world still (stands_stored t (k b t z).storage z (a.stores.sites t z) (a.stores.defined t z) p.0),
                to b (k b t z).answer p.1 (a.fits t z p.1),
              );
        };
  }

  -- the same, put together otherwise
  pub same_walk : {A B : Type 0} {seen : B → A} {R : Type 0} {P : B → Type 0} {m k : Resolving B} {c : Rule A} → ((s : Storage) (w : World) → k s w ≡ m s w) → Walk gs calls n written seen R P m c → Walk gs calls n written seen R P k c
  same_walk {seen = seen} {R = R} {P = P} {c = c} e h = record { steps = λ s w. subst (λ r. Step gs calls n written seen R P s w r (c w)) (sym (e s w)) (h.steps s w) }
