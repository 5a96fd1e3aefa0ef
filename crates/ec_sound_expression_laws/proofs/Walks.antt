-- Parts of the walk through an expression, beside what the checks find: where nothing is wrong, what is known stands behind each, and its answer serves.
use Rattle.std.proofs.Common.{◌≡◌, ◌∙◌, ℕ, Bool, List, [], refl, sym, subst}
use Rattle.ec_typing_defs.specs.Operands.{OperandData}
use Rattle.ec_typing_defs.specs.Worlds.{World, Rule, Out, chain as check_chain, pure as check_pure, ask as check_ask}
use Rattle.ec_meaning_defs.specs.observed.Run.{IsFront}
use Rattle.ec_resolving_defs.specs.Agreement.{operand_of}
use Rattle.ec_resolving_defs.specs.Operands.{Found}
use Rattle.ec_resolving_defs.specs.Storage.{Storage, Reached, reached, Resolving, LibraryCall, chain, pure, ask}
use Rattle.ec_sim_world_laws.specs.growth.Growth.{Grows}
use Rattle.ec_sim_world_laws.proofs.growth_lemmas.Rules.{Growing, grows_itself, grows_further, begins_itself, begins_further}
use Rattle.ec_sim_program_laws.proofs.types_lemmas.Rules.{Shallow, shallow_before, both_none}
use Rattle.ec_sound_defs.specs.Sound.{Signature}
use Rattle.ec_sound_form_laws.proofs.Answered.{Tells}
use Rattle.ec_sound_expression_laws.specs.Standing.{IsStanding}

module _ (gs : List Signature) (calls : List LibraryCall) (n : ℕ) (written : Bool) where
  abbrev pub Stands : Storage → World → Type 0
  Stands s w = IsStanding gs n written s w

  -- from here, where this is known, and the calls so far are the first of all
  pub record Step {A B : Type 0} (seen : B → A) (R : Type 0) (P : B → Type 0) (s : Storage) (w : World) (r : Reached B) (o : Out A) : Type 0 where
    pub answer : seen r.answer ≡ o.answer
    pub world : r.world ≡ o.world
    pub grows : Grows w r.world
    pub calls_grow : IsFront s.calls r.storage.calls
    pub fits : Stands s w → R → o.found ≡ [] → Shallow r.world → IsFront r.storage.calls calls → Stands r.storage r.world × P r.answer

  pub record Walk {A B : Type 0} (seen : B → A) (R : Type 0) (P : B → Type 0) (m : Resolving B) (c : Rule A) : Type 0 where
    pub steps : (s : Storage) (w : World) → Step seen R P s w (m s w) (c w)

  pub chained : {A B C D : Type 0} {seen : B → A} {also : D → C} {R : Type 0} {P : B → Type 0} {Q : D → Type 0} {m : Resolving B} {c : Rule A} {f : B → Resolving D} (g : A → Rule C)
      → Walk seen R P m c → ((b : B) → Walk also (P b) Q (f b) (g (seen b))) → Walk also R Q (chain m f) (check_chain c g)
  unfolding chain check_chain
  chained {A} {B} {C} {D} {seen} {also} {R} {P} {Q} {m} {c} {f} g h k = record {
    steps = λ s w.
        let x = h.steps s w in
        let y = (k (m s w).answer).steps (m s w).storage (m s w).world in
        record {
          answer = y.answer ∙ (λ i. (g (x.answer i) (x.world i)).answer);
          world = y.world ∙ (λ i. (g (x.answer i) (x.world i)).world);
          grows = grows_further w (m s w).world (f (m s w).answer (m s w).storage (m s w).world).world x.grows y.grows;
          calls_grow = begins_further s.calls (m s w).storage.calls (f (m s w).answer (m s w).storage (m s w).world).storage.calls x.calls_grow y.calls_grow;
          fits = λ stands r found shallow front.
              let e = both_none (c w).found (g (c w).answer (c w).world).found found in
              let p = x.fits stands r e.0 (shallow_before y.grows shallow) (begins_further (m s w).storage.calls (f (m s w).answer (m s w).storage (m s w).world).storage.calls calls y.calls_grow front) in
              y.fits p.0 p.1 ((λ i. (g (x.answer i) (x.world i)).found) ∙ e.1) shallow front;
        };
  }

  -- what is known before may be more, and what is known behind less
  pub from : {A B : Type 0} {seen : B → A} {R S : Type 0} {P : B → Type 0} {m : Resolving B} {c : Rule A} → (R → S) → Walk seen S P m c → Walk seen R P m c
  from g h = record {
    steps = λ s w. let x = h.steps s w in record { answer = x.answer; world = x.world; grows = x.grows; calls_grow = x.calls_grow; fits = λ stands r found shallow front. x.fits stands (g r) found shallow front };
  }

  pub to : {A B : Type 0} {seen : B → A} {R : Type 0} {P Q : B → Type 0} {m : Resolving B} {c : Rule A} → ((b : B) → P b → Q b) → Walk seen R P m c → Walk seen R Q m c
  to {m = m} g h = record {
    steps = λ s w. let x = h.steps s w in record {
      answer = x.answer;
      world = x.world;
      grows = x.grows;
      calls_grow = x.calls_grow;
      fits = λ stands r found shallow front. let p = x.fits stands r found shallow front in (p.0, g (m s w).answer p.1);
    };
  }

  pub beside : {A B : Type 0} {seen : B → A} {R : Type 0} {P : B → Type 0} {m : Resolving B} {c : Rule A} (X : Type 0) → Walk seen R P m c → Walk seen (X × R) (λ b. X × P b) m c
  beside X h = record {
    steps = λ s w. let x = h.steps s w in record {
      answer = x.answer;
      world = x.world;
      grows = x.grows;
      calls_grow = x.calls_grow;
      fits = λ stands r found shallow front. let p = x.fits stands r.1 found shallow front in (p.0, (r.0, p.1));
    };
  }

  pub carried : {A B : Type 0} {seen : B → A} {P : B → Type 0} {m : Resolving B} {c : Rule A} (X : Type 0) → Walk seen (Unit {0}) P m c → Walk seen X (λ b. X × P b) m c
  carried X h = from (λ x. (x, tt)) (beside X h)

  pub pure_walks : {A B : Type 0} {seen : B → A} {R : Type 0} {P : B → Type 0} (b : B) → (R → P b) → Walk seen R P (pure b) (check_pure (seen b))
  unfolding pure check_pure
  pure_walks b g = record {
    steps = λ s w. record { answer = refl; world = refl; grows = grows_itself w; calls_grow = begins_itself s.calls; fits = λ stands r found shallow front. (stands, g r) };
  }

  pub ask_walks : {A : Type 0} {R : Type 0} (g : World → A) → Walk (λ a. a) R (λ a. R) (ask g) (check_ask g)
  unfolding ask check_ask
  ask_walks g = record {
    steps = λ s w. record { answer = refl; world = refl; grows = grows_itself w; calls_grow = begins_itself s.calls; fits = λ stands r found shallow front. (stands, r) };
  }

  -- what is known here is known behind what leaves it as it is
  pub stands_still : (s : Storage) (w z : World) → z ≡ w → Stands s w → Stands s z
  stands_still s w z e h = subst (λ x. Stands s x) (sym e) h

  -- what is found out beside a form
  pub leaf : {R : Type 0} {P : Found → Type 0} (m : Resolving Found) (c : Rule OperandData) (form : Storage → World → OperandData → Found)
      → ((s : Storage) (w : World) → m s w ≡ reached (form s w (c w).answer) s (c w).world) → ((s : Storage) (w : World) (o : OperandData) → (form s w o).operand ≡ o) → Growing c
      → ((s : Storage) (w : World) → Stands s w → R → Tells w (λ o. P (form s w o)) c) → Walk operand_of R P m c
  leaf {R} {P} m c form is keeps growing tells = record {
    steps = λ s w. subst (λ r. Step operand_of R P s w r (c w)) (sym (is s w)) (record {
      answer = keeps s w (c w).answer;
      world = refl;
      grows = growing.grows w;
      calls_grow = begins_itself s.calls;
      fits = λ stands r found shallow front. let t = tells s w stands r in (stands_still s w (c w).world t.same stands, t.tells found);
    });
  }
