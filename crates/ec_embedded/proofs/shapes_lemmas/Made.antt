-- How readings of shapes are read step by step.
use Rattle.std.proofs.Common.{◌≡◌, Bool, true, false, List, refl}
use Rattle.ec_embedded.specs.shapes.ReadShapes.{Outcome, done, stopped, and_then}

module _ {K S : Type 0} where
  -- what is made of a tree that is read
  abbrev pub made : {A B : Type 0} → (A → B) → Outcome A K S → Outcome B K S
  made f o = and_then o (λ v n w. done (f v) n w)

  pub same_next : {A B : Type 0} (o : Outcome A K S) (f g : A → S → List K → Outcome B K S) → ((v : A) (n : S) (w : List K) → f v n w ≡ g v n w) → and_then o f ≡ and_then o g
  same_next (done v n w) f g h = h v n w
  same_next (stopped e) f g h = refl

  -- the first of two is made of its tree before the second is read
  pub made_first : {A B C : Type 0} (o : Outcome A K S) (h : A → B) (f : B → S → List K → Outcome C K S) → and_then (made h o) f ≡ and_then o (λ v n w. f (h v) n w)
  made_first (done v n w) h f = refl
  made_first (stopped e) h f = refl

  made_second : {A B D : Type 0} (o : Outcome B K S) (v : A) (h : A × B → D) → made h (and_then o (λ u i q. done (v, u) i q)) ≡ made (λ u. h (v, u)) o
  made_second (done u i q) v h = refl
  made_second (stopped e) v h = refl

  pub made_both : {A B D : Type 0} (o : Outcome A K S) (g : S → List K → Outcome B K S) (h : A × B → D) → made h (and_then o (λ v m r. and_then (g m r) (λ u i q. done (v, u) i q))) ≡ and_then o (λ v m r. made (λ u. h (v, u)) (g m r))
  made_both (done v n w) g h = made_second (g n w) v h
  made_both (stopped e) g h = refl

  pub made_either : {A B C D : Type 0} (b : Bool) (p : Outcome A K S) (q : Outcome B K S) (f : A → C) (g : B → C) (h : C → D)
      → made h (elim b as (λ _. Outcome C K S) [ true ↦ made f p | false ↦ made g q ]) ≡ elim b as (λ _. Outcome D K S) [ true ↦ made (λ v. h (f v)) p | false ↦ made (λ v. h (g v)) q ]
  made_either true (done v n w) q f g h = refl
  made_either true (stopped e) q f g h = refl
  made_either false p (done v n w) f g h = refl
  made_either false p (stopped e) f g h = refl
