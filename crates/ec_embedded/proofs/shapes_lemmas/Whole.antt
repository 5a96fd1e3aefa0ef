-- The reading finds each list of a shape, unless a limit is passed in it.
use Rattle.std.proofs.Common.{◌≡◌, ℕ, zero, suc, ◌≤◌, Bool, true, false, List, [], ◌∷◌, ◌++◌, length, refl, ◌⊎◌, inl, inr, ap, sym, ◌∙◌, subst, Option, Some, None, arith, length-append}
use Rattle.std.proofs.lemmas.Bool.{false≢true}
use Rattle.ec_embedded.specs.declared.shapes.failure.Failure.TheVariants.{OverLimit}
use Rattle.ec_embedded.specs.shapes.Shapes.{Shape, nothing, one, both, either, many, Alphabet, Tree, Labelled, yields_of, yield_of, tokens_of, onward, Fits, counted}
use Rattle.ec_embedded.specs.shapes.ReadShapes.{Outcome, done, stopped, and_then, is_nullable, first_set, next_set, all_apart, is_deterministic, is_next_among, counting, taking, turns, read}
use Rattle.ec_embedded.proofs.shapes_lemmas.Firsts.{tokens_behind, fits_left, fits_right, counted_append, not_left, not_right, empty_nullable, begins, full, begins_or, next_apart, deterministic_many, deterministic_either, deterministic_both}

abbrev pub MetBy : {A K S : Type 0} → Option S → A → Outcome A K S → List K → Type 0
MetBy None v o x = (k : ℕ) × (o ≡ stopped (OverLimit k))
MetBy (Some m) v o x = o ≡ done v m x

map_met : {A C K S : Type 0} (c : Option S) (v : A) (o : Outcome A K S) (x : List K) → MetBy c v o x → (g : A → C) → MetBy c (g v) (and_then o (λ u m r. done (g u) m r)) x
map_met None v o x h g = (h.0, ap (λ o. and_then o (λ u m r. done (g u) m r)) h.1)
map_met (Some n) v o x h g = ap (λ o. and_then o (λ u m r. done (g u) m r)) h

step_met : {A C K S : Type 0} (c : Option S) (v : A) (o : Outcome A K S) (y : List K) → MetBy c v o y → (d : S → Option S) (f : A → S → List K → Outcome C K S) (u : C) (x : List K) → ((m : S) → MetBy (d m) u (f v m y) x) → MetBy (onward c d) u (and_then o f) x
step_met None v o y h d f u x g = (h.0, ap (λ o. and_then o f) h.1)
step_met (Some m) v o y h d f u x g = subst (λ o. MetBy (d m) u (and_then o f) x) (sym h) (g m)

none_left : (n : ℕ) → suc n ≤ 0 → ⊥
none_left n h = omega (arith, h)

module _ {T K S : Type 0} (l : Alphabet T K S) (sound : (t u : T) (x : K) → l.apart t u ≡ true → l.is t x ≡ true → l.is u x ≡ true → ⊥) where
  abbrev Meets : (s : Shape T) → Tree K s → Type 0
  Meets s v = (n : S) (x : List K) → Fits l (yield_of s v) → is_next_among l (next_set s) x ≡ false → MetBy (counted l n (yield_of s v)) v (read l s n (tokens_of (yield_of s v) ++ x)) x

  met_one : (t : T) (v : K) (n : S) (x : List K) → (o : Option S) → MetBy (onward o (λ m. Some m)) v (counting l t v x o) x
  met_one t v n x None = (length (v ∷ x), refl)
  met_one t v n x (Some m) = refl

  -- two lists, one behind the other
  met_both : {A B C : Type 0} (p q : Labelled T K) (v : A) (u : B) (f : S → List K → Outcome A K S) (g : S → List K → Outcome B K S) (h : A → B → C) (n : S) (x : List K)
      → MetBy (counted l n p) v (f n (tokens_of p ++ (tokens_of q ++ x))) (tokens_of q ++ x)
      → ((m : S) → MetBy (counted l m q) u (g m (tokens_of q ++ x)) x)
      → MetBy (counted l n (p ++ q)) (h v u) (and_then (f n (tokens_of (p ++ q) ++ x)) (λ a m r. and_then (g m r) (λ b i y. done (h a b) i y))) x
  met_both p q v u f g h n x e k =
      subst (λ y. MetBy (counted l n (p ++ q)) (h v u) (and_then (f n y) (λ a m r. and_then (g m r) (λ b i y. done (h a b) i y))) x) (sym (tokens_behind p q x))
      (subst (λ c. MetBy c (h v u) (and_then (f n (tokens_of p ++ (tokens_of q ++ x))) (λ a m r. and_then (g m r) (λ b i y. done (h a b) i y))) x) (sym (counted_append l n p q))
      (step_met (counted l n p) v (f n (tokens_of p ++ (tokens_of q ++ x))) (tokens_of q ++ x) e (λ m. counted l m q) (λ a m r. and_then (g m r) (λ b i y. done (h a b) i y)) (h v u) x
      (λ m. map_met (counted l m q) u (g m (tokens_of q ++ x)) x (k m) (λ b. h v b))))

  -- what stands behind the first of two doesn't go on with it
  pub apart_both : (a b : Shape T) → all_apart l (next_set a) (first_set b) ≡ true → (u : Tree K b) (x : List K) → Fits l (yield_of b u) → (is_nullable b ≡ true → is_next_among l (next_set a) x ≡ false) → is_next_among l (next_set a) (tokens_of (yield_of b u) ++ x) ≡ false
  apart_both a b e u x h k = begins_or l (next_set a) (first_set b) (yield_of b u) x (begins l b u h) (λ y f g. next_apart l sound (next_set a) (first_set b) e y f g) (λ f. k (empty_nullable l b u f))

  pub nexts_left : (a b : Shape T) (x : List K) → is_next_among l (next_set (both a b)) x ≡ false → is_nullable b ≡ true → is_next_among l (next_set a) x ≡ false
  nexts_left a b x e f =
      not_right l (first_set b) (next_set a) x (not_right l (next_set b) (first_set b ++ next_set a) x
      (subst (λ c. is_next_among l (elim c as (λ _. List T) [ true ↦ next_set b ++ (first_set b ++ next_set a) | false ↦ next_set b ]) x ≡ false) f e))

  pub nexts_right : (a b : Shape T) (x : List K) → is_next_among l (next_set (both a b)) x ≡ false → is_next_among l (next_set b) x ≡ false
  nexts_right a b x e = go (is_nullable b) e
    where
      go : (c : Bool) → is_next_among l (elim c as (λ _. List T) [ true ↦ next_set b ++ (first_set b ++ next_set a) | false ↦ next_set b ]) x ≡ false → is_next_among l (next_set b) x ≡ false
      go true h = not_left l (next_set b) (first_set b ++ next_set a) x h
      go false h = h

  pub either_left : (a b : Shape T) (x : List K) → is_next_among l (next_set (either a b)) x ≡ false → is_next_among l (next_set a) x ≡ false
  either_left a b x e = go (is_nullable b) e
    where
      go : (c : Bool) → is_next_among l (elim c as (λ _. List T) [ true ↦ first_set a ++ (next_set a ++ next_set b) | false ↦ next_set a ++ next_set b ]) x ≡ false → is_next_among l (next_set a) x ≡ false
      go true h = not_left l (next_set a) (next_set b) x (not_right l (first_set a) (next_set a ++ next_set b) x h)
      go false h = not_left l (next_set a) (next_set b) x h

  pub either_right : (a b : Shape T) (x : List K) → is_next_among l (next_set (either a b)) x ≡ false → is_next_among l (next_set b) x ≡ false
  either_right a b x e = go (is_nullable b) e
    where
      go : (c : Bool) → is_next_among l (elim c as (λ _. List T) [ true ↦ first_set a ++ (next_set a ++ next_set b) | false ↦ next_set a ++ next_set b ]) x ≡ false → is_next_among l (next_set b) x ≡ false
      go true h = not_right l (next_set a) (next_set b) x (not_right l (first_set a) (next_set a ++ next_set b) x h)
      go false h = not_right l (next_set a) (next_set b) x h

  pub either_first : (a b : Shape T) (x : List K) → is_next_among l (next_set (either a b)) x ≡ false → is_nullable b ≡ true → is_next_among l (first_set a) x ≡ false
  either_first a b x e f =
      not_left l (first_set a) (next_set a ++ next_set b) x
      (subst (λ c. is_next_among l (elim c as (λ _. List T) [ true ↦ first_set a ++ (next_set a ++ next_set b) | false ↦ next_set a ++ next_set b ]) x ≡ false) f e)

  met_turns : (a : Shape T) → is_nullable a ≡ false → all_apart l (next_set a) (first_set a) ≡ true → ((v : Tree K a) → Meets a v) → (vs : List (Tree K a)) (k : ℕ) (n : S) (x : List K) → length (tokens_of (yields_of (yield_of a) vs) ++ x) ≤ k
      → Fits l (yields_of (yield_of a) vs) → is_next_among l (first_set a ++ next_set a) x ≡ false → MetBy (counted l n (yields_of (yield_of a) vs)) vs (turns l (is_next_among l (first_set a)) (read l a) k n (tokens_of (yields_of (yield_of a) vs) ++ x)) x
  met_turns a e d f [] zero n x le h y = refl
  met_turns a e d f [] (suc k) n x le h y = subst (λ b. MetBy {A = List (Tree K a)} {K = K} (Some n) [] (elim b as (λ _. Outcome (List (Tree K a)) K S) [
    | true ↦ and_then (read l a n x) (λ v m r. and_then (turns l (is_next_among l (first_set a)) (read l a) k m r) (λ vs i q. done (v ∷ vs) i q))
    | false ↦ done [] n x
  ]) x) (sym (not_left l (first_set a) (next_set a) x y)) refl
  met_turns a e d f (v ∷ vs) zero n x le h y = go (yield_of a v) refl le
    where
      go : (p : Labelled T K) → yield_of a v ≡ p → length (tokens_of (p ++ yields_of (yield_of a) vs) ++ x) ≤ 0 → MetBy (counted l n (yield_of a v ++ yields_of (yield_of a) vs)) (v ∷ vs) (done [] n (tokens_of (yield_of a v ++ yields_of (yield_of a) vs) ++ x)) x
      go [] g z = absurd (false≢true (sym e ∙ empty_nullable l a v g))
      go (q ∷ p) g z = absurd (none_left (length (tokens_of (p ++ yields_of (yield_of a) vs) ++ x)) z)
  met_turns a e d f (v ∷ vs) (suc k) n x le h y =
      let p : Labelled T K = yield_of a v in let q : Labelled T K = yields_of (yield_of a) vs in
      let fp = fits_left l p q h in let fq = fits_right l p q h in
      subst (λ b. MetBy (counted l n (p ++ q)) (v ∷ vs) (elim b as (λ _. Outcome (List (Tree K a)) K S) [
        | true ↦ and_then (read l a n (tokens_of (p ++ q) ++ x)) (λ v m r. and_then (turns l (is_next_among l (first_set a)) (read l a) k m r) (λ vs i q. done (v ∷ vs) i q))
        | false ↦ done [] n (tokens_of (p ++ q) ++ x)
      ]) x) (sym (ap (λ w. is_next_among l (first_set a) w) (tokens_behind p q x) ∙ full l a e v (tokens_of q ++ x) fp))
      (met_both p q v vs (read l a) (turns l (is_next_among l (first_set a)) (read l a) k) (λ b bs. b ∷ bs) n x
      (f v n (tokens_of q ++ x) fp (begins_or l (next_set a) (first_set a) q x (begins l (many a) vs fq) (λ y f g. next_apart l sound (next_set a) (first_set a) d y f g) (λ _. not_right l (first_set a) (next_set a) x y)))
      (λ m. met_turns a e d f vs k m x (shorter p refl le) fq y))
    where
      shorter : (p : Labelled T K) → yield_of a v ≡ p → length (tokens_of (p ++ yields_of (yield_of a) vs) ++ x) ≤ suc k → length (tokens_of (yields_of (yield_of a) vs) ++ x) ≤ k
      shorter [] g z = absurd (false≢true (sym e ∙ empty_nullable l a v g))
      shorter (r ∷ p) g z = let s = ap length (tokens_behind p (yields_of (yield_of a) vs) x) ∙ length-append (tokens_of p) (tokens_of (yields_of (yield_of a) vs) ++ x) in omega (arith, z, s)

  pub met : (s : Shape T) → is_deterministic l s ≡ true → (v : Tree K s) → Meets s v
  met nothing e v n x h y = refl
  met (one t) e v n x h y = subst (λ b. MetBy (onward (l.step n t) (λ m. Some m)) v (taking l t n v x b) x) (sym h.0) (met_one t v n x (l.step n t))
  met (both a b) e v n x h y =
      let f = deterministic_both l a b e in
      let p : Labelled T K = yield_of a v.0 in let q : Labelled T K = yield_of b v.1 in
      met_both p q v.0 v.1 (read l a) (read l b) (λ c d. (c, d)) n x
      (met a f.0 v.0 n (tokens_of q ++ x) (fits_left l p q h) (apart_both a b f.2 v.1 x (fits_right l p q h) (nexts_left a b x y)))
      (λ m. met b f.1 v.1 m x (fits_right l p q h) (nexts_right a b x y))
  met (either a b) e (inl v) n x h y =
      let f = deterministic_either l a b e in
      subst (λ c. MetBy (counted l n (yield_of a v)) (inl v) (elim c as (λ _. Outcome (Tree K a ⊎ Tree K b) K S) [
        | true ↦ and_then (read l a n (tokens_of (yield_of a v) ++ x)) (λ v m r. done (inl v) m r)
        | false ↦ and_then (read l b n (tokens_of (yield_of a v) ++ x)) (λ v m r. done (inr v) m r)
      ]) x) (sym (full l a f.2 v x h))
      (map_met (counted l n (yield_of a v)) v (read l a n (tokens_of (yield_of a v) ++ x)) x (met a f.0 v n x h (either_left a b x y)) (λ v. inl v))
  met (either a b) e (inr v) n x h y =
      let f = deterministic_either l a b e in
      subst (λ c. MetBy (counted l n (yield_of b v)) (inr v) (elim c as (λ _. Outcome (Tree K a ⊎ Tree K b) K S) [
        | true ↦ and_then (read l a n (tokens_of (yield_of b v) ++ x)) (λ v m r. done (inl v) m r)
        | false ↦ and_then (read l b n (tokens_of (yield_of b v) ++ x)) (λ v m r. done (inr v) m r)
      ]) x) (sym (begins_or l (first_set a) (first_set b) (yield_of b v) x (begins l b v h) (λ y g k. next_apart l sound (first_set a) (first_set b) f.3 y g k) (λ g. either_first a b x y (empty_nullable l b v g))))
      (map_met (counted l n (yield_of b v)) v (read l b n (tokens_of (yield_of b v) ++ x)) x (met b f.1 v n x h (either_right a b x y)) (λ v. inr v))
  met (many a) e v n x h y = let f = deterministic_many l a e in met_turns a f.1 f.2 (met a f.0) v (length (tokens_of (yields_of (yield_of a) v) ++ x)) n x (omega arith) h y
