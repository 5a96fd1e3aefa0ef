-- The reading judges each list as the shape has it, and nothing else is judged of it.
use Rattle.std.proofs.Common.{inl, inr, ◌⊎◌, ◌≡◌, ℕ, true, List, [], ◌∷◌, ◌++◌, refl, ap, ◌+◌, ◌-◌, drop, length, length-append, arith, sym, ◌∙◌, subst, Option, Some, None, append_assoc}
use Rattle.std.proofs.lemmas.List.{append-nil}
use Rattle.std.proofs.Math.Seq.{drop-append_seam}
use Rattle.ec_embedded.specs.declared.shapes.failure.Failure.TheVariants as failure
use Rattle.ec_embedded.specs.shapes.Shapes.{IsTree, IsDead, IsShort, Shape, Alphabet, Tree, Labelled, yield_of, tokens_of, Fits, counted, Front, Judges}
use Rattle.ec_embedded.specs.shapes.ReadShapes.{Outcome, done, stopped, stuck, is_deterministic, read, last, dead_at, over_at, tree_at, judged}
use Rattle.ec_embedded.proofs.shapes_lemmas.Firsts.{tokens_append, SameNext}
use Rattle.ec_embedded.proofs.shapes_lemmas.Whole.{MetBy, met}
use Rattle.ec_embedded.proofs.shapes_lemmas.Stopped.{Got, Stuck, Explains, explain}

-- the tokens from the one on where a reading stops
pub last_is : {K : Type 0} (p q w : List K) (k : ℕ) → w ≡ p ++ q → length q ≡ k → last k w ≡ q
last_is p q w k e f =
    let size : length w ≡ length p + k = ap length e ∙ length-append p q ∙ ap (λ n. length p + n) f in
    let n : length w - k ≡ length p = omega (arith, size) in
    ap (λ y. drop (length w - k) y) e ∙ ap (λ i. drop i (p ++ q)) n ∙ drop-append_seam p q

module _ {T K S : Type 0} (l : Alphabet T K S) (sound : (t u : T) (x : K) → l.apart t u ≡ true → l.is t x ≡ true → l.is u x ≡ true → ⊥) where
  met_none : {A : Type 0} (c : Option S) (v : A) (o : Outcome A K S) (k : ℕ) → MetBy c v o [] → o ≡ stopped (failure.Dead k) → ⊥
  met_none None v o k h e = let f : ◌≡◌ {A = Outcome _ K S} (stopped (failure.Dead k)) (stopped (failure.OverLimit h.0)) = sym e ∙ h.1 in cc
  met_none (Some m) v o k h e = let f : ◌≡◌ {A = Outcome _ K S} (stopped (failure.Dead k)) (done v m []) = sym e ∙ h in cc

  met_more : {A : Type 0} (c : Option S) (v u : A) (m : S) (x : K) (r : List K) (o : Outcome A K S) → MetBy c v o [] → o ≡ done u m (x ∷ r) → ⊥
  met_more None v u m x r o h e = let f : done u m (x ∷ r) ≡ stopped (failure.OverLimit h.0) = sym e ∙ h.1 in cc
  met_more (Some i) v u m x r o h e = let f : done u m (x ∷ r) ≡ done v i [] = sym e ∙ h in cc

  -- the reading of a whole list
  pub whole_text : (s : Shape T) → is_deterministic l s ≡ true → (v : Tree K s) (n : S) → Fits l (yield_of s v) → MetBy (counted l n (yield_of s v)) v (read l s n (tokens_of (yield_of s v))) []
  whole_text s e v n h = subst (λ w. MetBy (counted l n (yield_of s v)) v (read l s n w) []) (append-nil (tokens_of (yield_of s v))) (met l sound s e v n [] h refl)

  -- A list with a token where the reading stops would be read.
  no_front : (s : Shape T) → is_deterministic l s ≡ true → (n : S) (before : List K) (x : K) (o : List K → Outcome (Tree K s) K S) → ((q : List K) → read l s n (before ++ x ∷ q) ≡ o (x ∷ q))
      → ((c : Option S) (v : Tree K s) (q : List K) → MetBy c v (o (x ∷ q)) [] → ⊥) → (labelled : Labelled T K) → tokens_of labelled ≡ before ++ x ∷ [] → Front l s labelled → ⊥
  no_front s e n before x o f g labelled d h =
      let w : tokens_of (yield_of s h.tree) ≡ before ++ x ∷ tokens_of h.rest = ap tokens_of h.whole ∙ tokens_append labelled h.rest ∙ ap (λ y. y ++ tokens_of h.rest) d ∙ append_assoc before (x ∷ []) (tokens_of h.rest) in
      g (counted l n (yield_of s h.tree)) h.tree (tokens_of h.rest)
      (subst (λ a. MetBy (counted l n (yield_of s h.tree)) h.tree a []) (f (tokens_of h.rest)) (subst (λ y. MetBy (counted l n (yield_of s h.tree)) h.tree (read l s n y) []) w (whole_text s e h.tree n h.fits)))

  pub front_whole : (s : Shape T) (v : Tree K s) → Fits l (yield_of s v) → Front l s (yield_of s v)
  front_whole s v h = record { tree = v; rest = []; whole = sym (append-nil (yield_of s v)); fits = h }

  pub stuck_judges : (s : Shape T) → is_deterministic l s ≡ true → (n : S) (w : List K) (k : ℕ) → read l s n w ≡ stopped (failure.Dead k) → (h : Stuck l s (read l s) n w k) → (left : List K) → h.left ≡ left → Judges l s n w (dead_at left)
  stuck_judges s e n w k d h [] f = record {
    before = h.before;
    whole = h.whole ∙ ap (λ y. tokens_of h.before ++ y) f ∙ append-nil (tokens_of h.before);
    front = h.front;
    count = h.count;
    within = h.within;
    short = λ v g i. met_none (counted l n (yield_of s v)) v (read l s n (tokens_of (yield_of s v))) k (whole_text s e v n g) (ap (λ y. read l s n y) (sym i) ∙ d);
  }
  stuck_judges s e n w k d h (x ∷ r) f = record {
    before = h.before;
    whole = h.whole ∙ ap (λ y. tokens_of h.before ++ y) f;
    front = h.front;
    count = h.count;
    within = h.within;
    dead = no_front s e n (tokens_of h.before) x (λ q. stuck q) (λ q. h.still (x ∷ q) (subst (λ y. SameNext y (x ∷ q)) (sym f) refl)) (λ c u q i. met_none c u (stuck (x ∷ q)) (length (x ∷ q)) i refl);
  }

  -- behind a tree that is read no list of the shape goes on
  pub tree_ends : (s : Shape T) → is_deterministic l s ≡ true → (n : S) (w : List K) (v : Tree K s) (m : S) (x : K) (r : List K) → Got l s (read l s) n w v m (x ∷ r) → (labelled : Labelled T K) → tokens_of labelled ≡ tokens_of (yield_of s v) ++ x ∷ [] → Front l s labelled → ⊥
  tree_ends s e n w v m x r h = no_front s e n (tokens_of (yield_of s v)) x (λ q. done v m q) (λ q. h.still (x ∷ q) refl) (λ c u q k. met_more c u v m x q (done v m (x ∷ q)) k refl)

  tree_judges : (s : Shape T) → is_deterministic l s ≡ true → (n : S) (w : List K) (v : Tree K s) (m : S) (r : List K) → Got l s (read l s) n w v m r → Judges l s n w (tree_at v r)
  tree_judges s e n w v m [] h = record { whole = h.whole ∙ append-nil (tokens_of (yield_of s v)); fits = h.fits; count = m; within = h.within }
  tree_judges s e n w v m (x ∷ r) h = record {
    before = yield_of s v;
    whole = h.whole;
    front = front_whole s v h.fits;
    count = m;
    within = h.within;
    dead = tree_ends s e n w v m x r h;
  }

  judges : (s : Shape T) → is_deterministic l s ≡ true → (n : S) (w : List K) (o : Outcome (Tree K s) K S) → read l s n w ≡ o → Explains l s (read l s) n w o → Judges l s n w (judged w o)
  judges s e n w (done v m r) d h = tree_judges s e n w v m r h
  judges s e n w (stopped (failure.Dead k)) d h = subst (λ y. Judges l s n w (dead_at y)) (sym (last_is (tokens_of h.before) h.left w k h.whole h.size)) (stuck_judges s e n w k d h h.left refl)
  judges s e n w (stopped (failure.OverLimit k)) d h = subst (λ y. Judges l s n w (over_at y)) (sym (last_is (tokens_of h.before) (h.token ∷ h.after) w k h.whole h.size))
      (record { before = h.before; terminal = h.terminal; whole = h.whole; front = h.front; count = h.count; within = h.within; over = h.over })
  judges s e n w (stopped failure.OutOfMemory) d h = absurd h

  -- What the reading judges is so.
  pub exact : (s : Shape T) → is_deterministic l s ≡ true → (n : S) (w : List K) → Judges l s n w (judged w (read l s n w))
  exact s e n w = judges s e n w (read l s n w) refl (explain l s e n w)

-- the tokens that are left are the last ones
pub left_last : {T K S : Type 0} (l : Alphabet T K S) (s : Shape T) → is_deterministic l s ≡ true → (n : S) (w : List K) (v : Tree K s) (m : S) (r : List K) → read l s n w ≡ done v m r → last (length r) w ≡ r
left_last {T} {K} {S} l s e n w v m r d = go (subst (λ o. Explains l s (read l s) n w o) d (explain l s e n w))
  where
    go : Got l s (read l s) n w v m r → last (length r) w ≡ r
    go h = last_is (tokens_of (yield_of s v)) r w (length r) h.whole refl

-- two cuts of one list, each at a token
abbrev pub TwoCuts : {K : Type 0} → List K → List K → K → K → List K → List K → Type 0
TwoCuts {K} p q x y a b = ((z : List K) × (q ≡ (p ++ x ∷ []) ++ z)) ⊎ (((z : List K) × (p ≡ (q ++ y ∷ []) ++ z)) ⊎ ((x ≡ y) × (a ≡ b) × (p ≡ q)))

pub two_cuts : {K : Type 0} (p q : List K) (x y : K) (a b : List K) → p ++ x ∷ a ≡ q ++ y ∷ b → TwoCuts p q x y a b
two_cuts [] [] x y a b e = let f : x ∷ a ≡ y ∷ b = e in inr (inr ((let g : x ≡ y = cc in g), (let g : a ≡ b = cc in g), refl))
two_cuts [] (c ∷ q) x y a b e = let f : x ∷ a ≡ c ∷ (q ++ y ∷ b) = e in let g : c ≡ x = cc in inl (q, ap (λ z. z ∷ q) g)
two_cuts (c ∷ p) [] x y a b e = let f : c ∷ (p ++ x ∷ a) ≡ y ∷ b = e in let g : c ≡ y = cc in inr (inl (p, ap (λ z. z ∷ p) g))
two_cuts (c ∷ p) (d ∷ q) x y a b e =
    let f : c ∷ (p ++ x ∷ a) ≡ d ∷ (q ++ y ∷ b) = e in
    go (two_cuts p q x y a b (let g : p ++ x ∷ a ≡ q ++ y ∷ b = cc in g)) (let g : c ≡ d = cc in g)
  where
    go : TwoCuts p q x y a b → c ≡ d → TwoCuts (c ∷ p) (d ∷ q) x y a b
    go (inl h) g = inl (h.0, (λ i. sym g i ∷ h.1 i))
    go (inr (inl h)) g = inr (inl (h.0, (λ i. g i ∷ h.1 i)))
    go (inr (inr h)) g = inr (inr (h.0, h.1, (λ i. g i ∷ h.2 i)))

-- labelled tokens, cut where its tokens are cut
pub labelled_cut : {T K : Type 0} (labelled : Labelled T K) (p q : List K) → tokens_of labelled ≡ p ++ q → (a : Labelled T K) × (b : Labelled T K) × (tokens_of a ≡ p) × (labelled ≡ a ++ b)
labelled_cut labelled [] q e = ([], labelled, refl, refl)
labelled_cut [] (y ∷ p) q e = absurd (let f : [] ≡ y ∷ (p ++ q) = e in cc)
labelled_cut (z ∷ labelled) (y ∷ p) q e =
    let f : z.1 ∷ tokens_of labelled ≡ y ∷ (p ++ q) = e in
    let c = labelled_cut labelled p q (let g : tokens_of labelled ≡ p ++ q = cc in g) in
    let g : z.1 ≡ y = cc in
    (z ∷ c.0, c.1, (λ i. g i ∷ c.2 i), ap (λ r. z ∷ r) c.3)

module _ {T K S : Type 0} (l : Alphabet T K S) (sound : (t u : T) (x : K) → l.apart t u ≡ true → l.is t x ≡ true → l.is u x ≡ true → ⊥) where
  -- a tree of the list is what is read
  tree_read : (s : Shape T) → is_deterministic l s ≡ true → (n : S) (w : List K) (v : Tree K s) → (h : IsTree l s n w v) → read l s n w ≡ done v h.count []
  tree_read s e n w v h =
      let m : MetBy (Some h.count) v (read l s n (tokens_of (yield_of s v))) [] = subst (λ c. MetBy c v (read l s n (tokens_of (yield_of s v))) []) h.within (whole_text l sound s e v n h.fits) in
      ap (λ y. read l s n y) h.whole ∙ m

  -- A list has one tree at most.
  pub one_tree : (s : Shape T) → is_deterministic l s ≡ true → (n : S) (w : List K) (v u : Tree K s) → IsTree l s n w v → IsTree l s n w u → v ≡ u
  one_tree s e n w v u h k = same_tree v u h.count k.count (sym (tree_read s e n w v h) ∙ tree_read s e n w u k)
    where
      same_tree : (v u : Tree K s) (i j : S) → ◌≡◌ {A = Outcome (Tree K s) K S} (done v i []) (done u j []) → v ≡ u
      same_tree v u i j d = cc

  -- The list before a dead token is no part of a tree.
  pub tree_or_dead : (s : Shape T) (n : S) (w : List K) (v : Tree K s) (x : K) (after : List K) → IsTree l s n w v → IsDead l s n w x after → ⊥
  tree_or_dead s n w v x after h d =
      let c = labelled_cut (yield_of s v) (tokens_of d.before ++ x ∷ []) after (sym h.whole ∙ d.whole ∙ sym (append_assoc (tokens_of d.before) (x ∷ []) after)) in
      d.dead c.0 c.2 (record { tree = v; rest = c.1; whole = c.3; fits = h.fits })

  pub front_of_front : (s : Shape T) (before a b : Labelled T K) → before ≡ a ++ b → Front l s before → Front l s a
  front_of_front s before a b e f = record { tree = f.tree; rest = b ++ f.rest; whole = f.whole ∙ ap (λ y. y ++ f.rest) e ∙ append_assoc a b f.rest; fits = f.fits }

  -- no front goes on with a dead token
  pub none_beyond : (s : Shape T) (n : S) (w : List K) (x : K) (after : List K) (d : IsDead l s n w x after) (before : Labelled T K) (z : List K) → Front l s before → tokens_of before ≡ (tokens_of d.before ++ x ∷ []) ++ z → ⊥
  none_beyond s n w x after d before z f e = let c = labelled_cut before (tokens_of d.before ++ x ∷ []) z e in d.dead c.0 c.2 (front_of_front s before c.0 c.1 c.3 f)

  -- A list has one dead token at most.
  pub one_dead : (s : Shape T) (n : S) (w : List K) (x y : K) (a b : List K) → IsDead l s n w x a → IsDead l s n w y b → (x ≡ y) × (a ≡ b)
  one_dead s n w x y a b d k = go (two_cuts (tokens_of d.before) (tokens_of k.before) x y a b (sym d.whole ∙ k.whole))
    where
      go : TwoCuts (tokens_of d.before) (tokens_of k.before) x y a b → (x ≡ y) × (a ≡ b)
      go (inl c) = absurd (none_beyond s n w x a d k.before c.0 k.front c.1)
      go (inr (inl c)) = absurd (none_beyond s n w y b k d.before c.0 d.front c.1)
      go (inr (inr c)) = (c.0, c.1)

  -- The list before a dead token is not cut short.
  pub short_or_dead : (s : Shape T) (n : S) (w : List K) (x : K) (after : List K) → IsShort l s n w → IsDead l s n w x after → ⊥
  short_or_dead s n w x after h d = none_beyond s n w x after d h.before after h.front (sym h.whole ∙ d.whole ∙ sym (append_assoc (tokens_of d.before) (x ∷ []) after))

-- a limit is passed at a token of the list
pub over_last : {T K S : Type 0} (l : Alphabet T K S) (s : Shape T) → is_deterministic l s ≡ true → (n : S) (w : List K) (k : ℕ) → read l s n w ≡ stopped (failure.OverLimit k) → (x : K) × (r : List K) × (last k w ≡ x ∷ r)
over_last {T} {K} {S} l s e n w k d = go (subst (λ o. Explains l s (read l s) n w o) d (explain l s e n w))
  where
    go : Explains l s (read l s) n w (stopped (failure.OverLimit k)) → (x : K) × (r : List K) × (last k w ≡ x ∷ r)
    go h = (h.token, h.after, last_is (tokens_of h.before) (h.token ∷ h.after) w k h.whole h.size)
