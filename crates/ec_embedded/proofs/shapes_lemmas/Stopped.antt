-- What the reading says of the tokens that it passed over, and that tokens behind the next one don't matter.
use Rattle.std.proofs.Common.{◌≡◌, ℕ, zero, suc, ◌≤◌, Bool, true, false, List, [], ◌∷◌, ◌++◌, length, refl, ◌⊎◌, inl, inr, ap, sym, ◌∙◌, subst, Option, Some, None, arith, length-append, append_assoc}
use Rattle.std.proofs.lemmas.Bool.{false≢true}
use Rattle.ec_embedded.specs.declared.shapes.failure.Failure.TheVariants as failure
use Rattle.ec_embedded.specs.shapes.Shapes.{Shape, nothing, one, both, either, many, Alphabet, Tree, Labelled, yields_of, yield_of, tokens_of, onward, Fits, counted, Front}
use Rattle.ec_embedded.specs.shapes.ReadShapes.{Outcome, done, stopped, stuck, and_then, is_nullable, first_set, is_deterministic, is_next_among, counting, taking, read_one, turns, read}
use Rattle.ec_embedded.proofs.shapes_lemmas.Firsts.{tokens_behind, SameNext, same_behind, fits_append, count_both, next_same, empty_nullable, deterministic_many, deterministic_either, deterministic_both}

module _ {T K S : Type 0} (l : Alphabet T K S) where
  -- A tree was read.
  pub record Got (s : Shape T) (f : S → List K → Outcome (Tree K s) K S) (n : S) (w : List K) (v : Tree K s) (m : S) (r : List K) : Type 0 where
    pub whole : w ≡ tokens_of (yield_of s v) ++ r
    pub fits : Fits l (yield_of s v)
    pub within : counted l n (yield_of s v) ≡ Some m
    pub still : (q : List K) → SameNext r q → f n (tokens_of (yield_of s v) ++ q) ≡ done v m q

  -- The tokens from one on are left, and no tree.
  pub record Stuck (s : Shape T) (f : S → List K → Outcome (Tree K s) K S) (n : S) (w : List K) (k : ℕ) : Type 0 where
    pub before : Labelled T K
    pub left : List K
    pub size : length left ≡ k
    pub whole : w ≡ tokens_of before ++ left
    pub front : Front l s before
    pub count : S
    pub within : counted l n before ≡ Some count
    pub still : (q : List K) → SameNext left q → f n (tokens_of before ++ q) ≡ stuck q

  -- A limit is passed.
  pub record OverLimit (s : Shape T) (n : S) (w : List K) (k : ℕ) : Type 0 where
    pub before : Labelled T K
    pub terminal : T
    pub token : K
    pub after : List K
    pub size : length (token ∷ after) ≡ k
    pub whole : w ≡ tokens_of before ++ token ∷ after
    pub front : Front l s (before ++ (terminal, token) ∷ [])
    pub count : S
    pub within : counted l n before ≡ Some count
    pub over : l.step count terminal ≡ None

  abbrev pub Explains : (s : Shape T) → (S → List K → Outcome (Tree K s) K S) → S → List K → Outcome (Tree K s) K S → Type 0
  Explains s f n w (done v m r) = Got s f n w v m r
  Explains s f n w (stopped (failure.Dead k)) = Stuck s f n w k
  Explains s f n w (stopped (failure.OverLimit k)) = OverLimit s n w k
  Explains s f n w (stopped failure.OutOfMemory) = ⊥

  -- ---- fronts

  -- each shape has a list
  pub some_tree : (s : Shape T) → is_deterministic l s ≡ true → (v : Tree K s) × Fits l (yield_of s v)
  some_tree nothing e = (tt, tt)
  some_tree (one t) e = (l.example t, (e, tt))
  some_tree (both a b) e = let f = deterministic_both l a b e in let x = some_tree a f.0 in let y = some_tree b f.1 in ((x.0, y.0), fits_append l (yield_of a x.0) (yield_of b y.0) x.1 y.1)
  some_tree (either a b) e = let x = some_tree a (deterministic_either l a b e).0 in (inl x.0, x.1)
  some_tree (many a) e = ([], tt)

  regroup : (p q r : Labelled T K) (u : Labelled T K) → u ≡ p ++ q → u ++ r ≡ p ++ (q ++ r)
  regroup p q r u e = ap (λ y. y ++ r) e ∙ append_assoc p q r

  pub front_first : (a b : Shape T) → is_deterministic l b ≡ true → (p : Labelled T K) → Front l a p → Front l (both a b) p
  front_first a b e p h = let y = some_tree b e in record {
    tree = (h.tree, y.0);
    rest = h.rest ++ yield_of b y.0;
    whole = regroup p h.rest (yield_of b y.0) (yield_of a h.tree) h.whole;
    fits = fits_append l (yield_of a h.tree) (yield_of b y.0) h.fits y.1;
  }

  pub front_second : (a b : Shape T) (v : Tree K a) (q : Labelled T K) → Fits l (yield_of a v) → Front l b q → Front l (both a b) (yield_of a v ++ q)
  front_second a b v q h k = record {
    tree = (v, k.tree);
    rest = k.rest;
    whole = ap (λ y. yield_of a v ++ y) k.whole ∙ sym (append_assoc (yield_of a v) q k.rest);
    fits = fits_append l (yield_of a v) (yield_of b k.tree) h k.fits;
  }

  pub front_inl : (a b : Shape T) (p : Labelled T K) → Front l a p → Front l (either a b) p
  front_inl a b p h = record { tree = inl h.tree; rest = h.rest; whole = h.whole; fits = h.fits }

  pub front_inr : (a b : Shape T) (p : Labelled T K) → Front l b p → Front l (either a b) p
  front_inr a b p h = record { tree = inr h.tree; rest = h.rest; whole = h.whole; fits = h.fits }

  pub front_turn : (a : Shape T) (p : Labelled T K) → Front l a p → Front l (many a) p
  front_turn a p h = record { tree = h.tree ∷ []; rest = h.rest ++ []; whole = regroup p h.rest [] (yield_of a h.tree) h.whole; fits = fits_append l (yield_of a h.tree) [] h.fits tt }

  front_turns : (a : Shape T) (v : Tree K a) (q : Labelled T K) → Fits l (yield_of a v) → Front l (many a) q → Front l (many a) (yield_of a v ++ q)
  front_turns a v q h k = record {
    tree = v ∷ k.tree;
    rest = k.rest;
    whole = ap (λ y. yield_of a v ++ y) k.whole ∙ sym (append_assoc (yield_of a v) q k.rest);
    fits = fits_append l (yield_of a v) (yields_of (yield_of a) k.tree) h k.fits;
  }

  -- ---- steps

  behind : (p q : Labelled T K) (w r x : List K) → w ≡ tokens_of p ++ r → r ≡ tokens_of q ++ x → w ≡ tokens_of (p ++ q) ++ x
  behind p q w r x e f = e ∙ ap (λ y. tokens_of p ++ y) f ∙ sym (tokens_behind p q x)

  -- what the first of two readings leaves to the second
  same_second : (q : Labelled T K) (r x y : List K) → r ≡ tokens_of q ++ x → SameNext x y → SameNext r (tokens_of q ++ y)
  same_second q r x y e h = subst (λ z. SameNext z (tokens_of q ++ y)) (sym e) (same_behind q x y h)

  abbrev pub Read : Type 0 → Type 0
  Read A = S → List K → Outcome A K S

  abbrev pub two : {A B C : Type 0} → Read A → Read B → (A → B → C) → Read C
  two f g h n w = and_then (f n w) (λ a m r. and_then (g m r) (λ b i y. done (h a b) i y))

  two_still : {A B C : Type 0} (f : Read A) (g : Read B) (h : A → B → C) (p q : Labelled T K) (v : A) (n m : S) (x : List K) (o : Outcome B K S)
      → f n (tokens_of p ++ (tokens_of q ++ x)) ≡ done v m (tokens_of q ++ x) → g m (tokens_of q ++ x) ≡ o → two f g h n (tokens_of (p ++ q) ++ x) ≡ and_then o (λ b i y. done (h v b) i y)
  two_still f g h p q v n m x o e k =
      ap (λ w. two f g h n w) (tokens_behind p q x) ∙ ap (λ c. and_then c (λ a m r. and_then (g m r) (λ b i y. done (h a b) i y))) e ∙ ap (λ c. and_then c (λ b i y. done (h v b) i y)) k

  two_first : {A B C : Type 0} (f : Read A) (g : Read B) (h : A → B → C) (n : S) (w : List K) (k : ℕ) → f n w ≡ stopped (failure.Dead k) → two f g h n w ≡ stopped (failure.Dead k)
  two_first f g h n w k e = ap (λ c. and_then c (λ a m r. and_then (g m r) (λ b i y. done (h a b) i y))) e

  second_of : (a b : Shape T) (n : S) (w : List K) (v : Tree K a) (m : S) (r : List K) → Got a (read l a) n w v m r → (o : Outcome (Tree K b) K S) → Explains b (read l b) m r o
      → Explains (both a b) (read l (both a b)) n w (and_then o (λ u i y. done (v, u) i y))
  second_of a b n w v m r h (done u i q) k = record {
    whole = behind (yield_of a v) (yield_of b u) w r q h.whole k.whole;
    fits = fits_append l (yield_of a v) (yield_of b u) h.fits k.fits;
    within = count_both l n m i (yield_of a v) (yield_of b u) h.within k.within;
    still = λ x e. two_still (read l a) (read l b) (λ c d. (c, d)) (yield_of a v) (yield_of b u) v n m x (done u i x) (h.still (tokens_of (yield_of b u) ++ x) (same_second (yield_of b u) r q x k.whole e)) (k.still x e);
  }
  second_of a b n w v m r h (stopped (failure.Dead j)) k = record {
    before = yield_of a v ++ k.before;
    left = k.left;
    size = k.size;
    whole = behind (yield_of a v) k.before w r k.left h.whole k.whole;
    front = front_second a b v k.before h.fits k.front;
    count = k.count;
    within = count_both l n m k.count (yield_of a v) k.before h.within k.within;
    still = λ x e. two_still (read l a) (read l b) (λ c d. (c, d)) (yield_of a v) k.before v n m x (stuck x) (h.still (tokens_of k.before ++ x) (same_second k.before r k.left x k.whole e)) (k.still x e);
  }
  second_of a b n w v m r h (stopped (failure.OverLimit j)) k = record {
    before = yield_of a v ++ k.before;
    terminal = k.terminal;
    token = k.token;
    after = k.after;
    size = k.size;
    whole = behind (yield_of a v) k.before w r (k.token ∷ k.after) h.whole k.whole;
    front = subst (λ p. Front l (both a b) p) (sym (append_assoc (yield_of a v) k.before ((k.terminal, k.token) ∷ []))) (front_second a b v (k.before ++ (k.terminal, k.token) ∷ []) h.fits k.front);
    count = k.count;
    within = count_both l n m k.count (yield_of a v) k.before h.within k.within;
    over = k.over;
  }
  second_of a b n w v m r h (stopped failure.OutOfMemory) k = absurd k

  both_of : (a b : Shape T) → is_deterministic l b ≡ true → (n : S) (w : List K) → ((m : S) (r : List K) → Explains b (read l b) m r (read l b m r)) → (o : Outcome (Tree K a) K S) → Explains a (read l a) n w o
      → Explains (both a b) (read l (both a b)) n w (and_then o (λ v m r. and_then (read l b m r) (λ u i y. done (v, u) i y)))
  both_of a b e n w f (done v m r) h = second_of a b n w v m r h (read l b m r) (f m r)
  both_of a b e n w f (stopped (failure.Dead j)) h = record {
    before = h.before;
    left = h.left;
    size = h.size;
    whole = h.whole;
    front = front_first a b e h.before h.front;
    count = h.count;
    within = h.within;
    still = λ q k. two_first (read l a) (read l b) (λ c d. (c, d)) n (tokens_of h.before ++ q) (length q) (h.still q k);
  }
  both_of a b e n w f (stopped (failure.OverLimit j)) h = record {
    before = h.before;
    terminal = h.terminal;
    token = h.token;
    after = h.after;
    size = h.size;
    whole = h.whole;
    front = front_first a b e (h.before ++ (h.terminal, h.token) ∷ []) h.front;
    count = h.count;
    within = h.within;
    over = h.over;
  }
  both_of a b e n w f (stopped failure.OutOfMemory) h = absurd h

  -- ---- choices

  abbrev pub chosen : {A B : Type 0} → Read A → Read B → S → List K → Bool → Outcome (A ⊎ B) K S
  chosen f g n w true = and_then (f n w) (λ v m r. done (inl v) m r)
  chosen f g n w false = and_then (g n w) (λ v m r. done (inr v) m r)

  -- the choice looks at the next token alone
  same_choice : (a : Shape T) (p : Labelled T K) (w r q : List K) (c : Bool) → is_next_among l (first_set a) w ≡ c → w ≡ tokens_of p ++ r → SameNext r q → is_next_among l (first_set a) (tokens_of p ++ q) ≡ c
  same_choice a p w r q c e f h = sym (ap (λ y. is_next_among l (first_set a) y) f ∙ next_same l (first_set a) (tokens_of p ++ r) (tokens_of p ++ q) (same_behind p r q h)) ∙ e

  left_of : (a b : Shape T) (n : S) (w : List K) → is_next_among l (first_set a) w ≡ true → (o : Outcome (Tree K a) K S) → Explains a (read l a) n w o → Explains (either a b) (read l (either a b)) n w (and_then o (λ v m r. done (inl v) m r))
  left_of a b n w e (done v m r) h = record {
    whole = h.whole;
    fits = h.fits;
    within = h.within;
    still = λ q k. ap (λ c. chosen (read l a) (read l b) n (tokens_of (yield_of a v) ++ q) c) (same_choice a (yield_of a v) w r q true e h.whole k) ∙ ap (λ c. and_then c (λ v m r. done (inl v) m r)) (h.still q k);
  }
  left_of a b n w e (stopped (failure.Dead j)) h = record {
    before = h.before;
    left = h.left;
    size = h.size;
    whole = h.whole;
    front = front_inl a b h.before h.front;
    count = h.count;
    within = h.within;
    still = λ q k. ap (λ c. chosen (read l a) (read l b) n (tokens_of h.before ++ q) c) (same_choice a h.before w h.left q true e h.whole k) ∙ ap (λ c. and_then c (λ v m r. done (inl v) m r)) (h.still q k);
  }
  left_of a b n w e (stopped (failure.OverLimit j)) h = record {
    before = h.before;
    terminal = h.terminal;
    token = h.token;
    after = h.after;
    size = h.size;
    whole = h.whole;
    front = front_inl a b (h.before ++ (h.terminal, h.token) ∷ []) h.front;
    count = h.count;
    within = h.within;
    over = h.over;
  }
  left_of a b n w e (stopped failure.OutOfMemory) h = absurd h

  right_of : (a b : Shape T) (n : S) (w : List K) → is_next_among l (first_set a) w ≡ false → (o : Outcome (Tree K b) K S) → Explains b (read l b) n w o → Explains (either a b) (read l (either a b)) n w (and_then o (λ v m r. done (inr v) m r))
  right_of a b n w e (done v m r) h = record {
    whole = h.whole;
    fits = h.fits;
    within = h.within;
    still = λ q k. ap (λ c. chosen (read l a) (read l b) n (tokens_of (yield_of b v) ++ q) c) (same_choice a (yield_of b v) w r q false e h.whole k) ∙ ap (λ c. and_then c (λ v m r. done (inr v) m r)) (h.still q k);
  }
  right_of a b n w e (stopped (failure.Dead j)) h = record {
    before = h.before;
    left = h.left;
    size = h.size;
    whole = h.whole;
    front = front_inr a b h.before h.front;
    count = h.count;
    within = h.within;
    still = λ q k. ap (λ c. chosen (read l a) (read l b) n (tokens_of h.before ++ q) c) (same_choice a h.before w h.left q false e h.whole k) ∙ ap (λ c. and_then c (λ v m r. done (inr v) m r)) (h.still q k);
  }
  right_of a b n w e (stopped (failure.OverLimit j)) h = record {
    before = h.before;
    terminal = h.terminal;
    token = h.token;
    after = h.after;
    size = h.size;
    whole = h.whole;
    front = front_inr a b (h.before ++ (h.terminal, h.token) ∷ []) h.front;
    count = h.count;
    within = h.within;
    over = h.over;
  }
  right_of a b n w e (stopped failure.OutOfMemory) h = absurd h

  either_of : (a b : Shape T) (n : S) (w : List K) → Explains a (read l a) n w (read l a n w) → Explains b (read l b) n w (read l b n w) → (c : Bool) → is_next_among l (first_set a) w ≡ c
      → Explains (either a b) (read l (either a b)) n w (chosen (read l a) (read l b) n w c)
  either_of a b n w f g true e = left_of a b n w e (read l a n w) f
  either_of a b n w f g false e = right_of a b n w e (read l b n w) g

  -- ---- repetitions

  abbrev pub turn : {A : Type 0} → (List K → Bool) → Read A → ℕ → S → List K → Bool → Outcome (List A) K S
  turn goes f k n w true = and_then (f n w) (λ v m r. and_then (turns l goes f k m r) (λ vs i q. done (v ∷ vs) i q))
  turn goes f k n w false = done [] n w

  -- as many turns as there are tokens, or more
  abbrev pub Turns : (a : Shape T) → S → List K → Outcome (List (Tree K a)) K S → Type 0
  Turns a n w o = (j : ℕ) → length w ≤ j → o ≡ turns l (is_next_among l (first_set a)) (read l a) j n w

  abbrev pub Again : (a : Shape T) → S → List K → Outcome (List (Tree K a)) K S → Type 0
  Again a n w (done v m r) = (w ≡ tokens_of (yields_of (yield_of a) v) ++ r) × Fits l (yields_of (yield_of a) v) × (counted l n (yields_of (yield_of a) v) ≡ Some m) × ((q : List K) → SameNext r q → Turns a n (tokens_of (yields_of (yield_of a) v) ++ q) (done v m q))
  Again a n w (stopped (failure.Dead k)) = (before : Labelled T K) × (left : List K) × (length left ≡ k) × (w ≡ tokens_of before ++ left) × Front l (many a) before × (count : S) × (counted l n before ≡ Some count) × ((q : List K) → SameNext left q → Turns a n (tokens_of before ++ q) (stuck q))
  Again a n w (stopped (failure.OverLimit k)) = OverLimit (many a) n w k
  Again a n w (stopped failure.OutOfMemory) = ⊥

  no_turn : (a : Shape T) (n : S) (w q : List K) → is_next_among l (first_set a) w ≡ false → SameNext w q → Turns a n q (done [] n q)
  no_turn a n w q e h zero le = refl
  no_turn a n w q e h (suc j) le = ap (λ c. turn (is_next_among l (first_set a)) (read l a) j n q c) (sym e ∙ next_same l (first_set a) w q h)

  fewer : (p : Labelled T K) (q : List K) (j : ℕ) → (p ≡ [] → ⊥) → length (tokens_of p ++ q) ≤ suc j → length q ≤ j
  fewer [] q j f le = absurd (f refl)
  fewer (x ∷ p) q j f le = omega (arith, le, length-append (tokens_of p) q)

  no_fewer : (p : Labelled T K) (q : List K) → (p ≡ [] → ⊥) → length (tokens_of p ++ q) ≤ 0 → ⊥
  no_fewer [] q f le = f refl
  no_fewer (x ∷ p) q f le = omega (arith, le)

  pub never_empty : (a : Shape T) → is_nullable a ≡ false → (v : Tree K a) → yield_of a v ≡ [] → ⊥
  never_empty a e v f = false≢true (sym e ∙ empty_nullable l a v f)

  one_turn : (a : Shape T) → is_nullable a ≡ false → (v : Tree K a) (p : Labelled T K) (n m : S) (q : List K) (o : Outcome (List (Tree K a)) K S) → is_next_among l (first_set a) (tokens_of (yield_of a v) ++ (tokens_of p ++ q)) ≡ true
      → read l a n (tokens_of (yield_of a v) ++ (tokens_of p ++ q)) ≡ done v m (tokens_of p ++ q) → Turns a m (tokens_of p ++ q) o → Turns a n (tokens_of (yield_of a v ++ p) ++ q) (and_then o (λ vs i y. done (v ∷ vs) i y))
  one_turn a e v p n m q o d f g zero le = absurd (no_fewer (yield_of a v) (tokens_of p ++ q) (never_empty a e v) (subst (λ w. length w ≤ 0) (tokens_behind (yield_of a v) p q) le))
  one_turn a e v p n m q o d f g (suc j) le = sym (
      ap (λ w. turns l (is_next_among l (first_set a)) (read l a) (suc j) n w) (tokens_behind (yield_of a v) p q)
      ∙ ap (λ c. turn (is_next_among l (first_set a)) (read l a) j n (tokens_of (yield_of a v) ++ (tokens_of p ++ q)) c) d
      ∙ ap (λ c. and_then c (λ v m r. and_then (turns l (is_next_among l (first_set a)) (read l a) j m r) (λ vs i y. done (v ∷ vs) i y))) f
      ∙ ap (λ c. and_then c (λ vs i y. done (v ∷ vs) i y)) (sym (g j (fewer (yield_of a v) (tokens_of p ++ q) j (never_empty a e v) (subst (λ w. length w ≤ suc j) (tokens_behind (yield_of a v) p q) le))))
      )

  stuck_turn : (a : Shape T) → (p : Labelled T K) (n : S) (q : List K) → is_next_among l (first_set a) (tokens_of p ++ q) ≡ true
      → read l a n (tokens_of p ++ q) ≡ stuck q → Turns a n (tokens_of p ++ q) (stuck q)
  stuck_turn a p n q d f zero le = go (tokens_of p ++ q) d le
    where
      go : (w : List K) → is_next_among l (first_set a) w ≡ true → length w ≤ 0 → ◌≡◌ {A = Outcome (List (Tree K a)) K S} (stuck q) (done [] n w)
      go [] e z = absurd (false≢true e)
      go (x ∷ w) e z = absurd (omega (arith, z))
  stuck_turn a p n q d f (suc j) le = sym (
      ap (λ c. turn (is_next_among l (first_set a)) (read l a) j n (tokens_of p ++ q) c) d
      ∙ ap (λ c. and_then c (λ v m r. and_then (turns l (is_next_among l (first_set a)) (read l a) j m r) (λ vs i y. done (v ∷ vs) i y))) f
      )

  again_of : (a : Shape T) → is_nullable a ≡ false → (n : S) (w : List K) → is_next_among l (first_set a) w ≡ true → (v : Tree K a) (m : S) (r : List K) → Got a (read l a) n w v m r → (o : Outcome (List (Tree K a)) K S) → Again a m r o
      → Again a n w (and_then o (λ vs i q. done (v ∷ vs) i q))
  again_of a e n w d v m r h (done vs i q) k = (
    behind (yield_of a v) (yields_of (yield_of a) vs) w r q h.whole k.0,
    fits_append l (yield_of a v) (yields_of (yield_of a) vs) h.fits k.1,
    count_both l n m i (yield_of a v) (yields_of (yield_of a) vs) h.within k.2,
    λ y s. one_turn a e v (yields_of (yield_of a) vs) n m y (done vs i y) (same_choice a (yield_of a v) w r (tokens_of (yields_of (yield_of a) vs) ++ y) true d h.whole (same_second (yields_of (yield_of a) vs) r q y k.0 s))
        (h.still (tokens_of (yields_of (yield_of a) vs) ++ y) (same_second (yields_of (yield_of a) vs) r q y k.0 s)) (k.3 y s),
  )
  again_of a e n w d v m r h (stopped (failure.Dead j)) k = (
    yield_of a v ++ k.0,
    k.1,
    k.2,
    behind (yield_of a v) k.0 w r k.1 h.whole k.3,
    front_turns a v k.0 h.fits k.4,
    k.5,
    count_both l n m k.5 (yield_of a v) k.0 h.within k.6,
    λ y s. one_turn a e v k.0 n m y (stuck y) (same_choice a (yield_of a v) w r (tokens_of k.0 ++ y) true d h.whole (same_second k.0 r k.1 y k.3 s)) (h.still (tokens_of k.0 ++ y) (same_second k.0 r k.1 y k.3 s)) (k.7 y s),
  )
  again_of a e n w d v m r h (stopped (failure.OverLimit j)) k = record {
    before = yield_of a v ++ k.before;
    terminal = k.terminal;
    token = k.token;
    after = k.after;
    size = k.size;
    whole = behind (yield_of a v) k.before w r (k.token ∷ k.after) h.whole k.whole;
    front = subst (λ p. Front l (many a) p) (sym (append_assoc (yield_of a v) k.before ((k.terminal, k.token) ∷ []))) (front_turns a v (k.before ++ (k.terminal, k.token) ∷ []) h.fits k.front);
    count = k.count;
    within = count_both l n m k.count (yield_of a v) k.before h.within k.within;
    over = k.over;
  }
  again_of a e n w d v m r h (stopped failure.OutOfMemory) k = absurd k

  turn_of : (a : Shape T) → is_nullable a ≡ false → (n : S) (w : List K) (k : ℕ) → length w ≤ suc k → is_next_among l (first_set a) w ≡ true
      → ((m : S) (r : List K) → length r ≤ k → Again a m r (turns l (is_next_among l (first_set a)) (read l a) k m r))
      → (o : Outcome (Tree K a) K S) → Explains a (read l a) n w o → Again a n w (and_then o (λ v m r. and_then (turns l (is_next_among l (first_set a)) (read l a) k m r) (λ vs i q. done (v ∷ vs) i q)))
  turn_of a e n w k le d f (done v m r) h = again_of a e n w d v m r h (turns l (is_next_among l (first_set a)) (read l a) k m r)
      (f m r (fewer (yield_of a v) r k (never_empty a e v) (subst (λ y. length y ≤ suc k) h.whole le)))
  turn_of a e n w k le d f (stopped (failure.Dead j)) h = (
    h.before,
    h.left,
    h.size,
    h.whole,
    front_turn a h.before h.front,
    h.count,
    h.within,
    λ q s. stuck_turn a h.before n q (same_choice a h.before w h.left q true d h.whole s) (h.still q s),
  )
  turn_of a e n w k le d f (stopped (failure.OverLimit j)) h = record {
    before = h.before;
    terminal = h.terminal;
    token = h.token;
    after = h.after;
    size = h.size;
    whole = h.whole;
    front = front_turn a (h.before ++ (h.terminal, h.token) ∷ []) h.front;
    count = h.count;
    within = h.within;
    over = h.over;
  }
  turn_of a e n w k le d f (stopped failure.OutOfMemory) h = absurd h

  no_tokens : (w : List K) → length w ≤ 0 → w ≡ []
  no_tokens [] e = refl
  no_tokens (x ∷ w) e = absurd (omega (arith, e))

  pub explain_turns : (a : Shape T) → is_nullable a ≡ false → ((n : S) (w : List K) → Explains a (read l a) n w (read l a n w)) → (k : ℕ) (n : S) (w : List K) → length w ≤ k → Again a n w (turns l (is_next_among l (first_set a)) (read l a) k n w)
  explain_turns a e f zero n w le = (refl, tt, refl, λ q s. no_turn a n w q (ap (λ y. is_next_among l (first_set a) y) (no_tokens w le)) s)
  explain_turns a e f (suc k) n w le = go (λ m r z. explain_turns a e f k m r z) (is_next_among l (first_set a) w) refl
    where
      go : ((m : S) (r : List K) → length r ≤ k → Again a m r (turns l (is_next_among l (first_set a)) (read l a) k m r)) → (c : Bool) → is_next_among l (first_set a) w ≡ c → Again a n w (turn (is_next_among l (first_set a)) (read l a) k n w c)
      go again true d = turn_of a e n w k le d again (read l a n w) (f n w)
      go again false d = (refl, tt, refl, λ q s. no_turn a n w q d s)

  many_of : (a : Shape T) (n : S) (w : List K) (o : Outcome (List (Tree K a)) K S) → Again a n w o → Explains (many a) (read l (many a)) n w o
  many_of a n w (done v m r) h = record { whole = h.0; fits = h.1; within = h.2; still = λ q s. sym (h.3 q s (length (tokens_of (yields_of (yield_of a) v) ++ q)) (omega arith)) }
  many_of a n w (stopped (failure.Dead j)) h = record { before = h.0; left = h.1; size = h.2; whole = h.3; front = h.4; count = h.5; within = h.6; still = λ q s. sym (h.7 q s (length (tokens_of h.0 ++ q)) (omega arith)) }
  many_of a n w (stopped (failure.OverLimit j)) h = h
  many_of a n w (stopped failure.OutOfMemory) h = h

  -- ---- terminals

  one_passed : (t : T) (n : S) (x : K) (w : List K) → l.is t x ≡ true → (o : Option S) → l.step n t ≡ o → Explains (one t) (read l (one t)) n (x ∷ w) (counting l t x w o)
  one_passed t n x w e None f = record {
    before = [];
    terminal = t;
    token = x;
    after = w;
    size = refl;
    whole = refl;
    front = record { tree = x; rest = []; whole = refl; fits = (e, tt) };
    count = n;
    within = refl;
    over = f;
  }
  one_passed t n x w e (Some m) f = record {
    whole = refl;
    fits = (e, tt);
    within = ap (λ o. onward o (λ i. Some i)) f;
    still = λ q s. ap (λ b. taking l t n x q b) e ∙ ap (λ o. counting l t x q o) f;
  }

  one_of : (t : T) → l.is t (l.example t) ≡ true → (n : S) (x : K) (w : List K) → (b : Bool) → l.is t x ≡ b → Explains (one t) (read l (one t)) n (x ∷ w) (taking l t n x w b)
  one_of t d n x w true e = one_passed t n x w e (l.step n t) refl
  one_of t d n x w false e = record {
    before = [];
    left = x ∷ w;
    size = refl;
    whole = refl;
    front = record { tree = l.example t; rest = (t, l.example t) ∷ []; whole = refl; fits = (d, tt) };
    count = n;
    within = refl;
    still = λ q s. still q s;
  }
    where
      still : (q : List K) → SameNext (x ∷ w) q → read_one l t n q ≡ stuck q
      still [] s = absurd s
      still (y ∷ q) s = ap (λ b. taking l t n y q b) (ap (λ z. l.is t z) (sym s) ∙ e)

  pub explain : (s : Shape T) → is_deterministic l s ≡ true → (n : S) (w : List K) → Explains s (read l s) n w (read l s n w)
  explain nothing e n w = record { whole = refl; fits = tt; within = refl; still = λ q s. refl }
  explain (one t) e n [] = record {
    before = [];
    left = [];
    size = refl;
    whole = refl;
    front = record { tree = l.example t; rest = (t, l.example t) ∷ []; whole = refl; fits = (e, tt) };
    count = n;
    within = refl;
    still = λ q s. still q s;
  }
    where
      still : (q : List K) → SameNext [] q → read_one l t n q ≡ stuck q
      still [] s = refl
      still (y ∷ q) s = absurd s
  explain (one t) e n (x ∷ w) = one_of t e n x w (l.is t x) refl
  explain (both a b) e n w = let f = deterministic_both l a b e in both_of a b f.1 n w (λ m r. explain b f.1 m r) (read l a n w) (explain a f.0 n w)
  explain (either a b) e n w = let f = deterministic_either l a b e in either_of a b n w (explain a f.0 n w) (explain b f.1 n w) (is_next_among l (first_set a) w) refl
  explain (many a) e n w = let f = deterministic_many l a e in many_of a n w (turns l (is_next_among l (first_set a)) (read l a) (length w) n w) (explain_turns a f.1 (λ m r. explain a f.0 m r) (length w) n w (omega arith))
