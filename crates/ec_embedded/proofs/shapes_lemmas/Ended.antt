-- A reading that stops for want of a token has read no list of the shape before: where the tokens up to there are read to their end, it goes on with the token, or ends before it.
use Rattle.std.proofs.Common.{◌≡◌, ℕ, zero, suc, ◌≤◌, ◌+◌, Bool, true, false, List, [], ◌∷◌, ◌++◌, length, refl, ◌⊎◌, inl, inr, ap, sym, ◌∙◌, subst, Option, Some, None, arith, length-append, append_assoc}
use Rattle.std.proofs.lemmas.Bool.{false≢true}
use Rattle.std.proofs.lemmas.List.{append-nil}
use Rattle.ec_embedded.specs.declared.shapes.failure.Failure.TheVariants as failure
use Rattle.ec_embedded.specs.shapes.Shapes.{Shape, nothing, one, both, either, many, Alphabet, IsSound, Tree, Labelled, yield_of, tokens_of, Fits, counted, Front, IsDead}
use Rattle.ec_embedded.specs.shapes.ReadShapes.{Outcome, done, stopped, stuck, and_then, is_nullable, first_set, is_among, is_deterministic, is_next_among, counting, taking, turns, read}
use Rattle.ec_embedded.proofs.shapes_lemmas.Firsts.{yes_first, yes_second, SameNext, deterministic_both, deterministic_either, deterministic_many}
use Rattle.ec_embedded.proofs.shapes_lemmas.Whole.{MetBy}
use Rattle.ec_embedded.proofs.shapes_lemmas.Stopped.{Got, Stuck, Explains, Again, turn, explain, explain_turns, front_first, front_second, front_inl, front_inr, front_turn, never_empty}
use Rattle.ec_embedded.proofs.shapes_lemmas.Agree.{same_front}
use Rattle.ec_embedded.proofs.shapes_lemmas.Exact.{whole_text, front_whole, stuck_judges}
use Rattle.ec_embedded.specs.shapes.Beginnings.{NoneBefore}

-- two cuts of one list, with as much behind each
pub cut_equal : {K : Type 0} (p q z left : List K) → p ++ q ≡ z ++ left → length left ≡ length q → (p ≡ z) × (q ≡ left)
cut_equal [] q [] left e h = (refl, e)
cut_equal [] q (y ∷ z) left e h = absurd (omega (arith, h, ap length e, length-append z left))
cut_equal (x ∷ p) q [] left e h = absurd (omega (arith, h, ap length e, length-append p q))
cut_equal (x ∷ p) q (y ∷ z) left e h =
    let f : x ∷ (p ++ q) ≡ y ∷ (z ++ left) = e in
    let same : x ≡ y = cc in
    let c = cut_equal p q z left (let g : p ++ q ≡ z ++ left = cc in g) h in
    ((λ i. same i ∷ c.0 i), c.1)

-- what is left of a list is as long as this
abbrev pub EndsWithin : {K : Type 0} → List K → List K → Type 0
EndsWithin {K} q z = (y : List K) × (left : List K) × (z ≡ y ++ left) × (length left ≡ length q)

module _ {T K S : Type 0} (l : Alphabet T K S) (sound : IsSound l) where
  -- ---- what may stand first begins a list

  empty_tree : (s : Shape T) → is_nullable s ≡ true → (v : Tree K s) × (yield_of s v ≡ [])
  empty_tree nothing e = (tt, refl)
  empty_tree (one t) e = absurd (false≢true e)
  empty_tree (both a b) e =
      let x = empty_tree a (yes_first (is_nullable a) (is_nullable b) e) in
      let y = empty_tree b (yes_second (is_nullable a) (is_nullable b) e) in
      ((x.0, y.0), (λ i. x.1 i ++ y.1 i))
  empty_tree (either a b) e = go (is_nullable a) refl (λ f. empty_tree a f) (λ f. empty_tree b f) e
    where
      go : (c : Bool) → is_nullable a ≡ c → (is_nullable a ≡ true → (v : Tree K a) × (yield_of a v ≡ [])) → (is_nullable b ≡ true → (v : Tree K b) × (yield_of b v ≡ []))
          → elim c [ true ↦ true | false ↦ is_nullable b ] ≡ true → (v : Tree K a ⊎ Tree K b) × (yield_of (either a b) v ≡ [])
      go true f h k g = let x = h f in (inl x.0, x.1)
      go false f h k g = let x = k g in (inr x.0, x.1)
  empty_tree (many a) e = ([], refl)

  among_either : (ts us : List T) (x : K) → is_among l (ts ++ us) x ≡ true → (is_among l ts x ≡ true) ⊎ (is_among l us x ≡ true)
  among_either [] us x e = inr e
  among_either (t ∷ ts) us x e = go (l.is t x) (among_either ts us x) e
    where
      go : (c : Bool) → (is_among l (ts ++ us) x ≡ true → (is_among l ts x ≡ true) ⊎ (is_among l us x ≡ true)) → elim c [ true ↦ true | false ↦ is_among l (ts ++ us) x ] ≡ true
          → (elim c [ true ↦ true | false ↦ is_among l ts x ] ≡ true) ⊎ (is_among l us x ≡ true)
      go true f g = inl refl
      go false f g = f g

  abbrev FirstFront : Shape T → K → Type 0
  FirstFront s x = (t : T) × Front l s ((t, x) ∷ [])

  second_front : (a b : Shape T) → is_nullable a ≡ true → (q : Labelled T K) → Front l b q → Front l (both a b) q
  second_front a b e q h = let v = empty_tree a e in subst (λ y. Front l (both a b) (y ++ q)) v.1 (front_second l a b v.0 q (subst (λ y. Fits l y) (sym v.1) tt) h)

  first_front : (s : Shape T) → is_deterministic l s ≡ true → (x : K) → is_among l (first_set s) x ≡ true → FirstFront s x
  first_front nothing e x h = absurd (false≢true h)
  first_front (one t) e x h = (t, record { tree = x; rest = []; whole = refl; fits = (yes_first (l.is t x) true h, tt) })
  first_front (both a b) e x h = go (is_nullable a) refl (first_front a (deterministic_both l a b e).0 x) (first_front b (deterministic_both l a b e).1 x) h
    where
      go : (c : Bool) → is_nullable a ≡ c → (is_among l (first_set a) x ≡ true → FirstFront a x) → (is_among l (first_set b) x ≡ true → FirstFront b x)
          → is_among l (elim c [ true ↦ first_set a ++ first_set b | false ↦ first_set a ]) x ≡ true → FirstFront (both a b) x
      go true n f g k = by (among_either (first_set a) (first_set b) x k)
        where
          by : (is_among l (first_set a) x ≡ true) ⊎ (is_among l (first_set b) x ≡ true) → FirstFront (both a b) x
          by (inl i) = let h = f i in (h.0, front_first l a b (deterministic_both l a b e).1 ((h.0, x) ∷ []) h.1)
          by (inr i) = let h = g i in (h.0, second_front a b n ((h.0, x) ∷ []) h.1)
      go false n f g k = let h = f k in (h.0, front_first l a b (deterministic_both l a b e).1 ((h.0, x) ∷ []) h.1)
  first_front (either a b) e x h = by (among_either (first_set a) (first_set b) x h) (first_front a (deterministic_either l a b e).0 x) (first_front b (deterministic_either l a b e).1 x)
    where
      by : (is_among l (first_set a) x ≡ true) ⊎ (is_among l (first_set b) x ≡ true) → (is_among l (first_set a) x ≡ true → FirstFront a x) → (is_among l (first_set b) x ≡ true → FirstFront b x) → FirstFront (either a b) x
      by (inl i) f g = let h = f i in (h.0, front_inl l a b ((h.0, x) ∷ []) h.1)
      by (inr i) f g = let h = g i in (h.0, front_inr l a b ((h.0, x) ∷ []) h.1)
  first_front (many a) e x h = let f = first_front a (deterministic_many l a e).0 x h in (f.0, front_turn l a ((f.0, x) ∷ []) f.1)

  explained : (s : Shape T) → is_deterministic l s ≡ true → (n : S) (w : List K) (o : Outcome (Tree K s) K S) → read l s n w ≡ o → Explains l s (read l s) n w o
  explained s e n w o d = subst (λ o. Explains l s (read l s) n w o) d (explain l s e n w)

  -- a reading isn't stuck at a token that may stand first
  first_goes : (s : Shape T) → is_deterministic l s ≡ true → (n : S) (x : K) (w : List K) → is_among l (first_set s) x ≡ true → read l s n (x ∷ w) ≡ stuck (x ∷ w) → ⊥
  first_goes s e n x w h d = go (explained s e n (x ∷ w) (stuck (x ∷ w)) d)
    where
      go : Stuck l s (read l s) n (x ∷ w) (length (x ∷ w)) → ⊥
      go k =
          let c = cut_equal [] (x ∷ w) (tokens_of k.before) k.left k.whole k.size in
          let dies : IsDead l s n (x ∷ w) x w = stuck_judges l sound s e n (x ∷ w) (length (x ∷ w)) d k (x ∷ w) (sym c.1) in
          let f = first_front s e x h in
          dies.dead ((f.0, x) ∷ []) (cut_tokens dies.before dies.whole) f.1
        where
          cut_tokens : (before : Labelled T K) → x ∷ w ≡ tokens_of before ++ x ∷ w → x ∷ [] ≡ tokens_of before ++ x ∷ []
          cut_tokens [] i = refl
          cut_tokens (y ∷ p) i = absurd (omega (arith, ap length i, length-append (tokens_of p) (x ∷ w)))

  -- ---- a list that is read to its end, with more behind it

  abbrev NeverStuck : Shape T → Type 0
  NeverStuck s = (n : S) (p q : List K) (v : Tree K s) (m : S) → read l s n p ≡ done v m [] → read l s n (p ++ q) ≡ stuck q → ⊥

  stopped_before : {A B : Type 0} (o : Outcome A K S) (h : A → B) (k : ℕ) → ◌≡◌ {A = Outcome B K S} (and_then o (λ b i y. done (h b) i y)) (stopped (failure.Dead k)) → o ≡ stopped (failure.Dead k)
  stopped_before (done v n w) h k e = absurd (cc)
  stopped_before {A} {B} (stopped f) h k e = let g : ◌≡◌ {A = Outcome B K S} (stopped f) (stopped (failure.Dead k)) = e in let same : f ≡ failure.Dead k = cc in ap (λ x. stopped x) same

  abbrev two : {A B C : Type 0} → (A → B → C) → (S → List K → Outcome B K S) → Outcome A K S → Outcome C K S
  two h g o = and_then o (λ v m r. and_then (g m r) (λ b i y. done (h v b) i y))

  end_or_not : {A : Type 0} (v u : A) (m i : S) (x : K) (r : List K) → ◌≡◌ {A = Outcome A K S} (done v m []) (done u i (x ∷ r)) → ⊥
  end_or_not v u m i x r e = cc

  same_count : {A : Type 0} (v u : A) (m i : S) → ◌≡◌ {A = Outcome A K S} (done v m []) (done u i []) → m ≡ i
  same_count v u m i e = cc

  -- Of two readings the second stops there; so it does behind what the first reads where nothing stands behind.
  second_stops : {B C : Type 0} (a : Shape T) → is_deterministic l a ≡ true → NeverStuck a → (n : S) (p q : List K) (v : Tree K a) (m : S) (r : List K) → read l a n p ≡ done v m r
      → (g : S → List K → Outcome B K S) → ((u : Tree K a) (i : S) (z : List K) → read l a n (p ++ q) ≡ done u i z → g i z ≡ stuck q → EndsWithin q z) → (h : Tree K a → B → C)
      → two h g (read l a n (p ++ q)) ≡ stuck q → g m (r ++ q) ≡ stuck q
  second_stops a e f n p q v m (y ∷ r) d g inside h k =
      let got : Got l a (read l a) n p v m (y ∷ r) = explained a e n p (done v m (y ∷ r)) d in
      let whole : p ++ q ≡ tokens_of (yield_of a v) ++ (y ∷ (r ++ q)) = ap (λ w. w ++ q) got.whole ∙ append_assoc (tokens_of (yield_of a v)) (y ∷ r) q in
      stopped_before (g m (y ∷ (r ++ q))) (h v) (length q) (sym (ap (λ o. two h g o) (ap (λ w. read l a n w) whole ∙ got.still (y ∷ (r ++ q)) refl)) ∙ k)
  second_stops {B} {C} a e f n p q v m [] d g inside h k = go (read l a n (p ++ q)) refl k
    where
      behind : (u : Tree K a) (i : S) (z y left : List K) → read l a n (p ++ q) ≡ done u i z → g i z ≡ stuck q → z ≡ y ++ left → (p ≡ tokens_of (yield_of a u) ++ y) × (q ≡ left) → g m q ≡ stuck q
      behind u i z (c ∷ y) left j s t cut =
          let got : Got l a (read l a) n (p ++ q) u i z = explained a e n (p ++ q) (done u i z) j in
          absurd (end_or_not v u m i c y (sym d ∙ ap (λ w. read l a n w) cut.0 ∙ got.still (c ∷ y) (subst (λ z. SameNext z (c ∷ y)) (sym t) refl)))
      behind u i z [] left j s t cut =
          let got : Got l a (read l a) n (p ++ q) u i z = explained a e n (p ++ q) (done u i z) j in
          let met : MetBy (Some i) u (read l a n (tokens_of (yield_of a u))) [] = subst (λ c. MetBy c u (read l a n (tokens_of (yield_of a u))) []) got.within (whole_text l sound a e u n got.fits) in
          let same : m ≡ i = same_count v u m i (sym d ∙ ap (λ w. read l a n w) (cut.0 ∙ append-nil (tokens_of (yield_of a u))) ∙ met) in
          (λ o. g (same o) ((cut.1 ∙ sym t) o)) ∙ s

      go : (o : Outcome (Tree K a) K S) → read l a n (p ++ q) ≡ o → two h g o ≡ stuck q → g m q ≡ stuck q
      go (stopped s) j t = absurd (f n p q v m d (j ∙ ap (λ x. stopped x) (let i : ◌≡◌ {A = Outcome C K S} (stopped s) (stopped (failure.Dead (length q))) = t in let same : s ≡ failure.Dead (length q) = cc in same)))
      go (done u i z) j t =
          let s : g i z ≡ stuck q = stopped_before (g i z) (h u) (length q) t in
          let c = inside u i z j s in
          let got : Got l a (read l a) n (p ++ q) u i z = explained a e n (p ++ q) (done u i z) j in
          behind u i z c.0 c.1 j s c.2 (cut_equal p q (tokens_of (yield_of a u) ++ c.0) c.1 (got.whole ∙ ap (λ y. tokens_of (yield_of a u) ++ y) c.2 ∙ sym (append_assoc (tokens_of (yield_of a u)) c.0 c.1)) c.3)

  stuck_within : (s : Shape T) → is_deterministic l s ≡ true → (q : List K) (i : S) (z : List K) → read l s i z ≡ stuck q → EndsWithin q z
  stuck_within s e q i z d = go (explained s e i z (stuck q) d)
    where
      go : Stuck l s (read l s) i z (length q) → EndsWithin q z
      go k = (tokens_of k.before, k.left, k.whole, k.size)

  -- ---- each shape

  never_nothing : NeverStuck nothing
  never_nothing n p q v m d f = cc

  never_one : (t : T) → NeverStuck (one t)
  never_one t n [] q v m d f = absurd (cc)
  never_one t n (x ∷ p) q v m d f = go (l.is t x) d f
    where
      passed : (o : Option S) → counting l t x (p ++ q) o ≡ stuck q → ⊥
      passed None g = cc
      passed (Some i) g = cc

      go : (b : Bool) → taking l t n x p b ≡ done v m [] → taking l t n x (p ++ q) b ≡ stuck q → ⊥
      go true g h = passed (l.step n t) h
      go false g h = cc

  read_to_end : {A : Type 0} (o : Outcome A K S) (w : A) (m : S) (y : List K) → o ≡ done w m y → y ≡ [] → o ≡ done w m []
  read_to_end o w m y e f = e ∙ ap (λ z. done w m z) f

  never_both : (a b : Shape T) → is_deterministic l a ≡ true → is_deterministic l b ≡ true → NeverStuck a → NeverStuck b → NeverStuck (both a b)
  never_both a b ea eb fa fb n p q v m d f = go (read l a n p) refl d
    where
      other : (u : Tree K a) (i : S) (r : List K) → read l a n p ≡ done u i r → (o : Outcome (Tree K b) K S) → read l b i r ≡ o → ◌≡◌ {A = Outcome (Tree K a × Tree K b) K S} (and_then o (λ c j y. done (u, c) j y)) (done v m []) → ⊥
      other u i r g (stopped s) h k = cc
      other u i r g (done c j y) h k =
          let ends : y ≡ [] = let i : ◌≡◌ {A = Outcome (Tree K a × Tree K b) K S} (done (u, c) j y) (done v m []) = k in cc in
          fb i r q c j (read_to_end (read l b i r) c j y h ends) (second_stops a ea fa n p q u i r g (read l b) (λ w o z k. stuck_within b eb q o z) (λ x y. (x, y)) f)

      go : (o : Outcome (Tree K a) K S) → read l a n p ≡ o → two (λ x y. (x, y)) (read l b) o ≡ done v m [] → ⊥
      go (stopped s) g h = cc
      go (done u i r) g h = other u i r g (read l b i r) refl h

  -- what is made of a tree that is read to the end
  made_end : {A B : Type 0} (o : Outcome A K S) (h : A → B) (v : B) (m : S) → ◌≡◌ {A = Outcome B K S} (and_then o (λ b i y. done (h b) i y)) (done v m []) → (u : A) × (o ≡ done u m [])
  made_end (stopped s) h v m e = absurd (cc)
  made_end {A} {B} (done u i y) h v m e = let f : ◌≡◌ {A = Outcome B K S} (done (h u) i y) (done v m []) = e in (u, (let g : i ≡ m = cc in let k : y ≡ [] = cc in λ j. done u (g j) (k j)))

  abbrev pub chosen : {A B : Type 0} → (S → List K → Outcome A K S) → (S → List K → Outcome B K S) → S → List K → Bool → Outcome (A ⊎ B) K S
  chosen f g n w true = and_then (f n w) (λ v m r. done (inl v) m r)
  chosen f g n w false = and_then (g n w) (λ v m r. done (inr v) m r)

  same_way : (a b : Shape T) → NeverStuck a → NeverStuck b → (n : S) (p q : List K) (v : Tree K a ⊎ Tree K b) (m : S) (c : Bool) → chosen (read l a) (read l b) n p c ≡ done v m [] → chosen (read l a) (read l b) n (p ++ q) c ≡ stuck q → ⊥
  same_way a b fa fb n p q v m true d f = let u = made_end (read l a n p) (λ x. inl x) v m d in fa n p q u.0 m u.1 (stopped_before (read l a n (p ++ q)) (λ x. inl x) (length q) f)
  same_way a b fa fb n p q v m false d f = let u = made_end (read l b n p) (λ x. inr x) v m d in fb n p q u.0 m u.1 (stopped_before (read l b n (p ++ q)) (λ x. inr x) (length q) f)

  never_either : (a b : Shape T) → is_deterministic l a ≡ true → NeverStuck a → NeverStuck b → NeverStuck (either a b)
  never_either a b ea fa fb n (x ∷ p) q v m d f = same_way a b fa fb n (x ∷ p) q v m (is_among l (first_set a) x) d f
  never_either a b ea fa fb n [] [] v m d f = same_way a b fa fb n [] [] v m false d f
  never_either a b ea fa fb n [] (x ∷ q) v m d f = go (is_among l (first_set a) x) refl f
    where
      go : (c : Bool) → is_among l (first_set a) x ≡ c → chosen (read l a) (read l b) n (x ∷ q) c ≡ stuck (x ∷ q) → ⊥
      go true g h = first_goes a ea n x q g (stopped_before (read l a n (x ∷ q)) (λ y. inl y) (length (x ∷ q)) h)
      go false g h = same_way a b fa fb n [] (x ∷ q) v m false d h

  -- ---- repetitions

  abbrev turns_of : (a : Shape T) → ℕ → S → List K → Outcome (List (Tree K a)) K S
  turns_of a k n w = turns l (is_next_among l (first_set a)) (read l a) k n w

  turns_within : (a : Shape T) → is_deterministic l (many a) ≡ true → (k : ℕ) (q : List K) (i : S) (z : List K) → length z ≤ k → turns_of a k i z ≡ stuck q → EndsWithin q z
  turns_within a e k q i z le d = go (subst (λ o. Again l a i z o) d (explain_turns l a (deterministic_many l a e).1 (λ m r. explain l a (deterministic_many l a e).0 m r) k i z le))
    where
      go : Again l a i z (stuck q) → EndsWithin q z
      go h = (tokens_of h.0, h.1, h.3, h.2)

  some_tokens : (p : Labelled T K) → (p ≡ [] → ⊥) → 1 ≤ length (tokens_of p)
  some_tokens [] f = absurd (f refl)
  some_tokens (x ∷ p) f = omega (arith)

  -- what is left behind a turn
  left_behind : (a : Shape T) → is_nullable a ≡ false → (u : Tree K a) (w r : List K) → w ≡ tokens_of (yield_of a u) ++ r → suc (length r) ≤ length w
  left_behind a e u w r g = omega (arith, ap length g, length-append (tokens_of (yield_of a u)) r, some_tokens (yield_of a u) (never_empty l a e u))

  no_room : {A : Type 0} (k i j h : ℕ) → suc i ≤ h → i ≡ j + k → k ≡ h → A
  no_room k i j h a b c = absurd (omega (arith, a, b, c))

  abbrev turned : (a : Shape T) → ℕ → S → List K → Bool → Outcome (List (Tree K a)) K S
  turned a k n w c = turn l (is_next_among l (first_set a)) (read l a) k n w c

  no_turns : (a : Shape T) → is_deterministic l (many a) ≡ true → (j : ℕ) (n : S) (q : List K) → length q ≤ j → turns_of a j n q ≡ stuck q → ⊥
  no_turns a e zero n q le f = cc
  no_turns a e (suc j) n [] le f = cc
  no_turns a e (suc j) n (x ∷ q) le f = go (is_among l (first_set a) x) refl f
    where
      other : is_among l (first_set a) x ≡ true → (o : Outcome (Tree K a) K S) → read l a n (x ∷ q) ≡ o → two (λ y ys. y ∷ ys) (turns_of a j) o ≡ stuck (x ∷ q) → ⊥
      other g (stopped s) h k = first_goes a (deterministic_many l a e).0 n x q g (h ∙ ap (λ y. stopped y) (let i : ◌≡◌ {A = Outcome (List (Tree K a)) K S} (stopped s) (stopped (failure.Dead (length (x ∷ q)))) = k in let same : s ≡ failure.Dead (length (x ∷ q)) = cc in same))
      other g (done u i r) h k =
          let got : Got l a (read l a) n (x ∷ q) u i r = explained a (deterministic_many l a e).0 n (x ∷ q) (done u i r) h in
          let less : suc (length r) ≤ length (x ∷ q) = left_behind a (deterministic_many l a e).1 u (x ∷ q) r got.whole in
          let ends = turns_within a e j (x ∷ q) i r (omega (arith, less, le)) (stopped_before (turns_of a j i r) (λ ys. u ∷ ys) (length (x ∷ q)) k) in
          no_room (length ends.1) (length r) (length ends.0) (length (x ∷ q)) less (ap length ends.2 ∙ length-append ends.0 ends.1) ends.3

      go : (c : Bool) → is_among l (first_set a) x ≡ c → turned a j n (x ∷ q) c ≡ stuck (x ∷ q) → ⊥
      go true g h = other g (read l a n (x ∷ q)) refl h
      go false g h = cc

  abbrev LaterTurns : Shape T → ℕ → ℕ → List K → S → Type 0
  LaterTurns a k j q m = (i : S) (r : List K) (ws : List (Tree K a)) → length r ≤ k → length (r ++ q) ≤ j → turns_of a k i r ≡ done ws m [] → turns_of a j i (r ++ q) ≡ stuck q → ⊥

  never_turns : (a : Shape T) → is_deterministic l (many a) ≡ true → NeverStuck a → (k j : ℕ) (n : S) (p q : List K) (vs : List (Tree K a)) (m : S) → length p ≤ k → length (p ++ q) ≤ j
      → turns_of a k n p ≡ done vs m [] → turns_of a j n (p ++ q) ≡ stuck q → ⊥
  never_turns a e fa k j n [] q vs m le lf d f = no_turns a e j n q lf f
  never_turns a e fa zero j n (y ∷ p) q vs m le lf d f = absurd (omega (arith, le))
  never_turns a e fa (suc k) zero n (y ∷ p) q vs m le lf d f = absurd (omega (arith, lf))
  never_turns a e fa (suc k) (suc j) n (y ∷ p) q vs m le lf d f = go (is_among l (first_set a) y) (λ i r ws s t g h. never_turns a e fa k j i r q ws m s t g h) d f
    where
      inside : (u : Tree K a) (i : S) (z : List K) → read l a n (y ∷ (p ++ q)) ≡ done u i z → turns_of a j i z ≡ stuck q → EndsWithin q z
      inside u i z g h =
          let got : Got l a (read l a) n (y ∷ (p ++ q)) u i z = explained a (deterministic_many l a e).0 n (y ∷ (p ++ q)) (done u i z) g in
          turns_within a e j q i z (omega (arith, lf, left_behind a (deterministic_many l a e).1 u (y ∷ (p ++ q)) z got.whole)) h

      other : LaterTurns a k j q m → (o : Outcome (Tree K a) K S) → read l a n (y ∷ p) ≡ o → two (λ x xs. x ∷ xs) (turns_of a k) o ≡ done vs m [] → two (λ x xs. x ∷ xs) (turns_of a j) (read l a n (y ∷ (p ++ q))) ≡ stuck q → ⊥
      other again (stopped s) g h t = cc
      other again (done u i r) g h t =
          let got : Got l a (read l a) n (y ∷ p) u i r = explained a (deterministic_many l a e).0 n (y ∷ p) (done u i r) g in
          let less : suc (length r) ≤ length (y ∷ p) = left_behind a (deterministic_many l a e).1 u (y ∷ p) r got.whole in
          let ws = made_end (turns_of a k i r) (λ xs. u ∷ xs) vs m h in
          again i r ws.0 (omega (arith, less, le)) (omega (arith, less, lf, length-append p q, length-append r q)) ws.1
          (second_stops a (deterministic_many l a e).0 fa n (y ∷ p) q u i r g (turns_of a j) inside (λ x xs. x ∷ xs) t)

      go : (c : Bool) → LaterTurns a k j q m → turned a k n (y ∷ p) c ≡ done vs m [] → turned a j n (y ∷ (p ++ q)) c ≡ stuck q → ⊥
      go true again g h = other again (read l a n (y ∷ p)) refl g h
      go false again g h = cc

  -- Where the tokens are read to their end as a list of the shape, a reading isn't stuck behind them.
  never : (s : Shape T) → is_deterministic l s ≡ true → NeverStuck s
  never nothing e = λ n p q v m d f. never_nothing n p q v m d f
  never (one t) e = never_one t
  never (both a b) e = let d = deterministic_both l a b e in never_both a b d.0 d.1 (never a d.0) (never b d.1)
  never (either a b) e = let d = deterministic_either l a b e in never_either a b d.0 (never a d.0) (never b d.1)
  never (many a) e = λ n p q v m d f. never_turns a e (never a (deterministic_many l a e).0) (length p) (length (p ++ q)) n p q v m (omega arith) (omega arith) d f

  -- What stands before a token for want of which a reading stops is no list of the shape.
  pub none_before : (s : Shape T) → is_deterministic l s ≡ true → (n : S) (w : List K) (k : ℕ) → read l s n w ≡ stopped (failure.Dead k) → (h : Stuck l s (read l s) n w k) → NoneBefore l s w h.left
  none_before s e n w k d h v fits whole =
      let c = cut_equal (tokens_of (yield_of s v)) h.left (tokens_of h.before) h.left (sym whole ∙ h.whole) refl in
      let same : yield_of s v ≡ h.before = same_front l sound s e (yield_of s v) h.before [] [] (subst (λ p. Front l s p) (sym (append-nil (yield_of s v))) (front_whole l sound s v fits)) (subst (λ p. Front l s p) (sym (append-nil h.before)) h.front) c.0 in
      let met : MetBy (Some h.count) v (read l s n (tokens_of (yield_of s v))) [] = subst (λ c. MetBy c v (read l s n (tokens_of (yield_of s v))) []) (ap (λ p. counted l n p) same ∙ h.within) (whole_text l sound s e v n fits) in
      never s e n (tokens_of (yield_of s v)) h.left v h.count met (ap (λ y. read l s n y) (sym whole) ∙ d ∙ ap (λ i. stopped (failure.Dead i)) (sym h.size))
