-- A list has one verdict at most.
use Rattle.std.proofs.Common.{◌≡◌, true, List, [], ◌∷◌, ◌++◌, refl, ap, sym, ◌∙◌, subst, inl, inr, Some, None, append_assoc}
use Rattle.std.proofs.lemmas.List.{append-nil}
use Rattle.ec_embedded.specs.shapes.Shapes.{Shape, Alphabet, IsSound, Tree, Labelled, yield_of, tokens_of, onward, counted, Fits, Front, IsTree, IsDead, IsShort, IsOver, Judged, tree, dead, short, over, Judges}
use Rattle.ec_embedded.specs.shapes.ReadShapes.{is_deterministic}
use Rattle.ec_embedded.proofs.shapes_lemmas.Firsts.{tokens_append, counted_append}
use Rattle.ec_embedded.proofs.shapes_lemmas.Agree.{same_front}
use Rattle.ec_embedded.proofs.shapes_lemmas.Exact.{TwoCuts, two_cuts, labelled_cut, front_of_front, none_beyond, one_tree, tree_or_dead, one_dead, short_or_dead}

module _ {T K S : Type 0} (l : Alphabet T K S) (sound : IsSound l) (s : Shape T) (e : is_deterministic l s ≡ true) where
  -- what is counted in a front of a list in which no limit is passed
  front_counted : (n c : S) (a b : Labelled T K) → counted l n (a ++ b) ≡ Some c → counted l n a ≡ None → ⊥
  front_counted n c a b e f = let g : None ≡ Some c = ap (λ o. onward o (λ m. counted l m b)) (sym f) ∙ sym (counted_append l n a b) ∙ e in cc

  over_counted : (n count : S) (before : Labelled T K) (t : T) (x : K) → counted l n before ≡ Some count → l.step count t ≡ None → counted l n (before ++ (t, x) ∷ []) ≡ None
  over_counted n count before t x h k = counted_append l n before ((t, x) ∷ []) ∙ ap (λ o. onward o (λ m. onward (l.step m t) (λ i. Some i))) h ∙ ap (λ o. onward o (λ i. Some i)) k

  -- A limit is not passed in a front in which none is.
  within : (n c : S) (w : List K) (x : K) (after z : List K) (h : IsOver l s n w x after) (before : Labelled T K) → Front l s before → counted l n before ≡ Some c → tokens_of before ≡ (tokens_of h.before ++ x ∷ []) ++ z → ⊥
  within n c w x after z h before f k d =
      let cut = labelled_cut before (tokens_of h.before ++ x ∷ []) z d in
      let same : h.before ++ (h.terminal, x) ∷ [] ≡ cut.0 = same_front l sound s e (h.before ++ (h.terminal, x) ∷ []) cut.0 [] cut.1
      (subst (λ p. Front l s p) (sym (append-nil (h.before ++ (h.terminal, x) ∷ []))) h.front) (subst (λ p. Front l s p) cut.3 f)
      (tokens_append h.before ((h.terminal, x) ∷ []) ∙ sym cut.2) in
      front_counted n c cut.0 cut.1 (subst (λ p. counted l n p ≡ Some c) cut.3 k)
      (subst (λ p. counted l n p ≡ None) same (over_counted n h.count h.before h.terminal x h.within h.over))

  over_whole : (n : S) (w : List K) (x : K) (after : List K) (h : IsOver l s n w x after) → w ≡ (tokens_of h.before ++ x ∷ []) ++ after
  over_whole n w x after h = h.whole ∙ sym (append_assoc (tokens_of h.before) (x ∷ []) after)

  whole_front : (v : Tree K s) → Fits l (yield_of s v) → Front l s (yield_of s v)
  whole_front v h = record { tree = v; rest = []; whole = sym (append-nil (yield_of s v)); fits = h }

  pub tree_or_over : (n : S) (w : List K) (v : Tree K s) (x : K) (after : List K) → IsTree l s n w v → IsOver l s n w x after → ⊥
  tree_or_over n w v x after h k = within n h.count w x after after k (yield_of s v) (whole_front v h.fits) h.within (sym h.whole ∙ over_whole n w x after k)

  pub short_or_over : (n : S) (w : List K) (x : K) (after : List K) → IsShort l s n w → IsOver l s n w x after → ⊥
  short_or_over n w x after h k = within n h.count w x after after k h.before h.front h.within (sym h.whole ∙ over_whole n w x after k)

  -- the front before the limit, without its last terminal
  front_before : (n : S) (w : List K) (x : K) (after : List K) (h : IsOver l s n w x after) → Front l s h.before
  front_before n w x after h = front_of_front l sound s (h.before ++ (h.terminal, x) ∷ []) h.before ((h.terminal, x) ∷ []) refl h.front

  pub dead_or_over : (n : S) (w : List K) (y x : K) (b a : List K) → IsDead l s n w y b → IsOver l s n w x a → ⊥
  dead_or_over n w y x b a d h = go (two_cuts (tokens_of d.before) (tokens_of h.before) y x b a (sym d.whole ∙ h.whole))
    where
      go : TwoCuts (tokens_of d.before) (tokens_of h.before) y x b a → ⊥
      go (inl c) = none_beyond l sound s n w y b d h.before c.0 (front_before n w x a h) c.1
      go (inr (inl c)) = within n d.count w x a c.0 h d.before d.front d.within c.1
      go (inr (inr c)) = d.dead (h.before ++ (h.terminal, x) ∷ []) (tokens_append h.before ((h.terminal, x) ∷ []) ∙ (λ i. sym c.2 i ++ sym c.0 i ∷ [])) h.front

  one_over : (n : S) (w : List K) (x y : K) (a b : List K) → IsOver l s n w x a → IsOver l s n w y b → (x ≡ y) × (a ≡ b)
  one_over n w x y a b h k = go (two_cuts (tokens_of h.before) (tokens_of k.before) x y a b (sym h.whole ∙ k.whole))
    where
      go : TwoCuts (tokens_of h.before) (tokens_of k.before) x y a b → (x ≡ y) × (a ≡ b)
      go (inl c) = absurd (within n k.count w x a c.0 h k.before (front_before n w y b k) k.within c.1)
      go (inr (inl c)) = absurd (within n h.count w y b c.0 k h.before (front_before n w x a h) h.within c.1)
      go (inr (inr c)) = (c.0, c.1)

  -- A list has one verdict at most.
  pub single : (n : S) (w : List K) (a b : Judged (Tree K s) K) → Judges l s n w a → Judges l s n w b → a ≡ b
  single n w (tree v) (tree u) h k = ap (λ x. tree x) (one_tree l sound s e n w v u h k)
  single n w (tree v) (dead x r) h k = absurd (tree_or_dead l sound s n w v x r h k)
  single n w (tree v) short h k = absurd (k.short v h.fits h.whole)
  single n w (tree v) (over x r) h k = absurd (tree_or_over n w v x r h k)
  single n w (dead x r) (tree v) h k = absurd (tree_or_dead l sound s n w v x r k h)
  single n w (dead x r) (dead y q) h k = let f = one_dead l sound s n w x y r q h k in λ i. dead (f.0 i) (f.1 i)
  single n w (dead x r) short h k = absurd (short_or_dead l sound s n w x r k h)
  single n w (dead x r) (over y q) h k = absurd (dead_or_over n w x y r q h k)
  single n w short (tree v) h k = absurd (h.short v k.fits k.whole)
  single n w short (dead x r) h k = absurd (short_or_dead l sound s n w x r h k)
  single n w short short h k = refl
  single n w short (over x r) h k = absurd (short_or_over n w x r h k)
  single n w (over x r) (tree v) h k = absurd (tree_or_over n w v x r k h)
  single n w (over x r) (dead y q) h k = absurd (dead_or_over n w y x q r k h)
  single n w (over x r) short h k = absurd (short_or_over n w x r k h)
  single n w (over x r) (over y q) h k = let f = one_over n w x y r q h k in λ i. over (f.0 i) (f.1 i)
