-- The terminals of a front are told by its tokens: two lists of a shape have the same terminals for as long as they have the same tokens.
use Rattle.std.proofs.Common.{◌≡◌, true, false, List, [], ◌∷◌, ◌++◌, refl, ap, sym, ◌∙◌, subst, inl, inr, append_assoc}
use Rattle.std.proofs.lemmas.Bool.{false≢true}
use Rattle.std.proofs.lemmas.List.{append-nil}
use Rattle.ec_embedded.specs.shapes.Shapes.{Shape, nothing, one, both, either, many, Alphabet, IsSound, Tree, Labelled, yields_of, yield_of, tokens_of, Fits, Front}
use Rattle.ec_embedded.specs.shapes.ReadShapes.{is_nullable, first_set, next_set, is_among, is_next_among, all_apart, is_deterministic}
use Rattle.ec_embedded.proofs.shapes_lemmas.Firsts.{tokens_append, fits_left, fits_right, begins, Begins, begins_or, empty_nullable, next_apart, not_left, not_right, deterministic_both, deterministic_either, deterministic_many}
use Rattle.ec_embedded.proofs.shapes_lemmas.Whole.{apart_both, nexts_left, nexts_right, either_left, either_right, either_first}

-- for as long as the tokens are the same, the terminals are
abbrev pub Agrees : {T K : Type 0} → Labelled T K → Labelled T K → Type 0
Agrees [] q = Unit {0}
Agrees (x ∷ p) [] = Unit {0}
Agrees (x ∷ p) (y ∷ q) = x.1 ≡ y.1 → (x.0 ≡ y.0) × Agrees p q

pub none_agrees : {T K : Type 0} (p : Labelled T K) → Agrees p []
none_agrees [] = tt
none_agrees (x ∷ p) = tt

-- fronts of lists that agree
pub agreed : {T K : Type 0} (p q r z : Labelled T K) → Agrees (p ++ r) (q ++ z) → tokens_of p ≡ tokens_of q → p ≡ q
agreed [] [] r z h e = refl
agreed [] (y ∷ q) r z h e = absurd (cc)
agreed (x ∷ p) [] r z h e = absurd (cc)
agreed (x ∷ p) (y ∷ q) r z h e =
    let f : x.1 ∷ tokens_of p ≡ y.1 ∷ tokens_of q = e in
    let same : x.1 ≡ y.1 = cc in
    let others : tokens_of p ≡ tokens_of q = cc in
    let k = h same in
    let terminals : x.0 ≡ y.0 = k.0 in
    let rest : p ≡ q = agreed p q r z k.1 others in
    λ i. (terminals i, same i) ∷ rest i

module _ {T K S : Type 0} (l : Alphabet T K S) (sound : IsSound l) where
  -- the next token doesn't go on with the shape
  abbrev NoNext : Shape T → Labelled T K → Type 0
  NoNext s p = is_next_among l (next_set s) (tokens_of p) ≡ false

  -- One list begins with a terminal of the first, and the other doesn't.
  one_side : (ts : List T) (p q : Labelled T K) → Begins l ts p → is_next_among l ts (tokens_of q) ≡ false → Agrees p q
  one_side ts [] q b n = tt
  one_side ts (x ∷ p) [] b n = tt
  one_side ts (x ∷ p) (y ∷ q) b n = λ e. absurd (false≢true (sym n ∙ ap (λ k. is_among l ts k) (sym e) ∙ b))

  other_side : (ts : List T) (p q : Labelled T K) → Begins l ts q → is_next_among l ts (tokens_of p) ≡ false → Agrees p q
  other_side ts [] q b n = tt
  other_side ts (x ∷ p) [] b n = tt
  other_side ts (x ∷ p) (y ∷ q) b n = λ e. absurd (false≢true (sym n ∙ ap (λ k. is_among l ts k) e ∙ b))

  begins_front : (ts : List T) (p q : Labelled T K) → Begins l ts p → (p ≡ [] → ⊥) → Begins l ts (p ++ q)
  begins_front ts [] q b f = absurd (f refl)
  begins_front ts (x ∷ p) q b f = b

  never_empty : (a : Shape T) → is_nullable a ≡ false → (v : Tree K a) → yield_of a v ≡ [] → ⊥
  never_empty a e v f = false≢true (sym e ∙ empty_nullable l a v f)

  behind : (ts : List T) (p q : Labelled T K) → is_next_among l ts (tokens_of p ++ tokens_of q) ≡ false → is_next_among l ts (tokens_of (p ++ q)) ≡ false
  behind ts p q e = ap (λ w. is_next_among l ts w) (tokens_append p q) ∙ e

  regrouped : (a b p c d q : Labelled T K) → Agrees (a ++ (b ++ p)) (c ++ (d ++ q)) → Agrees ((a ++ b) ++ p) ((c ++ d) ++ q)
  regrouped a b p c d q h = subst (λ z. Agrees z ((c ++ d) ++ q)) (sym (append_assoc a b p)) (subst (λ z. Agrees (a ++ (b ++ p)) z) (sym (append_assoc c d q)) h)

  -- lists of the shape agree, each with what doesn't go on with it behind it
  abbrev Agree : (s : Shape T) → Tree K s → Tree K s → Type 0
  Agree s v u = Fits l (yield_of s v) → Fits l (yield_of s u) → (p q : Labelled T K) → NoNext s p → NoNext s q → Agrees p q → Agrees (yield_of s v ++ p) (yield_of s u ++ q)

  agree_many : (a : Shape T) → is_nullable a ≡ false → all_apart l (next_set a) (first_set a) ≡ true → ((v u : Tree K a) → Agree a v u) → (vs us : List (Tree K a)) → Agree (many a) vs us
  agree_many a e d each [] [] f g p q m n h = h
  agree_many a e d each [] (u ∷ us) f g p q m n h =
      let b = begins l a u (fits_left l (yield_of a u) (yields_of (yield_of a) us) g) in
      let full : Begins l (first_set a) (yield_of a u ++ yields_of (yield_of a) us) = begins_front (first_set a) (yield_of a u) (yields_of (yield_of a) us) b (never_empty a e u) in
      other_side (first_set a) p ((yield_of a u ++ yields_of (yield_of a) us) ++ q)
      (subst (λ z. Begins l (first_set a) z) (sym (append_assoc (yield_of a u) (yields_of (yield_of a) us) q)) (begins_front (first_set a) (yield_of a u) (yields_of (yield_of a) us ++ q) b (never_empty a e u)))
      (not_left l (first_set a) (next_set a) (tokens_of p) m)
  agree_many a e d each (v ∷ vs) [] f g p q m n h =
      let b = begins l a v (fits_left l (yield_of a v) (yields_of (yield_of a) vs) f) in
      one_side (first_set a) ((yield_of a v ++ yields_of (yield_of a) vs) ++ p) q
      (subst (λ z. Begins l (first_set a) z) (sym (append_assoc (yield_of a v) (yields_of (yield_of a) vs) p)) (begins_front (first_set a) (yield_of a v) (yields_of (yield_of a) vs ++ p) b (never_empty a e v)))
      (not_left l (first_set a) (next_set a) (tokens_of q) n)
  agree_many a e d each (v ∷ vs) (u ∷ us) f g p q m n h =
      let vf = fits_right l (yield_of a v) (yields_of (yield_of a) vs) f in
      let uf = fits_right l (yield_of a u) (yields_of (yield_of a) us) g in
      regrouped (yield_of a v) (yields_of (yield_of a) vs) p (yield_of a u) (yields_of (yield_of a) us) q
      (each v u (fits_left l (yield_of a v) (yields_of (yield_of a) vs) f) (fits_left l (yield_of a u) (yields_of (yield_of a) us) g) (yields_of (yield_of a) vs ++ p) (yields_of (yield_of a) us ++ q)
      (turn_ends vs p vf m) (turn_ends us q uf n) (agree_many a e d each vs us vf uf p q m n h))
    where
      turn_ends : (ws : List (Tree K a)) (r : Labelled T K) → Fits l (yields_of (yield_of a) ws) → NoNext (many a) r → NoNext a (yields_of (yield_of a) ws ++ r)
      turn_ends ws r k i = behind (next_set a) (yields_of (yield_of a) ws) r (begins_or l (next_set a) (first_set a) (yields_of (yield_of a) ws) (tokens_of r) (begins l (many a) ws k)
          (λ y x z. next_apart l sound (next_set a) (first_set a) d y x z) (λ _. not_right l (first_set a) (next_set a) (tokens_of r) i))

  -- a list of the one choice against one of the other
  agree_choices : (a b : Shape T) → is_deterministic l (either a b) ≡ true → (v : Tree K a) (u : Tree K b) → Fits l (yield_of a v) → Fits l (yield_of b u) → (p q : Labelled T K) → NoNext (either a b) q
      → Begins l (first_set a) (yield_of a v ++ p) × (is_next_among l (first_set a) (tokens_of (yield_of b u ++ q)) ≡ false)
  agree_choices a b e v u f g p q n =
      let d = deterministic_either l a b e in (
        begins_front (first_set a) (yield_of a v) p (begins l a v f) (never_empty a d.2 v),
        behind (first_set a) (yield_of b u) q (begins_or l (first_set a) (first_set b) (yield_of b u) (tokens_of q) (begins l b u g) (λ y x z. next_apart l sound (first_set a) (first_set b) d.3 y x z)
            (λ k. either_first l sound a b (tokens_of q) n (empty_nullable l b u k))),
      )

  agree : (s : Shape T) → is_deterministic l s ≡ true → (v u : Tree K s) → Agree s v u
  agree nothing e v u f g p q m n h = h
  agree (one t) e v u f g p q m n h = λ _. (refl, h)
  agree (both a b) e v u f g p q m n h =
      let d = deterministic_both l a b e in
      regrouped (yield_of a v.0) (yield_of b v.1) p (yield_of a u.0) (yield_of b u.1) q
      (agree a d.0 v.0 u.0 (fits_left l (yield_of a v.0) (yield_of b v.1) f) (fits_left l (yield_of a u.0) (yield_of b u.1) g) (yield_of b v.1 ++ p) (yield_of b u.1 ++ q)
      (part_ends v.1 p (fits_right l (yield_of a v.0) (yield_of b v.1) f) m) (part_ends u.1 q (fits_right l (yield_of a u.0) (yield_of b u.1) g) n)
      (agree b d.1 v.1 u.1 (fits_right l (yield_of a v.0) (yield_of b v.1) f) (fits_right l (yield_of a u.0) (yield_of b u.1) g) p q (nexts_right l sound a b (tokens_of p) m) (nexts_right l sound a b (tokens_of q) n) h))
    where
      part_ends : (w : Tree K b) (r : Labelled T K) → Fits l (yield_of b w) → NoNext (both a b) r → NoNext a (yield_of b w ++ r)
      part_ends w r k i = behind (next_set a) (yield_of b w) r (apart_both l sound a b (deterministic_both l a b e).2 w (tokens_of r) k (nexts_left l sound a b (tokens_of r) i))
  agree (either a b) e (inl v) (inl u) f g p q m n h = agree a (deterministic_either l a b e).0 v u f g p q (either_left l sound a b (tokens_of p) m) (either_left l sound a b (tokens_of q) n) h
  agree (either a b) e (inl v) (inr u) f g p q m n h = let c = agree_choices a b e v u f g p q n in one_side (first_set a) (yield_of a v ++ p) (yield_of b u ++ q) c.0 c.1
  agree (either a b) e (inr v) (inl u) f g p q m n h = let c = agree_choices a b e u v g f q p m in other_side (first_set a) (yield_of b v ++ p) (yield_of a u ++ q) c.0 c.1
  agree (either a b) e (inr v) (inr u) f g p q m n h = agree b (deterministic_either l a b e).1 v u f g p q (either_right l sound a b (tokens_of p) m) (either_right l sound a b (tokens_of q) n) h
  agree (many a) e v u f g p q m n h = let d = deterministic_many l a e in agree_many a d.1 d.2 (λ x y. agree a d.0 x y) v u f g p q m n h

  -- Fronts with the same tokens have the same terminals.
  pub same_front : (s : Shape T) → is_deterministic l s ≡ true → (a b r z : Labelled T K) → Front l s (a ++ r) → Front l s (b ++ z) → tokens_of a ≡ tokens_of b → a ≡ b
  same_front s e a b r z h k d = agreed a b (r ++ h.rest) (z ++ k.rest) whole d
    where
      yields : Agrees (yield_of s h.tree ++ []) (yield_of s k.tree ++ [])
      yields = agree s e h.tree k.tree h.fits k.fits [] [] refl refl tt

      regroup : (x y w u : Labelled T K) → u ++ [] ≡ (x ++ y) ++ w → u ++ [] ≡ x ++ (y ++ w)
      regroup x y w u i = i ∙ append_assoc x y w

      whole : Agrees (a ++ (r ++ h.rest)) (b ++ (z ++ k.rest))
      whole = subst (λ w. Agrees w (b ++ (z ++ k.rest))) (regroup a r h.rest (yield_of s h.tree) (append-nil (yield_of s h.tree) ∙ h.whole))
          (subst (λ w. Agrees (yield_of s h.tree ++ []) w) (regroup b z k.rest (yield_of s k.tree) (append-nil (yield_of s k.tree) ∙ k.whole)) yields)
