-- What may stand first in a list of a shape, and what behind it.
use Rattle.std.proofs.Common.{◌≡◌, Bool, true, false, List, [], ◌∷◌, ◌++◌, refl, inl, inr, ap, sym, ◌∙◌, subst, Option, Some, None, append_assoc}
use Rattle.std.proofs.lemmas.Bool.{false≢true}
use Rattle.ec_embedded.specs.shapes.Shapes.{Shape, nothing, one, both, either, many, Alphabet, Tree, Labelled, yields_of, yield_of, tokens_of, onward, Fits, counted}
use Rattle.ec_embedded.specs.shapes.ReadShapes.{is_nullable, first_set, next_set, is_among, apart_from, all_apart, is_deterministic, is_next_among}

pub yes_first : (a b : Bool) → elim a [ true ↦ b | false ↦ false ] ≡ true → a ≡ true
yes_first true b e = refl
yes_first false b e = e

pub yes_second : (a b : Bool) → elim a [ true ↦ b | false ↦ false ] ≡ true → b ≡ true
yes_second true b e = e
yes_second false b e = absurd (false≢true e)

pub no_first : (a b : Bool) → elim a [ true ↦ false | false ↦ b ] ≡ true → a ≡ false
no_first true b e = absurd (false≢true e)
no_first false b e = refl

pub no_second : (a b : Bool) → elim a [ true ↦ false | false ↦ b ] ≡ true → b ≡ true
no_second true b e = absurd (false≢true e)
no_second false b e = e

pub false_or : (b : Bool) → (b ≡ true → ⊥) → b ≡ false
false_or true f = absurd (f refl)
false_or false f = refl

pub tokens_append : {T K : Type 0} (p q : Labelled T K) → tokens_of (p ++ q) ≡ tokens_of p ++ tokens_of q
tokens_append [] q = refl
tokens_append (x ∷ p) q = ap (λ y. x.1 ∷ y) (tokens_append p q)

pub tokens_behind : {T K : Type 0} (p q : Labelled T K) (x : List K) → tokens_of (p ++ q) ++ x ≡ tokens_of p ++ (tokens_of q ++ x)
tokens_behind p q x = ap (λ y. y ++ x) (tokens_append p q) ∙ append_assoc (tokens_of p) (tokens_of q) x

-- ---- two lists that begin with the same token

abbrev pub SameNext : {K : Type 0} → List K → List K → Type 0
SameNext [] [] = Unit {0}
SameNext (x ∷ w) (y ∷ u) = x ≡ y
SameNext _ _ = ⊥

pub same_next : {K : Type 0} (w : List K) → SameNext w w
same_next [] = tt
same_next (x ∷ w) = refl

pub same_behind : {T K : Type 0} (p : Labelled T K) (w u : List K) → SameNext w u → SameNext (tokens_of p ++ w) (tokens_of p ++ u)
same_behind [] w u h = h
same_behind (x ∷ p) w u h = refl

module _ {T K S : Type 0} (l : Alphabet T K S) where
  pub fits_append : (p q : Labelled T K) → Fits l p → Fits l q → Fits l (p ++ q)
  fits_append [] q h k = k
  fits_append (x ∷ p) q h k = (h.0, fits_append p q h.1 k)

  pub fits_left : (p q : Labelled T K) → Fits l (p ++ q) → Fits l p
  fits_left [] q h = tt
  fits_left (x ∷ p) q h = (h.0, fits_left p q h.1)

  pub fits_right : (p q : Labelled T K) → Fits l (p ++ q) → Fits l q
  fits_right [] q h = h
  fits_right (x ∷ p) q h = fits_right p q h.1

  pub counted_append : (n : S) (p q : Labelled T K) → counted l n (p ++ q) ≡ onward (counted l n p) (λ m. counted l m q)
  counted_append n [] q = refl
  counted_append n (x ∷ p) q = go (l.step n x.0) (λ m. counted_append m p q)
    where
      go : (o : Option S) → ((m : S) → counted l m (p ++ q) ≡ onward (counted l m p) (λ i. counted l i q)) → onward o (λ m. counted l m (p ++ q)) ≡ onward (onward o (λ m. counted l m p)) (λ i. counted l i q)
      go None f = refl
      go (Some m) f = f m

  pub count_both : (n m i : S) (p q : Labelled T K) → counted l n p ≡ Some m → counted l m q ≡ Some i → counted l n (p ++ q) ≡ Some i
  count_both n m i p q e f = counted_append n p q ∙ ap (λ o. onward o (λ k. counted l k q)) e ∙ f

  -- ---- lists of terminals

  pub among_left : (ts us : List T) (x : K) → is_among l ts x ≡ true → is_among l (ts ++ us) x ≡ true
  among_left [] us x e = absurd (false≢true e)
  among_left (t ∷ ts) us x e = go (l.is t x) (among_left ts us x) e
    where
      go : (b : Bool) → (is_among l ts x ≡ true → is_among l (ts ++ us) x ≡ true) → elim b [ true ↦ true | false ↦ is_among l ts x ] ≡ true → elim b [ true ↦ true | false ↦ is_among l (ts ++ us) x ] ≡ true
      go true f h = refl
      go false f h = f h

  pub among_right : (ts us : List T) (x : K) → is_among l us x ≡ true → is_among l (ts ++ us) x ≡ true
  among_right [] us x e = e
  among_right (t ∷ ts) us x e = go (l.is t x) (among_right ts us x e)
    where
      go : (b : Bool) → is_among l (ts ++ us) x ≡ true → elim b [ true ↦ true | false ↦ is_among l (ts ++ us) x ] ≡ true
      go true f = refl
      go false f = f

  pub next_left : (ts us : List T) (w : List K) → is_next_among l ts w ≡ true → is_next_among l (ts ++ us) w ≡ true
  next_left ts us [] e = e
  next_left ts us (x ∷ w) e = among_left ts us x e

  pub next_right : (ts us : List T) (w : List K) → is_next_among l us w ≡ true → is_next_among l (ts ++ us) w ≡ true
  next_right ts us [] e = e
  next_right ts us (x ∷ w) e = among_right ts us x e

  pub not_left : (ts us : List T) (w : List K) → is_next_among l (ts ++ us) w ≡ false → is_next_among l ts w ≡ false
  not_left ts us w e = false_or (is_next_among l ts w) (λ h. false≢true (sym e ∙ next_left ts us w h))

  pub not_right : (ts us : List T) (w : List K) → is_next_among l (ts ++ us) w ≡ false → is_next_among l us w ≡ false
  not_right ts us w e = false_or (is_next_among l us w) (λ h. false≢true (sym e ∙ next_right ts us w h))

  pub next_same : (ts : List T) (w u : List K) → SameNext w u → is_next_among l ts w ≡ is_next_among l ts u
  next_same ts [] [] h = refl
  next_same ts [] (y ∷ u) h = absurd h
  next_same ts (x ∷ w) [] h = absurd h
  next_same ts (x ∷ w) (y ∷ u) h = ap (λ z. is_among l ts z) h

  -- ---- what a list begins with

  abbrev pub Begins : List T → Labelled T K → Type 0
  Begins ts [] = Unit {0}
  Begins ts (p ∷ ps) = is_among l ts p.1 ≡ true

  begins_left : (ts us : List T) (p : Labelled T K) → Begins ts p → Begins (ts ++ us) p
  begins_left ts us [] h = tt
  begins_left ts us (x ∷ p) h = among_left ts us x.1 h

  begins_right : (ts us : List T) (p : Labelled T K) → Begins us p → Begins (ts ++ us) p
  begins_right ts us [] h = tt
  begins_right ts us (x ∷ p) h = among_right ts us x.1 h

  -- a list that is empty is of a shape that may be
  pub empty_nullable : (s : Shape T) (v : Tree K s) → yield_of s v ≡ [] → is_nullable s ≡ true
  empty_nullable nothing v e = refl
  empty_nullable (one t) v e = absurd (cc)
  empty_nullable (both a b) v e = go (yield_of a v.0) (empty_nullable a v.0) (empty_nullable b v.1) e
    where
      go : (y : Labelled T K) → (y ≡ [] → is_nullable a ≡ true) → (yield_of b v.1 ≡ [] → is_nullable b ≡ true) → y ++ yield_of b v.1 ≡ [] → is_nullable (both a b) ≡ true
      go [] f g h = subst (λ c. elim c [ true ↦ is_nullable b | false ↦ false ] ≡ true) (sym (f refl)) (g h)
      go (x ∷ y) f g h = absurd (cc)
  empty_nullable (either a b) (inl v) e = subst (λ c. elim c [ true ↦ true | false ↦ is_nullable b ] ≡ true) (sym (empty_nullable a v e)) refl
  empty_nullable (either a b) (inr v) e = go (is_nullable a) (empty_nullable b v e)
    where
      go : (c : Bool) → is_nullable b ≡ true → elim c [ true ↦ true | false ↦ is_nullable b ] ≡ true
      go true f = refl
      go false f = f
  empty_nullable (many a) v e = refl

  pub begins : (s : Shape T) (v : Tree K s) → Fits l (yield_of s v) → Begins (first_set s) (yield_of s v)
  begins nothing v h = tt
  begins (one t) v h = subst (λ c. elim c [ true ↦ true | false ↦ false ] ≡ true) (sym h.0) refl
  begins (both a b) v h = go (yield_of a v.0) refl (begins a v.0 (fits_left (yield_of a v.0) (yield_of b v.1) h)) (begins b v.1 (fits_right (yield_of a v.0) (yield_of b v.1) h))
    where
      two : (c : Bool) (x : K) → is_among l (first_set a) x ≡ true → is_among l (elim c [ true ↦ first_set a ++ first_set b | false ↦ first_set a ]) x ≡ true
      two true x f = among_left (first_set a) (first_set b) x f
      two false x f = f

      go : (y : Labelled T K) → yield_of a v.0 ≡ y → Begins (first_set a) y → Begins (first_set b) (yield_of b v.1) → Begins (first_set (both a b)) (y ++ yield_of b v.1)
      go [] f g k = subst (λ c. Begins (elim c [ true ↦ first_set a ++ first_set b | false ↦ first_set a ]) (yield_of b v.1)) (sym (empty_nullable a v.0 f)) (begins_right (first_set a) (first_set b) (yield_of b v.1) k)
      go (x ∷ y) f g k = two (is_nullable a) x.1 g
  begins (either a b) (inl v) h = begins_left (first_set a) (first_set b) (yield_of a v) (begins a v h)
  begins (either a b) (inr v) h = begins_right (first_set a) (first_set b) (yield_of b v) (begins b v h)
  begins (many a) [] h = tt
  begins (many a) (v ∷ vs) h = go (yield_of a v) (begins a v (fits_left (yield_of a v) (yields_of (yield_of a) vs) h)) (begins (many a) vs (fits_right (yield_of a v) (yields_of (yield_of a) vs) h))
    where
      go : (y : Labelled T K) → Begins (first_set a) y → Begins (first_set a) (yields_of (yield_of a) vs) → Begins (first_set a) (y ++ yields_of (yield_of a) vs)
      go [] g k = k
      go (x ∷ y) g k = g

  -- of a shape that is never empty
  pub full : (s : Shape T) → is_nullable s ≡ false → (v : Tree K s) (x : List K) → Fits l (yield_of s v) → is_next_among l (first_set s) (tokens_of (yield_of s v) ++ x) ≡ true
  full s e v x h = go (yield_of s v) refl (begins s v h)
    where
      go : (y : Labelled T K) → yield_of s v ≡ y → Begins (first_set s) y → is_next_among l (first_set s) (tokens_of y ++ x) ≡ true
      go [] f g = absurd (false≢true (sym e ∙ empty_nullable s v f))
      go (p ∷ y) f g = g

  -- what begins a list, or stands behind it
  pub begins_or : (ts us : List T) (p : Labelled T K) (x : List K) → Begins us p → ((y : List K) → is_next_among l us y ≡ true → is_next_among l ts y ≡ true → ⊥) → (p ≡ [] → is_next_among l ts x ≡ false) → is_next_among l ts (tokens_of p ++ x) ≡ false
  begins_or ts us [] x g f h = h refl
  begins_or ts us (q ∷ p) x g f h = false_or (is_among l ts q.1) (λ k. f (q.1 ∷ []) g k)

module _ {T K S : Type 0} (l : Alphabet T K S) where
  pub first_part : (a b : Bool) (c : Bool) → elim a [ true ↦ elim b [ true ↦ c | false ↦ false ] | false ↦ false ] ≡ true → (a ≡ true) × (b ≡ true) × (c ≡ true)
  first_part a b c e = let f = yes_second a (elim b [ true ↦ c | false ↦ false ]) e in (yes_first a (elim b [ true ↦ c | false ↦ false ]) e, yes_first b c f, yes_second b c f)

  pub deterministic_many : (a : Shape T) → is_deterministic l (many a) ≡ true → (is_deterministic l a ≡ true) × (is_nullable a ≡ false) × (all_apart l (next_set a) (first_set a) ≡ true)
  deterministic_many a e =
      let f = yes_second (is_deterministic l a) (elim (is_nullable a) [ true ↦ false | false ↦ all_apart l (next_set a) (first_set a) ]) e in
      (yes_first (is_deterministic l a) (elim (is_nullable a) [ true ↦ false | false ↦ all_apart l (next_set a) (first_set a) ]) e, no_first (is_nullable a) (all_apart l (next_set a) (first_set a)) f, no_second (is_nullable a) (all_apart l (next_set a) (first_set a)) f)

  pub deterministic_either : (a b : Shape T) → is_deterministic l (either a b) ≡ true → (is_deterministic l a ≡ true) × (is_deterministic l b ≡ true) × (is_nullable a ≡ false) × (all_apart l (first_set a) (first_set b) ≡ true)
  deterministic_either a b e =
      let f = first_part (is_deterministic l a) (is_deterministic l b) (elim (is_nullable a) [ true ↦ false | false ↦ all_apart l (first_set a) (first_set b) ]) e in
      (f.0, f.1, no_first (is_nullable a) (all_apart l (first_set a) (first_set b)) f.2, no_second (is_nullable a) (all_apart l (first_set a) (first_set b)) f.2)

  pub deterministic_both : (a b : Shape T) → is_deterministic l (both a b) ≡ true → (is_deterministic l a ≡ true) × (is_deterministic l b ≡ true) × (all_apart l (next_set a) (first_set b) ≡ true)
  deterministic_both a b e = first_part (is_deterministic l a) (is_deterministic l b) (all_apart l (next_set a) (first_set b)) e

module _ {T K S : Type 0} (l : Alphabet T K S) (sound : (t u : T) (x : K) → l.apart t u ≡ true → l.is t x ≡ true → l.is u x ≡ true → ⊥) where
  from_sound : (t : T) (us : List T) (x : K) → apart_from l t us ≡ true → l.is t x ≡ true → is_among l us x ≡ true → ⊥
  from_sound t [] x e h k = false≢true k
  from_sound t (u ∷ us) x e h k = go (l.is u x) refl (from_sound t us x (yes_second (l.apart t u) (apart_from l t us) e) h) k
    where
      go : (b : Bool) → l.is u x ≡ b → (is_among l us x ≡ true → ⊥) → elim b [ true ↦ true | false ↦ is_among l us x ] ≡ true → ⊥
      go true f again g = sound t u x (yes_first (l.apart t u) (apart_from l t us) e) h f
      go false f again g = again g

  pub apart_sound : (ts us : List T) (x : K) → all_apart l ts us ≡ true → is_among l ts x ≡ true → is_among l us x ≡ true → ⊥
  apart_sound [] us x e h k = false≢true h
  apart_sound (t ∷ ts) us x e h k = go (l.is t x) refl (λ g. apart_sound ts us x (yes_second (apart_from l t us) (all_apart l ts us) e) g k) h
    where
      go : (b : Bool) → l.is t x ≡ b → (is_among l ts x ≡ true → ⊥) → elim b [ true ↦ true | false ↦ is_among l ts x ] ≡ true → ⊥
      go true f again g = from_sound t us x (yes_first (apart_from l t us) (all_apart l ts us) e) f k
      go false f again g = again g

  pub next_apart : (ts us : List T) → all_apart l ts us ≡ true → (y : List K) → is_next_among l us y ≡ true → is_next_among l ts y ≡ true → ⊥
  next_apart ts us e [] h k = false≢true h
  next_apart ts us e (x ∷ y) h k = apart_sound ts us x e k h
