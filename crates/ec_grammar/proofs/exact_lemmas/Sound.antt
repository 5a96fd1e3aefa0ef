-- The computed tests say what they are meant to say.
use Rattle.std.proofs.Common.{◌≡◌, ℕ, zero, suc, ◌≤◌, Bool, true, false, List, [], ◌∷◌, ◌++◌, refl, ◌⊎◌, inl, inr, ap, sym, ◌∙◌, subst, arith}
use Rattle.std.proofs.lemmas.List.{append-nil}
use Rattle.std.proofs.lemmas.Bool.{false≢true}
use Rattle.ec_language.specs.Productions.{Terminal, Placed, is, Sym, Value, Element, tok, count, sym as ofs, nest, whole, own, Row, Node, Nodes, Follows, Production, productions}
use Rattle.ec_language.specs.Grammar.{PlacedTokens, Limits, Counts, in_expression, in_declarator, DerivesElement, DerivesRow, AnyOf, Makes, DerivesBelow, FrontElement, FrontRow, FrontBelow}
use Rattle.ec_language.proofs.TableTests.{any_row}
use Rattle.ec_language.proofs.Heights.{takes_token}
use Rattle.ec_language.proofs.Prefixes as prefix
use Rattle.ec_language.proofs.Limits.{Room, room_counted, room_expression, room_declarator}
use Rattle.ec_grammar.specs.declared.kind.Kind.{Kind}
use Rattle.ec_grammar.specs.Kinds.{kind_of}
use Rattle.ec_grammar.proofs.exact_lemmas.Fits.{fits, fitting, leading}
use Rattle.ec_grammar.proofs.exact_lemmas.Begins.{null, null_row, first_row, on_first, first, single_row, single, on_pair, pair_row, pair, ground_row, on_ground, ground, lead_row, on_lead, lead, on_ahead, ahead, on_flat, flat}

abbrev pub kind : Placed → Kind
kind t = kind_of t.token.tok

-- ---- lists

pub at_nil : {A : Type 0} (p q : List A) → [] ≡ p ++ q → (p ≡ []) × (q ≡ [])
at_nil [] q e = (refl, sym e)
at_nil (x ∷ p) q e = absurd (cc)

abbrev pub Split : Placed → PlacedTokens → PlacedTokens → PlacedTokens → Type 0
Split t u p q = ((p ≡ []) × (q ≡ t ∷ u)) ⊎ ((z : PlacedTokens) × (p ≡ t ∷ z) × (u ≡ z ++ q))

pub at_cons : (t : Placed) (u p q : PlacedTokens) → t ∷ u ≡ p ++ q → Split t u p q
at_cons t u [] q e = inl (refl, sym e)
at_cons t u (z ∷ p) q e = let h : z ≡ t = cc in inr (p, ap (λ c. c ∷ p) h, (let f : u ≡ p ++ q = cc in f))

-- ---- yes and no

pub yes_here : (b c : Bool) → b ≡ true → elim b [ true ↦ true | false ↦ c ] ≡ true
yes_here true c e = refl
yes_here false c e = absurd (false≢true e)

pub yes_there : (b c : Bool) → c ≡ true → elim b [ true ↦ true | false ↦ c ] ≡ true
yes_there true c e = refl
yes_there false c e = e

pub yes_both : (b c : Bool) → b ≡ true → c ≡ true → elim b [ true ↦ c | false ↦ false ] ≡ true
yes_both true c e h = h
yes_both false c e h = absurd (false≢true e)

-- the two ways through a nested choice
pick_here : (a b c : Bool) → a ≡ true → b ≡ true → elim a [ true ↦ elim b [ true ↦ true | false ↦ c ] | false ↦ c ] ≡ true
pick_here true true c e h = refl
pick_here true false c e h = absurd (false≢true h)
pick_here false b c e h = absurd (false≢true e)

pick_there : (a b c : Bool) → c ≡ true → elim a [ true ↦ elim b [ true ↦ true | false ↦ c ] | false ↦ c ] ≡ true
pick_there true true c e = refl
pick_there true false c e = e
pick_there false b c e = e

abbrev both : Bool → Bool → Bool
both b c = elim b [ true ↦ c | false ↦ false ]

abbrev later : Bool → Bool → Bool → Bool
later a b c = elim a [ true ↦ elim b [ true ↦ true | false ↦ c ] | false ↦ c ]

module _ (lim : Limits) where
  -- a derivation, and a front, lower than n
  abbrev pub Gives : ℕ → ℕ → Counts → (i : Element) → PlacedTokens → Node i → Counts → Type 0
  Gives n levels c i w v e = DerivesElement lim (DerivesBelow lim n) levels c i w v e

  abbrev pub GivesRow : ℕ → ℕ → Counts → Follows → (r : Row) → PlacedTokens → Nodes r → Counts → Type 0
  GivesRow n levels c follows r w vs e = DerivesRow lim (DerivesBelow lim n) levels c follows r w vs e

  abbrev pub Opens : ℕ → ℕ → Counts → Element → PlacedTokens → Type 0
  Opens n levels c i u = FrontElement lim (FrontBelow lim n) levels c i u

  abbrev pub OpensRow : ℕ → ℕ → Counts → Follows → Row → PlacedTokens → Type 0
  OpensRow n levels c follows r u = FrontRow lim (FrontBelow lim n) levels c follows r u

  pub any_true : {A : Type 0} (f : Row → Bool) (X : Production A → Type 0) → ((a : Production A) → X a → f a.row ≡ true) → (l : List (Production A)) → AnyOf lim X l → any_row f l ≡ true
  any_true f X g [] h = absurd h
  any_true f X g (a ∷ rest) (inl x) = yes_here (f a.row) (any_row f rest) (g a x)
  any_true f X g (a ∷ rest) (inr x) = yes_there (f a.row) (any_row f rest) (any_true f X g rest x)

  -- ---- a whole list is a front

  pub whole_element : (n levels : ℕ) (c : Counts) (i : Element) (w : PlacedTokens) (v : Node i) (e : Counts) → Gives n levels c i w v e → Opens n levels c i w
  whole_element n levels c i w v e h = prefix.front_element lim n (prefix.front_below lim n) levels c i w [] v e (subst (λ q. Gives n levels c i q v e) (sym (append-nil w)) h)

  pub whole_row : (n levels : ℕ) (c : Counts) (follows : Follows) (r : Row) (w : PlacedTokens) (vs : Nodes r) (e : Counts) → GivesRow n levels c follows r w vs e → OpensRow n levels c follows r w
  whole_row n levels c follows r w vs e h = prefix.front_row lim n (prefix.front_below lim n) levels c follows r w [] vs e (subst (λ q. GivesRow n levels c follows r q vs e) (sym (append-nil w)) h)

  -- ---- nothing

  pub null_sound : (n levels : ℕ) (c : Counts) (i : Element) (v : Node i) (e : Counts) → Gives n levels c i [] v e → null i ≡ true
  null_sound n levels c i v e h = go (null i) refl
    where
      go : (b : Bool) → null i ≡ b → b ≡ true
      go true f = refl
      go false f = absurd (takes_token lim n i f levels c v e h)

  pub null_list : (n levels : ℕ) (c : Counts) (follows : Follows) (r : Row) (vs : Nodes r) (e : Counts) → GivesRow n levels c follows r [] vs e → null_row r ≡ true
  null_list n levels c follows [] vs e h = refl
  null_list n levels c follows (i ∷ r) vs e h =
      let z = at_nil h.0 h.1 h.2 in
      yes_both (null i) (null_row r) (null_sound n levels c i vs.0 h.3 (subst (λ p. Gives n levels c i p vs.0 h.3) z.0 h.4))
      (null_list n levels h.3 follows r vs.1 e (subst (λ q. GivesRow n levels h.3 follows r q vs.1 e) z.1 h.5))

  -- ---- the first token of a front

  abbrev pub IsFirst : (Element → Kind → Bool) → ℕ → Type 0
  IsFirst F n = (levels : ℕ) (c : Counts) (i : Element) (t : Placed) (u : PlacedTokens) → Opens n levels c i (t ∷ u) → F i (kind t) ≡ true

  first_row_sound : (F : Element → Kind → Bool) → (levels : ℕ) → ((n : ℕ) (c : Counts) (i : Element) (t : Placed) (u : PlacedTokens) → Opens n levels c i (t ∷ u) → F i (kind t) ≡ true) → (n : ℕ) (c : Counts) (follows : Follows) (r : Row) (t : Placed) (u : PlacedTokens) → OpensRow n levels c follows r (t ∷ u) → first_row F r (kind t) ≡ true
  first_row_sound F levels f n c follows [] t u h = absurd (cc)
  first_row_sound F levels f n c follows (i ∷ r) t u (inl x) = yes_here (F i (kind t)) _ (f n c i t u x)
  first_row_sound F levels f n c follows (i ∷ r) t u (inr x) = go (first_row_sound F levels f n x.4 follows r t u) (at_cons t u x.0 x.1 x.2)
    where
      go : (OpensRow n levels x.4 follows r (t ∷ u) → first_row F r (kind t) ≡ true) → Split t u x.0 x.1 → first_row F (i ∷ r) (kind t) ≡ true
      go again (inl y) = yes_there (F i (kind t)) (elim (null i) [ true ↦ first_row F r (kind t) | false ↦ false ])
          (yes_both (null i) (first_row F r (kind t)) (null_sound x.5 levels c i x.3 x.4 (subst (λ p. Gives x.5 levels c i p x.3 x.4) y.0 x.6))
          (again (subst (λ q. OpensRow n levels x.4 follows r q) y.1 x.7)))
      go again (inr y) = yes_here (F i (kind t)) _ (f x.5 c i t y.0 (subst (λ p. Opens x.5 levels c i p) y.1 (whole_element x.5 levels c i x.0 x.3 x.4 x.6)))

  token_first : (x : Terminal) (t : Placed) (u : PlacedTokens) (v : Placed) → t ∷ u ≡ v ∷ [] → is x v.token.tok ≡ true → fits x (kind t) ≡ true
  token_first x t u v e h = let a : t ≡ v = cc in subst (λ (z : Placed). fits x (kind z) ≡ true) (sym a) (fitting x v.token.tok h)

  first_element : (F : Sym → Kind → Bool) (n : ℕ) → ((levels : ℕ) (c : Counts) (s : Sym) (t : Placed) (u : PlacedTokens) → FrontBelow lim n levels c s (t ∷ u) → F s (kind t) ≡ true) → IsFirst (on_first F) n
  first_element F n f levels c (tok x) t u (inl e) = absurd (cc)
  first_element F n f levels c (tok x) t u (inr h) = token_first x t u h.0 h.1 h.2
  first_element F n f levels c (count k x) t u (inl e) = absurd (cc)
  first_element F n f levels c (count k x) t u (inr h) = token_first x t u h.0 h.1 h.2
  first_element F n f levels c (ofs s) t u h = f levels c s t u h
  first_element F n f levels c (nest s) t u (inl e) = absurd (cc)
  first_element F n f levels c (nest s) t u (inr h) = f h.0 c s t u h.2
  first_element F n f levels c (whole s) t u h = f levels (in_expression c) s t u h
  first_element F n f levels c (own s) t u h = f levels (in_declarator c) s t u h

  first_sym : (m n levels : ℕ) (c : Counts) (s : Sym) (t : Placed) (u : PlacedTokens) → FrontBelow lim n levels c s (t ∷ u) → first m s (kind t) ≡ true
  first_sym zero n levels c s t u h = refl
  first_sym (suc m) zero levels c s t u h = absurd h
  first_sym (suc m) (suc n) levels c s t u h =
      any_true (λ r. first_row (on_first (first m)) r (kind t)) (λ a. OpensRow n levels c a.follows a.row (t ∷ u))
      (λ a x. first_row_sound (on_first (first m)) levels (λ k. first_element (first m) k (first_sym m k) levels) n c a.follows a.row t u x) (productions s) h

  pub first_sound : (m n : ℕ) → IsFirst (on_first (first m)) n
  first_sound m n = first_element (first m) n (first_sym m n)

  pub first_list : (m n levels : ℕ) (c : Counts) (follows : Follows) (r : Row) (t : Placed) (u : PlacedTokens) → OpensRow n levels c follows r (t ∷ u) → first_row (on_first (first m)) r (kind t) ≡ true
  first_list m n levels = first_row_sound (on_first (first m)) levels (λ k. first_sound m k levels) n

  -- ---- a list of one token

  abbrev pub IsSingle : (Element → Kind → Bool) → ℕ → Type 0
  IsSingle S n = (levels : ℕ) (c : Counts) (i : Element) (t : Placed) (v : Node i) (e : Counts) → Gives n levels c i (t ∷ []) v e → S i (kind t) ≡ true

  single_row_sound : (S : Element → Kind → Bool) (n : ℕ) → IsSingle S n → (levels : ℕ) (c : Counts) (follows : Follows) (r : Row) (t : Placed) (vs : Nodes r) (e : Counts) → GivesRow n levels c follows r (t ∷ []) vs e → single_row S r (kind t) ≡ true
  single_row_sound S n f levels c follows [] t vs e h = absurd (let x : t ∷ [] ≡ [] = h.0 in cc)
  single_row_sound S n f levels c follows (i ∷ r) t vs e h = go (single_row_sound S n f levels h.3 follows r t vs.1 e) (at_cons t [] h.0 h.1 h.2)
    where
      go : (GivesRow n levels h.3 follows r (t ∷ []) vs.1 e → single_row S r (kind t) ≡ true) → Split t [] h.0 h.1 → single_row S (i ∷ r) (kind t) ≡ true
      go again (inl y) = pick_there (S i (kind t)) (null_row r) (both (null i) (single_row S r (kind t)))
          (yes_both (null i) (single_row S r (kind t)) (null_sound n levels c i vs.0 h.3 (subst (λ p. Gives n levels c i p vs.0 h.3) y.0 h.4))
          (again (subst (λ q. GivesRow n levels h.3 follows r q vs.1 e) y.1 h.5)))
      go again (inr y) = let z = at_nil y.0 h.1 y.2 in
          let one : h.0 ≡ t ∷ [] = y.1 ∙ ap (λ p. t ∷ p) z.0 in
          pick_here (S i (kind t)) (null_row r) (both (null i) (single_row S r (kind t))) (f levels c i t vs.0 h.3 (subst (λ p. Gives n levels c i p vs.0 h.3) one h.4))
          (null_list n levels h.3 follows r vs.1 e (subst (λ q. GivesRow n levels h.3 follows r q vs.1 e) z.1 h.5))

  single_element : (S : Sym → Kind → Bool) (n : ℕ) → ((levels : ℕ) (c : Counts) (s : Sym) (t : Placed) (v : Value s) (e : Counts) → DerivesBelow lim n levels c s (t ∷ []) v e → S s (kind t) ≡ true) → IsSingle (on_first S) n
  single_element S n f levels c (tok x) t v e h = token_first x t [] v h.0 h.1
  single_element S n f levels c (count k x) t v e h = token_first x t [] v h.0 h.1
  single_element S n f levels c (ofs s) t v e h = f levels c s t v e h
  single_element S n f levels c (nest s) t v e h = f h.0 c s t v e h.2
  single_element S n f levels c (whole s) t v e h = f levels (in_expression c) s t v h.0 h.2
  single_element S n f levels c (own s) t v e h = f levels (in_declarator c) s t v h.0 h.2

  single_sym : (m n levels : ℕ) (c : Counts) (s : Sym) (t : Placed) (v : Value s) (e : Counts) → DerivesBelow lim n levels c s (t ∷ []) v e → single m s (kind t) ≡ true
  single_sym zero n levels c s t v e h = refl
  single_sym (suc m) zero levels c s t v e h = absurd h
  single_sym (suc m) (suc n) levels c s t v e h =
      any_true (λ r. single_row (on_first (single m)) r (kind t)) (Makes lim (DerivesBelow lim n) levels c (t ∷ []) v e)
      (λ a x. single_row_sound (on_first (single m)) n (single_element (single m) n (single_sym m n)) levels c a.follows a.row t x.0 e x.2) (productions s) h

  pub single_sound : (m n : ℕ) → IsSingle (on_first (single m)) n
  single_sound m n = single_element (single m) n (single_sym m n)

  pub single_list : (m n levels : ℕ) (c : Counts) (follows : Follows) (r : Row) (t : Placed) (vs : Nodes r) (e : Counts) → GivesRow n levels c follows r (t ∷ []) vs e → single_row (on_first (single m)) r (kind t) ≡ true
  single_list m n = single_row_sound (on_first (single m)) n (single_sound m n)

  -- ---- the first two tokens of a front

  abbrev pub IsPair : (Element → Kind → Kind → Bool) → ℕ → Type 0
  IsPair P n = (levels : ℕ) (c : Counts) (i : Element) (t z : Placed) (u : PlacedTokens) → Opens n levels c i (t ∷ z ∷ u) → P i (kind t) (kind z) ≡ true

  pair_row_sound : (P : Element → Kind → Kind → Bool) (S F : Element → Kind → Bool) → ((n : ℕ) → IsPair P n) → ((n : ℕ) → IsSingle S n)
      → ((n levels : ℕ) (c : Counts) (follows : Follows) (r : Row) (t : Placed) (u : PlacedTokens) → OpensRow n levels c follows r (t ∷ u) → first_row F r (kind t) ≡ true)
      → (n levels : ℕ) (c : Counts) (follows : Follows) (r : Row) (t z : Placed) (u : PlacedTokens) → OpensRow n levels c follows r (t ∷ z ∷ u) → pair_row P S F r (kind t) (kind z) ≡ true
  pair_row_sound P S F f1 f2 f3 n levels c follows [] t z u h = absurd (cc)
  pair_row_sound P S F f1 f2 f3 n levels c follows (i ∷ r) t z u (inl x) = yes_here (P i (kind t) (kind z)) _ (f1 n levels c i t z u x)
  pair_row_sound P S F f1 f2 f3 n levels c follows (i ∷ r) t z u (inr x) = go (pair_row_sound P S F f1 f2 f3 n levels x.4 follows r t z u) (at_cons t (z ∷ u) x.0 x.1 x.2)
    where
      skip : Bool
      skip = both (null i) (pair_row P S F r (kind t) (kind z))

      one : (y : PlacedTokens) → x.0 ≡ t ∷ y → Split z u y x.1 → pair_row P S F (i ∷ r) (kind t) (kind z) ≡ true
      one y e (inl m) = yes_there (P i (kind t) (kind z)) (later (S i (kind t)) (first_row F r (kind z)) skip) (pick_here (S i (kind t)) (first_row F r (kind z)) skip
          (f2 x.5 levels c i t x.3 x.4 (subst (λ p. Gives x.5 levels c i p x.3 x.4) (e ∙ ap (λ p. t ∷ p) m.0) x.6))
          (f3 n levels x.4 follows r z u (subst (λ q. OpensRow n levels x.4 follows r q) m.1 x.7)))
      one y e (inr m) = yes_here (P i (kind t) (kind z)) (later (S i (kind t)) (first_row F r (kind z)) skip)
          (f1 x.5 levels c i t z m.0 (subst (λ p. Opens x.5 levels c i p) (e ∙ ap (λ p. t ∷ p) m.1) (whole_element x.5 levels c i x.0 x.3 x.4 x.6)))

      go : (OpensRow n levels x.4 follows r (t ∷ z ∷ u) → pair_row P S F r (kind t) (kind z) ≡ true) → Split t (z ∷ u) x.0 x.1 → pair_row P S F (i ∷ r) (kind t) (kind z) ≡ true
      go again (inl y) = yes_there (P i (kind t) (kind z)) (later (S i (kind t)) (first_row F r (kind z)) skip) (pick_there (S i (kind t)) (first_row F r (kind z)) skip
          (yes_both (null i) (pair_row P S F r (kind t) (kind z)) (null_sound x.5 levels c i x.3 x.4 (subst (λ p. Gives x.5 levels c i p x.3 x.4) y.0 x.6))
          (again (subst (λ q. OpensRow n levels x.4 follows r q) y.1 x.7))))
      go again (inr y) = one y.0 y.1 (at_cons z u y.0 x.1 y.2)

  pair_element : (P : Sym → Kind → Kind → Bool) (n : ℕ) → ((levels : ℕ) (c : Counts) (s : Sym) (t z : Placed) (u : PlacedTokens) → FrontBelow lim n levels c s (t ∷ z ∷ u) → P s (kind t) (kind z) ≡ true) → IsPair (on_pair P) n
  pair_element P n f levels c (tok x) t z u (inl e) = absurd (cc)
  pair_element P n f levels c (tok x) t z u (inr h) = absurd (let e : t ∷ z ∷ u ≡ h.0 ∷ [] = h.1 in cc)
  pair_element P n f levels c (count k x) t z u (inl e) = absurd (cc)
  pair_element P n f levels c (count k x) t z u (inr h) = absurd (let e : t ∷ z ∷ u ≡ h.0 ∷ [] = h.1 in cc)
  pair_element P n f levels c (ofs s) t z u h = f levels c s t z u h
  pair_element P n f levels c (nest s) t z u (inl e) = absurd (cc)
  pair_element P n f levels c (nest s) t z u (inr h) = f h.0 c s t z u h.2
  pair_element P n f levels c (whole s) t z u h = f levels (in_expression c) s t z u h
  pair_element P n f levels c (own s) t z u h = f levels (in_declarator c) s t z u h

  pair_sym : (m n levels : ℕ) (c : Counts) (s : Sym) (t z : Placed) (u : PlacedTokens) → FrontBelow lim n levels c s (t ∷ z ∷ u) → pair m s (kind t) (kind z) ≡ true
  pair_sym zero n levels c s t z u h = refl
  pair_sym (suc m) zero levels c s t z u h = absurd h
  pair_sym (suc m) (suc n) levels c s t z u h =
      any_true (λ r. pair_row (on_pair (pair m)) (on_first (single m)) (on_first (first m)) r (kind t) (kind z)) (λ a. OpensRow n levels c a.follows a.row (t ∷ z ∷ u))
      (λ a x. pair_row_sound (on_pair (pair m)) (on_first (single m)) (on_first (first m)) (λ k. pair_element (pair m) k (pair_sym m k)) (single_sound m) (first_list m) n levels c a.follows a.row t z u x) (productions s) h

  pub pair_list : (m n levels : ℕ) (c : Counts) (follows : Follows) (r : Row) (t z : Placed) (u : PlacedTokens) → OpensRow n levels c follows r (t ∷ z ∷ u) → pair_row (on_pair (pair m)) (on_first (single m)) (on_first (first m)) r (kind t) (kind z) ≡ true
  pair_list m = pair_row_sound (on_pair (pair m)) (on_first (single m)) (on_first (first m)) (λ k. pair_element (pair m) k (pair_sym m k)) (single_sound m) (first_list m)

  -- ---- what is a front for sure

  any_from : {A : Type 0} (f : Row → Bool) (X : Production A → Type 0) → ((a : Production A) → f a.row ≡ true → X a) → (l : List (Production A)) → any_row f l ≡ true → AnyOf lim X l
  any_from f X g [] e = absurd (false≢true e)
  any_from f X g (a ∷ rest) e = go (any_from f X g rest) (f a.row) refl
    where
      go : (any_row f rest ≡ true → AnyOf lim X rest) → (b : Bool) → b ≡ f a.row → AnyOf lim X (a ∷ rest)
      go again true h = inl (g a (sym h))
      go again false h = inr (again (subst (λ b. elim b [ true ↦ true | false ↦ any_row f rest ] ≡ true) (sym h) e))

  ground_element : (n : ℕ) (G : Sym → Bool) → ((levels : ℕ) (c : Counts) (s : Sym) → G s ≡ true → FrontBelow lim n levels c s []) → (levels : ℕ) (c : Counts) (i : Element) → on_ground G i ≡ true → Opens n levels c i []
  ground_element n G f levels c (tok t) e = inl refl
  ground_element n G f levels c (count k t) e = inl refl
  ground_element n G f levels c (ofs s) e = f levels c s e
  ground_element n G f levels c (nest s) e = inl refl
  ground_element n G f levels c (whole s) e = f levels (in_expression c) s e
  ground_element n G f levels c (own s) e = f levels (in_declarator c) s e

  ground_list : (n levels : ℕ) (c : Counts) (G : Sym → Bool) → ((levels : ℕ) (c : Counts) (s : Sym) → G s ≡ true → FrontBelow lim n levels c s []) → (follows : Follows) (r : Row) → ground_row (on_ground G) r ≡ true → OpensRow n levels c follows r []
  ground_list n levels c G f follows [] e = refl
  ground_list n levels c G f follows (i ∷ r) e = inl (ground_element n G f levels c i e)

  pub ground_sound : (m levels : ℕ) (c : Counts) (s : Sym) → ground m s ≡ true → FrontBelow lim m levels c s []
  ground_sound zero levels c s e = absurd (false≢true e)
  ground_sound (suc m) levels c s e = any_from (ground_row (on_ground (ground m))) (λ a. OpensRow m levels c a.follows a.row []) (λ a h. ground_list m levels c (ground m) (ground_sound m) a.follows a.row h) (productions s) e

  -- a token, within these limits
  abbrev pub Enough : Bool → ℕ → Type 0
  Enough true levels = (fewer : ℕ) × (levels ≡ suc fewer)
  Enough false levels = Unit {0}

  abbrev Leads : (Bool → Sym → Kind → Bool) → ℕ → Placed → Type 0
  Leads L n t = (one : Bool) (levels : ℕ) → Enough one levels → (c : Counts) (s : Sym) → L one s (kind t) ≡ true → FrontBelow lim n levels c s (t ∷ [])

  lead_element : (L : Bool → Sym → Kind → Bool) (n : ℕ) (t : Placed) → Leads L n t → (one : Bool) (levels : ℕ) → Enough one levels → (c : Counts) (i : Element) → on_lead one L i (kind t) ≡ true → Opens n levels c i (t ∷ [])
  lead_element L n t f one levels m c (tok x) e = inr (t, refl, leading x t.token.tok e)
  lead_element L n t f one levels m c (count k x) e = absurd (false≢true e)
  lead_element L n t f one levels m c (ofs s) e = f one levels m c s e
  lead_element L n t f true levels m c (nest s) e = inr (m.0, m.1, f false m.0 tt c s e)
  lead_element L n t f false levels m c (nest s) e = absurd (false≢true e)
  lead_element L n t f one levels m c (whole s) e = f one levels m (in_expression c) s e
  lead_element L n t f one levels m c (own s) e = f one levels m (in_declarator c) s e

  lead_in_row : (L : Bool → Sym → Kind → Bool) (n : ℕ) (t : Placed) → Leads L n t → (one : Bool) (levels : ℕ) → Enough one levels → (c : Counts) (follows : Follows) (r : Row) → lead_row (on_lead one L) r (kind t) ≡ true → OpensRow n levels c follows r (t ∷ [])
  lead_in_row L n t f one levels m c follows [] e = absurd (false≢true e)
  lead_in_row L n t f one levels m c follows (i ∷ r) e = inl (lead_element L n t f one levels m c i e)

  lead_sym : (m : ℕ) (t : Placed) → Leads (lead m) m t
  lead_sym zero t one levels h c s e = absurd (false≢true e)
  lead_sym (suc m) t one levels h c s e = any_from (λ r. lead_row (on_lead one (lead m)) r (kind t)) (λ a. OpensRow m levels c a.follows a.row (t ∷ [])) (λ a x. lead_in_row (lead m) m t (lead_sym m t) one levels h c a.follows a.row x) (productions s) e

  pub lead_list : (m : ℕ) (t : Placed) (one : Bool) (levels : ℕ) → Enough one levels → (c : Counts) (follows : Follows) (r : Row) → lead_row (on_lead one (lead m)) r (kind t) ≡ true → OpensRow m levels c follows r (t ∷ [])
  lead_list m t = lead_in_row (lead m) m t (lead_sym m t)

  -- and where the limits are large enough
  abbrev Aheads : (Sym → Kind → Bool) → ℕ → Placed → Type 0
  Aheads A n t = (levels : ℕ) → n ≤ levels → (c : Counts) → Room lim 1 c → (s : Sym) → A s (kind t) ≡ true → FrontBelow lim n levels c s (t ∷ [])

  ahead_element : (A : Sym → Kind → Bool) (n : ℕ) (t : Placed) → Aheads A n t → (levels : ℕ) → suc n ≤ levels → (c : Counts) → Room lim 1 c → (i : Element) → on_ahead A i (kind t) ≡ true → Opens n levels c i (t ∷ [])
  ahead_element A n t f levels le c r (tok x) e = inr (t, refl, leading x t.token.tok e)
  ahead_element A n t f levels le c r (count k x) e = inr (t, refl, leading x t.token.tok e, (room_counted lim 0 k c r).1)
  ahead_element A n t f levels le c r (ofs s) e = f levels (omega arith) c r s e
  ahead_element A n t f zero le c r (nest s) e = absurd (omega arith)
  ahead_element A n t f (suc fewer) le c r (nest s) e = inr (fewer, refl, f fewer (omega arith) c r s e)
  ahead_element A n t f levels le c r (whole s) e = f levels (omega arith) (in_expression c) (room_expression lim 1 c r) s e
  ahead_element A n t f levels le c r (own s) e = f levels (omega arith) (in_declarator c) (room_declarator lim 1 c r) s e

  ahead_row : (A : Sym → Kind → Bool) (n : ℕ) (t : Placed) → Aheads A n t → (levels : ℕ) → suc n ≤ levels → (c : Counts) → Room lim 1 c → (follows : Follows) (r : Row) → lead_row (on_ahead A) r (kind t) ≡ true → OpensRow n levels c follows r (t ∷ [])
  ahead_row A n t f levels le c room follows [] e = absurd (false≢true e)
  ahead_row A n t f levels le c room follows (i ∷ r) e = inl (ahead_element A n t f levels le c room i e)

  pub ahead_sound : (m : ℕ) (t : Placed) → Aheads (ahead m) m t
  ahead_sound zero t levels le c r s e = absurd (false≢true e)
  ahead_sound (suc m) t levels le c r s e = any_from (λ x. lead_row (on_ahead (ahead m)) x (kind t)) (λ a. OpensRow m levels c a.follows a.row (t ∷ [])) (λ a x. ahead_row (ahead m) m t (ahead_sound m t) levels le c r a.follows a.row x) (productions s) e

  -- ---- no first token stands at this level: one is left

  flat_element : (F : Sym → Kind → Bool) (n : ℕ) → ((c : Counts) (s : Sym) (t : Placed) (u : PlacedTokens) → FrontBelow lim n zero c s (t ∷ u) → F s (kind t) ≡ true) → (c : Counts) (i : Element) (t : Placed) (u : PlacedTokens) → Opens n zero c i (t ∷ u) → on_flat F i (kind t) ≡ true
  flat_element F n f c (tok x) t u (inl e) = absurd (cc)
  flat_element F n f c (tok x) t u (inr h) = token_first x t u h.0 h.1 h.2
  flat_element F n f c (count k x) t u (inl e) = absurd (cc)
  flat_element F n f c (count k x) t u (inr h) = token_first x t u h.0 h.1 h.2
  flat_element F n f c (ofs s) t u h = f c s t u h
  flat_element F n f c (nest s) t u (inl e) = absurd (cc)
  flat_element F n f c (nest s) t u (inr h) = absurd (omega (arith, h.1))
  flat_element F n f c (whole s) t u h = f (in_expression c) s t u h
  flat_element F n f c (own s) t u h = f (in_declarator c) s t u h

  flat_sym : (m n : ℕ) (c : Counts) (s : Sym) (t : Placed) (u : PlacedTokens) → FrontBelow lim n zero c s (t ∷ u) → flat m s (kind t) ≡ true
  flat_sym zero n c s t u h = refl
  flat_sym (suc m) zero c s t u h = absurd h
  flat_sym (suc m) (suc n) c s t u h =
      any_true (λ r. first_row (on_flat (flat m)) r (kind t)) (λ a. OpensRow n zero c a.follows a.row (t ∷ u))
      (λ a x. first_row_sound (on_flat (flat m)) zero (λ k. flat_element (flat m) k (flat_sym m k)) n c a.follows a.row t u x) (productions s) h

  pub level_left : (m n levels : ℕ) (c : Counts) (follows : Follows) (r : Row) (t : Placed) (u : PlacedTokens) → first_row (on_flat (flat m)) r (kind t) ≡ false → OpensRow n levels c follows r (t ∷ u) → (fewer : ℕ) × (levels ≡ suc fewer)
  level_left m n zero c follows r t u e h = absurd (false≢true (sym e ∙ first_row_sound (on_flat (flat m)) zero (λ k. flat_element (flat m) k (flat_sym m k)) n c follows r t u h))
  level_left m n (suc levels) c follows r t u e h = (levels, refl)
