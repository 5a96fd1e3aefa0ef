-- A front of a whole list is a front, for elements and rows too.
use Rattle.std.proofs.Common.{◌≡◌, ℕ, zero, suc, true, List, [], ◌∷◌, ◌++◌, refl, ◌⊎◌, inl, inr, sym, ◌∙◌, subst}
use Rattle.ec_language.specs.Productions.{Placed, Sym, Value, Element, tok, count, sym as ofs, nest, whole, own, Row, Node, Nodes, Follows, Production, productions}
use Rattle.ec_language.specs.Grammar.{PlacedTokens, Limits, Counts, is_within, DerivesElement, DerivesRow, AnyOf, Makes, DerivesBelow, DerivesWithin, FrontElement, FrontRow, FrontBelow, FrontWithin}
use Rattle.ec_language.proofs.Heights.{nothing_left}

-- two cuts of one list
abbrev pub Cut : PlacedTokens → PlacedTokens → PlacedTokens → PlacedTokens → Type 0
Cut u x p q = ((y : PlacedTokens) × (p ≡ u ++ y) × (x ≡ y ++ q)) ⊎ ((y : PlacedTokens) × (u ≡ p ++ y) × (q ≡ y ++ x))

pub cut : (u x p q : PlacedTokens) → u ++ x ≡ p ++ q → Cut u x p q
cut [] x p q e = inl (p, refl, e)
cut (t ∷ u) x [] q e = inr (t ∷ u, refl, sym e)
cut (t ∷ u) x (z ∷ p) q e = go (cut u x p q (let f : u ++ x ≡ p ++ q = cc in f)) (let f : t ≡ z = cc in f)
  where
    go : Cut u x p q → t ≡ z → Cut (t ∷ u) x (z ∷ p) q
    go (inl h) f = inl (h.0, (let a = h.1 in cc), h.2)
    go (inr h) f = inr (h.0, (let a = h.1 in cc), h.2)

pub one_left : (u x : PlacedTokens) (t : Placed) → u ++ x ≡ t ∷ [] → (u ≡ []) ⊎ (u ≡ t ∷ [])
one_left [] x t e = inl refl
one_left (z ∷ u) x t e = let f : z ≡ t = cc in let h : u ++ x ≡ [] = cc in let a : u ≡ [] = (nothing_left u x h).0 in inr (cc)

module _ (limits : Limits) where
  -- ---- fronts of whole lists

  abbrev pub Begins : ℕ → Type 0
  Begins n = (levels : ℕ) (c : Counts) (s : Sym) (u x : PlacedTokens) (v : Value s) (behind : Counts) → DerivesBelow limits n levels c s (u ++ x) v behind → FrontBelow limits n levels c s u

  pub front_element : (n : ℕ) → Begins n → (levels : ℕ) (c : Counts) (i : Element) (u x : PlacedTokens) (v : Node i) (behind : Counts) → DerivesElement limits (DerivesBelow limits n) levels c i (u ++ x) v behind → FrontElement limits (FrontBelow limits n) levels c i u
  front_element n f levels c (tok t) u x v behind h = go (one_left u x v h.0)
    where
      go : (u ≡ []) ⊎ (u ≡ v ∷ []) → FrontElement limits (FrontBelow limits n) levels c (tok t) u
      go (inl e) = inl e
      go (inr e) = inr (v, e, h.1)
  front_element n f levels c (count k t) u x v behind h = go (one_left u x v h.0)
    where
      go : (u ≡ []) ⊎ (u ≡ v ∷ []) → FrontElement limits (FrontBelow limits n) levels c (count k t) u
      go (inl e) = inl e
      go (inr e) = inr (v, e, h.1, subst (λ b. is_within limits k b ≡ true) h.2 h.3)
  front_element n f levels c (ofs s) u x v behind h = f levels c s u x v behind h
  front_element n f levels c (nest s) u x v behind h = inr (h.0, h.1, f h.0 c s u x v behind h.2)
  front_element n f levels c (whole s) u x v behind h = f levels _ s u x v h.0 h.2
  front_element n f levels c (own s) u x v behind h = f levels _ s u x v h.0 h.2

  pub front_row : (n : ℕ) → Begins n → (levels : ℕ) (c : Counts) (follows : Follows) (r : Row) (u x : PlacedTokens) (vs : Nodes r) (behind : Counts) → DerivesRow limits (DerivesBelow limits n) levels c follows r (u ++ x) vs behind → FrontRow limits (FrontBelow limits n) levels c follows r u
  front_row n f levels c follows [] u x vs behind h = (nothing_left u x h.0).0
  front_row n f levels c follows (i ∷ r) u x vs behind h = go (λ y e. front_row n f levels h.3 follows r y x vs.1 behind (subst (λ q. DerivesRow limits (DerivesBelow limits n) levels h.3 follows r q vs.1 behind) e h.5)) (cut u x h.0 h.1 h.2)
    where
      followed : (y : PlacedTokens) → h.1 ≡ y ++ x → (h.1 ≡ []) ⊎ (follows i vs.0 ≡ true) → (y ≡ []) ⊎ (follows i vs.0 ≡ true)
      followed y e (inl k) = inl (nothing_left y x (sym e ∙ k)).0
      followed y e (inr k) = inr k

      go : ((y : PlacedTokens) → h.1 ≡ y ++ x → FrontRow limits (FrontBelow limits n) levels h.3 follows r y) → Cut u x h.0 h.1 → FrontRow limits (FrontBelow limits n) levels c follows (i ∷ r) u
      go again (inl y) = inl (front_element n f levels c i u y.0 vs.0 h.3 (subst (λ p. DerivesElement limits (DerivesBelow limits n) levels c i p vs.0 h.3) y.1 h.4))
      go again (inr y) = inr (h.0, y.0, y.1, vs.0, h.3, n, h.4, again y.0 y.2, followed y.0 y.2 h.6)

  front_any : (n : ℕ) → Begins n → (levels : ℕ) (c : Counts) {A : Type 0} (ps : List (Production A)) (u x : PlacedTokens) (v : A) (behind : Counts) → AnyOf limits (Makes limits (DerivesBelow limits n) levels c (u ++ x) v behind) ps → AnyOf limits (λ a. FrontRow limits (FrontBelow limits n) levels c a.follows a.row u) ps
  front_any n f levels c [] u x v behind h = absurd h
  front_any n f levels c (a ∷ rest) u x v behind (inl h) = inl (front_row n f levels c a.follows a.row u x h.0 behind h.2)
  front_any n f levels c (a ∷ rest) u x v behind (inr h) = inr (front_any n f levels c rest u x v behind h)

  pub front_below : (n : ℕ) → Begins n
  front_below zero levels c s u x v behind h = absurd h
  front_below (suc n) levels c s u x v behind h = front_any n (front_below n) levels c (productions s) u x v behind h

  pub front_of_whole : (s : Sym) (u x : PlacedTokens) (v : Value s) → DerivesWithin limits s (u ++ x) v → FrontWithin limits s u
  front_of_whole s u x v h = (h.0, front_below h.0 limits.nesting _ s u x v h.1 h.2)
