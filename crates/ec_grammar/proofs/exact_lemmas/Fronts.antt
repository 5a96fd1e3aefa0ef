-- A front of a front is a front.
use Rattle.std.proofs.Common.{◌≡◌, ℕ, zero, suc, true, List, [], ◌∷◌, ◌++◌, ◌⊎◌, inl, inr, sym, ◌∙◌, subst}
use Rattle.ec_language.specs.Productions.{Sym, Element, tok, count, sym as ofs, nest, whole, own, Row, Follows, Production, productions}
use Rattle.ec_language.specs.Grammar.{PlacedTokens, Limits, Counts, in_expression, in_declarator, AnyOf, FrontBelow}
use Rattle.ec_language.proofs.Heights.{nothing_left}
use Rattle.ec_language.proofs.Prefixes.{Cut, cut, one_left}
use Rattle.ec_language.proofs.Prefixes as prefix
use Rattle.ec_grammar.proofs.exact_lemmas.Sound.{Gives, Opens, OpensRow}

module _ (lim : Limits) where
  abbrev Shortens : ℕ → Type 0
  Shortens n = (levels : ℕ) (c : Counts) (s : Sym) (u x : PlacedTokens) → FrontBelow lim n levels c s (u ++ x) → (m : ℕ) × FrontBelow lim m levels c s u

  shorter_element : (n : ℕ) → Shortens n → (levels : ℕ) (c : Counts) (i : Element) (u x : PlacedTokens) → Opens lim n levels c i (u ++ x) → (m : ℕ) × Opens lim m levels c i u
  shorter_element n f levels c (tok t) u x (inl h) = (0, inl (nothing_left u x h).0)
  shorter_element n f levels c (tok t) u x (inr h) = go (one_left u x h.0 h.1)
    where
      go : (u ≡ []) ⊎ (u ≡ h.0 ∷ []) → (m : ℕ) × Opens lim m levels c (tok t) u
      go (inl e) = (0, inl e)
      go (inr e) = (0, inr (h.0, e, h.2))
  shorter_element n f levels c (count k t) u x (inl h) = (0, inl (nothing_left u x h).0)
  shorter_element n f levels c (count k t) u x (inr h) = go (one_left u x h.0 h.1)
    where
      go : (u ≡ []) ⊎ (u ≡ h.0 ∷ []) → (m : ℕ) × Opens lim m levels c (count k t) u
      go (inl e) = (0, inl e)
      go (inr e) = (0, inr (h.0, e, h.2, h.3))
  shorter_element n f levels c (ofs s) u x h = f levels c s u x h
  shorter_element n f levels c (nest s) u x (inl h) = (0, inl (nothing_left u x h).0)
  shorter_element n f levels c (nest s) u x (inr h) = let y = f h.0 c s u x h.2 in (y.0, inr (h.0, h.1, y.1))
  shorter_element n f levels c (whole s) u x h = f levels (in_expression c) s u x h
  shorter_element n f levels c (own s) u x h = f levels (in_declarator c) s u x h

  shorter_row : (n : ℕ) → Shortens n → (levels : ℕ) (c : Counts) (follows : Follows) (r : Row) (u x : PlacedTokens) → OpensRow lim n levels c follows r (u ++ x) → (m : ℕ) × OpensRow lim m levels c follows r u
  shorter_row n f levels c follows [] u x h = (0, (nothing_left u x h).0)
  shorter_row n f levels c follows (i ∷ r) u x (inl h) = let y = shorter_element n f levels c i u x h in (y.0, inl y.1)
  shorter_row n f levels c follows (i ∷ r) u x (inr h) = go (λ y e. shorter_row n f levels h.4 follows r y x (subst (λ q. OpensRow lim n levels h.4 follows r q) e h.7)) (cut u x h.0 h.1 h.2)
    where
      followed : (y : PlacedTokens) → h.1 ≡ y ++ x → (h.1 ≡ []) ⊎ (follows i h.3 ≡ true) → (y ≡ []) ⊎ (follows i h.3 ≡ true)
      followed y e (inl k) = inl (nothing_left y x (sym e ∙ k)).0
      followed y e (inr k) = inr k

      go : ((y : PlacedTokens) → h.1 ≡ y ++ x → (m : ℕ) × OpensRow lim m levels h.4 follows r y) → Cut u x h.0 h.1 → (m : ℕ) × OpensRow lim m levels c follows (i ∷ r) u
      go again (inl y) = (h.5, inl (prefix.front_element lim h.5 (prefix.front_below lim h.5) levels c i u y.0 h.3 h.4 (subst (λ p. Gives lim h.5 levels c i p h.3 h.4) y.1 h.6)))
      go again (inr y) = let o = again y.0 y.2 in (o.0, inr (h.0, y.0, y.1, h.3, h.4, h.5, h.6, o.1, followed y.0 y.2 h.8))

  shorter_any : (n : ℕ) → Shortens n → (levels : ℕ) (c : Counts) {A : Type 0} (ps : List (Production A)) (u x : PlacedTokens) → AnyOf lim (λ a. OpensRow lim n levels c a.follows a.row (u ++ x)) ps → (m : ℕ) × AnyOf lim (λ a. OpensRow lim m levels c a.follows a.row u) ps
  shorter_any n f levels c [] u x h = absurd h
  shorter_any n f levels c (a ∷ rest) u x (inl h) = let y = shorter_row n f levels c a.follows a.row u x h in (y.0, inl y.1)
  shorter_any n f levels c (a ∷ rest) u x (inr h) = let y = shorter_any n f levels c rest u x h in (y.0, inr y.1)

  pub shorter_front : (n : ℕ) → Shortens n
  shorter_front zero levels c s u x h = absurd h
  shorter_front (suc n) levels c s u x h = let y = shorter_any n (shorter_front n) levels c (productions s) u x h in (suc y.0, y.1)
