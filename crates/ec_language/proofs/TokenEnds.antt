-- The end stands in no part of a program, so a front up to and with the end is a whole list.
use Rattle.std.proofs.Common.{◌≡◌, ℕ, zero, suc, Bool, true, false, List, [], ◌∷◌, ◌++◌, refl, ◌⊎◌, inl, inr, ap, sym, ◌∙◌, subst}
use Rattle.std.proofs.lemmas.List.{append-nil}
use Rattle.ec_ctypes.specs.trees.Tokens.{TokData, word_token, end_token, TokenData}
use Rattle.ec_ctypes.specs.trees.Units.{UnitData}
use Rattle.ec_language.specs.Productions.{Placed, placed_from, section_behind, placed, Terminal, is, mark, keyword, type_word, varchar_word, name, integer_constant, character_constant, string_literal, include_line, executable, directive, opening_mark, closing_mark, end_of_text, Sym, items, Value, Element, tok, count, sym as ofs, nest, whole, own, Row, Node, Nodes, Follows, Production, productions, operators, more_operands, more_operand, or_rank}
use Rattle.ec_language.specs.Productions as g
use Rattle.ec_language.specs.Grammar.{PlacedTokens, Limits, Counts, no_counts, DerivesElement, DerivesRow, AnyOf, Makes, DerivesBelow, DerivesWithin, FrontElement, FrontRow, FrontBelow, FrontWithin}
use Rattle.ec_language.specs.Syntax.{EndsOnce}
use Rattle.ec_language.proofs.TableTests.{every_row, every_true}

-- ---- tokens

abbrev pub is_end : TokData → Bool
is_end t = is end_of_text t

abbrev pub HasNoEnd : PlacedTokens → Type 0
HasNoEnd [] = Unit {0}
HasNoEnd (t ∷ w) = (is_end t.token.tok ≡ false) × HasNoEnd w

no_end_append : (u w : PlacedTokens) → HasNoEnd u → HasNoEnd w → HasNoEnd (u ++ w)
no_end_append [] w a b = b
no_end_append (t ∷ u) w a b = (a.0, no_end_append u w a.1 b)

-- terminals that the end is not
abbrev inner_terminal : Terminal → Bool
inner_terminal end_of_text = false
inner_terminal _ = true

end_alone : (t : Terminal) → inner_terminal t ≡ true → is t end_token ≡ true → ⊥
end_alone end_of_text e h = absurd (let k : false ≡ true = e in cc)
end_alone _ e h = absurd (let k : false ≡ true = h in cc)

inner_token : (t : Terminal) (x : TokData) → inner_terminal t ≡ true → is t x ≡ true → is_end x ≡ false
inner_token t end_token e h = absurd (end_alone t e h)
inner_token t (word_token w) e h = refl
inner_token t _ e h = refl

-- ---- parts of programs

abbrev inner_symbol : Sym → Bool
inner_symbol g.unit = false
inner_symbol _ = true

abbrev inner_element : Element → Bool
inner_element (tok t) = inner_terminal t
inner_element (count k t) = inner_terminal t
inner_element (ofs s) = inner_symbol s
inner_element (nest s) = inner_symbol s
inner_element (whole s) = inner_symbol s
inner_element (own s) = inner_symbol s

abbrev inner_row : Row → Bool
inner_row [] = true
inner_row (i ∷ r) = elim (inner_element i) [ true ↦ inner_row r | false ↦ false ]

row_true : (b c : Bool) → elim b [ true ↦ c | false ↦ false ] ≡ true → (b ≡ true) × (c ≡ true)
row_true true c e = (refl, e)
row_true false c e = absurd (let k : false ≡ true = e in cc)

all_inner : (s : Sym) → inner_symbol s ≡ true → every_row inner_row (productions s) ≡ true
all_inner g.unit e = absurd (let k : false ≡ true = e in cc)
all_inner (operators or_rank) e = refl
all_inner (more_operands or_rank) e = refl
all_inner (more_operand or_rank) e = refl
all_inner _ e = refl

module _ (limits : Limits) where
  -- ---- whole lists

  abbrev Inner : ℕ → Type 0
  Inner n = (levels : ℕ) (c : Counts) (s : Sym) → inner_symbol s ≡ true → (w : PlacedTokens) (v : Value s) (behind : Counts) → DerivesBelow limits n levels c s w v behind → HasNoEnd w

  inner_of : (n : ℕ) → Inner n → (levels : ℕ) (c : Counts) (i : Element) → inner_element i ≡ true → (w : PlacedTokens) (v : Node i) (behind : Counts) → DerivesElement limits (DerivesBelow limits n) levels c i w v behind → HasNoEnd w
  inner_of n f levels c (tok t) e w v behind h = subst HasNoEnd (sym h.0) (inner_token t v.token.tok e h.1, tt)
  inner_of n f levels c (count k t) e w v behind h = subst HasNoEnd (sym h.0) (inner_token t v.token.tok e h.1, tt)
  inner_of n f levels c (ofs s) e w v behind h = f levels c s e w v behind h
  inner_of n f levels c (nest s) e w v behind h = f h.0 c s e w v behind h.2
  inner_of n f levels c (whole s) e w v behind h = f levels _ s e w v h.0 h.2
  inner_of n f levels c (own s) e w v behind h = f levels _ s e w v h.0 h.2

  inner_rows : (n : ℕ) → Inner n → (levels : ℕ) (c : Counts) (follows : Follows) (r : Row) → inner_row r ≡ true → (w : PlacedTokens) (vs : Nodes r) (behind : Counts) → DerivesRow limits (DerivesBelow limits n) levels c follows r w vs behind → HasNoEnd w
  inner_rows n f levels c follows [] e w vs behind h = subst HasNoEnd (sym h.0) tt
  inner_rows n f levels c follows (i ∷ r) e w vs behind h =
      let t = row_true (inner_element i) (inner_row r) e in
      subst HasNoEnd (sym h.2) (no_end_append h.0 h.1 (inner_of n f levels c i t.0 h.0 vs.0 h.3 h.4) (inner_rows n f levels h.3 follows r t.1 h.1 vs.1 behind h.5))

  inner_any : (n : ℕ) → Inner n → (levels : ℕ) (c : Counts) {A : Type 0} (ps : List (Production A)) → every_row inner_row ps ≡ true → (w : PlacedTokens) (v : A) (behind : Counts) → AnyOf limits (Makes limits (DerivesBelow limits n) levels c w v behind) ps → HasNoEnd w
  inner_any n f levels c [] e w v behind h = absurd h
  inner_any n f levels c (a ∷ rest) e w v behind (inl h) = inner_rows n f levels c a.follows a.row (every_true inner_row a rest e).0 w h.0 behind h.2
  inner_any n f levels c (a ∷ rest) e w v behind (inr h) = inner_any n f levels c rest (every_true inner_row a rest e).1 w v behind h

  inner : (n : ℕ) → Inner n
  inner zero levels c s e w v behind h = absurd h
  inner (suc n) levels c s e w v behind h = inner_any n (inner n) levels c (productions s) (all_inner s e) w v behind h

  -- ---- fronts

  abbrev InnerFront : ℕ → Type 0
  InnerFront n = (levels : ℕ) (c : Counts) (s : Sym) → inner_symbol s ≡ true → (u : PlacedTokens) → FrontBelow limits n levels c s u → HasNoEnd u

  begin_of : (n : ℕ) → InnerFront n → (levels : ℕ) (c : Counts) (i : Element) → inner_element i ≡ true → (u : PlacedTokens) → FrontElement limits (FrontBelow limits n) levels c i u → HasNoEnd u
  begin_of n f levels c (tok t) e u (inl h) = subst HasNoEnd (sym h) tt
  begin_of n f levels c (tok t) e u (inr h) = subst HasNoEnd (sym h.1) (inner_token t h.0.token.tok e h.2, tt)
  begin_of n f levels c (count k t) e u (inl h) = subst HasNoEnd (sym h) tt
  begin_of n f levels c (count k t) e u (inr h) = subst HasNoEnd (sym h.1) (inner_token t h.0.token.tok e h.2, tt)
  begin_of n f levels c (ofs s) e u h = f levels c s e u h
  begin_of n f levels c (nest s) e u (inl h) = subst HasNoEnd (sym h) tt
  begin_of n f levels c (nest s) e u (inr h) = f h.0 c s e u h.2
  begin_of n f levels c (whole s) e u h = f levels _ s e u h
  begin_of n f levels c (own s) e u h = f levels _ s e u h

  begin_rows : (n : ℕ) → InnerFront n → (levels : ℕ) (c : Counts) (follows : Follows) (r : Row) → inner_row r ≡ true → (u : PlacedTokens) → FrontRow limits (FrontBelow limits n) levels c follows r u → HasNoEnd u
  begin_rows n f levels c follows [] e u h = subst HasNoEnd (sym h) tt
  begin_rows n f levels c follows (i ∷ r) e u (inl h) = begin_of n f levels c i (row_true (inner_element i) (inner_row r) e).0 u h
  begin_rows n f levels c follows (i ∷ r) e u (inr h) =
      let t = row_true (inner_element i) (inner_row r) e in
      subst HasNoEnd (sym h.2) (no_end_append h.0 h.1 (inner_of h.5 (inner h.5) levels c i t.0 h.0 h.3 h.4 h.6) (begin_rows n f levels h.4 follows r t.1 h.1 h.7))

  begin_any : (n : ℕ) → InnerFront n → (levels : ℕ) (c : Counts) {A : Type 0} (ps : List (Production A)) → every_row inner_row ps ≡ true → (u : PlacedTokens) → AnyOf limits (λ a. FrontRow limits (FrontBelow limits n) levels c a.follows a.row u) ps → HasNoEnd u
  begin_any n f levels c [] e u h = absurd h
  begin_any n f levels c (a ∷ rest) e u (inl h) = begin_rows n f levels c a.follows a.row (every_true inner_row a rest e).0 u h
  begin_any n f levels c (a ∷ rest) e u (inr h) = begin_any n f levels c rest (every_true inner_row a rest e).1 u h

  begin : (n : ℕ) → InnerFront n
  begin zero levels c s e u h = absurd h
  begin (suc n) levels c s e u h = begin_any n (begin n) levels c (productions s) (all_inner s e) u h

  -- ---- up to the end

  abbrev Closed : PlacedTokens → Type 0
  Closed w = (HasNoEnd w) ⊎ ((v : UnitData) × DerivesWithin limits g.unit w v)

  -- a front of a program has no end, or is whole
  closed : (w : PlacedTokens) → FrontWithin limits g.unit w → Closed w
  closed w (zero, h) = absurd h
  closed w (suc n, inr h) = absurd h
  closed w (suc n, inl (inl h)) = inl (begin n limits.nesting no_counts items refl w h)
  closed w (suc n, inl (inr h)) = go h.7
    where
      none : HasNoEnd h.0
      none = inner h.5 limits.nesting no_counts items refl h.0 h.3 h.4 h.6

      ended : (t : Placed) → h.1 ≡ t ∷ [] → is_end t.token.tok ≡ true → Closed w
      ended t e k = inr (_, (suc h.5, h.4, inl ((h.3, (t, tt)), refl, (h.0, h.1, h.2, h.4, h.6, (h.1, [], sym (append-nil h.1), h.4, (e, k, refl), (refl, refl), inl refl), inr refl))))

      go : FrontRow limits (FrontBelow limits n) limits.nesting h.4 (λ i v. true) (tok end_of_text ∷ []) h.1 → Closed w
      go (inl (inl e)) = inl (subst HasNoEnd (sym (h.2 ∙ ap (λ q. h.0 ++ q) e ∙ append-nil h.0)) none)
      go (inl (inr e)) = ended e.0 e.1 e.2
      go (inr e) = ended e.3 (e.2 ∙ ap (λ q. q ++ e.1) e.6.0 ∙ ap (λ q. e.3 ∷ q) e.7) e.6.1

end_there : (ts : List TokenData) (section : Bool) → EndsOnce ts → HasNoEnd (placed_from section ts) → ⊥
end_there [] section e h = e
end_there (t ∷ []) section e h = absurd (let k : true ≡ false = sym (ap is_end e) ∙ h.0 in cc)
end_there (t ∷ u ∷ ts) section e h = end_there (u ∷ ts) (section_behind section t.tok) e.1 h.1

pub whole_front : (limits : Limits) (ts : List TokenData) → EndsOnce ts → FrontWithin limits g.unit (placed ts) → (v : UnitData) × DerivesWithin limits g.unit (placed ts) v
whole_front limits ts e h = go (closed limits (placed ts) h)
  where
    go : Closed limits (placed ts) → (v : UnitData) × DerivesWithin limits g.unit (placed ts) v
    go (inl n) = absurd (end_there ts false e n)
    go (inr d) = d
