-- What each production keeps holds of all that is derived: the induction over derivations, for any property of symbols, of their tokens and of what they stand for.
use Rattle.std.proofs.Common.{◌≡◌, ℕ, zero, suc, true, List, [], ◌∷◌, ◌++◌, ◌⊎◌, inl, inr, sym, subst}
use Rattle.ec_language.specs.Productions.{Placed, start_of, is, Sym, Value, Element, tok, count, sym as ofs, nest, whole, own, Row, Node, Nodes, Follows, Production, productions}
use Rattle.ec_language.specs.Grammar.{PlacedTokens, Limits, Counts, in_expression, in_declarator, DerivesElement, DerivesRow, AnyOf, Makes, DerivesBelow}
use Rattle.ec_sound_text_laws.specs.Read.{is_read_tok}

-- ---- tokens

abbrev pub Good : PlacedTokens → Type 0
Good [] = Unit {0}
Good (t ∷ w) = (is_read_tok t.token.tok ≡ true) × Good w

good_parts : (u w : PlacedTokens) → Good (u ++ w) → Good u × Good w
good_parts [] w g = (tt, g)
good_parts (t ∷ u) w g = let h = good_parts u w g.1 in ((g.0, h.0), h.1)

-- each of a list
abbrev pub Each : {A : Type 0} → (Production A → Type 0) → List (Production A) → Type 0
Each X [] = Unit {0}
Each X (a ∷ rest) = X a × Each X rest

module _ (P : (s : Sym) → PlacedTokens → Value s → Type 0) where
  -- what is known of an element
  abbrev pub OfElement : (i : Element) → PlacedTokens → Node i → Type 0
  OfElement (tok t) w v = (w ≡ v ∷ []) × (is t v.token.tok ≡ true) × (is_read_tok v.token.tok ≡ true)
  OfElement (count k t) w v = (w ≡ v ∷ []) × (is t v.token.tok ≡ true) × (is_read_tok v.token.tok ≡ true)
  OfElement (ofs s) w v = P s w v
  OfElement (nest s) w v = P s w v
  OfElement (whole s) w v = P s w v
  OfElement (own s) w v = P s w v

  -- and of a row
  abbrev pub OfRow : Follows → (r : Row) → PlacedTokens → Nodes r → Type 0
  OfRow follows [] w vs = w ≡ []
  OfRow follows (i ∷ r) w vs =
      (u : PlacedTokens) × (v : PlacedTokens) × (w ≡ u ++ v) × OfElement i u vs.0 × OfRow follows r v vs.1 × ((v ≡ []) ⊎ (follows i vs.0 ≡ true))

  -- The production makes what it is to make.
  abbrev pub Keeps : (s : Sym) → Production (Value s) → Type 0
  Keeps s a = (w : PlacedTokens) (vs : Nodes a.row) → OfRow a.follows a.row w vs → P s w (a.make (start_of w) vs)

  module _ (limits : Limits) (step : (s : Sym) → Each (Keeps s) (productions s)) where
    abbrev Holds : ℕ → Type 0
    Holds n = (levels : ℕ) (c : Counts) (s : Sym) (w : PlacedTokens) (v : Value s) (behind : Counts) → DerivesBelow limits n levels c s w v behind → Good w → P s w v

    token : (t : Placed) (w : PlacedTokens) → w ≡ t ∷ [] → Good w → is_read_tok t.token.tok ≡ true
    token t w e g = (subst Good e g).0

    element : (n : ℕ) → Holds n → (levels : ℕ) (c : Counts) (i : Element) (w : PlacedTokens) (v : Node i) (behind : Counts) → DerivesElement limits (DerivesBelow limits n) levels c i w v behind → Good w → OfElement i w v
    element n f levels c (tok t) w v behind h g = (h.0, h.1, token v w h.0 g)
    element n f levels c (count k t) w v behind h g = (h.0, h.1, token v w h.0 g)
    element n f levels c (ofs s) w v behind h g = f levels c s w v behind h g
    element n f levels c (nest s) w v behind h g = f h.0 c s w v behind h.2 g
    element n f levels c (whole s) w v behind h g = f levels (in_expression c) s w v h.0 h.2 g
    element n f levels c (own s) w v behind h g = f levels (in_declarator c) s w v h.0 h.2 g

    row : (n : ℕ) → Holds n → (levels : ℕ) (c : Counts) (follows : Follows) (r : Row) (w : PlacedTokens) (vs : Nodes r) (behind : Counts) → DerivesRow limits (DerivesBelow limits n) levels c follows r w vs behind → Good w → OfRow follows r w vs
    row n f levels c follows [] w vs behind h g = h.0
    row n f levels c follows (i ∷ r) w vs behind h g =
        let parts = good_parts h.0 h.1 (subst Good h.2 g) in
        (h.0, h.1, h.2, element n f levels c i h.0 vs.0 h.3 h.4 parts.0, row n f levels h.3 follows r h.1 vs.1 behind h.5 parts.1, h.6)

    any : (n : ℕ) → Holds n → (levels : ℕ) (c : Counts) (s : Sym) (ps : List (Production (Value s))) → Each (Keeps s) ps → (w : PlacedTokens) (v : Value s) (behind : Counts) → AnyOf limits (Makes limits (DerivesBelow limits n) levels c w v behind) ps
        → Good w → P s w v
    any n f levels c s [] k w v behind h g = absurd h
    any n f levels c s (a ∷ rest) k w v behind (inl h) g = subst (P s w) (sym h.1) (k.0 w h.0 (row n f levels c a.follows a.row w h.0 behind h.2 g))
    any n f levels c s (a ∷ rest) k w v behind (inr h) g = any n f levels c s rest k.1 w v behind h g

    pub holds : (n : ℕ) → Holds n
    holds zero levels c s w v behind h g = absurd h
    holds (suc n) levels c s w v behind h g = any n (holds n) levels c s (productions s) (step s) w v behind h g
