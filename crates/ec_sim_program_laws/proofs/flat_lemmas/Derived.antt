-- What each production keeps holds of all that is derived, where no declarator has more array lengths than the limit: the induction over derivations.
use Rattle.std.proofs.Common.{◌≡◌, ◌≤◌, ℕ, zero, suc, ◌+◌, List, [], ◌∷◌, ◌++◌, inl, inr, refl, sym, ap, subst, arith}
use Rattle.std.proofs.lemmas.Bool.{leb-true}
use Rattle.ec_language.specs.Productions.{Start, start_of, Sym, Value, operations, derivations, Element, tok, count, sym as ofs, nest, whole, own, Row, Node, Nodes, Follows, Production, productions}
use Rattle.ec_language.specs.Productions as g
use Rattle.ec_language.specs.Grammar.{PlacedTokens, Limits, Counts, in_expression, in_declarator, DerivesElement, DerivesRow, AnyOf, Makes, DerivesBelow}
use Rattle.ec_sim_program_laws.specs.types.Flat.{dims_count}

-- each of a list
abbrev pub Each : {A : Type 0} → (Production A → Type 0) → List (Production A) → Type 0
Each X [] = Unit {0}
Each X (a ∷ rest) = X a × Each X rest

-- ---- array lengths, as they are counted

-- those of the declarator that the symbol is a part of
abbrev pub lengths_in : (s : Sym) → Value s → ℕ
lengths_in g.lengths v = dims_count v
lengths_in g.length_part v = 1
lengths_in _ v = 0

abbrev element_lengths : (i : Element) → Node i → ℕ
element_lengths (tok t) v = 0
element_lengths (count operations t) v = 0
element_lengths (count derivations t) v = 1
element_lengths (ofs s) v = lengths_in s v
element_lengths (nest s) v = lengths_in s v
element_lengths (whole s) v = 0
element_lengths (own s) v = 0

abbrev row_lengths : (r : Row) → Nodes r → ℕ
row_lengths [] vs = 0
row_lengths (i ∷ r) vs = element_lengths i vs.0 + row_lengths r vs.1

-- What the production makes has no more lengths than its row.
abbrev HasFew : (s : Sym) → Production (Value s) → Type 0
HasFew s a = (start : Start) (vs : Nodes a.row) → lengths_in s (a.make start vs) ≤ row_lengths a.row vs

none : (s : Sym) → ((v : Value s) → lengths_in s v ≡ 0) → (ps : List (Production (Value s))) → Each (HasFew s) ps
none s f [] = tt
none s f (a ∷ rest) = ((λ start vs. let e : lengths_in s (a.make start vs) ≡ 0 = f (a.make start vs) in omega (arith, e)), none s f rest)

all_few : (s : Sym) → Each (HasFew s) (productions s)
all_few g.lengths = ((λ start vs. omega arith), ((λ start vs. omega arith), tt))
all_few g.length_part = ((λ start vs. omega arith), tt)
all_few s = none s (λ v. refl) (productions s)

-- behind a part with so many lengths they are counted, and within the limit
record Fits (most : ℕ) (c behind : Counts) (n : ℕ) : Type 0 where
  pub below : behind.derivations ≤ most
  pub counted : c.derivations + n ≤ behind.derivations

module _ (limits : Limits) where
  abbrev FitBelow : ℕ → Type 0
  FitBelow n = (levels : ℕ) (c : Counts) (s : Sym) (w : PlacedTokens) (v : Value s) (behind : Counts) → DerivesBelow limits n levels c s w v behind → c.derivations ≤ limits.derivations
      → Fits limits.derivations c behind (lengths_in s v)

  same_fits : (c behind : Counts) → behind.derivations ≡ c.derivations → c.derivations ≤ limits.derivations → Fits limits.derivations c behind 0
  same_fits c behind e b = record { below = omega (arith, e, b); counted = omega (arith, e) }

  more_fits : (c behind : Counts) → behind.derivations ≡ suc c.derivations → behind.derivations ≤ limits.derivations → Fits limits.derivations c behind 1
  more_fits c behind e b = record { below = b; counted = omega (arith, e) }

  element_fits : (n : ℕ) → FitBelow n → (levels : ℕ) (c : Counts) (i : Element) (w : PlacedTokens) (v : Node i) (behind : Counts) → DerivesElement limits (DerivesBelow limits n) levels c i w v behind → c.derivations ≤ limits.derivations
      → Fits limits.derivations c behind (element_lengths i v)
  element_fits n f levels c (tok t) w v behind h b = same_fits c behind (ap (λ x. x.derivations) h.2) b
  element_fits n f levels c (count operations t) w v behind h b = same_fits c behind (ap (λ x. x.derivations) h.2) b
  element_fits n f levels c (count derivations t) w v behind h b = more_fits c behind (ap (λ x. x.derivations) h.2) (leb-true behind.derivations limits.derivations h.3)
  element_fits n f levels c (ofs s) w v behind h b = f levels c s w v behind h b
  element_fits n f levels c (nest s) w v behind h b = f h.0 c s w v behind h.2 b
  element_fits n f levels c (whole s) w v behind h b = same_fits c behind (ap (λ x. x.derivations) h.1) b
  element_fits n f levels c (own s) w v behind h b = same_fits c behind (ap (λ x. x.derivations) h.1) b

  both_fit : (c between behind : Counts) (n m : ℕ) → Fits limits.derivations c between n → Fits limits.derivations between behind m → Fits limits.derivations c behind (n + m)
  both_fit c between behind n m p q = record { below = q.below; counted = omega (arith, p.counted, q.counted) }

  row_fits : (n : ℕ) → FitBelow n → (levels : ℕ) (c : Counts) (follows : Follows) (r : Row) (w : PlacedTokens) (vs : Nodes r) (behind : Counts) → DerivesRow limits (DerivesBelow limits n) levels c follows r w vs behind → c.derivations ≤ limits.derivations
      → Fits limits.derivations c behind (row_lengths r vs)
  row_fits n f levels c follows [] w vs behind h b = same_fits c behind (ap (λ x. x.derivations) h.1) b
  row_fits n f levels c follows (i ∷ r) w vs behind h b =
      let p = element_fits n f levels c i h.0 vs.0 h.3 h.4 b in
      both_fit c h.3 behind (element_lengths i vs.0) (row_lengths r vs.1) p (row_fits n f levels h.3 follows r h.1 vs.1 behind h.5 p.below)

  fewer_fit : (c behind : Counts) (n m : ℕ) → n ≤ m → Fits limits.derivations c behind m → Fits limits.derivations c behind n
  fewer_fit c behind n m l p = record { below = p.below; counted = omega (arith, p.counted, l) }

  any_fits : (n : ℕ) → FitBelow n → (levels : ℕ) (c : Counts) (s : Sym) (ps : List (Production (Value s))) → Each (HasFew s) ps → (w : PlacedTokens) (v : Value s) (behind : Counts) → AnyOf limits (Makes limits (DerivesBelow limits n) levels c w v behind) ps → c.derivations ≤ limits.derivations
      → Fits limits.derivations c behind (lengths_in s v)
  any_fits n f levels c s [] k w v behind h b = absurd h
  any_fits n f levels c s (a ∷ rest) k w v behind (inl h) b =
      fewer_fit c behind (lengths_in s v) (row_lengths a.row h.0) (subst (λ x. lengths_in s x ≤ row_lengths a.row h.0) (sym h.1) (k.0 (start_of w) h.0)) (row_fits n f levels c a.follows a.row w h.0 behind h.2 b)
  any_fits n f levels c s (a ∷ rest) k w v behind (inr h) b = any_fits n f levels c s rest k.1 w v behind h b

  all_fit : (n : ℕ) → FitBelow n
  all_fit zero levels c s w v behind h b = absurd h
  all_fit (suc n) levels c s w v behind h b = any_fits n (all_fit n) levels c s (productions s) (all_few s) w v behind h b

  within : (c behind : Counts) (n : ℕ) → Fits limits.derivations c behind n → n ≤ limits.derivations
  within c behind n p = omega (arith, p.counted, p.below)

  -- ---- the induction

  module _ (P : (s : Sym) → PlacedTokens → Value s → Type 0) where
    -- what is known of an element
    abbrev pub OfElement : (i : Element) → PlacedTokens → Node i → Type 0
    OfElement (tok t) w v = w ≡ v ∷ []
    OfElement (count k t) w v = w ≡ v ∷ []
    OfElement (ofs s) w v = P s w v
    OfElement (nest s) w v = P s w v
    OfElement (whole s) w v = P s w v
    OfElement (own s) w v = P s w v

    -- and of a row
    abbrev pub OfRow : (r : Row) → PlacedTokens → Nodes r → Type 0
    OfRow [] w vs = w ≡ []
    OfRow (i ∷ r) w vs = (u : PlacedTokens) × (v : PlacedTokens) × (w ≡ u ++ v) × OfElement i u vs.0 × OfRow r v vs.1

    -- The production makes what it is to make, with so many lengths at most.
    abbrev pub Keeps : (s : Sym) → Production (Value s) → Type 0
    Keeps s a = (w : PlacedTokens) (vs : Nodes a.row) → lengths_in s (a.make (start_of w) vs) ≤ limits.derivations → OfRow a.row w vs → P s w (a.make (start_of w) vs)

    module _ (step : (s : Sym) → Each (Keeps s) (productions s)) where
      abbrev Holds : ℕ → Type 0
      Holds n = (levels : ℕ) (c : Counts) (s : Sym) (w : PlacedTokens) (v : Value s) (behind : Counts) → DerivesBelow limits n levels c s w v behind → c.derivations ≤ limits.derivations → P s w v

      element : (n : ℕ) → Holds n → (levels : ℕ) (c : Counts) (i : Element) (w : PlacedTokens) (v : Node i) (behind : Counts) → DerivesElement limits (DerivesBelow limits n) levels c i w v behind → c.derivations ≤ limits.derivations → OfElement i w v
      element n f levels c (tok t) w v behind h b = h.0
      element n f levels c (count k t) w v behind h b = h.0
      element n f levels c (ofs s) w v behind h b = f levels c s w v behind h b
      element n f levels c (nest s) w v behind h b = f h.0 c s w v behind h.2 b
      element n f levels c (whole s) w v behind h b = f levels (in_expression c) s w v h.0 h.2 b
      element n f levels c (own s) w v behind h b = f levels (in_declarator c) s w v h.0 h.2 (omega arith)

      row : (n : ℕ) → Holds n → (levels : ℕ) (c : Counts) (follows : Follows) (r : Row) (w : PlacedTokens) (vs : Nodes r) (behind : Counts) → DerivesRow limits (DerivesBelow limits n) levels c follows r w vs behind → c.derivations ≤ limits.derivations → OfRow r w vs
      row n f levels c follows [] w vs behind h b = h.0
      row n f levels c follows (i ∷ r) w vs behind h b =
          let p = element_fits n (all_fit n) levels c i h.0 vs.0 h.3 h.4 b in
          (h.0, h.1, h.2, element n f levels c i h.0 vs.0 h.3 h.4 b, row n f levels h.3 follows r h.1 vs.1 behind h.5 p.below)

      any : (n : ℕ) → Holds n → (levels : ℕ) (c : Counts) (s : Sym) (ps : List (Production (Value s))) → Each (Keeps s) ps → (w : PlacedTokens) (v : Value s) (behind : Counts) → AnyOf limits (Makes limits (DerivesBelow limits n) levels c w v behind) ps → c.derivations ≤ limits.derivations
          → lengths_in s v ≤ limits.derivations → P s w v
      any n f levels c s [] k w v behind h b l = absurd h
      any n f levels c s (a ∷ rest) k w v behind (inl h) b l =
          subst (P s w) (sym h.1) (k.0 w h.0 (subst (λ x. lengths_in s x ≤ limits.derivations) h.1 l) (row n f levels c a.follows a.row w h.0 behind h.2 b))
      any n f levels c s (a ∷ rest) k w v behind (inr h) b l = any n f levels c s rest k.1 w v behind h b l

      pub holds : (n : ℕ) → Holds n
      holds zero levels c s w v behind h b = absurd h
      holds (suc n) levels c s w v behind h b = any n (holds n) levels c s (productions s) (step s) w v behind h b (within c behind (lengths_in s v) (all_fit (suc n) levels c s w v behind h b))
