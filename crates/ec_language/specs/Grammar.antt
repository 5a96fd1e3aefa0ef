-- Which lists of tokens a symbol of the grammar derives, with which tree, and which lists are fronts of those; within limits of nesting and of counts.
use Rattle.std.specs.Prelude.{◌≡◌, ℕ, zero, suc, Bool, true, nat_le, List, [], ◌∷◌, ◌++◌, ◌⊎◌, Option, Some, None}
use Rattle.ec_language.specs.Productions.{Placed, start_of, is, Sym, Value, Counted, operations, derivations, Element, tok, count, sym, nest, whole, own, Row, Node, Nodes, Follows, Production, productions}

abbrev pub PlacedTokens : Type 0
PlacedTokens = List Placed

-- ---- limits and counts

-- the most levels of nesting round a token; binary operators and postfix parts of a whole expression; stars and array lengths of a declarator, function, parameter or type name
pub record Limits : Type 0 where
  pub nesting : ℕ
  pub operations : ℕ
  pub derivations : ℕ

-- what is counted so far: of the expression that the place is in, if it is in one, and of the declarator
pub record Counts : Type 0 where
  pub operations : Option ℕ
  pub derivations : ℕ

abbrev pub no_counts : Counts
no_counts = record { operations = None; derivations = 0 }

abbrev pub one_more : Option ℕ → Option ℕ
one_more None = None
one_more (Some n) = Some (suc n)

abbrev pub behind_counted : Counted → Counts → Counts
behind_counted operations c =
    record { operations = one_more c.operations; derivations = c.derivations }
behind_counted derivations c = record { operations = c.operations; derivations = suc c.derivations }

abbrev pub is_at_most : Option ℕ → ℕ → Bool
is_at_most None most = true
is_at_most (Some n) most = nat_le n most

abbrev pub is_within : Limits → Counted → Counts → Bool
is_within limits operations c = is_at_most c.operations limits.operations
is_within limits derivations c = nat_le c.derivations limits.derivations

-- the operations at the start of an expression: of those of the expression that it is part of, or none
abbrev pub begun : Option ℕ → Option ℕ
begun None = Some 0
begun (Some n) = Some n

-- and behind it
abbrev pub ended : Option ℕ → Option ℕ → Option ℕ
ended None inner = None
ended (Some n) inner = inner

abbrev pub in_expression : Counts → Counts
in_expression c = record { operations = begun c.operations; derivations = c.derivations }

abbrev pub behind_expression : Counts → Counts → Counts
behind_expression c inner =
    record { operations = ended c.operations inner.operations; derivations = c.derivations }

abbrev pub in_declarator : Counts → Counts
in_declarator c = record { operations = c.operations; derivations = 0 }

abbrev pub behind_declarator : Counts → Counts → Counts
behind_declarator c inner = record { operations = inner.operations; derivations = c.derivations }

-- ---- whole lists

module _ (limits : Limits) where
  -- With so many levels left and these counts before it, the list is one of the symbol, with this tree, and leaves these counts.
  abbrev pub Derivation : Type 1
  Derivation = ℕ → Counts → (s : Sym) → PlacedTokens → Value s → Counts → Type 0

  abbrev pub DerivesElement : Derivation → ℕ → Counts → (i : Element) → PlacedTokens → Node i
      → Counts → Type 0
  DerivesElement D levels c (tok t) w v behind =
      (w ≡ v ∷ []) × (is t v.token.tok ≡ true) × (behind ≡ c)
  DerivesElement D levels c (count k t) w v behind =
      (w ≡ v ∷ []) × (is t v.token.tok ≡ true) × (behind ≡ behind_counted k c)
      × (is_within limits k behind ≡ true)
  DerivesElement D levels c (sym s) w v behind = D levels c s w v behind
  DerivesElement D levels c (nest s) w v behind =
      (fewer : ℕ) × (levels ≡ suc fewer) × D fewer c s w v behind
  DerivesElement D levels c (whole s) w v behind =
      (inner : Counts) × (behind ≡ behind_expression c inner)
      × D levels (in_expression c) s w v inner
  DerivesElement D levels c (own s) w v behind =
      (inner : Counts) × (behind ≡ behind_declarator c inner)
      × D levels (in_declarator c) s w v inner

  -- The list is lists of the row's elements, one after the other; behind an element that nothing may follow there is nothing.
  abbrev pub DerivesRow : Derivation → ℕ → Counts → Follows → (r : Row) → PlacedTokens → Nodes r
      → Counts → Type 0
  DerivesRow D levels c follows [] w vs behind = (w ≡ []) × (behind ≡ c)
  DerivesRow D levels c follows (i ∷ r) w vs behind =
      (u : PlacedTokens) × (v : PlacedTokens) × (w ≡ u ++ v) × (between : Counts)
      × DerivesElement D levels c i u vs.0 between
      × DerivesRow D levels between follows r v vs.1 behind
      × ((v ≡ []) ⊎ (follows i vs.0 ≡ true))

  -- one of the productions
  abbrev pub AnyOf : {A : Type 0} → (Production A → Type 0) → List (Production A) → Type 0
  AnyOf X [] = ⊥
  AnyOf X (a ∷ rest) = X a ⊎ AnyOf X rest

  -- The elements of the production make the list, and their trees this one.
  abbrev pub Makes : Derivation → ℕ → Counts → {A : Type 0} → PlacedTokens → A → Counts
      → Production A → Type 0
  Makes D levels c w v behind a =
      (vs : Nodes a.row) × (v ≡ a.make (start_of w) vs)
      × DerivesRow D levels c a.follows a.row w vs behind

  -- by a derivation lower than n
  abbrev pub DerivesBelow : ℕ → Derivation
  DerivesBelow zero levels c s w v behind = ⊥
  DerivesBelow (suc n) levels c s w v behind =
      AnyOf (Makes (DerivesBelow n) levels c w v behind) (productions s)

  -- ---- fronts

  abbrev pub Beginning : Type 1
  Beginning = ℕ → Counts → Sym → PlacedTokens → Type 0

  -- The fronts of a token are the empty list and the token itself.
  abbrev pub FrontElement : Beginning → ℕ → Counts → Element → PlacedTokens → Type 0
  FrontElement F levels c (tok t) u =
      (u ≡ []) ⊎ ((v : Placed) × (u ≡ v ∷ []) × (is t v.token.tok ≡ true))
  FrontElement F levels c (count k t) u =
      (u ≡ [])
      ⊎ ((v : Placed) × (u ≡ v ∷ []) × (is t v.token.tok ≡ true)
      × (is_within limits k (behind_counted k c) ≡ true))
  FrontElement F levels c (sym s) u = F levels c s u
  FrontElement F levels c (nest s) u =
      (u ≡ []) ⊎ ((fewer : ℕ) × (levels ≡ suc fewer) × F fewer c s u)
  FrontElement F levels c (whole s) u = F levels (in_expression c) s u
  FrontElement F levels c (own s) u = F levels (in_declarator c) s u

  -- A front of the first element, or a whole list of the first element followed by a front of the rest.
  abbrev pub FrontRow : Beginning → ℕ → Counts → Follows → Row → PlacedTokens → Type 0
  FrontRow F levels c follows [] u = u ≡ []
  FrontRow F levels c follows (i ∷ r) u =
      FrontElement F levels c i u
      ⊎ ((v : PlacedTokens) × (w : PlacedTokens) × (u ≡ v ++ w) × (node : Node i)
      × (between : Counts) × (n : ℕ) × DerivesElement (DerivesBelow n) levels c i v node between
      × FrontRow F levels between follows r w × ((w ≡ []) ⊎ (follows i node ≡ true)))

  abbrev pub FrontBelow : ℕ → Beginning
  FrontBelow zero levels c s u = ⊥
  FrontBelow (suc n) levels c s u =
      AnyOf (λ a. FrontRow (FrontBelow n) levels c a.follows a.row u) (productions s)

-- ---- within limits, and without

-- The symbol derives the list, with this tree, within the limits.
abbrev pub DerivesWithin : Limits → (s : Sym) → PlacedTokens → Value s → Type 0
DerivesWithin limits s w v =
    (n : ℕ) × (behind : Counts) × DerivesBelow limits n limits.nesting no_counts s w v behind

-- The list is a front of the symbol, within the limits.
abbrev pub FrontWithin : Limits → Sym → PlacedTokens → Type 0
FrontWithin limits s u = (n : ℕ) × FrontBelow limits n limits.nesting no_counts s u

-- Limits can be set as high as one likes.
abbrev pub Derives : (s : Sym) → PlacedTokens → Value s → Type 0
Derives s w v = (limits : Limits) × DerivesWithin limits s w v

abbrev pub Front : Sym → PlacedTokens → Type 0
Front s u = (limits : Limits) × FrontWithin limits s u
