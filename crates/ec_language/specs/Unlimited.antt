-- Which lists of tokens a symbol derives, with which tree, without limits, levels and counts: for those who build a derivation from a tree. It is the same as a derivation within limits that can be set as high as one likes.
use Rattle.std.specs.Prelude.{◌≡◌, ℕ, zero, suc, true, List, [], ◌∷◌, ◌++◌, ◌⊎◌}
use Rattle.ec_language.specs.Productions.{start_of, is, Sym, Value, Element, tok, count, sym, nest, whole, own, Row, Node, Nodes, Follows, Production, productions}
use Rattle.ec_language.specs.Grammar.{PlacedTokens}

abbrev pub Unlimited : Type 1
Unlimited = (s : Sym) → PlacedTokens → Value s → Type 0

abbrev pub UnlimitedElement : Unlimited → (i : Element) → PlacedTokens → Node i → Type 0
UnlimitedElement D (tok t) w v = (w ≡ v ∷ []) × (is t v.token.tok ≡ true)
UnlimitedElement D (count k t) w v = (w ≡ v ∷ []) × (is t v.token.tok ≡ true)
UnlimitedElement D (sym s) w v = D s w v
UnlimitedElement D (nest s) w v = D s w v
UnlimitedElement D (whole s) w v = D s w v
UnlimitedElement D (own s) w v = D s w v

-- The list is lists of the row's elements, one after the other; behind an element that nothing may follow there is nothing.
abbrev pub UnlimitedRow : Unlimited → Follows → (r : Row) → PlacedTokens → Nodes r → Type 0
UnlimitedRow D follows [] w vs = w ≡ []
UnlimitedRow D follows (i ∷ r) w vs =
    (u : PlacedTokens) × (v : PlacedTokens) × (w ≡ u ++ v) × UnlimitedElement D i u vs.0
    × UnlimitedRow D follows r v vs.1
    × ((v ≡ []) ⊎ (follows i vs.0 ≡ true))

-- The elements of the production make the list, and their trees this one.
abbrev pub UnlimitedMakes : Unlimited → {A : Type 0} → PlacedTokens → A → Production A → Type 0
UnlimitedMakes D w v a =
    (vs : Nodes a.row) × (v ≡ a.make (start_of w) vs) × UnlimitedRow D a.follows a.row w vs

-- one of the productions
abbrev pub OneOf : {A : Type 0} → (Production A → Type 0) → List (Production A) → Type 0
OneOf X [] = ⊥
OneOf X (a ∷ rest) = X a ⊎ OneOf X rest

-- by a derivation lower than n
abbrev pub UnlimitedBelow : ℕ → Unlimited
UnlimitedBelow zero s w v = ⊥
UnlimitedBelow (suc n) s w v = OneOf (UnlimitedMakes (UnlimitedBelow n) w v) (productions s)

-- The symbol derives the list, with this tree.
abbrev pub DerivesUnlimited : Unlimited
DerivesUnlimited s w v = (n : ℕ) × UnlimitedBelow n s w v
