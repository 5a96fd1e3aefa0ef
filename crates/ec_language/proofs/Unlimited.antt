-- Derivations without limits are those within limits that are wide enough.
use Rattle.std.proofs.Common.{◌≡◌, ℕ, zero, suc, ◌+◌, ◌≤◌, List, [], ◌∷◌, length, refl, inl, inr, ap, ◌∙◌, arith, length-append}
use Rattle.ec_language.specs.Productions.{Sym, Value, Element, tok, count, sym as ofs, nest, whole, own, Row, Node, Nodes, Follows, Production, productions}
use Rattle.ec_language.specs.Grammar.{PlacedTokens, Limits, Counts, behind_counted, in_expression, behind_expression, in_declarator, behind_declarator, DerivesElement, DerivesRow, AnyOf, Makes, DerivesBelow, no_counts, Derives}
use Rattle.ec_language.specs.Unlimited.{Unlimited, UnlimitedElement, UnlimitedRow, UnlimitedMakes, OneOf, UnlimitedBelow, DerivesUnlimited}
use Rattle.ec_language.proofs.Limits.{Room, less_room, room_expression, room_behind_expression, room_declarator, room_counted}

-- ---- into limits that are wide enough

module _ (to : Limits) where
  -- Levels for a derivation lower than n, and room for its tokens and k more, are enough.
  abbrev Fits : ℕ → Type 0
  Fits n = (s : Sym) (w : PlacedTokens) (v : Value s) → UnlimitedBelow n s w v → (c : Counts) (k deep : ℕ) → n ≤ deep → Room to (length w + k) c
      → (behind : Counts) × DerivesBelow to n deep c s w v behind × Room to k behind

  fit_element : (n : ℕ) → Fits n → (i : Element) (w : PlacedTokens) (v : Node i) → UnlimitedElement (UnlimitedBelow n) i w v → (c : Counts) (k deep : ℕ) → suc n ≤ deep → Room to (length w + k) c
      → (behind : Counts) × DerivesElement to (DerivesBelow to n) deep c i w v behind × Room to k behind
  fit_element n f (tok t) w v h c k deep le r = (c, (h.0, h.1, refl), less_room to k (length w + k) c (omega arith) r)
  fit_element n f (count t j) w v h c k deep le r =
      let l : length w ≡ 1 = ap length h.0 in
      let d = room_counted to k t c (less_room to (suc k) (length w + k) c (omega (arith, l)) r) in
      (behind_counted t c, (h.0, h.1, refl, d.1), d.0)
  fit_element n f (ofs s) w v h c k deep le r = f s w v h c k deep (omega arith) r
  fit_element n f (nest s) w v h c k zero le r = absurd (omega arith)
  fit_element n f (nest s) w v h c k (suc deep) le r = let d = f s w v h c k deep (omega arith) r in (d.0, (deep, refl, d.1), d.2)
  fit_element n f (whole s) w v h c k deep le r =
      let d = f s w v h (in_expression c) k deep (omega arith) (room_expression to (length w + k) c r) in
      (behind_expression c d.0, (d.0, refl, d.1), room_behind_expression to k c d.0 (less_room to k (length w + k) c (omega arith) r) d.2)
  fit_element n f (own s) w v h c k deep le r =
      let d = f s w v h (in_declarator c) k deep (omega arith) (room_declarator to (length w + k) c r) in
      (behind_declarator c d.0, (d.0, refl, d.1), (d.2.0, (less_room to k (length w + k) c (omega arith) r).1))

  fit_row : (n : ℕ) → Fits n → (follows : Follows) (r : Row) (w : PlacedTokens) (vs : Nodes r) → UnlimitedRow (UnlimitedBelow n) follows r w vs → (c : Counts) (k deep : ℕ) → suc n ≤ deep → Room to (length w + k) c
      → (behind : Counts) × DerivesRow to (DerivesBelow to n) deep c follows r w vs behind × Room to k behind
  fit_row n f follows [] w vs h c k deep le r = (c, (h, refl), less_room to k (length w + k) c (omega arith) r)
  fit_row n f follows (i ∷ row) w vs h c k deep le r =
      let l = ap length h.2 ∙ length-append h.0 h.1 in
      let a = fit_element n f i h.0 vs.0 h.3 c (length h.1 + k) deep le (less_room to (length h.0 + (length h.1 + k)) (length w + k) c (omega (arith, l)) r) in
      let b = fit_row n f follows row h.1 vs.1 h.4 a.0 k deep le a.2 in
      (b.0, (h.0, h.1, h.2, a.0, a.1, b.1, h.5), b.2)

  fit_any : (n : ℕ) → Fits n → {A : Type 0} (ps : List (Production A)) (w : PlacedTokens) (v : A) → OneOf (UnlimitedMakes (UnlimitedBelow n) w v) ps → (c : Counts) (k deep : ℕ) → suc n ≤ deep → Room to (length w + k) c
      → (behind : Counts) × AnyOf to (Makes to (DerivesBelow to n) deep c w v behind) ps × Room to k behind
  fit_any n f [] w v h c k deep le r = absurd h
  fit_any n f (a ∷ rest) w v (inl h) c k deep le r = let d = fit_row n f a.follows a.row w h.0 h.2 c k deep le r in (d.0, inl (h.0, h.1, d.1), d.2)
  fit_any n f (a ∷ rest) w v (inr h) c k deep le r = let d = fit_any n f rest w v h c k deep le r in (d.0, inr d.1, d.2)

  fit : (n : ℕ) → Fits n
  fit zero s w v h c k deep le r = absurd h
  fit (suc n) s w v h c k deep le r = fit_any n (fit n) (productions s) w v h c k deep le r

pub unlimited_derives : (s : Sym) (w : PlacedTokens) (v : Value s) → DerivesUnlimited s w v → Derives s w v
unlimited_derives s w v h =
    let to : Limits = record { nesting = h.0; operations = length w; derivations = length w } in
    let d = fit to h.0 s w v h.1 no_counts 0 h.0 (omega arith) (omega arith, omega arith) in
    (to, (h.0, d.0, d.1))

-- ---- out of limits

module _ (from : Limits) where
  abbrev Frees : ℕ → Type 0
  Frees n = (levels : ℕ) (c : Counts) (s : Sym) (w : PlacedTokens) (v : Value s) (behind : Counts) → DerivesBelow from n levels c s w v behind → UnlimitedBelow n s w v

  free_element : (n : ℕ) → Frees n → (levels : ℕ) (c : Counts) (i : Element) (w : PlacedTokens) (v : Node i) (behind : Counts) → DerivesElement from (DerivesBelow from n) levels c i w v behind
      → UnlimitedElement (UnlimitedBelow n) i w v
  free_element n f levels c (tok t) w v behind h = (h.0, h.1)
  free_element n f levels c (count t j) w v behind h = (h.0, h.1)
  free_element n f levels c (ofs s) w v behind h = f levels c s w v behind h
  free_element n f levels c (nest s) w v behind h = f h.0 c s w v behind h.2
  free_element n f levels c (whole s) w v behind h = f levels (in_expression c) s w v h.0 h.2
  free_element n f levels c (own s) w v behind h = f levels (in_declarator c) s w v h.0 h.2

  free_row : (n : ℕ) → Frees n → (levels : ℕ) (c : Counts) (follows : Follows) (r : Row) (w : PlacedTokens) (vs : Nodes r) (behind : Counts) → DerivesRow from (DerivesBelow from n) levels c follows r w vs behind
      → UnlimitedRow (UnlimitedBelow n) follows r w vs
  free_row n f levels c follows [] w vs behind h = h.0
  free_row n f levels c follows (i ∷ row) w vs behind h =
      (h.0, h.1, h.2, free_element n f levels c i h.0 vs.0 h.3 h.4, free_row n f levels h.3 follows row h.1 vs.1 behind h.5, h.6)

  free_any : (n : ℕ) → Frees n → (levels : ℕ) (c : Counts) {A : Type 0} (ps : List (Production A)) (w : PlacedTokens) (v : A) (behind : Counts) → AnyOf from (Makes from (DerivesBelow from n) levels c w v behind) ps
      → OneOf (UnlimitedMakes (UnlimitedBelow n) w v) ps
  free_any n f levels c [] w v behind h = absurd h
  free_any n f levels c (a ∷ rest) w v behind (inl h) = inl (h.0, h.1, free_row n f levels c a.follows a.row w h.0 behind h.2)
  free_any n f levels c (a ∷ rest) w v behind (inr h) = inr (free_any n f levels c rest w v behind h)

  free : (n : ℕ) → Frees n
  free zero levels c s w v behind h = absurd h
  free (suc n) levels c s w v behind h = free_any n (free n) levels c (productions s) w v behind h

pub derives_unlimited : (s : Sym) (w : PlacedTokens) (v : Value s) → Derives s w v → DerivesUnlimited s w v
derives_unlimited s w v d = (d.1.0, free d.0 d.1.0 d.0.nesting no_counts s w v d.1.1 d.1.2)

-- ---- from one kind of derivation to another

module _ (D E : Unlimited) (f : (s : Sym) (w : PlacedTokens) (v : Value s) → D s w v → E s w v) where
  map_element : (i : Element) (w : PlacedTokens) (v : Node i) → UnlimitedElement D i w v → UnlimitedElement E i w v
  map_element (tok t) w v h = h
  map_element (count k t) w v h = h
  map_element (ofs s) w v h = f s w v h
  map_element (nest s) w v h = f s w v h
  map_element (whole s) w v h = f s w v h
  map_element (own s) w v h = f s w v h

  map_row : (follows : Follows) (r : Row) (w : PlacedTokens) (vs : Nodes r) → UnlimitedRow D follows r w vs → UnlimitedRow E follows r w vs
  map_row follows [] w vs h = h
  map_row follows (i ∷ r) w vs h = (h.0, h.1, h.2, map_element i h.0 vs.0 h.3, map_row follows r h.1 vs.1 h.4, h.5)

  map_one : {A : Type 0} (ps : List (Production A)) (w : PlacedTokens) (v : A) → OneOf (UnlimitedMakes D w v) ps → OneOf (UnlimitedMakes E w v) ps
  map_one [] w v h = h
  map_one (a ∷ rest) w v (inl h) = inl (h.0, h.1, map_row a.follows a.row w h.0 h.2)
  map_one (a ∷ rest) w v (inr h) = inr (map_one rest w v h)

-- A derivation lower than n is lower than all that is higher.
raise : (n m : ℕ) → n ≤ m → (s : Sym) (w : PlacedTokens) (v : Value s) → UnlimitedBelow n s w v → UnlimitedBelow m s w v
raise zero m le s w v h = absurd h
raise (suc n) zero le s w v h = absurd (omega arith)
raise (suc n) (suc m) le s w v h = map_one (UnlimitedBelow n) (UnlimitedBelow m) (raise n m (omega arith)) (productions s) w v h

-- ---- from the elements to the whole

bounded_element : (i : Element) (w : PlacedTokens) (v : Node i) → UnlimitedElement DerivesUnlimited i w v → (n : ℕ) × UnlimitedElement (UnlimitedBelow n) i w v
bounded_element (tok t) w v h = (0, h)
bounded_element (count k t) w v h = (0, h)
bounded_element (ofs s) w v h = h
bounded_element (nest s) w v h = h
bounded_element (whole s) w v h = h
bounded_element (own s) w v h = h

bounded_row : (follows : Follows) (r : Row) (w : PlacedTokens) (vs : Nodes r) → UnlimitedRow DerivesUnlimited follows r w vs → (n : ℕ) × UnlimitedRow (UnlimitedBelow n) follows r w vs
bounded_row follows [] w vs h = (0, h)
bounded_row follows (i ∷ r) w vs h =
    let a = bounded_element i h.0 vs.0 h.3 in
    let b = bounded_row follows r h.1 vs.1 h.4 in
    let n = a.0 + b.0 in
    let first = map_element (UnlimitedBelow a.0) (UnlimitedBelow n) (raise a.0 n (omega arith)) i h.0 vs.0 a.1 in
    let rest = map_row (UnlimitedBelow b.0) (UnlimitedBelow n) (raise b.0 n (omega arith)) follows r h.1 vs.1 b.1 in
    (n, (h.0, h.1, h.2, first, rest, h.5))

bounded_one : {A : Type 0} (ps : List (Production A)) (w : PlacedTokens) (v : A) → OneOf (UnlimitedMakes DerivesUnlimited w v) ps → (n : ℕ) × OneOf (UnlimitedMakes (UnlimitedBelow n) w v) ps
bounded_one [] w v h = absurd h
bounded_one (a ∷ rest) w v (inl h) = let b = bounded_row a.follows a.row w h.0 h.2 in (b.0, inl (h.0, h.1, b.1))
bounded_one (a ∷ rest) w v (inr h) = let b = bounded_one rest w v h in (b.0, inr b.1)

-- What a production makes of elements that are derived is derived.
pub made : (s : Sym) (w : PlacedTokens) (v : Value s) → OneOf (UnlimitedMakes DerivesUnlimited w v) (productions s) → DerivesUnlimited s w v
made s w v h = let b = bounded_one (productions s) w v h in (suc b.0, b.1)

-- And so is all that is derived.
pub unmade : (s : Sym) (w : PlacedTokens) (v : Value s) → DerivesUnlimited s w v → OneOf (UnlimitedMakes DerivesUnlimited w v) (productions s)
unmade s w v h = go h.0 h.1
  where
    go : (n : ℕ) → UnlimitedBelow n s w v → OneOf (UnlimitedMakes DerivesUnlimited w v) (productions s)
    go zero d = absurd d
    go (suc n) d = map_one (UnlimitedBelow n) DerivesUnlimited (λ s w v h. (n, h)) (productions s) w v d
