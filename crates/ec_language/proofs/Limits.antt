-- What a list of tokens derives within any limits it derives within limits that it can't reach.
use Rattle.std.proofs.Common.{◌≡◌, ℕ, zero, suc, ◌+◌, ◌≤◌, true, List, [], ◌∷◌, length, Option, Some, None, refl, inl, inr, ap, sym, ◌∙◌, subst, arith, length-append}
use Rattle.std.proofs.lemmas.Bool.{le-leb}
use Rattle.ec_language.specs.Productions.{Sym, Value, Counted, operations, derivations, Element, tok, count, sym as ofs, nest, whole, own, Row, Node, Nodes, Follows, Production, productions}
use Rattle.ec_language.specs.Grammar.{PlacedTokens, Limits, Counts, behind_counted, one_more, is_at_most, is_within, begun, ended, in_expression, behind_expression, in_declarator, behind_declarator, DerivesElement, DerivesRow, AnyOf, Makes, DerivesBelow, FrontElement}
use Rattle.ec_language.proofs.Fronts.{LowRow, LowFront}

abbrev pub total : Option ℕ → ℕ
total None = 0
total (Some n) = n

-- so many tokens may be counted yet
abbrev pub Room : Limits → ℕ → Counts → Type 0
Room limits k c = (total c.operations + k ≤ limits.operations) × (c.derivations + k ≤ limits.derivations)

total_begun : (o : Option ℕ) → total (begun o) ≡ total o
total_begun None = refl
total_begun (Some n) = refl

total_ended : (o inner : Option ℕ) → total (ended o inner) ≤ total inner
total_ended None inner = omega arith
total_ended (Some n) inner = omega arith

total_more : (o : Option ℕ) → total (one_more o) ≤ suc (total o)
total_more None = omega arith
total_more (Some n) = omega arith

at_most : (o : Option ℕ) (most : ℕ) → total o ≤ most → is_at_most o most ≡ true
at_most None most le = refl
at_most (Some n) most le = le-leb n most le

pub less_room : (limits : Limits) (k m : ℕ) (c : Counts) → k ≤ m → Room limits m c → Room limits k c
less_room limits k m c le r = (omega (arith, r.0), omega (arith, r.1))

pub room_expression : (limits : Limits) (k : ℕ) (c : Counts) → Room limits k c → Room limits k (in_expression c)
room_expression limits k c r = (omega (arith, total_begun c.operations, r.0), r.1)

pub room_behind_expression : (limits : Limits) (k : ℕ) (c inner : Counts) → Room limits k c → Room limits k inner → Room limits k (behind_expression c inner)
room_behind_expression limits k c inner r i = (omega (arith, total_ended c.operations inner.operations, i.0), r.1)

pub room_declarator : (limits : Limits) (k : ℕ) (c : Counts) → Room limits k c → Room limits k (in_declarator c)
room_declarator limits k c r = (r.0, omega (arith, r.1))

room_behind_declarator : (limits : Limits) (k : ℕ) (c inner : Counts) → Room limits k c → Room limits k inner → Room limits k (behind_declarator c inner)
room_behind_declarator limits k c inner r i = (i.0, r.1)

pub room_counted : (limits : Limits) (k : ℕ) (t : Counted) (c : Counts) → Room limits (suc k) c → Room limits k (behind_counted t c) × (is_within limits t (behind_counted t c) ≡ true)
room_counted limits k operations c r =
    let more = total_more c.operations in
    ((omega (arith, more, r.0), omega (arith, r.1)), at_most (one_more c.operations) limits.operations (omega (arith, more, r.0)))
room_counted limits k derivations c r = ((omega (arith, r.0), omega (arith, r.1)), le-leb (suc c.derivations) limits.derivations (omega (arith, r.1)))

module _ (from to : Limits) where
  -- ---- whole lists

  -- Levels for a derivation lower than n, and room for its tokens and k more, are enough.
  abbrev pub Widens : ℕ → Type 0
  Widens n = (levels : ℕ) (c : Counts) (s : Sym) (w : PlacedTokens) (v : Value s) (behind : Counts) → DerivesBelow from n levels c s w v behind → (k deep : ℕ) → n ≤ deep → Room to (length w + k) c → DerivesBelow to n deep c s w v behind × Room to k behind

  pub widen_element : (n : ℕ) → Widens n → (levels : ℕ) (c : Counts) (i : Element) (w : PlacedTokens) (v : Node i) (behind : Counts) → DerivesElement from (DerivesBelow from n) levels c i w v behind → (k deep : ℕ) → suc n ≤ deep → Room to (length w + k) c → DerivesElement to (DerivesBelow to n) deep c i w v behind × Room to k behind
  widen_element n f levels c (tok t) w v behind h k deep le r = (h, subst (Room to k) (sym h.2) (less_room to k (length w + k) c (omega arith) r))
  widen_element n f levels c (count t j) w v behind h k deep le r =
      let e : length w ≡ 1 = ap length h.0 in
      let d = room_counted to k t c (less_room to (suc k) (length w + k) c (omega (arith, e)) r) in
      ((h.0, h.1, h.2, subst (λ b. is_within to t b ≡ true) (sym h.2) d.1), subst (Room to k) (sym h.2) d.0)
  widen_element n f levels c (ofs s) w v behind h k deep le r = f levels c s w v behind h k deep (omega arith) r
  widen_element n f levels c (nest s) w v behind h k zero le r = absurd (omega arith)
  widen_element n f levels c (nest s) w v behind h k (suc deep) le r =
      let d = f h.0 c s w v behind h.2 k deep (omega arith) r in ((deep, refl, d.0), d.1)
  widen_element n f levels c (whole s) w v behind h k deep le r =
      let d = f levels (in_expression c) s w v h.0 h.2 k deep (omega arith) (room_expression to (length w + k) c r) in
      ((h.0, h.1, d.0), subst (Room to k) (sym h.1) (room_behind_expression to k c h.0 (less_room to k (length w + k) c (omega arith) r) d.1))
  widen_element n f levels c (own s) w v behind h k deep le r =
      let d = f levels (in_declarator c) s w v h.0 h.2 k deep (omega arith) (room_declarator to (length w + k) c r) in
      ((h.0, h.1, d.0), subst (Room to k) (sym h.1) (room_behind_declarator to k c h.0 (less_room to k (length w + k) c (omega arith) r) d.1))

  widen_row : (n : ℕ) → Widens n → (levels : ℕ) (c : Counts) (follows : Follows) (r : Row) (w : PlacedTokens) (vs : Nodes r) (behind : Counts) → DerivesRow from (DerivesBelow from n) levels c follows r w vs behind → (k deep : ℕ) → suc n ≤ deep → Room to (length w + k) c → DerivesRow to (DerivesBelow to n) deep c follows r w vs behind × Room to k behind
  widen_row n f levels c follows [] w vs behind h k deep le r = (h, subst (Room to k) (sym h.1) (less_room to k (length w + k) c (omega arith) r))
  widen_row n f levels c follows (i ∷ row) w vs behind h k deep le r =
      let e = ap length h.2 ∙ length-append h.0 h.1 in
      let a = widen_element n f levels c i h.0 vs.0 h.3 h.4 (length h.1 + k) deep le (less_room to (length h.0 + (length h.1 + k)) (length w + k) c (omega (arith, e)) r) in
      let b = widen_row n f levels h.3 follows row h.1 vs.1 behind h.5 k deep le a.1 in
      ((h.0, h.1, h.2, h.3, a.0, b.0, h.6), b.1)

  widen_any : (n : ℕ) → Widens n → (levels : ℕ) (c : Counts) {A : Type 0} (ps : List (Production A)) (w : PlacedTokens) (v : A) (behind : Counts) → AnyOf from (Makes from (DerivesBelow from n) levels c w v behind) ps → (k deep : ℕ) → suc n ≤ deep → Room to (length w + k) c → AnyOf to (Makes to (DerivesBelow to n) deep c w v behind) ps × Room to k behind
  widen_any n f levels c [] w v behind h k deep le r = absurd h
  widen_any n f levels c (a ∷ rest) w v behind (inl h) k deep le r =
      let d = widen_row n f levels c a.follows a.row w h.0 behind h.2 k deep le r in (inl (h.0, h.1, d.0), d.1)
  widen_any n f levels c (a ∷ rest) w v behind (inr h) k deep le r =
      let d = widen_any n f levels c rest w v behind h k deep le r in (inr d.0, d.1)

  pub widen : (n : ℕ) → Widens n
  widen zero levels c s w v behind h k deep le r = absurd h
  widen (suc n) levels c s w v behind h k deep le r = widen_any n (widen n) levels c (productions s) w v behind h k deep le r

  -- ---- fronts

  abbrev pub WidensFront : ℕ → Type 0
  WidensFront n = (levels : ℕ) (c : Counts) (s : Sym) (u : PlacedTokens) → LowFront from n levels c s u → (deep : ℕ) → n ≤ deep → Room to (length u) c → LowFront to n deep c s u

  begin_element : (n : ℕ) → WidensFront n → (levels : ℕ) (c : Counts) (i : Element) (u : PlacedTokens) → FrontElement from (LowFront from n) levels c i u → (deep : ℕ) → suc n ≤ deep → Room to (length u) c → FrontElement to (LowFront to n) deep c i u
  begin_element n f levels c (tok t) u h deep l r = h
  begin_element n f levels c (count t j) u (inl h) deep l r = inl h
  begin_element n f levels c (count t j) u (inr h) deep l r =
      let e : length u ≡ 1 = ap length h.1 in
      inr (h.0, h.1, h.2, (room_counted to 0 t c (less_room to 1 (length u) c (omega (arith, e)) r)).1)
  begin_element n f levels c (ofs s) u h deep l r = f levels c s u h deep (omega arith) r
  begin_element n f levels c (nest s) u (inl h) deep l r = inl h
  begin_element n f levels c (nest s) u (inr h) zero l r = absurd (omega arith)
  begin_element n f levels c (nest s) u (inr h) (suc deep) l r = inr (deep, refl, f h.0 c s u h.2 deep (omega arith) r)
  begin_element n f levels c (whole s) u h deep l r = f levels (in_expression c) s u h deep (omega arith) (room_expression to (length u) c r)
  begin_element n f levels c (own s) u h deep l r = f levels (in_declarator c) s u h deep (omega arith) (room_declarator to (length u) c r)

  begin_row : (n : ℕ) → WidensFront n → (levels : ℕ) (c : Counts) (follows : Follows) (row : Row) (u : PlacedTokens) → LowRow from (DerivesBelow from n) (LowFront from n) levels c follows row u → (deep : ℕ) → suc n ≤ deep → Room to (length u) c → LowRow to (DerivesBelow to n) (LowFront to n) deep c follows row u
  begin_row n f levels c follows [] u h deep l r = h
  begin_row n f levels c follows (i ∷ row) u (inl h) deep l r = inl (begin_element n f levels c i u h deep l r)
  begin_row n f levels c follows (i ∷ row) u (inr h) deep l r =
      let e = ap length h.2 ∙ length-append h.0 h.1 in
      let x = widen_element n (widen n) levels c i h.0 h.3 h.4 h.5 (length h.1) deep l (less_room to (length h.0 + length h.1) (length u) c (omega (arith, e)) r) in
      inr (h.0, h.1, h.2, h.3, h.4, x.0, begin_row n f levels h.4 follows row h.1 h.6 deep l x.1, h.7)

  begin_any : (n : ℕ) → WidensFront n → (levels : ℕ) (c : Counts) {A : Type 0} (ps : List (Production A)) (u : PlacedTokens) → AnyOf from (λ a. LowRow from (DerivesBelow from n) (LowFront from n) levels c a.follows a.row u) ps → (deep : ℕ) → suc n ≤ deep → Room to (length u) c → AnyOf to (λ a. LowRow to (DerivesBelow to n) (LowFront to n) deep c a.follows a.row u) ps
  begin_any n f levels c [] u h deep l r = absurd h
  begin_any n f levels c (a ∷ rest) u (inl h) deep l r = inl (begin_row n f levels c a.follows a.row u h deep l r)
  begin_any n f levels c (a ∷ rest) u (inr h) deep l r = inr (begin_any n f levels c rest u h deep l r)

  pub widen_front : (n : ℕ) → WidensFront n
  widen_front zero levels c s u h deep l r = absurd h
  widen_front (suc n) levels c s u h deep l r = begin_any n (widen_front n) levels c (productions s) u h deep l r
