-- What it is to read a symbol exactly, and the steps by which a row is read so.
use Rattle.std.proofs.Common.{◌≡◌, ℕ, suc, ◌+◌, ◌≤◌, ◌<◌, Bool, true, false, [], ◌∷◌, ◌++◌, length, refl, ◌⊎◌, inl, inr, ap, sym, ◌∙◌, subst, arith, append_assoc, length-append, Ok, Err}
use Rattle.std.proofs.lemmas.List.{append-nil}
use Rattle.std.proofs.lemmas.Bool.{false≢true}
use Rattle.ec_language.specs.Productions.{Placed, Sym, Value, Element, sym as ofs, Row, Node, Nodes, Follows}
use Rattle.ec_language.specs.Grammar.{PlacedTokens, Limits, Counts, DerivesBelow}
use Rattle.ec_language.proofs.Limits.{Room, less_room, widen, widen_element}
use Rattle.ec_language.proofs.Heights.{move_element, raise, on_any}
use Rattle.ec_grammar.specs.declared.failure.Failure.TheVariants.{OutOfMemory, Dead, TooDeep}
use Rattle.ec_grammar.specs.Input.{State, Outcome, Parser, kind_at, and_then}
use Rattle.ec_grammar.proofs.exact_lemmas.Begins.{null}
use Rattle.ec_grammar.proofs.exact_lemmas.Sound.{kind, Gives, GivesRow, Opens, OpensRow, whole_element, whole_row, null_sound}
use Rattle.ec_grammar.proofs.exact_lemmas.Follow.{ext}

-- ---- heights

pub raise_element : (lim : Limits) (n m : ℕ) → n ≤ m → (levels : ℕ) (c : Counts) (i : Element) (w : PlacedTokens) (v : Node i) (e : Counts) → Gives lim n levels c i w v e → Gives lim m levels c i w v e
raise_element lim n m le levels c i w v e h = move_element lim (DerivesBelow lim n) (DerivesBelow lim m) (λ s. true) w (λ s _. raise lim n m le s w) i (on_any i) levels c v e h

pub raise_row : (lim : Limits) (n m : ℕ) → n ≤ m → (levels : ℕ) (c : Counts) (follows : Follows) (r : Row) (w : PlacedTokens) (vs : Nodes r) (e : Counts) → GivesRow lim n levels c follows r w vs e → GivesRow lim m levels c follows r w vs e
raise_row lim n m le levels c follows [] w vs e h = h
raise_row lim n m le levels c follows (i ∷ r) w vs e h =
    (h.0, h.1, h.2, h.3, raise_element lim n m le levels c i h.0 vs.0 h.3 h.4, raise_row lim n m le levels h.3 follows r h.1 vs.1 e h.5, h.6)

-- ---- outcomes

-- the limits and levels that a stop speaks of: of a dead token all, and else those that are given
abbrev pub Speaks : Bool → Limits → ℕ → Limits → ℕ → Type 0
Speaks true most levels lim deep = Unit {0}
Speaks false most levels lim deep = (lim ≡ most) × (deep ≡ levels)

-- a front, where there is room enough
abbrev pub Ahead : Counts → Element → PlacedTokens → Type 0
Ahead c i u = (m : ℕ) × ((to : Limits) (levels : ℕ) → m ≤ levels → Room to (length u) c → (n : ℕ) × Opens to n levels c i u)

abbrev pub AheadRow : Counts → Follows → Row → PlacedTokens → Type 0
AheadRow c follows r u = (m : ℕ) × ((to : Limits) (levels : ℕ) → m ≤ levels → Room to (length u) c → (n : ℕ) × OpensRow to n levels c follows r u)

-- At a limit, larger limits take the token.
abbrev pub Goes : Bool → Counts → Element → PlacedTokens → PlacedTokens → Type 0
Goes true c i part rest = Unit {0}
Goes false c i part rest = (t : Placed) × (q : PlacedTokens) × (rest ≡ t ∷ q) × Ahead c i (part ++ t ∷ [])

abbrev pub GoesRow : Bool → Counts → Follows → Row → PlacedTokens → PlacedTokens → Type 0
GoesRow true c follows r part rest = Unit {0}
GoesRow false c follows r part rest = (t : Placed) × (q : PlacedTokens) × (rest ≡ t ∷ q) × AheadRow c follows r (part ++ t ∷ [])

-- The element was read, up to what is left. A list of it that ends elsewhere is followed by what goes on with it, and no front of it reaches further, within any limits.
pub record Parses (most : Limits) (levels : ℕ) (c : Counts) (i : Element) (w : PlacedTokens) (v : Node i) (left : State) : Type 0 where
  pub part : PlacedTokens
  pub split : w ≡ part ++ left.tokens
  pub derives : (n : ℕ) × Gives most n levels c i part v left.counts
  pub only : (lim : Limits) (n deep : ℕ) (p x : PlacedTokens) (z : Node i) (e : Counts) → w ≡ p ++ x → Gives lim n deep c i p z e → ((x ≡ left.tokens) × (z ≡ v) × (e ≡ left.counts)) ⊎ (ext i z (kind_at x) ≡ true)
  pub bound : (lim : Limits) (n deep : ℕ) (u x : PlacedTokens) → w ≡ u ++ x → Opens lim n deep c i u → length left.tokens ≤ length x

-- The token at which n are left is dead, or passes a limit.
pub record Stops (b : Bool) (most : Limits) (levels : ℕ) (c : Counts) (i : Element) (w : PlacedTokens) (size : ℕ) : Type 0 where
  pub part : PlacedTokens
  pub rest : PlacedTokens
  pub split : w ≡ part ++ rest
  pub left : length rest ≡ size
  pub front : (n : ℕ) × Opens most n levels c i part
  pub goes : Goes b c i part rest
  pub only : (lim : Limits) (n deep : ℕ) → Speaks b most levels lim deep → (p x : PlacedTokens) (z : Node i) (e : Counts) → w ≡ p ++ x → Gives lim n deep c i p z e → ext i z (kind_at x) ≡ true
  pub bound : (lim : Limits) (n deep : ℕ) → Speaks b most levels lim deep → (u x : PlacedTokens) → w ≡ u ++ x → Opens lim n deep c i u → size ≤ length x

pub record ParsesRow (most : Limits) (levels : ℕ) (c : Counts) (s : Sym) (follows : Follows) (r : Row) (act : Nodes r → Value s) (w : PlacedTokens) (vs : Nodes r) (left : State) : Type 0 where
  pub part : PlacedTokens
  pub split : w ≡ part ++ left.tokens
  pub derives : (n : ℕ) × GivesRow most n levels c follows r part vs left.counts
  pub only : (lim : Limits) (n deep : ℕ) (p x : PlacedTokens) (zs : Nodes r) (e : Counts) → w ≡ p ++ x → GivesRow lim n deep c follows r p zs e → ((x ≡ left.tokens) × (zs ≡ vs) × (e ≡ left.counts)) ⊎ (ext (ofs s) (act zs) (kind_at x) ≡ true)
  pub bound : (lim : Limits) (n deep : ℕ) (u x : PlacedTokens) → w ≡ u ++ x → OpensRow lim n deep c follows r u → length left.tokens ≤ length x

pub record StopsRow (b : Bool) (most : Limits) (levels : ℕ) (c : Counts) (s : Sym) (follows : Follows) (r : Row) (act : Nodes r → Value s) (w : PlacedTokens) (size : ℕ) : Type 0 where
  pub part : PlacedTokens
  pub rest : PlacedTokens
  pub split : w ≡ part ++ rest
  pub left : length rest ≡ size
  pub front : (n : ℕ) × OpensRow most n levels c follows r part
  pub goes : GoesRow b c follows r part rest
  pub only : (lim : Limits) (n deep : ℕ) → Speaks b most levels lim deep → (p x : PlacedTokens) (zs : Nodes r) (e : Counts) → w ≡ p ++ x → GivesRow lim n deep c follows r p zs e → ext (ofs s) (act zs) (kind_at x) ≡ true
  pub bound : (lim : Limits) (n deep : ℕ) → Speaks b most levels lim deep → (u x : PlacedTokens) → w ≡ u ++ x → OpensRow lim n deep c follows r u → size ≤ length x

-- What goes on with the element does not begin the rest, and goes on with the whole where the rest is passed over. What was read may stand before the rest.
pub record Side (most : Limits) (levels : ℕ) (c : Counts) (s : Sym) (follows : Follows) (i : Element) (r : Row) (act : Nodes (i ∷ r) → Value s) : Type 0 where
  pub apart : (lim : Limits) (n deep : ℕ) (e : Counts) (z : Node i) (t : Placed) (q : PlacedTokens) → ext i z (kind t) ≡ true → follows i z ≡ true → OpensRow lim n deep e follows r (t ∷ q) → ⊥
  pub last : (lim : Limits) (n deep : ℕ) (c1 e : Counts) (z : Node i) (zs : Nodes r) (x : PlacedTokens) → GivesRow lim n deep c1 follows r [] zs e → ext i z (kind_at x) ≡ true → ext (ofs s) (act (z, zs)) (kind_at x) ≡ true
  pub stands : (w : PlacedTokens) (v : Node i) (left : State) → Parses most levels c i w v left → (lim : Limits) (n deep : ℕ) (q x : PlacedTokens) → left.tokens ≡ q ++ x → OpensRow lim n deep left.counts follows r q → (q ≡ []) ⊎ (follows i v ≡ true)

regroup : (w p q x u : PlacedTokens) → w ≡ u ++ x → u ≡ p ++ q → w ≡ p ++ (q ++ x)
regroup w p q x u e f = e ∙ ap (λ y. y ++ x) f ∙ append_assoc p q x

kept : (t : Placed) (q : PlacedTokens) (b : Bool) → (t ∷ q ≡ []) ⊎ (b ≡ true) → b ≡ true
kept t q b (inl e) = absurd (cc)
kept t q b (inr e) = e

module _ {most : Limits} {levels : ℕ} {c : Counts} {s : Sym} {follows : Follows} {i : Element} {r : Row} {act : Nodes (i ∷ r) → Value s} (side : Side most levels c s follows i r act) where
  -- another list of the element, in a list of the row
  along : (lim : Limits) (n deep : ℕ) (c1 e : Counts) (z : Node i) (zs : Nodes r) (q x : PlacedTokens) → GivesRow lim n deep c1 follows r q zs e → (q ≡ []) ⊎ (follows i z ≡ true) → ext i z (kind_at (q ++ x)) ≡ true → ext (ofs s) (act (z, zs)) (kind_at x) ≡ true
  along lim n deep c1 e z zs [] x d f h = side.last lim n deep c1 e z zs x d h
  along lim n deep c1 e z zs (t ∷ q) x d f h = absurd (side.apart lim n deep c1 z t q h (kept t q (follows i z) f) (whole_row lim n deep c1 follows r (t ∷ q) zs e d))

  -- and in a front of the row
  longer : (lim : Limits) (m n deep : ℕ) (c1 : Counts) (p q : PlacedTokens) (z : Node i) (x : PlacedTokens) → Gives lim m deep c i p z c1 → OpensRow lim n deep c1 follows r q → (q ≡ []) ⊎ (follows i z ≡ true) → ext i z (kind_at (q ++ x)) ≡ true → Opens lim m deep c i (p ++ q)
  longer lim m n deep c1 p [] z x d o f h = subst (λ y. Opens lim m deep c i y) (sym (append-nil p)) (whole_element lim m deep c i p z c1 d)
  longer lim m n deep c1 p (t ∷ q) z x d o f h = absurd (side.apart lim n deep c1 z t q h (kept t q (follows i z) f) o)

module _ {most : Limits} {levels : ℕ} {c : Counts} {s : Sym} {follows : Follows} {i : Element} {r : Row} {act : Nodes (i ∷ r) → Value s} (side : Side most levels c s follows i r act) {w : PlacedTokens} {v : Node i} {mid : State} (a : Parses most levels c i w v mid) where
  pub row_ok : {vs : Nodes r} {left : State} → ParsesRow most levels mid.counts s follows r (λ zs. act (v, zs)) mid.tokens vs left → ParsesRow most levels c s follows (i ∷ r) act w (v, vs) left
  row_ok {vs} {left} b = record {
    part = a.part ++ b.part;
    split = a.split ∙ ap (λ y. a.part ++ y) b.split ∙ sym (append_assoc a.part b.part left.tokens);
    derives = derives;
    only = λ lim n deep p x zs e f d. only lim n deep p x zs e d (a.only lim n deep d.0 (d.1 ++ x) zs.0 d.3 (regroup w d.0 d.1 x p f d.2) d.4);
    bound = bound;
  }
    where
      high : ℕ
      high = a.derives.0 + b.derives.0

      derives : (n : ℕ) × GivesRow most n levels c follows (i ∷ r) (a.part ++ b.part) (v, vs) left.counts
      derives = (
        high,
        (
          a.part,
          b.part,
          refl,
          mid.counts,
          raise_element most a.derives.0 high (omega arith) levels c i a.part v mid.counts a.derives.1,
          raise_row most b.derives.0 high (omega arith) levels mid.counts follows r b.part vs left.counts b.derives.1,
          side.stands w v mid a most b.derives.0 levels b.part left.tokens b.split (whole_row most b.derives.0 levels mid.counts follows r b.part vs left.counts b.derives.1),
        ),
      )

      only : (lim : Limits) (n deep : ℕ) (p x : PlacedTokens) (zs : Nodes (i ∷ r)) (e : Counts) → (d : GivesRow lim n deep c follows (i ∷ r) p zs e)
          → ((d.1 ++ x ≡ mid.tokens) × (zs.0 ≡ v) × (d.3 ≡ mid.counts)) ⊎ (ext i zs.0 (kind_at (d.1 ++ x)) ≡ true)
          → ((x ≡ left.tokens) × (zs ≡ (v, vs)) × (e ≡ left.counts)) ⊎ (ext (ofs s) (act zs) (kind_at x) ≡ true)
      only lim n deep p x zs e d (inr g) = inr (along side lim n deep d.3 e zs.0 zs.1 d.1 x d.5 d.6 g)
      only lim n deep p x zs e d (inl g) = cases (b.only lim n deep d.1 x zs.1 e (sym g.0) (subst (λ y. GivesRow lim n deep y follows r d.1 zs.1 e) g.2 d.5))
        where
          cases : ((x ≡ left.tokens) × (zs.1 ≡ vs) × (e ≡ left.counts)) ⊎ (ext (ofs s) (act (v, zs.1)) (kind_at x) ≡ true) → ((x ≡ left.tokens) × (zs ≡ (v, vs)) × (e ≡ left.counts)) ⊎ (ext (ofs s) (act zs) (kind_at x) ≡ true)
          cases (inl h) = inl (h.0, (ap (λ z. (z, zs.1)) g.1 ∙ ap (λ y. (v, y)) h.1), h.2)
          cases (inr h) = inr (subst (λ z. ext (ofs s) (act (z, zs.1)) (kind_at x) ≡ true) (sym g.1) h)

      shorter : length left.tokens ≤ length mid.tokens
      shorter = omega (arith, ap length b.split, length-append b.part left.tokens)

      bound : (lim : Limits) (n deep : ℕ) (u x : PlacedTokens) → w ≡ u ++ x → OpensRow lim n deep c follows (i ∷ r) u → length left.tokens ≤ length x
      bound lim n deep u x e (inl f) = omega (arith, shorter, a.bound lim n deep u x e f)
      bound lim n deep u x e (inr f) = cases (a.only lim f.5 deep f.0 (f.1 ++ x) f.3 f.4 (regroup w f.0 f.1 x u e f.2) f.6)
        where
          cases : ((f.1 ++ x ≡ mid.tokens) × (f.3 ≡ v) × (f.4 ≡ mid.counts)) ⊎ (ext i f.3 (kind_at (f.1 ++ x)) ≡ true) → length left.tokens ≤ length x
          cases (inl g) = b.bound lim n deep f.1 x (sym g.0) (subst (λ y. OpensRow lim n deep y follows r f.1) g.2 f.7)
          cases (inr g) = omega (arith, shorter, a.bound lim f.5 deep u x e (subst (λ y. Opens lim f.5 deep c i y) (sym f.2) (longer side lim f.5 n deep f.4 f.0 f.1 f.3 x f.6 f.7 f.8 g)))

  -- the whole element, in larger limits, before a front of the rest
  goes_rest : (b : Bool) (part rest : PlacedTokens) → GoesRow b mid.counts follows r part rest → mid.tokens ≡ part ++ rest → GoesRow b c follows (i ∷ r) (a.part ++ part) rest
  goes_rest true part rest h e = tt
  goes_rest false part rest (t, q, f, h) e = (t, q, f, (suc a.derives.0 + h.0, front))
    where
      front : (to : Limits) (deep : ℕ) → suc a.derives.0 + h.0 ≤ deep → Room to (length ((a.part ++ part) ++ t ∷ [])) c → (n : ℕ) × OpensRow to n deep c follows (i ∷ r) ((a.part ++ part) ++ t ∷ [])
      front to deep le room =
          let u : PlacedTokens = part ++ t ∷ [] in
          let size : length ((a.part ++ part) ++ t ∷ []) ≡ length a.part + length u = ap length (append_assoc a.part part (t ∷ [])) ∙ length-append a.part u in
          let n : ℕ = a.derives.0 in
          let d = widen_element most to n (widen most to n) levels c i a.part v mid.counts a.derives.1 (length u) deep (omega arith) (less_room to (length a.part + length u) (length ((a.part ++ part) ++ t ∷ [])) c (omega (arith, size)) room) in
          let o = h.1 to deep (omega arith) d.1 in
          let whole_of : mid.tokens ≡ u ++ q = e ∙ ap (λ y. part ++ y) f ∙ sym (append_assoc part (t ∷ []) q) in
          (o.0, inr (a.part, u, append_assoc a.part part (t ∷ []), v, mid.counts, n, d.0, o.1, side.stands w v mid a to o.0 deep u q whole_of o.1))

  pub row_rest : {b : Bool} {size : ℕ} → StopsRow b most levels mid.counts s follows r (λ zs. act (v, zs)) mid.tokens size → StopsRow b most levels c s follows (i ∷ r) act w size
  row_rest {b} {size} k = record {
    part = a.part ++ k.part;
    rest = k.rest;
    split = a.split ∙ ap (λ y. a.part ++ y) k.split ∙ sym (append_assoc a.part k.part k.rest);
    left = k.left;
    front = (k.front.0, inr (a.part, k.part, refl, v, mid.counts, a.derives.0, a.derives.1, k.front.1, side.stands w v mid a most k.front.0 levels k.part k.rest k.split k.front.1));
    goes = goes_rest b k.part k.rest k.goes k.split;
    only = λ lim n deep y p x zs e f d. only lim n deep y p x zs e d (a.only lim n deep d.0 (d.1 ++ x) zs.0 d.3 (regroup w d.0 d.1 x p f d.2) d.4);
    bound = bound;
  }
    where
      only : (lim : Limits) (n deep : ℕ) → Speaks b most levels lim deep → (p x : PlacedTokens) (zs : Nodes (i ∷ r)) (e : Counts) → (d : GivesRow lim n deep c follows (i ∷ r) p zs e)
          → ((d.1 ++ x ≡ mid.tokens) × (zs.0 ≡ v) × (d.3 ≡ mid.counts)) ⊎ (ext i zs.0 (kind_at (d.1 ++ x)) ≡ true) → ext (ofs s) (act zs) (kind_at x) ≡ true
      only lim n deep y p x zs e d (inr g) = along side lim n deep d.3 e zs.0 zs.1 d.1 x d.5 d.6 g
      only lim n deep y p x zs e d (inl g) = subst (λ z. ext (ofs s) (act (z, zs.1)) (kind_at x) ≡ true) (sym g.1)
          (k.only lim n deep y d.1 x zs.1 e (sym g.0) (subst (λ z. GivesRow lim n deep z follows r d.1 zs.1 e) g.2 d.5))

      shorter : size ≤ length mid.tokens
      shorter = omega (arith, ap length k.split, length-append k.part k.rest, k.left)

      bound : (lim : Limits) (n deep : ℕ) → Speaks b most levels lim deep → (u x : PlacedTokens) → w ≡ u ++ x → OpensRow lim n deep c follows (i ∷ r) u → size ≤ length x
      bound lim n deep y u x e (inl f) = omega (arith, shorter, a.bound lim n deep u x e f)
      bound lim n deep y u x e (inr f) = cases (a.only lim f.5 deep f.0 (f.1 ++ x) f.3 f.4 (regroup w f.0 f.1 x u e f.2) f.6)
        where
          cases : ((f.1 ++ x ≡ mid.tokens) × (f.3 ≡ v) × (f.4 ≡ mid.counts)) ⊎ (ext i f.3 (kind_at (f.1 ++ x)) ≡ true) → size ≤ length x
          cases (inl g) = k.bound lim n deep y f.1 x (sym g.0) (subst (λ z. OpensRow lim n deep z follows r f.1) g.2 f.7)
          cases (inr g) = omega (arith, shorter, a.bound lim f.5 deep u x e (subst (λ z. Opens lim f.5 deep c i z) (sym f.2) (longer side lim f.5 n deep f.4 f.0 f.1 f.3 x f.6 f.7 f.8 g)))

-- ---- the element stops

goes_first : (b : Bool) (c : Counts) (follows : Follows) (i : Element) (r : Row) (part rest : PlacedTokens) → Goes b c i part rest → GoesRow b c follows (i ∷ r) part rest
goes_first true c follows i r part rest h = tt
goes_first false c follows i r part rest h = (h.0, h.1, h.2, (h.3.0, λ to levels le room. let o = h.3.1 to levels le room in (o.0, inl o.1)))

pub row_first : {most : Limits} {levels : ℕ} {c : Counts} {s : Sym} {follows : Follows} {i : Element} {r : Row} {act : Nodes (i ∷ r) → Value s} → Side most levels c s follows i r act
    → {b : Bool} {w : PlacedTokens} {size : ℕ} → Stops b most levels c i w size → StopsRow b most levels c s follows (i ∷ r) act w size
row_first {most} {levels} {c} {s} {follows} {i} {r} {act} side {b} {w} {size} a = record {
  part = a.part;
  rest = a.rest;
  split = a.split;
  left = a.left;
  front = (a.front.0, inl a.front.1);
  goes = goes_first b c follows i r a.part a.rest a.goes;
  only = λ lim n deep y p x zs e f d. along side lim n deep d.3 e zs.0 zs.1 d.1 x d.5 d.6 (a.only lim n deep y d.0 (d.1 ++ x) zs.0 d.3 (regroup w d.0 d.1 x p f d.2) d.4);
  bound = bound;
}
  where
    bound : (lim : Limits) (n deep : ℕ) → Speaks b most levels lim deep → (u x : PlacedTokens) → w ≡ u ++ x → OpensRow lim n deep c follows (i ∷ r) u → size ≤ length x
    bound lim n deep y u x e (inl f) = a.bound lim n deep y u x e f
    bound lim n deep y u x e (inr f) = a.bound lim f.5 deep y u x e (subst (λ z. Opens lim f.5 deep c i z) (sym f.2)
        (longer side lim f.5 n deep f.4 f.0 f.1 f.3 x f.6 f.7 f.8 (a.only lim f.5 deep y f.0 (f.1 ++ x) f.3 f.4 (regroup w f.0 f.1 x u e f.2) f.6)))

-- nothing is left to read
pub row_end : {most : Limits} {levels : ℕ} {s : Sym} {follows : Follows} {act : Nodes [] → Value s} (st : State) → ParsesRow most levels st.counts s follows [] act st.tokens tt st
row_end {most} {levels} {s} {follows} {act} st = record {
  part = [];
  split = refl;
  derives = (0, (refl, refl));
  only = λ lim n deep p x zs e f d. let h : st.tokens ≡ x = f ∙ ap (λ y. y ++ x) d.0 in inl (sym h, refl, d.1);
  bound = λ lim n deep u x e f. let h : st.tokens ≡ x = e ∙ ap (λ y. y ++ x) f in omega (arith, ap length h);
}

-- ---- what functions that read answer

-- The outcome is exact for the element, whose tree is seen by g.
abbrev pub ElementOut : Limits → ℕ → Counts → (i : Element) {B : Type 0} → (Node i → B) → PlacedTokens → Outcome B → Type 0
ElementOut most levels c i g w (Ok p) = (v : Node i) × (p.0 ≡ g v) × Parses most levels c i w v p.1
ElementOut most levels c i g w (Err (Dead n)) = Stops true most levels c i w n
ElementOut most levels c i g w (Err (TooDeep n)) = Stops false most levels c i w n
ElementOut most levels c i g w (Err OutOfMemory) = ⊥

abbrev pub RowOut : Limits → ℕ → Counts → (s : Sym) → Follows → (r : Row) → (Nodes r → Value s) → {B : Type 0} → (Nodes r → B) → PlacedTokens → Outcome B → Type 0
RowOut most levels c s follows r act h w (Ok p) = (vs : Nodes r) × (p.0 ≡ h vs) × ParsesRow most levels c s follows r act w vs p.1
RowOut most levels c s follows r act h w (Err (Dead n)) = StopsRow true most levels c s follows r act w n
RowOut most levels c s follows r act h w (Err (TooDeep n)) = StopsRow false most levels c s follows r act w n
RowOut most levels c s follows r act h w (Err OutOfMemory) = ⊥

-- the same as records, whose arguments can be left out
pub record Reads (most : Limits) (levels : ℕ) (c : Counts) (i : Element) (B : Type 0) (g : Node i → B) (w : PlacedTokens) (o : Outcome B) : Type 0 where
  pub out : ElementOut most levels c i g w o

pub record ReadsRow (most : Limits) (levels : ℕ) (c : Counts) (s : Sym) (follows : Follows) (r : Row) (act : Nodes r → Value s) (B : Type 0) (h : Nodes r → B) (w : PlacedTokens) (o : Outcome B) : Type 0 where
  pub out : RowOut most levels c s follows r act h w o

module _ {most : Limits} {levels : ℕ} {c : Counts} {s : Sym} {follows : Follows} {i : Element} {r : Row} {act : Nodes (i ∷ r) → Value s} (side : Side most levels c s follows i r act) where
  more_out : {B : Type 0} (h : Nodes (i ∷ r) → B) (w : PlacedTokens) (v : Node i) (mid : State) → Parses most levels c i w v mid
      → (o : Outcome B) → RowOut most levels mid.counts s follows r (λ zs. act (v, zs)) (λ zs. h (v, zs)) mid.tokens o → RowOut most levels c s follows (i ∷ r) act h w o
  more_out h w v mid a (Ok p) x = ((v, x.0), x.1, row_ok side a x.2)
  more_out h w v mid a (Err (Dead n)) x = row_rest side a x
  more_out h w v mid a (Err (TooDeep n)) x = row_rest side a x
  more_out h w v mid a (Err OutOfMemory) x = absurd x

  then_out : {A B : Type 0} (g : Node i → A) (h : Nodes (i ∷ r) → B) (w : PlacedTokens) (o : Outcome A) (q : A → Parser B)
      → ElementOut most levels c i g w o
      → ((v : Node i) (mid : State) → Parses most levels c i w v mid → RowOut most levels mid.counts s follows r (λ zs. act (v, zs)) (λ zs. h (v, zs)) mid.tokens (q (g v) mid))
      → RowOut most levels c s follows (i ∷ r) act h w (and_then o q)
  then_out {A} {B} g h w (Ok p) q x f =
      more_out h w x.0 p.1 x.2 (q p.0 p.1)
      (subst (λ a. RowOut most levels p.1.counts s follows r (λ zs. act (x.0, zs)) (λ zs. h (x.0, zs)) p.1.tokens (q a p.1)) (sym x.1) (f x.0 p.1 x.2))
  then_out g h w (Err (Dead n)) q x f = row_first side x
  then_out g h w (Err (TooDeep n)) q x f = row_first side x
  then_out g h w (Err OutOfMemory) q x f = absurd x

  -- an element, and then the rest
  pub then_row : {A B : Type 0} {g : Node i → A} {h : Nodes (i ∷ r) → B} {w : PlacedTokens} {o : Outcome A} (q : A → Parser B)
      → Reads most levels c i A g w o
      → ((v : Node i) (mid : State) → Parses most levels c i w v mid → ReadsRow most levels mid.counts s follows r (λ zs. act (v, zs)) B (λ zs. h (v, zs)) mid.tokens (q (g v) mid))
      → ReadsRow most levels c s follows (i ∷ r) act B h w (and_then o q)
  then_row {A} {B} {g} {h} {w} {o} q x f = record { out = then_out g h w o q x.out (λ v mid a. (f v mid a).out) }

module _ {most : Limits} {levels : ℕ} {c : Counts} {s : Sym} {follows : Follows} {i : Element} {act : Nodes (i ∷ []) → Value s} (side : Side most levels c s follows i [] act) where
  last_out : {B : Type 0} (g : Node i → B) (h : Nodes (i ∷ []) → B) (w : PlacedTokens) (o : Outcome B) → ((v : Node i) → g v ≡ h (v, tt))
      → ElementOut most levels c i g w o → RowOut most levels c s follows (i ∷ []) act h w o
  last_out g h w (Ok p) e x = ((x.0, tt), x.1 ∙ e x.0, row_ok side x.2 (row_end p.1))
  last_out g h w (Err (Dead n)) e x = row_first side x
  last_out g h w (Err (TooDeep n)) e x = row_first side x
  last_out g h w (Err OutOfMemory) e x = absurd x

  -- the last element, whose outcome is that of the row
  pub last_row : {B : Type 0} {g : Node i → B} {h : Nodes (i ∷ []) → B} {w : PlacedTokens} {o : Outcome B} → ((v : Node i) → g v ≡ h (v, tt)) → Reads most levels c i B g w o → ReadsRow most levels c s follows (i ∷ []) act B h w o
  last_row {B} {g} {h} {w} {o} e x = record { out = last_out g h w o e x.out }

pub end_row : {most : Limits} {levels : ℕ} {s : Sym} {follows : Follows} {act : Nodes [] → Value s} {B : Type 0} {h : Nodes [] → B} {b : B} {st : State} → b ≡ h tt → ReadsRow most levels st.counts s follows [] act B h st.tokens (Ok (b, st))
end_row {st = st} e = record { out = (tt, e, row_end st) }

-- An element that is never passed over takes a token.
pub shorter : {most : Limits} {levels : ℕ} {c : Counts} {i : Element} {w : PlacedTokens} {v : Node i} {left : State} → null i ≡ false → Parses most levels c i w v left → length left.tokens < length w
shorter {most} {levels} {c} {i} {w} {v} {left} e a = go a.part a.split a.derives.1
  where
    go : (q : PlacedTokens) → w ≡ q ++ left.tokens → Gives most a.derives.0 levels c i q v left.counts → length left.tokens < length w
    go [] f d = absurd (false≢true (sym e ∙ null_sound most a.derives.0 levels c i v left.counts d))
    go (t ∷ q) f d = omega (arith, ap length f, length-append q left.tokens)

-- No element gives tokens back.
pub no_longer : {most : Limits} {levels : ℕ} {c : Counts} {i : Element} {w : PlacedTokens} {v : Node i} {left : State} → Parses most levels c i w v left → length left.tokens ≤ length w
no_longer {left = left} a = omega (arith, ap length a.split, length-append a.part left.tokens)
