-- The `else` of the nearest `if`.
use Rattle.std.proofs.Common.{◌≡◌, ℕ, zero, suc, ◌≤◌, Bool, true, false, not, [], ◌∷◌, ◌++◌, length, refl, ◌⊎◌, inl, inr, ap, sym, ◌∙◌, subst, arith, append_assoc, codes, Option, Some, None}
use Rattle.std.proofs.lemmas.List.{append-nil}
use Rattle.std.proofs.lemmas.Bool.{false≢true}
use Rattle.ec_ctypes.specs.declared.text.token.Punct.TheVariants as p
use Rattle.ec_ctypes.specs.trees.Exprs.{ExprData}
use Rattle.ec_language.specs.Productions.{Placed, Start, start_of, is, Sym, Value, Element, tok, count, sym as ofs, nest, whole, Row, Node, Nodes, Follows, OpenStatement, at, closed, ending, with_else, behind_closed, ForStart, for_expression, for_declaration, ForHead, text_of, number_of, productions}
use Rattle.ec_language.specs.Productions as g
use Rattle.ec_language.specs.Grammar.{PlacedTokens, Limits, Counts, AnyOf, Makes, DerivesBelow, FrontBelow}
use Rattle.ec_grammar.specs.declared.kind.Kind.{Kind}
use Rattle.ec_grammar.specs.declared.kind.Kind.TheVariants as k
use Rattle.ec_grammar.specs.Input.{State, kind_at}
use Rattle.ec_grammar.specs.Kinds.{same_kind}
use Rattle.ec_grammar.specs.Starts.{is_else}
use Rattle.ec_grammar.proofs.exact_lemmas.Fits.{kind_is, kind_terminal}
use Rattle.ec_grammar.proofs.exact_lemmas.Begins.{deep, firsts}
use Rattle.ec_grammar.proofs.exact_lemmas.Sound.{kind, at_nil, GivesRow, OpensRow, first_list}
use Rattle.ec_grammar.proofs.exact_lemmas.Follow.{open_other, at_tree, ext}
use Rattle.ec_grammar.proofs.exact_lemmas.Exact.{Parses, Side}
use Rattle.ec_grammar.proofs.exact_lemmas.Choose.{at_each}

pub open_else : (x : Start) (c : ExprData) (s : OpenStatement) (o : Option OpenStatement) → (with_else x c s o).is_open ≡ open_other o
open_else x c s None = refl
open_else x c s (Some o) = refl

pub for_open : (x : Start) (first : ForStart) (c s : Option ExprData) (z : OpenStatement) → (g.for_loop x first c s z).is_open ≡ z.is_open
for_open x (for_expression a) c s z = refl
for_open x (for_declaration a) c s z = refl

-- ---- an open statement takes an `else`

module _ (most : Limits) (t : Placed) (e : is (g.keyword (codes "else")) t.token.tok ≡ true) where
  abbrev AbsorbStatement : ℕ → Type 0
  AbsorbStatement n = (levels : ℕ) (c : Counts) (w : PlacedTokens) (z : OpenStatement) (b : Counts) → DerivesBelow most n levels c g.statement w z b → z.is_open ≡ true → (m : ℕ) × FrontBelow most m levels c g.statement (w ++ t ∷ [])

  abbrev AbsorbOther : ℕ → Type 0
  AbsorbOther n = (levels : ℕ) (c : Counts) (w : PlacedTokens) (o : Option OpenStatement) (b : Counts) → DerivesBelow most n levels c g.else_option w o b → open_other o ≡ true → (m : ℕ) × FrontBelow most m levels c g.else_option (w ++ t ∷ [])

  -- a row of two elements and a statement
  after_two : (n : ℕ) → AbsorbStatement n → (levels : ℕ) (c : Counts) (i j : Element) (w : PlacedTokens) (vs : Nodes (i ∷ j ∷ nest g.statement ∷ [])) (b : Counts)
      → GivesRow most n levels c (λ i v. true) (i ∷ j ∷ nest g.statement ∷ []) w vs b → vs.1.1.0.is_open ≡ true → (m : ℕ) × OpensRow most m levels c (λ i v. true) (i ∷ j ∷ nest g.statement ∷ []) (w ++ t ∷ [])
  after_two n f levels c i j w vs b h o =
      let u : PlacedTokens = t ∷ [] in
      let h2 = h.5 in
      let h3 = h2.5 in
      let x = f h3.4.0 h2.3 h3.0 vs.1.1.0 h3.3 h3.4.2 o in
      let last : h2.1 ≡ h3.0 = h3.2 ∙ ap (λ q. h3.0 ++ q) h3.5.0 ∙ append-nil h3.0 in (
        x.0,
        inr (
          h.0,
          h.1 ++ u,
          (ap (λ q. q ++ u) h.2 ∙ append_assoc h.0 h.1 u),
          vs.0,
          h.3,
          n,
          h.4,
          inr (
            h2.0,
            h2.1 ++ u,
            (ap (λ q. q ++ u) h2.2 ∙ append_assoc h2.0 h2.1 u),
            vs.1.0,
            h2.3,
            n,
            h2.4,
            inl (inr (h3.4.0, h3.4.1, subst (λ q. FrontBelow most x.0 h3.4.0 h2.3 g.statement (q ++ u)) (sym last) x.1)),
            inr refl,
          ),
          inr refl,
        ),
      )

  abbrev if_row : Row
  if_row = tok (g.keyword (codes "if")) ∷ nest g.parenthesized ∷ nest g.statement ∷ ofs g.else_option ∷ []

  in_if : (n : ℕ) → AbsorbStatement n → AbsorbOther n → (levels : ℕ) (c : Counts) (w : PlacedTokens) (vs : Nodes if_row) (b : Counts) → GivesRow most n levels c behind_closed if_row w vs b → open_other vs.1.1.1.0 ≡ true
      → (m : ℕ) × OpensRow most m levels c behind_closed if_row (w ++ t ∷ [])
  in_if n f1 f2 levels c w vs b h o = go vs.1.1.0.is_open refl
    where
      u : PlacedTokens
      u = t ∷ []

      -- the first two elements, before a front of the rest
      behind : (m : ℕ) (q : PlacedTokens) → h.5.1 ≡ q → OpensRow most m levels h.5.3 behind_closed (nest g.statement ∷ ofs g.else_option ∷ []) (q ++ u) → OpensRow most m levels c behind_closed if_row (w ++ u)
      behind m q same x = inr (
        h.0,
        h.1 ++ u,
        (ap (λ q. q ++ u) h.2 ∙ append_assoc h.0 h.1 u),
        vs.0,
        h.3,
        n,
        h.4,
        inr (h.5.0, q ++ u, (ap (λ q. q ++ u) h.5.2 ∙ append_assoc h.5.0 h.5.1 u ∙ ap (λ y. h.5.0 ++ (y ++ u)) same), vs.1.0, h.5.3, n, h.5.4, x, inr refl),
        inr refl,
      )

      other_part : h.5.5.1 ≡ h.5.5.5.0
      other_part = let d = h.5.5.5 in d.2 ∙ ap (λ q. d.0 ++ q) d.5.0 ∙ append-nil d.0

      go : (s : Bool) → vs.1.1.0.is_open ≡ s → (m : ℕ) × OpensRow most m levels c behind_closed if_row (w ++ u)
      go false s =
          let d = h.5.5 in
          let x = f2 levels d.3 d.5.0 vs.1.1.1.0 d.5.3 d.5.4 o in
          (x.0, behind x.0 h.5.1 refl (inr (d.0, d.1 ++ u, (ap (λ q. q ++ u) d.2 ∙ append_assoc d.0 d.1 u), vs.1.1.0, d.3, n, d.4, inl (subst (λ q. FrontBelow most x.0 levels d.3 g.else_option (q ++ u)) (sym other_part) x.1), inr (ap not s))))
      go true s = cases h.5.5.6
        where
          cases : (h.5.5.1 ≡ []) ⊎ (not vs.1.1.0.is_open ≡ true) → (m : ℕ) × OpensRow most m levels c behind_closed if_row (w ++ u)
          cases (inl y) =
              let d = h.5.5 in
              let x = f1 d.4.0 h.5.3 d.0 vs.1.1.0 d.3 d.4.2 s in
              (x.0, behind x.0 d.0 (d.2 ∙ ap (λ q. d.0 ++ q) y ∙ append-nil d.0) (inl (inr (d.4.0, d.4.1, x.1))))
          cases (inr y) = absurd (false≢true (ap not (sym s) ∙ y))

  in_statement : (n : ℕ) → AbsorbStatement n → AbsorbOther n → (levels : ℕ) (c : Counts) (w : PlacedTokens) (z : OpenStatement) (b : Counts) → AnyOf most (Makes most (DerivesBelow most n) levels c w z b) (productions g.statement) → z.is_open ≡ true
      → (m : ℕ) × FrontBelow most m levels c g.statement (w ++ t ∷ [])
  in_statement n f1 f2 levels c w z b (inl x) o = absurd (false≢true (sym (ap (λ (y : OpenStatement). y.is_open) x.1) ∙ o))
  in_statement n f1 f2 levels c w z b (inr (inl x)) o = absurd (false≢true (sym (ap (λ (y : OpenStatement). y.is_open) x.1) ∙ o))
  in_statement n f1 f2 levels c w z b (inr (inr (inl x))) o = absurd (false≢true (sym (ap (λ (y : OpenStatement). y.is_open) x.1) ∙ o))
  in_statement n f1 f2 levels c w z b (inr (inr (inr (inl x)))) o =
      let y = after_two n f1 levels c (tok g.name) (tok (g.mark p.Colon)) w x.0 b x.2 (sym (ap (λ (y : OpenStatement). y.is_open) x.1) ∙ o) in (suc y.0, inr (inr (inr (inl y.1))))
  in_statement n f1 f2 levels c w z b (inr (inr (inr (inr (inl x))))) o = absurd (false≢true (sym (ap (λ (y : OpenStatement). y.is_open) x.1) ∙ o))
  in_statement n f1 f2 levels c w z b (inr (inr (inr (inr (inr (inl x)))))) o = absurd (false≢true (sym (ap (λ (y : OpenStatement). y.is_open) x.1) ∙ o))
  in_statement n f1 f2 levels c w z b (inr (inr (inr (inr (inr (inr (inl x))))))) o =
      let y = in_if n f1 f2 levels c w x.0 b x.2 (sym (open_else (start_of w) x.0.1.0 x.0.1.1.0 x.0.1.1.1.0) ∙ sym (ap (λ (y : OpenStatement). y.is_open) x.1) ∙ o) in (suc y.0, inr (inr (inr (inr (inr (inr (inl y.1)))))))
  in_statement n f1 f2 levels c w z b (inr (inr (inr (inr (inr (inr (inr (inl x)))))))) o =
      let y = after_two n f1 levels c (tok (g.keyword (codes "while"))) (nest g.parenthesized) w x.0 b x.2 (sym (ap (λ (y : OpenStatement). y.is_open) x.1) ∙ o) in (suc y.0, inr (inr (inr (inr (inr (inr (inr (inl y.1))))))))
  in_statement n f1 f2 levels c w z b (inr (inr (inr (inr (inr (inr (inr (inr (inl x))))))))) o = absurd (false≢true (sym (ap (λ (y : OpenStatement). y.is_open) x.1) ∙ o))
  in_statement n f1 f2 levels c w z b (inr (inr (inr (inr (inr (inr (inr (inr (inr (inl x)))))))))) o =
      let y = after_two n f1 levels c (tok (g.keyword (codes "for"))) (nest g.for_head) w x.0 b x.2 (sym (for_open (start_of w) x.0.1.0.first x.0.1.0.condition x.0.1.0.step x.0.1.1.0) ∙ sym (ap (λ (y : OpenStatement). y.is_open) x.1) ∙ o) in
      (suc y.0, inr (inr (inr (inr (inr (inr (inr (inr (inr (inl y.1))))))))))
  in_statement n f1 f2 levels c w z b (inr (inr (inr (inr (inr (inr (inr (inr (inr (inr (inl x))))))))))) o = absurd (false≢true (sym (ap (λ (y : OpenStatement). y.is_open) x.1) ∙ o))
  in_statement n f1 f2 levels c w z b (inr (inr (inr (inr (inr (inr (inr (inr (inr (inr (inr (inl x)))))))))))) o = absurd (false≢true (sym (ap (λ (y : OpenStatement). y.is_open) x.1) ∙ o))
  in_statement n f1 f2 levels c w z b (inr (inr (inr (inr (inr (inr (inr (inr (inr (inr (inr (inr (inl x))))))))))))) o = absurd (false≢true (sym (ap (λ (y : OpenStatement). y.is_open) x.1) ∙ o))
  in_statement n f1 f2 levels c w z b (inr (inr (inr (inr (inr (inr (inr (inr (inr (inr (inr (inr (inr (inl x)))))))))))))) o = absurd (false≢true (sym (ap (λ (y : OpenStatement). y.is_open) x.1) ∙ o))
  in_statement n f1 f2 levels c w z b (inr (inr (inr (inr (inr (inr (inr (inr (inr (inr (inr (inr (inr (inr x)))))))))))))) o = absurd x

  in_other : (n : ℕ) → AbsorbStatement n → (levels : ℕ) (c : Counts) (w : PlacedTokens) (o : Option OpenStatement) (b : Counts) → AnyOf most (Makes most (DerivesBelow most n) levels c w o b) (productions g.else_option) → open_other o ≡ true
      → (m : ℕ) × FrontBelow most m levels c g.else_option (w ++ t ∷ [])
  in_other n f levels c w o b (inl x) h = (1, subst (λ q. FrontBelow most 1 levels c g.else_option (q ++ t ∷ [])) (sym x.2.0) (inr (inl (inl (inr (t, refl, e))))))
  in_other n f levels c w o b (inr (inl x)) h =
      let u : PlacedTokens = t ∷ [] in
      let d = x.2 in
      let l = d.5 in
      let y = f l.4.0 d.3 l.0 x.0.1.0 l.3 l.4.2 (sym (ap open_other x.1) ∙ h) in
      let last : d.1 ≡ l.0 = l.2 ∙ ap (λ q. l.0 ++ q) l.5.0 ∙ append-nil l.0 in (
        suc y.0,
        inr (inl (inr (d.0, d.1 ++ u, (ap (λ q. q ++ u) d.2 ∙ append_assoc d.0 d.1 u), x.0.0, d.3, n, d.4, inl (inr (l.4.0, l.4.1, subst (λ q. FrontBelow most y.0 l.4.0 d.3 g.statement (q ++ u)) (sym last) y.1)), inr refl))),
      )
  in_other n f levels c w o b (inr (inr x)) h = absurd x

  absorb : (n : ℕ) → AbsorbStatement n × AbsorbOther n
  absorb zero = ((λ levels c w z b h o. absurd h), (λ levels c w z b h o. absurd h))
  absorb (suc n) = let a : AbsorbStatement n × AbsorbOther n = absorb n in
      ((λ levels c w z b h o. in_statement n a.0 a.1 levels c w z b h o), (λ levels c w z b h o. in_other n a.0 levels c w z b h o))

-- ---- what may stand behind a statement

-- an `else` part of no token
nothing_else : (lim : Limits) (n levels : ℕ) (c e : Counts) (w : PlacedTokens) (o : Option OpenStatement) → w ≡ [] → DerivesBelow lim n levels c g.else_option w o e → open_other o ≡ true
nothing_else lim zero levels c e w o f d = absurd d
nothing_else lim (suc n) levels c e w o f (inl x) = ap open_other x.1
nothing_else lim (suc n) levels c e w o f (inr (inl x)) = absurd (let h : x.2.0 ≡ x.0.0 ∷ [] = x.2.4.0 in let z = at_nil x.2.0 x.2.1 (sym f ∙ x.2.2) in let y : x.2.0 ≡ [] = z.0 in cc)
nothing_else lim (suc n) levels c e w o f (inr (inr x)) = absurd x

both_open : (a b : Bool) → at_tree a a b ≡ true → (a ≡ true) × (b ≡ true)
both_open true b e = (refl, e)
both_open false b e = absurd (false≢true e)

now_open : (a b : Bool) → a ≡ true → b ≡ true → at_tree a a b ≡ true
now_open true b e h = h
now_open false b e h = absurd (false≢true e)

abbrev is_else_first : Kind → Bool
is_else_first j = elim (firsts (ofs g.else_option ∷ []) j) [ true ↦ same_kind j k.Else | false ↦ true ]

else_first : (j : Kind) → firsts (ofs g.else_option ∷ []) j ≡ true → j ≡ k.Else
else_first j e = kind_is j k.Else (subst (λ b. elim b [ true ↦ same_kind j k.Else | false ↦ true ] ≡ true) e (at_each is_else_first refl j))

-- the last element of a row
pub tail_side : {most : Limits} {levels : ℕ} {c : Counts} {s : Sym} {follows : Follows} {i : Element} {act : Nodes (i ∷ []) → Value s} → ((z : Node i) (j : Kind) → ext i z j ≡ true → ext (ofs s) (act (z, tt)) j ≡ true) → Side most levels c s follows i [] act
tail_side f = record {
  apart = λ lim n deeper e z t q h o x. let y : t ∷ q ≡ [] = x in cc;
  last = λ lim n deeper c1 e z zs x d h. f z (kind_at x) h;
  stands = λ w v left a lim n deeper q x e o. inl o;
}

-- a statement before an `else` part
pub if_side : {most : Limits} {levels : ℕ} {c : Counts} (x : Start) (e : ExprData) → Side most levels c g.statement behind_closed (nest g.statement) (ofs g.else_option ∷ []) (λ y. with_else x e y.0 y.1.0)
if_side {most} {levels} {c} x e = record {
  apart = λ lim n deeper b z t q h o y. false≢true (ap not (sym (both_open (is_else (kind t)) z.is_open h).1) ∙ o);
  last = λ lim n deeper c1 b z zs y d h. now_open (is_else (kind_at y)) (with_else x e z zs.0).is_open (both_open (is_else (kind_at y)) z.is_open h).0 (same z zs.0 (nothing_else lim n deeper c1 d.3 d.0 zs.0 (at_nil d.0 d.1 d.2).0 d.4));
  stands = stands;
}
  where
    same : (z : OpenStatement) (o : Option OpenStatement) → open_other o ≡ true → (with_else x e z o).is_open ≡ true
    same z None h = h
    same z (Some o) h = h

    stands : (w : PlacedTokens) (v : OpenStatement) (left : State) → Parses most levels c (nest g.statement) w v left → (lim : Limits) (n deeper : ℕ) (q y : PlacedTokens) → left.tokens ≡ q ++ y → OpensRow lim n deeper left.counts behind_closed (ofs g.else_option ∷ []) q → (q ≡ []) ⊎ (not v.is_open ≡ true)
    stands w v left a lim n deeper [] y h o = inl refl
    stands w v left a lim n deeper (t ∷ q) y h o = inr (go v.is_open refl)
      where
        go : (b : Bool) → v.is_open ≡ b → not b ≡ true
        go false s = refl
        go true s =
            let kind_else : kind t ≡ k.Else = else_first (kind t) (first_list lim deep n deeper left.counts behind_closed (ofs g.else_option ∷ []) t q o) in
            let d = a.derives in
            let f = (absorb most t (kind_terminal t.token.tok k.Else kind_else) d.0).0 d.1.0 c a.part v left.counts d.1.2 s in
            let split : w ≡ (a.part ++ t ∷ []) ++ (q ++ y) = a.split ∙ ap (λ z. a.part ++ z) h ∙ sym (append_assoc a.part (t ∷ []) (q ++ y)) in
            let bound : length left.tokens ≤ length (q ++ y) = a.bound most f.0 levels (a.part ++ t ∷ []) (q ++ y) split (inr (d.1.0, d.1.1, f.1)) in
            absurd (omega (arith, bound, ap length h))
