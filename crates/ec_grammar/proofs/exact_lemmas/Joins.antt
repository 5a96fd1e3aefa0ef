-- What is read by parts that are joined otherwise, or seen otherwise.
use Rattle.std.proofs.Common.{◌≡◌, ℕ, true, refl, ◌⊎◌, inl, inr, ap, ◌∙◌, subst, Ok, Err}
use Rattle.ec_language.specs.Productions.{Sym, Value, Element, sym as ofs, Row, Node, Nodes, Follows}
use Rattle.ec_language.specs.Grammar.{PlacedTokens, Limits, Counts}
use Rattle.ec_grammar.specs.declared.kind.Kind.{Kind}
use Rattle.ec_grammar.specs.declared.failure.Failure.TheVariants.{OutOfMemory, Dead, TooDeep}
use Rattle.ec_grammar.specs.Input.{State, Outcome, Parser, and_then, pure, kind_at}
use Rattle.ec_grammar.proofs.exact_lemmas.Follow.{ext}
use Rattle.ec_grammar.proofs.exact_lemmas.Exact.{ParsesRow, StopsRow, ElementOut, RowOut, Reads, ReadsRow}

-- a part of the outcome after another
pub rejoined : {A B C : Type 0} (o : Outcome A) (f : A → Parser B) (h : B → Parser C) → and_then (and_then o f) h ≡ and_then o (λ a i. and_then (f a i) h)
rejoined (Ok p) f h = refl
rejoined (Err e) f h = refl

pub along_row : {most : Limits} {levels : ℕ} {c : Counts} {s : Sym} {follows : Follows} {r : Row} {act : Nodes r → Value s} {B : Type 0} {h : Nodes r → B} {w : PlacedTokens} {o p : Outcome B}
    → o ≡ p → ReadsRow most levels c s follows r act B h w o → ReadsRow most levels c s follows r act B h w p
along_row {most} {levels} {c} {s} {follows} {r} {act} {B} {h} {w} e x = subst (λ o. ReadsRow most levels c s follows r act B h w o) e x

also_out : (most : Limits) (levels : ℕ) (c : Counts) (i : Element) {B : Type 0} (g h : Node i → B) (w : PlacedTokens) (o : Outcome B) → ((v : Node i) → g v ≡ h v) → ElementOut most levels c i g w o → ElementOut most levels c i h w o
also_out most levels c i g h w (Ok p) e x = (x.0, x.1 ∙ e x.0, x.2)
also_out most levels c i g h w (Err (Dead n)) e x = x
also_out most levels c i g h w (Err (TooDeep n)) e x = x
also_out most levels c i g h w (Err OutOfMemory) e x = absurd x

pub also : {most : Limits} {levels : ℕ} {c : Counts} {i : Element} {B : Type 0} {g h : Node i → B} {w : PlacedTokens} {o : Outcome B} → ((v : Node i) → g v ≡ h v) → Reads most levels c i B g w o → Reads most levels c i B h w o
also {most} {levels} {c} {i} {B} {g} {h} {w} {o} e x = record { out = also_out most levels c i g h w o e x.out }

-- ---- a row of one symbol, as a row of another

module _ (most : Limits) (levels : ℕ) (c : Counts) (s z : Sym) (follows : Follows) (r : Row) (act : Nodes r → Value s) (make : Nodes r → Value z) (w : PlacedTokens)
    (f : (vs : Nodes r) (j : Kind) → ext (ofs s) (act vs) j ≡ true → ext (ofs z) (make vs) j ≡ true) where
  row_parses : (vs : Nodes r) (left : State) → ParsesRow most levels c s follows r act w vs left → ParsesRow most levels c z follows r make w vs left
  row_parses vs left a = record {
    part = a.part;
    split = a.split;
    derives = a.derives;
    only = λ lim n deeper p x zs e h d. only x zs e (a.only lim n deeper p x zs e h d);
    bound = a.bound;
  }
    where
      only : (x : PlacedTokens) (zs : Nodes r) (e : Counts) → ((x ≡ left.tokens) × (zs ≡ vs) × (e ≡ left.counts)) ⊎ (ext (ofs s) (act zs) (kind_at x) ≡ true) → ((x ≡ left.tokens) × (zs ≡ vs) × (e ≡ left.counts)) ⊎ (ext (ofs z) (make zs) (kind_at x) ≡ true)
      only x zs e (inl h) = inl h
      only x zs e (inr h) = inr (f zs (kind_at x) h)

  row_stops : {b : _} {size : ℕ} → StopsRow b most levels c s follows r act w size → StopsRow b most levels c z follows r make w size
  row_stops a = record {
    part = a.part;
    rest = a.rest;
    split = a.split;
    left = a.left;
    front = a.front;
    goes = a.goes;
    only = λ lim n deeper y p x zs e h d. f zs (kind_at x) (a.only lim n deeper y p x zs e h d);
    bound = a.bound;
  }

  row_out : {A B : Type 0} (h : Nodes r → A) (k : A → B) (o : Outcome A) → RowOut most levels c s follows r act h w o → RowOut most levels c z follows r make (λ vs. k (h vs)) w (and_then o (λ a. pure (k a)))
  row_out h k (Ok p) x = (x.0, ap k x.1, row_parses x.0 p.1 x.2)
  row_out h k (Err (Dead n)) x = row_stops x
  row_out h k (Err (TooDeep n)) x = row_stops x
  row_out h k (Err OutOfMemory) x = absurd x

pub row_seen : {most : Limits} {levels : ℕ} {c : Counts} {s z : Sym} {follows : Follows} {r : Row} {act : Nodes r → Value s} {make : Nodes r → Value z} {w : PlacedTokens}
    → ((vs : Nodes r) (j : Kind) → ext (ofs s) (act vs) j ≡ true → ext (ofs z) (make vs) j ≡ true)
    → {A B : Type 0} {h : Nodes r → A} (k : A → B) {o : Outcome A} → ReadsRow most levels c s follows r act A h w o → ReadsRow most levels c z follows r make B (λ vs. k (h vs)) w (and_then o (λ a. pure (k a)))
row_seen {most} {levels} {c} {s} {z} {follows} {r} {act} {make} {w} f {A} {B} {h} k {o} x = record { out = row_out most levels c s z follows r act make w f h k o x.out }
