-- Primary expressions and what stands behind them.
use Rattle.std.proofs.Common.{◌≡◌, ℕ, zero, suc, ◌≤◌, ◌<◌, true, false, List, [], ◌∷◌, length, refl, ap, arith, fold}
use Rattle.std.specs.Prelude.{if◌then◌else◌}
use Rattle.ec_ctypes.specs.declared.text.token.Punct.TheVariants as p
use Rattle.ec_ctypes.specs.trees.Exprs.{ExprData, call, call_other, index, member, arrow, bump}
use Rattle.ec_language.specs.Productions.{Sym, operations, Value, sym as ofs, nest, Primary, bare_name, Postfix, at_index, at_member, at_arrow, bumped, called, with_postfix, with_postfixes}
use Rattle.ec_language.specs.Productions as g
use Rattle.ec_language.specs.Grammar.{PlacedTokens, Limits, Counts}
use Rattle.ec_grammar.specs.declared.kind.Kind.{Kind}
use Rattle.ec_grammar.specs.declared.kind.Kind.TheVariants as k
use Rattle.ec_grammar.specs.Input.{State, state, kind_at, kind_next}
use Rattle.ec_grammar.specs.Nested.{Nested}
use Rattle.ec_grammar.specs.Starts.{begins_postfix_part}
use Rattle.ec_grammar.specs.ReadExpressions as read
use Rattle.ec_grammar.specs.ReadExpressions.{primary_of}
use Rattle.ec_grammar.proofs.exact_lemmas.Exact.{Reads, then_row, last_row, end_row, shorter}
use Rattle.ec_grammar.proofs.exact_lemmas.Choose.{side, choose, none, when, choose_if}
use Rattle.ec_grammar.proofs.exact_lemmas.Nests.{expect_reads, counted_reads}
use Rattle.ec_grammar.proofs.exact_lemmas.Lists.{exprs_back}
use Rattle.ec_grammar.proofs.exact_lemmas.Inner.{Reading, ReadsInner}

-- ---- to the left

abbrev pub step : Primary → Postfix → Primary
step left (at_index i) = primary_of (index left.expression i)
step left (at_member m) = primary_of (member left.expression m)
step left (at_arrow m) = primary_of (arrow left.expression m)
step left (bumped up) = primary_of (bump false up left.expression)
step left (called es) = primary_of (if left.is_name then call (bare_name left) es else call_other left.expression es)

steps : (e : ExprData) (ps : List Postfix) → (fold step (primary_of e) ps).expression ≡ fold with_postfix e ps
steps e [] = refl
steps e (at_index i ∷ ps) = steps (index e i) ps
steps e (at_member m ∷ ps) = steps (member e m) ps
steps e (at_arrow m ∷ ps) = steps (arrow e m) ps
steps e (bumped up ∷ ps) = steps (bump false up e) ps
steps e (called es ∷ ps) = steps (call_other e es) ps

pub all_steps : (x : Primary) (ps : List Postfix) → (fold step x ps).expression ≡ with_postfixes x ps
all_steps x [] = refl
all_steps x (called es ∷ ps) = steps (if x.is_name then call (bare_name x) es else call_other x.expression es) ps
all_steps x (at_index i ∷ ps) = steps (index x.expression i) ps
all_steps x (at_member m ∷ ps) = steps (member x.expression m) ps
all_steps x (at_arrow m ∷ ps) = steps (arrow x.expression m) ps
all_steps x (bumped up ∷ ps) = steps (bump false up x.expression) ps

module _ (most : Limits) (levels : ℕ) (inner : Nested) (f : ReadsInner most levels inner) where
  primary_by : (j : Kind) (st : State) → kind_at st.tokens ≡ j → Reads most levels st.counts (ofs g.primary) Primary (λ x. x) st.tokens (read.primary_by most inner j st)
  primary_by k.Name st at = choose g.primary 0 (λ x. x) st.tokens _ k.Name (kind_next st.tokens) at refl refl (refl, then_row (side refl (λ _. refl)) _ (expect_reads k.Name st) (λ t st _. end_row refl))
  primary_by k.Integer st at = choose g.primary 1 (λ x. x) st.tokens _ k.Integer (kind_next st.tokens) at refl refl (refl, then_row (side refl (λ _. refl)) _ (expect_reads k.Integer st) (λ t st _. end_row refl))
  primary_by k.Character st at = choose g.primary 2 (λ x. x) st.tokens _ k.Character (kind_next st.tokens) at refl refl (refl, then_row (side refl (λ _. refl)) _ (expect_reads k.Character st) (λ t st _. end_row refl))
  primary_by k.Text st at = choose g.primary 3 (λ x. x) st.tokens _ k.Text (kind_next st.tokens) at refl refl (refl, then_row (side refl (λ _. refl)) _ (expect_reads k.Text st) (λ t st _. end_row refl))
  primary_by (k.Mark p.LeftParen) st at = choose g.primary 4 (λ x. x) st.tokens _ (k.Mark p.LeftParen) (kind_next st.tokens) at refl refl (refl, then_row (side refl (λ _. refl)) _ (f.parenthesized st) (λ t st _. end_row refl))
  primary_by _ st at = none g.primary (λ x. x) st _ (kind_next st.tokens) at refl refl refl

  primary_reads : Reading most levels (ofs g.primary) (λ x. x) (read.primary most inner)
  unfolding read.primary
  primary_reads st = primary_by (kind_at st.tokens) st refl

  part_by : (left : Primary) (j : Kind) (st : State) → kind_at st.tokens ≡ j → Reads most levels st.counts (ofs g.postfix_part) Primary (step left) st.tokens (read.postfix_part_by most inner left j st)
  part_by left (k.Mark p.LeftBracket) st at = choose g.postfix_part 0 (step left) st.tokens _ (k.Mark p.LeftBracket) (kind_next st.tokens) at refl refl (refl, then_row (side refl (λ _. refl)) _ (f.index_part st) (λ t st _. end_row refl))
  part_by left (k.Mark p.Dot) st at = choose g.postfix_part 1 (step left) st.tokens _ (k.Mark p.Dot) (kind_next st.tokens) at refl refl
      (refl, then_row (side refl (λ _. refl)) _ (counted_reads operations (k.Mark p.Dot) st) (λ t st _. then_row (side refl (λ _. refl)) _ (expect_reads k.Name st) (λ t st _. end_row refl)))
  part_by left (k.Mark p.Arrow) st at = choose g.postfix_part 2 (step left) st.tokens _ (k.Mark p.Arrow) (kind_next st.tokens) at refl refl
      (refl, then_row (side refl (λ _. refl)) _ (counted_reads operations (k.Mark p.Arrow) st) (λ t st _. then_row (side refl (λ _. refl)) _ (expect_reads k.Name st) (λ t st _. end_row refl)))
  part_by left (k.Mark p.PlusPlus) st at = choose g.postfix_part 3 (step left) st.tokens _ (k.Mark p.PlusPlus) (kind_next st.tokens) at refl refl
      (refl, then_row (side refl (λ _. refl)) _ (counted_reads operations (k.Mark p.PlusPlus) st) (λ t st _. end_row refl))
  part_by left (k.Mark p.MinusMinus) st at = choose g.postfix_part 4 (step left) st.tokens _ (k.Mark p.MinusMinus) (kind_next st.tokens) at refl refl
      (refl, then_row (side refl (λ _. refl)) _ (counted_reads operations (k.Mark p.MinusMinus) st) (λ t st _. end_row refl))
  part_by left (k.Mark p.LeftParen) st at = choose g.postfix_part 5 (step left) st.tokens _ (k.Mark p.LeftParen) (kind_next st.tokens) at refl refl
      (refl, then_row (side refl (λ _. refl)) _ (f.argument_part st) (λ es st _. end_row (ap (λ v. primary_of (if left.is_name then call (bare_name left) v else call_other left.expression v)) (exprs_back es))))
  part_by left _ st at = none g.postfix_part (step left) st _ (kind_next st.tokens) at refl refl refl

  part_reads : (left : Primary) → Reading most levels (ofs g.postfix_part) (step left) (read.postfix_part most inner left)
  unfolding read.postfix_part
  part_reads left st = part_by left (kind_at st.tokens) st refl

  parts_reads : (m : ℕ) (left : Primary) (w : PlacedTokens) (c : Counts) → length w ≤ m → Reads most levels c (ofs g.postfix_parts) Primary (λ v. fold step left v) w (read.postfix_parts_from most inner m left (state w c))
  unfolding read.postfix_parts_from
  parts_reads zero left [] c le = choose g.postfix_parts 0 (λ v. fold step left v) [] _ k.End k.End refl refl refl ((λ x y. refl), end_row refl)
  parts_reads zero left (t ∷ w) c le = absurd (omega arith)
  parts_reads (suc m) left w c le = when (begins_postfix_part (kind_at w)) _ _
      (λ yes. choose_if g.postfix_parts 1 (λ v. fold step left v) w begins_postfix_part true yes refl (
        refl,
        then_row (side refl (λ _. refl)) _ (part_reads left (state w c)) (λ x st a. last_row (side refl (λ _. refl)) (λ v. refl)
            (parts_reads m (step left x) st.tokens st.counts (let lt : length st.tokens < length w = shorter refl a in omega arith))),
      ))
      (λ no. choose_if g.postfix_parts 0 (λ v. fold step left v) w begins_postfix_part false no refl ((λ x y. refl), end_row refl))

  pub postfix_reads : Reading most levels (ofs g.postfix) (λ x. x) (read.postfix most inner)
  unfolding read.postfix read.postfix_parts
  postfix_reads st = choose g.postfix 0 (λ x. x) st.tokens _ (kind_at st.tokens) (kind_next st.tokens) refl refl refl
      (refl, then_row (side refl (λ _. refl)) _ (primary_reads st) (λ x st _. then_row (side refl (λ _. refl)) _ (parts_reads (length st.tokens) x st.tokens st.counts (omega arith)) (λ ps st _. end_row (all_steps x ps))))
