-- Binary operators, to the left.
use Rattle.std.proofs.Common.{◌≡◌, ℕ, zero, suc, ◌≤◌, ◌<◌, true, false, [], ◌∷◌, length, refl, ap, ◌∙◌, arith, fold, Some, None}
use Rattle.ec_ctypes.specs.declared.text.token.Punct.{Punct}
use Rattle.ec_ctypes.specs.declared.text.token.Punct.TheVariants as p
use Rattle.ec_ctypes.specs.declared.tree.expr.BinOp.{BinOp}
use Rattle.ec_ctypes.specs.declared.tree.expr.BinOp.TheVariants as bin
use Rattle.ec_ctypes.specs.trees.Exprs.{ExprData, binary}
use Rattle.ec_language.specs.Productions.{Production, operations, sym as ofs, Rank, or_rank, and_rank, bit_or_rank, bit_xor_rank, bit_and_rank, equal_rank, relation_rank, shift_rank, add_rank, multiply_rank, operand, operand_value, operand_rule, with_operand, productions}
use Rattle.ec_language.specs.Productions as g
use Rattle.ec_language.specs.Grammar.{PlacedTokens, Limits, Counts}
use Rattle.ec_grammar.specs.declared.kind.Kind.{Kind}
use Rattle.ec_grammar.specs.declared.kind.Kind.TheVariants as k
use Rattle.ec_grammar.specs.Input.{State, state, Parser, ◌>>=◌, pure, and_then, kind_at, kind_next, expect_counted}
use Rattle.ec_grammar.specs.Nested.{Nested}
use Rattle.ec_grammar.specs.ReadExpressions as read
use Rattle.ec_grammar.proofs.exact_lemmas.Begins.{null, null_row}
use Rattle.ec_grammar.proofs.exact_lemmas.Follow.{is_there, is_operator}
use Rattle.ec_grammar.proofs.exact_lemmas.Exact.{Reads, then_row, last_row, end_row, shorter}
use Rattle.ec_grammar.proofs.exact_lemmas.Choose.{side, side_test, kinds, each, choose, choose_if, chooses, At, others, lost, row_at}
use Rattle.ec_grammar.proofs.exact_lemmas.Nests.{counted_reads}
use Rattle.ec_grammar.proofs.exact_lemmas.Joins.{rejoined, along_row}
use Rattle.ec_grammar.proofs.exact_lemmas.Inner.{Reading, ReadsInner}
use Rattle.ec_grammar.proofs.exact_lemmas.Expressions.{cast_reads}

-- what is computed of a rank
record RankTests (r : Rank) : Type 0 where
  row : null_row (ofs (operand r) ∷ ofs (g.more_operands r) ∷ []) ≡ false
  first_side : each (side_test (g.operators r) (ofs (operand r)) (ofs (g.more_operands r) ∷ [])) kinds ≡ true
  rest_side : each (side_test (g.operators r) (ofs (g.more_operands r)) []) kinds ≡ true
  operator_side : each (side_test (g.more_operands r) (ofs (g.more_operand r)) (ofs (g.more_operands r) ∷ [])) kinds ≡ true
  again_side : each (side_test (g.more_operands r) (ofs (g.more_operands r)) []) kinds ≡ true
  operand_side : each (side_test (g.more_operand r) (ofs (operand r)) []) kinds ≡ true
  some : null (ofs (g.more_operand r)) ≡ false
  some_row : null_row (ofs (g.more_operand r) ∷ ofs (g.more_operands r) ∷ []) ≡ false
  missing : (l : Kind) → each (chooses (g.more_operands r) 0 l (is_operator r) false) kinds ≡ true

tests : (r : Rank) → RankTests r
tests or_rank = record { row = refl; first_side = refl; rest_side = refl; operator_side = refl; again_side = refl; operand_side = refl; some = refl; some_row = refl; missing = λ l. refl }
tests _ = record { row = refl; first_side = refl; rest_side = refl; operator_side = refl; again_side = refl; operand_side = refl; some = refl; some_row = refl; missing = λ l. refl }

module _ (most : Limits) (levels : ℕ) (inner : Nested) where
  abbrev More : Rank → ℕ → (ExprData → Parser ExprData) → Type 0
  More r size more = (left : ExprData) (st : State) → length st.tokens < size → Reads most levels st.counts (ofs (g.more_operands r)) ExprData (λ v. fold with_operand left v) st.tokens (more left st)

  -- ---- one operator and its operand, and what follows

  module _ (r : Rank) (reader : Parser ExprData) (reads : Reading most levels (ofs (operand r)) (operand_value r) reader) (more : ExprData → Parser ExprData) (left : ExprData) where
    one_by_one : (j : Kind) (op : BinOp) (st : State) → and_then (and_then (expect_counted most operations j st) (λ _. reader >>= (λ e. pure (binary op left e)))) more ≡ read.operated most inner reader more left j (Some op) st
    one_by_one j op st =
        rejoined (expect_counted most operations j st) (λ _. reader >>= (λ e. pure (binary op left e))) more
        ∙ (λ d. and_then (expect_counted most operations j st) (λ t i. rejoined (reader i) (λ e. pure (binary op left e)) more d))

    one : (x : Punct × BinOp) (n : ℕ) → ((l : Kind) → others (lost (g.more_operands r) (row_at (productions (g.more_operands r)) 1) (k.Mark x.0) l) (productions (g.more_operands r)) 1 ≡ true)
        → ((l : Kind) → others (lost (g.more_operand r) (row_at (productions (g.more_operand r)) n) (k.Mark x.0) l) (productions (g.more_operand r)) n ≡ true)
        → ((H : Production (BinOp × ExprData) → Type 0) → H (operand_rule r x) → At (productions (g.more_operand r)) n H)
        → (st : State) → kind_at st.tokens ≡ k.Mark x.0 → More r (length st.tokens) more
        → Reads most levels st.counts (ofs (g.more_operands r)) ExprData (λ v. fold with_operand left v) st.tokens (read.operated most inner reader more left (k.Mark x.0) (Some x.1) st)
    one x n t1 t2 pick st at again =
        let t = tests r in
        let part : Reads most levels st.counts (ofs (g.more_operand r)) ExprData (λ y. with_operand left y) st.tokens (and_then (expect_counted most operations (k.Mark x.0) st) (λ _. reader >>= (λ e. pure (binary x.1 left e)))) =
        choose (g.more_operand r) n (λ y. with_operand left y) st.tokens _ (k.Mark x.0) (kind_next st.tokens) at refl (t2 (kind_next st.tokens))
        (pick _ (refl, then_row (side refl (λ _. refl)) _ (counted_reads operations (k.Mark x.0) st) (λ _ mid _. then_row (side t.operand_side (λ _. refl)) _ (reads mid) (λ e mid _. end_row refl)))) in
        choose (g.more_operands r) 1 (λ v. fold with_operand left v) st.tokens _ (k.Mark x.0) (kind_next st.tokens) at refl (t1 (kind_next st.tokens)) (
          t.some_row,
          along_row (one_by_one (k.Mark x.0) x.1 st) (then_row (side t.operator_side (λ _. refl)) more part
              (λ y mid a. last_row (side t.again_side (λ _. refl)) (λ v. refl) (again (with_operand left y) mid (shorter t.some a)))),
        )

    none_follows : (st : State) → read.binary_operator r (kind_at st.tokens) ≡ None → Reads most levels st.counts (ofs (g.more_operands r)) ExprData (λ v. fold with_operand left v) st.tokens (pure left st)
    none_follows st e = choose_if (g.more_operands r) 0 (λ v. fold with_operand left v) st.tokens (is_operator r) false (ap is_there e) ((tests r).missing (kind_next st.tokens)) ((λ x y. refl), end_row refl)

  operated_by : (r : Rank) (reader : Parser ExprData) → Reading most levels (ofs (operand r)) (operand_value r) reader → (more : ExprData → Parser ExprData) (left : ExprData) (j : Kind) (st : State) → kind_at st.tokens ≡ j → More r (length st.tokens) more
      → Reads most levels st.counts (ofs (g.more_operands r)) ExprData (λ v. fold with_operand left v) st.tokens (read.operated most inner reader more left j (read.binary_operator r j) st)
  operated_by or_rank q a more left (k.Mark p.OrOr) st at h = one or_rank q a more left (p.OrOr, bin.Or) 0 (λ l. refl) (λ l. refl) (λ H x. x) st at h
  operated_by and_rank q a more left (k.Mark p.AndAnd) st at h = one and_rank q a more left (p.AndAnd, bin.And) 0 (λ l. refl) (λ l. refl) (λ H x. x) st at h
  operated_by bit_or_rank q a more left (k.Mark p.Or) st at h = one bit_or_rank q a more left (p.Or, bin.BitOr) 0 (λ l. refl) (λ l. refl) (λ H x. x) st at h
  operated_by bit_xor_rank q a more left (k.Mark p.Caret) st at h = one bit_xor_rank q a more left (p.Caret, bin.BitXor) 0 (λ l. refl) (λ l. refl) (λ H x. x) st at h
  operated_by bit_and_rank q a more left (k.Mark p.And) st at h = one bit_and_rank q a more left (p.And, bin.BitAnd) 0 (λ l. refl) (λ l. refl) (λ H x. x) st at h
  operated_by equal_rank q a more left (k.Mark p.EqualEqual) st at h = one equal_rank q a more left (p.EqualEqual, bin.Eq) 0 (λ l. refl) (λ l. refl) (λ H x. x) st at h
  operated_by equal_rank q a more left (k.Mark p.NotEqual) st at h = one equal_rank q a more left (p.NotEqual, bin.Ne) 1 (λ l. refl) (λ l. refl) (λ H x. x) st at h
  operated_by relation_rank q a more left (k.Mark p.Less) st at h = one relation_rank q a more left (p.Less, bin.Lt) 0 (λ l. refl) (λ l. refl) (λ H x. x) st at h
  operated_by relation_rank q a more left (k.Mark p.Greater) st at h = one relation_rank q a more left (p.Greater, bin.Gt) 1 (λ l. refl) (λ l. refl) (λ H x. x) st at h
  operated_by relation_rank q a more left (k.Mark p.LessEqual) st at h = one relation_rank q a more left (p.LessEqual, bin.Le) 2 (λ l. refl) (λ l. refl) (λ H x. x) st at h
  operated_by relation_rank q a more left (k.Mark p.GreaterEqual) st at h = one relation_rank q a more left (p.GreaterEqual, bin.Ge) 3 (λ l. refl) (λ l. refl) (λ H x. x) st at h
  operated_by shift_rank q a more left (k.Mark p.Shl) st at h = one shift_rank q a more left (p.Shl, bin.Shl) 0 (λ l. refl) (λ l. refl) (λ H x. x) st at h
  operated_by shift_rank q a more left (k.Mark p.Shr) st at h = one shift_rank q a more left (p.Shr, bin.Shr) 1 (λ l. refl) (λ l. refl) (λ H x. x) st at h
  operated_by add_rank q a more left (k.Mark p.Plus) st at h = one add_rank q a more left (p.Plus, bin.Add) 0 (λ l. refl) (λ l. refl) (λ H x. x) st at h
  operated_by add_rank q a more left (k.Mark p.Minus) st at h = one add_rank q a more left (p.Minus, bin.Sub) 1 (λ l. refl) (λ l. refl) (λ H x. x) st at h
  operated_by multiply_rank q a more left (k.Mark p.Star) st at h = one multiply_rank q a more left (p.Star, bin.Mul) 0 (λ l. refl) (λ l. refl) (λ H x. x) st at h
  operated_by multiply_rank q a more left (k.Mark p.Slash) st at h = one multiply_rank q a more left (p.Slash, bin.Div) 1 (λ l. refl) (λ l. refl) (λ H x. x) st at h
  operated_by multiply_rank q a more left (k.Mark p.Percent) st at h = one multiply_rank q a more left (p.Percent, bin.Rem) 2 (λ l. refl) (λ l. refl) (λ H x. x) st at h
  operated_by r q a more left j st at h = none_follows r q a more left st (ap (read.binary_operator r) at)

  operands_read : (r : Rank) (reader : Parser ExprData) → Reading most levels (ofs (operand r)) (operand_value r) reader → (m : ℕ) (left : ExprData) (w : PlacedTokens) (c : Counts) → length w ≤ m
      → Reads most levels c (ofs (g.more_operands r)) ExprData (λ v. fold with_operand left v) w (read.operands_from most inner r reader m left (state w c))
  unfolding read.operands_from
  operands_read r q a zero left [] c le = none_follows r q a (λ e. pure e) left (state [] c) (no_end r)
    where
      no_end : (r : Rank) → read.binary_operator r k.End ≡ None
      no_end or_rank = refl
      no_end _ = refl
  operands_read r q a zero left (t ∷ w) c le = absurd (omega arith)
  operands_read r q a (suc m) left w c le =
      operated_by r q a (read.operands_from most inner r q m) left (kind_at w) (state w c) refl (λ e st lt. operands_read r q a m e st.tokens st.counts (omega arith))

  ranked_reads : (r : Rank) (reader : Parser ExprData) → Reading most levels (ofs (operand r)) (operand_value r) reader → Reading most levels (ofs (g.operators r)) (λ x. x) (read.ranked most inner r reader)
  unfolding read.operands
  ranked_reads r q a st =
      let t = tests r in
      choose (g.operators r) 0 (λ x. x) st.tokens _ (kind_at st.tokens) (kind_next st.tokens) refl refl refl
      (t.row, then_row (side t.first_side (λ _. refl)) _ (a st) (λ x mid _. last_row (side t.rest_side (λ _. refl)) (λ v. refl) (operands_read r q a (length mid.tokens) (operand_value r x) mid.tokens mid.counts (omega arith))))

module _ (most : Limits) (levels : ℕ) (inner : Nested) (f : ReadsInner most levels inner) where
  -- ---- each rank's operands

  multiply_reads : Reading most levels (ofs (operand multiply_rank)) (operand_value multiply_rank) (read.multiply_operand most inner)
  unfolding read.multiply_operand
  multiply_reads st = cast_reads most levels inner f st

  add_reads : Reading most levels (ofs (operand add_rank)) (operand_value add_rank) (read.add_operand most inner)
  unfolding read.add_operand
  add_reads st = ranked_reads most levels inner multiply_rank (read.multiply_operand most inner) multiply_reads st

  shift_reads : Reading most levels (ofs (operand shift_rank)) (operand_value shift_rank) (read.shift_operand most inner)
  unfolding read.shift_operand
  shift_reads st = ranked_reads most levels inner add_rank (read.add_operand most inner) add_reads st

  relation_reads : Reading most levels (ofs (operand relation_rank)) (operand_value relation_rank) (read.relation_operand most inner)
  unfolding read.relation_operand
  relation_reads st = ranked_reads most levels inner shift_rank (read.shift_operand most inner) shift_reads st

  equal_reads : Reading most levels (ofs (operand equal_rank)) (operand_value equal_rank) (read.equal_operand most inner)
  unfolding read.equal_operand
  equal_reads st = ranked_reads most levels inner relation_rank (read.relation_operand most inner) relation_reads st

  bit_and_reads : Reading most levels (ofs (operand bit_and_rank)) (operand_value bit_and_rank) (read.bit_and_operand most inner)
  unfolding read.bit_and_operand
  bit_and_reads st = ranked_reads most levels inner equal_rank (read.equal_operand most inner) equal_reads st

  bit_xor_reads : Reading most levels (ofs (operand bit_xor_rank)) (operand_value bit_xor_rank) (read.bit_xor_operand most inner)
  unfolding read.bit_xor_operand
  bit_xor_reads st = ranked_reads most levels inner bit_and_rank (read.bit_and_operand most inner) bit_and_reads st

  bit_or_reads : Reading most levels (ofs (operand bit_or_rank)) (operand_value bit_or_rank) (read.bit_or_operand most inner)
  unfolding read.bit_or_operand
  bit_or_reads st = ranked_reads most levels inner bit_xor_rank (read.bit_xor_operand most inner) bit_xor_reads st

  and_reads : Reading most levels (ofs (operand and_rank)) (operand_value and_rank) (read.and_operand most inner)
  unfolding read.and_operand
  and_reads st = ranked_reads most levels inner bit_or_rank (read.bit_or_operand most inner) bit_or_reads st

  or_reads : Reading most levels (ofs (operand or_rank)) (operand_value or_rank) (read.or_operand most inner)
  unfolding read.or_operand
  or_reads st = ranked_reads most levels inner and_rank (read.and_operand most inner) and_reads st

  -- the whole expression but for assignments
  pub operators_reads : Reading most levels (ofs (g.operators or_rank)) (λ x. x) (read.operators most inner or_rank)
  unfolding read.operators
  operators_reads st = ranked_reads most levels inner or_rank (read.or_operand most inner) or_reads st
