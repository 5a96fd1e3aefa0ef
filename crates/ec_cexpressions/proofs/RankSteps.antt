-- Operands of each rank with their operators.
use Rattle.std.proofs.Common.{◌≡◌, ℕ, zero, suc, ◌+◌, Option, Some, None, Ok, Err, refl, sym, ap, subst, ◌∙◌, length}
use Rattle.ec_ctypes.specs.declared.tree.expr.BinOp.{BinOp}
use Rattle.ec_ctypes.specs.trees.Exprs.{ExprData, binary}
use Rattle.ec_language.specs.Productions as g
use Rattle.ec_language.specs.Syntax.{limits}
use Rattle.ec_grammar.specs.declared.failure.Failure.{Failure}
use Rattle.ec_grammar.specs.Input.{State, Outcome, Parser, and_then, kind_at, expect_counted}
use Rattle.ec_grammar.specs.Nested.{Nested}
use Rattle.ec_grammar.specs.ReadExpressions.{binary_operator, operated, operands_from, operands, operand_of, operators, cast_part, or_operand, and_operand, bit_or_operand, bit_xor_operand, bit_and_operand, equal_operand, relation_operand, shift_operand, add_operand, multiply_operand}
use Rattle.ec_cexpressions.specs.declared.expressions.ranks.Rank.{Rank}
use Rattle.ec_cexpressions.specs.declared.expressions.ranks.Rank.TheVariants as rank
use Rattle.ec_cexpressions.specs.Ranks.{rank_view, tighter_than, looseness, operator_in}
use Rattle.ec_cexpressions.proofs.RankOperators.{no_operator}

-- ---- the next tighter rank

abbrev IsLooser : Rank → Option Rank → Type 0
IsLooser r None = Unit {0}
IsLooser r (Some t) = looseness r ≡ looseness t + 1

looser : (r : Rank) → IsLooser r (tighter_than r)
looser rank.Or = refl
looser rank.And = refl
looser rank.BitOr = refl
looser rank.BitXor = refl
looser rank.BitAnd = refl
looser rank.Equal = refl
looser rank.Relation = refl
looser rank.Shift = refl
looser rank.Add = refl
looser rank.Multiply = tt

pub is_looser : (r t : Rank) → Some t ≡ tighter_than r → looseness r ≡ looseness t + 1
is_looser r t e = subst (IsLooser r) (sym e) (looser r)

module _ (inner : Nested) where
  abbrev IsOperand : State → Rank → Option Rank → Type 0
  IsOperand i r None = operand_of limits inner (rank_view r) i ≡ cast_part limits inner i
  IsOperand i r (Some t) = operand_of limits inner (rank_view r) i ≡ operators limits inner (rank_view t) i

  operand_is : (i : State) (r : Rank) → IsOperand i r (tighter_than r)
  unfolding operators or_operand and_operand bit_or_operand bit_xor_operand bit_and_operand equal_operand relation_operand shift_operand add_operand multiply_operand
  operand_is i rank.Or = refl
  operand_is i rank.And = refl
  operand_is i rank.BitOr = refl
  operand_is i rank.BitXor = refl
  operand_is i rank.BitAnd = refl
  operand_is i rank.Equal = refl
  operand_is i rank.Relation = refl
  operand_is i rank.Shift = refl
  operand_is i rank.Add = refl
  operand_is i rank.Multiply = refl

  pub looser_operand : (r t : Rank) (i : State) → Some t ≡ tighter_than r → operand_of limits inner (rank_view r) i ≡ operators limits inner (rank_view t) i
  looser_operand r t i e = subst (IsOperand i r) (sym e) (operand_is i r)

  pub tightest_operand : (r : Rank) (i : State) → None ≡ tighter_than r → operand_of limits inner (rank_view r) i ≡ cast_part limits inner i
  tightest_operand r i e = subst (IsOperand i r) (sym e) (operand_is i r)

  -- ---- behind the first operand

  operators_by : (r : Rank) (i : State) (o : Outcome ExprData) → operand_of limits inner (rank_view r) i ≡ o
      → operators limits inner (rank_view r) i ≡ and_then o (operands limits inner (rank_view r) (operand_of limits inner (rank_view r)))
  unfolding operators
  operators_by r i o e = ap (λ (x : Outcome ExprData). and_then x (operands limits inner (rank_view r) (operand_of limits inner (rank_view r)))) e

  pub behind_looser : (r t : Rank) (i : State) (a : ExprData) (j : State) → Some t ≡ tighter_than r → operators limits inner (rank_view t) i ≡ Ok (a, j)
      → operators limits inner (rank_view r) i ≡ operands limits inner (rank_view r) (operand_of limits inner (rank_view r)) a j
  behind_looser r t i a j e found = operators_by r i (Ok (a, j)) (looser_operand r t i e ∙ found)

  pub looser_failed : (r t : Rank) (i : State) (e : Failure) → Some t ≡ tighter_than r → operators limits inner (rank_view t) i ≡ Err e
      → operators limits inner (rank_view r) i ≡ Err e
  looser_failed r t i e is failed = operators_by r i (Err e) (looser_operand r t i is ∙ failed)

  pub behind_tightest : (r : Rank) (i : State) (a : ExprData) (j : State) → None ≡ tighter_than r → cast_part limits inner i ≡ Ok (a, j)
      → operators limits inner (rank_view r) i ≡ operands limits inner (rank_view r) (operand_of limits inner (rank_view r)) a j
  behind_tightest r i a j e found = operators_by r i (Ok (a, j)) (tightest_operand r i e ∙ found)

  -- ---- where no operator follows

  abbrev pub Stops : Outcome ExprData → Type 0
  Stops (Ok p) = operator_in (kind_at p.1.tokens) ≡ None
  Stops (Err e) = Unit {0}

  none_from : (r : g.Rank) (operand : Parser ExprData) (m : ℕ) (a : ExprData) (i : State) → binary_operator r (kind_at i.tokens) ≡ None
      → operands_from limits inner r operand m a i ≡ Ok (a, i)
  unfolding operands_from
  none_from r operand zero a i e = refl
  none_from r operand (suc m) a i e = ap (λ (o : Option BinOp). operated limits inner operand (operands_from limits inner r operand m) a (kind_at i.tokens) o i) e

  -- ---- one operator

  pub one_operator : (r : g.Rank) (operand : Parser ExprData) (m : ℕ) (op : BinOp) (a b : ExprData) (t : g.Placed) (i j l : State)
      → Some op ≡ binary_operator r (kind_at i.tokens) → expect_counted limits g.operations (kind_at i.tokens) i ≡ Ok (t, j) → operand j ≡ Ok (b, l)
      → operands_from limits inner r operand (suc m) a i ≡ operands_from limits inner r operand m (binary op a b) l
  unfolding operands_from
  one_operator r operand m op a b t i j l is counted right =
      ap (λ (o : Option BinOp). operated limits inner operand (operands_from limits inner r operand m) a (kind_at i.tokens) o i) (sym is)
      ∙ ap (λ (x : Outcome g.Placed). and_then x (λ _ v. and_then (operand v) (λ y. operands_from limits inner r operand m (binary op a y)))) counted
      ∙ ap (λ (x : Outcome ExprData). and_then x (λ y. operands_from limits inner r operand m (binary op a y))) right

  only_first : (r : Rank) (operand : Parser ExprData) (o : Outcome ExprData) → Stops o → and_then o (operands limits inner (rank_view r) operand) ≡ o
  unfolding operands
  only_first r operand (Ok p) e = none_from (rank_view r) operand (length p.1.tokens) p.0 p.1 (no_operator r (kind_at p.1.tokens) e)
  only_first r operand (Err f) e = refl

  -- one rank further
  stops_at : (r : Rank) (i : State) (o : Outcome ExprData) → Stops o → operand_of limits inner (rank_view r) i ≡ o → operators limits inner (rank_view r) i ≡ o
  stops_at r i o s e = operators_by r i o e ∙ only_first r (operand_of limits inner (rank_view r)) o s

  stops_looser : (r t : Rank) (i : State) (o : Outcome ExprData) → Stops o → Some t ≡ tighter_than r → operators limits inner (rank_view t) i ≡ o
      → operators limits inner (rank_view r) i ≡ o
  stops_looser r t i o s e found = stops_at r i o s (looser_operand r t i e ∙ found)

  module _ (i : State) (o : Outcome ExprData) (s : Stops o) (first : cast_part limits inner i ≡ o) where
    stops_multiply : operators limits inner (rank_view rank.Multiply) i ≡ o
    stops_multiply = stops_at rank.Multiply i o s (tightest_operand rank.Multiply i refl ∙ first)

    stops_add : operators limits inner (rank_view rank.Add) i ≡ o
    stops_add = stops_looser rank.Add rank.Multiply i o s refl stops_multiply

    stops_shift : operators limits inner (rank_view rank.Shift) i ≡ o
    stops_shift = stops_looser rank.Shift rank.Add i o s refl stops_add

    stops_relation : operators limits inner (rank_view rank.Relation) i ≡ o
    stops_relation = stops_looser rank.Relation rank.Shift i o s refl stops_shift

    stops_equal : operators limits inner (rank_view rank.Equal) i ≡ o
    stops_equal = stops_looser rank.Equal rank.Relation i o s refl stops_relation

    stops_bit_and : operators limits inner (rank_view rank.BitAnd) i ≡ o
    stops_bit_and = stops_looser rank.BitAnd rank.Equal i o s refl stops_equal

    stops_bit_xor : operators limits inner (rank_view rank.BitXor) i ≡ o
    stops_bit_xor = stops_looser rank.BitXor rank.BitAnd i o s refl stops_bit_and

    stops_bit_or : operators limits inner (rank_view rank.BitOr) i ≡ o
    stops_bit_or = stops_looser rank.BitOr rank.BitXor i o s refl stops_bit_xor

    stops_and : operators limits inner (rank_view rank.And) i ≡ o
    stops_and = stops_looser rank.And rank.BitOr i o s refl stops_bit_or

    stops_or : operators limits inner (rank_view rank.Or) i ≡ o
    stops_or = stops_looser rank.Or rank.And i o s refl stops_and

    pub stops : (r : Rank) → operators limits inner (rank_view r) i ≡ o
    stops rank.Or = stops_or
    stops rank.And = stops_and
    stops rank.BitOr = stops_bit_or
    stops rank.BitXor = stops_bit_xor
    stops rank.BitAnd = stops_bit_and
    stops rank.Equal = stops_equal
    stops rank.Relation = stops_relation
    stops rank.Shift = stops_shift
    stops rank.Add = stops_add
    stops rank.Multiply = stops_multiply
