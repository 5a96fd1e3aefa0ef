-- Unary expressions, casts, binary operators and assignments.
use Rattle.std.proofs.Common.{◌≡◌, ℕ, refl, Some}
use Rattle.std.specs.Prelude.{if◌then◌else◌}
use Rattle.ec_ctypes.specs.declared.text.token.Punct.TheVariants as p
use Rattle.ec_ctypes.specs.declared.tree.expr.UnOp.{UnOp}
use Rattle.ec_ctypes.specs.declared.tree.expr.UnOp.TheVariants as un
use Rattle.ec_ctypes.specs.trees.Exprs.{ExprData, unary, cast, size_type, size_expr}
use Rattle.ec_language.specs.Productions.{Production, Sym, operations, Value, count, mark, sym as ofs, nest, whole, Rank, or_rank, and_rank, bit_or_rank, bit_xor_rank, bit_and_rank, equal_rank, relation_rank, shift_rank, add_rank, multiply_rank, operand, operand_value, operand_rule, with_operand, set_by, productions}
use Rattle.ec_language.specs.Productions as g
use Rattle.ec_language.specs.Grammar.{Limits}
use Rattle.ec_grammar.specs.declared.kind.Kind.{Kind}
use Rattle.ec_grammar.specs.declared.kind.Kind.TheVariants as k
use Rattle.ec_grammar.specs.Input.{State, ◌>>=◌, pure, and_then, kind_at, kind_next, expect}
use Rattle.ec_grammar.specs.Nested.{Nested}
use Rattle.ec_grammar.specs.ReadExpressions as read
use Rattle.ec_grammar.proofs.exact_lemmas.Exact.{Reads, then_row, last_row, end_row}
use Rattle.ec_grammar.proofs.exact_lemmas.Choose.{side, choose, At, Row_at}
use Rattle.ec_grammar.proofs.exact_lemmas.Nests.{expect_reads}
use Rattle.ec_grammar.proofs.exact_lemmas.Joins.{rejoined, along_row}
use Rattle.ec_grammar.proofs.exact_lemmas.Inner.{Reading, ReadsInner}
use Rattle.ec_grammar.proofs.exact_lemmas.Postfixes.{postfix_reads}

module _ (most : Limits) (levels : ℕ) (inner : Nested) (f : ReadsInner most levels inner) where
  -- ---- unary operators

  operator_reads : (j : Kind) (op : UnOp) (st : State) → kind_at st.tokens ≡ j
      → Reads most levels st.counts (ofs g.unary_operator) UnOp (λ x. x) st.tokens (and_then (expect j st) (λ _. pure op))
      → At (productions g.unary_part) 3 (Row_at most levels st.counts g.unary_part (λ x. x) st.tokens (read.applied most inner (Some op) j st))
  operator_reads j op st at x = (
    refl,
    along_row (rejoined (expect j st) (λ _. pure op) (λ op. inner.cast_part >>= (λ e. pure (unary op e))))
        (then_row (side refl (λ _. refl)) _ x (λ op st _. then_row (side refl (λ _. refl)) _ (f.cast_part st) (λ e st _. end_row refl))),
  )

  unary_by : (j : Kind) (st : State) → kind_at st.tokens ≡ j → Reads most levels st.counts (ofs g.unary_part) ExprData (λ x. x) st.tokens (read.unary_part_by most inner j st)
  unary_by (k.Mark p.PlusPlus) st at = choose g.unary_part 1 (λ x. x) st.tokens _ (k.Mark p.PlusPlus) (kind_next st.tokens) at refl refl
      (refl, then_row (side refl (λ _. refl)) _ (expect_reads (k.Mark p.PlusPlus) st) (λ t st _. then_row (side refl (λ _. refl)) _ (f.unary_part st) (λ e st _. end_row refl)))
  unary_by (k.Mark p.MinusMinus) st at = choose g.unary_part 2 (λ x. x) st.tokens _ (k.Mark p.MinusMinus) (kind_next st.tokens) at refl refl
      (refl, then_row (side refl (λ _. refl)) _ (expect_reads (k.Mark p.MinusMinus) st) (λ t st _. then_row (side refl (λ _. refl)) _ (f.unary_part st) (λ e st _. end_row refl)))
  unary_by k.Sizeof st at = choose g.unary_part 4 (λ x. x) st.tokens _ k.Sizeof (kind_next st.tokens) at refl refl
      (refl, then_row (side refl (λ _. refl)) _ (expect_reads k.Sizeof st) (λ t st _. last_row (side refl (λ _. refl)) (λ e. refl) (f.size_operand st)))
  unary_by (k.Mark p.And) st at = choose g.unary_part 3 (λ x. x) st.tokens _ (k.Mark p.And) (kind_next st.tokens) at refl refl
      (operator_reads (k.Mark p.And) un.Addr st at
      (choose g.unary_operator 0 (λ x. x) st.tokens _ (k.Mark p.And) (kind_next st.tokens) at refl refl (refl, then_row (side refl (λ _. refl)) _ (expect_reads (k.Mark p.And) st) (λ t st _. end_row refl))))
  unary_by (k.Mark p.Star) st at = choose g.unary_part 3 (λ x. x) st.tokens _ (k.Mark p.Star) (kind_next st.tokens) at refl refl
      (operator_reads (k.Mark p.Star) un.Deref st at
      (choose g.unary_operator 1 (λ x. x) st.tokens _ (k.Mark p.Star) (kind_next st.tokens) at refl refl (refl, then_row (side refl (λ _. refl)) _ (expect_reads (k.Mark p.Star) st) (λ t st _. end_row refl))))
  unary_by (k.Mark p.Plus) st at = choose g.unary_part 3 (λ x. x) st.tokens _ (k.Mark p.Plus) (kind_next st.tokens) at refl refl
      (operator_reads (k.Mark p.Plus) un.Plus st at
      (choose g.unary_operator 2 (λ x. x) st.tokens _ (k.Mark p.Plus) (kind_next st.tokens) at refl refl (refl, then_row (side refl (λ _. refl)) _ (expect_reads (k.Mark p.Plus) st) (λ t st _. end_row refl))))
  unary_by (k.Mark p.Minus) st at = choose g.unary_part 3 (λ x. x) st.tokens _ (k.Mark p.Minus) (kind_next st.tokens) at refl refl
      (operator_reads (k.Mark p.Minus) un.Minus st at
      (choose g.unary_operator 3 (λ x. x) st.tokens _ (k.Mark p.Minus) (kind_next st.tokens) at refl refl (refl, then_row (side refl (λ _. refl)) _ (expect_reads (k.Mark p.Minus) st) (λ t st _. end_row refl))))
  unary_by (k.Mark p.Tilde) st at = choose g.unary_part 3 (λ x. x) st.tokens _ (k.Mark p.Tilde) (kind_next st.tokens) at refl refl
      (operator_reads (k.Mark p.Tilde) un.Flip st at
      (choose g.unary_operator 4 (λ x. x) st.tokens _ (k.Mark p.Tilde) (kind_next st.tokens) at refl refl (refl, then_row (side refl (λ _. refl)) _ (expect_reads (k.Mark p.Tilde) st) (λ t st _. end_row refl))))
  unary_by (k.Mark p.Not) st at = choose g.unary_part 3 (λ x. x) st.tokens _ (k.Mark p.Not) (kind_next st.tokens) at refl refl
      (operator_reads (k.Mark p.Not) un.Not st at
      (choose g.unary_operator 5 (λ x. x) st.tokens _ (k.Mark p.Not) (kind_next st.tokens) at refl refl (refl, then_row (side refl (λ _. refl)) _ (expect_reads (k.Mark p.Not) st) (λ t st _. end_row refl))))
  unary_by _ st at = choose g.unary_part 0 (λ x. x) st.tokens _ _ (kind_next st.tokens) at refl refl (refl, last_row (side refl (λ _. refl)) (λ e. refl) (postfix_reads most levels inner f st))

  pub unary_reads : Reading most levels (ofs g.unary_part) (λ x. x) (read.unary_part most inner)
  unfolding read.unary_part
  unary_reads st = unary_by (kind_at st.tokens) st refl

  -- ---- casts: a type or an expression stands in parentheses, and the second token tells

  cast_by : (j l : Kind) (st : State) → kind_at st.tokens ≡ j → kind_next st.tokens ≡ l
      → Reads most levels st.counts (ofs g.cast_part) ExprData (λ x. x) st.tokens ((if read.is_type_in_parentheses most inner j l then (inner.type_in_parentheses >>= (λ t. inner.cast_part >>= (λ e. pure (cast t.0 t.1 e)))) else read.unary_part most inner) st)
  cast_by (k.Mark p.LeftParen) k.Const st at next = choose g.cast_part 0 (λ x. x) st.tokens _ (k.Mark p.LeftParen) k.Const at next refl
      (refl, then_row (side refl (λ _. refl)) _ (f.type_in_parentheses st) (λ t st _. then_row (side refl (λ _. refl)) _ (f.cast_part st) (λ e st _. end_row refl)))
  cast_by (k.Mark p.LeftParen) k.TypeWord st at next = choose g.cast_part 0 (λ x. x) st.tokens _ (k.Mark p.LeftParen) k.TypeWord at next refl
      (refl, then_row (side refl (λ _. refl)) _ (f.type_in_parentheses st) (λ t st _. then_row (side refl (λ _. refl)) _ (f.cast_part st) (λ e st _. end_row refl)))
  cast_by (k.Mark p.LeftParen) k.Varchar st at next = choose g.cast_part 0 (λ x. x) st.tokens _ (k.Mark p.LeftParen) k.Varchar at next refl
      (refl, then_row (side refl (λ _. refl)) _ (f.type_in_parentheses st) (λ t st _. then_row (side refl (λ _. refl)) _ (f.cast_part st) (λ e st _. end_row refl)))
  cast_by (k.Mark p.LeftParen) k.Struct st at next = choose g.cast_part 0 (λ x. x) st.tokens _ (k.Mark p.LeftParen) k.Struct at next refl
      (refl, then_row (side refl (λ _. refl)) _ (f.type_in_parentheses st) (λ t st _. then_row (side refl (λ _. refl)) _ (f.cast_part st) (λ e st _. end_row refl)))
  cast_by (k.Mark p.LeftParen) _ st at next = choose g.cast_part 1 (λ x. x) st.tokens _ (k.Mark p.LeftParen) _ at next refl (refl, last_row (side refl (λ _. refl)) (λ e. refl) (unary_reads st))
  cast_by _ l st at next = choose g.cast_part 1 (λ x. x) st.tokens _ _ l at next refl (refl, last_row (side refl (λ _. refl)) (λ e. refl) (unary_reads st))

  pub cast_reads : Reading most levels (ofs g.cast_part) (λ x. x) (read.cast_part most inner)
  unfolding read.cast_part
  cast_reads st = cast_by (kind_at st.tokens) (kind_next st.tokens) st refl refl

  size_by : (j l : Kind) (st : State) → kind_at st.tokens ≡ j → kind_next st.tokens ≡ l
      → Reads most levels st.counts (ofs g.size_operand) ExprData (λ x. x) st.tokens ((if read.is_type_in_parentheses most inner j l then (inner.type_in_parentheses >>= (λ t. pure (size_type t.0 t.1))) else (read.unary_part most inner >>= (λ e. pure (size_expr e)))) st)
  size_by (k.Mark p.LeftParen) k.Const st at next = choose g.size_operand 1 (λ x. x) st.tokens _ (k.Mark p.LeftParen) k.Const at next refl
      (refl, then_row (side refl (λ _. refl)) _ (f.type_in_parentheses st) (λ t st _. end_row refl))
  size_by (k.Mark p.LeftParen) k.TypeWord st at next = choose g.size_operand 1 (λ x. x) st.tokens _ (k.Mark p.LeftParen) k.TypeWord at next refl
      (refl, then_row (side refl (λ _. refl)) _ (f.type_in_parentheses st) (λ t st _. end_row refl))
  size_by (k.Mark p.LeftParen) k.Varchar st at next = choose g.size_operand 1 (λ x. x) st.tokens _ (k.Mark p.LeftParen) k.Varchar at next refl
      (refl, then_row (side refl (λ _. refl)) _ (f.type_in_parentheses st) (λ t st _. end_row refl))
  size_by (k.Mark p.LeftParen) k.Struct st at next = choose g.size_operand 1 (λ x. x) st.tokens _ (k.Mark p.LeftParen) k.Struct at next refl
      (refl, then_row (side refl (λ _. refl)) _ (f.type_in_parentheses st) (λ t st _. end_row refl))
  size_by (k.Mark p.LeftParen) _ st at next = choose g.size_operand 0 (λ x. x) st.tokens _ (k.Mark p.LeftParen) _ at next refl (refl, then_row (side refl (λ _. refl)) _ (unary_reads st) (λ e st _. end_row refl))
  size_by _ l st at next = choose g.size_operand 0 (λ x. x) st.tokens _ _ l at next refl (refl, then_row (side refl (λ _. refl)) _ (unary_reads st) (λ e st _. end_row refl))

  pub size_reads : Reading most levels (ofs g.size_operand) (λ x. x) (read.size_operand most inner)
  unfolding read.size_operand
  size_reads st = size_by (kind_at st.tokens) (kind_next st.tokens) st refl refl
