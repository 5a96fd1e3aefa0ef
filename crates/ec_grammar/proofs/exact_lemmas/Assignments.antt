-- Assignments, whole expressions, and what holds them.
use Rattle.std.proofs.Common.{◌≡◌, ℕ, zero, suc, ◌≤◌, ◌<◌, true, false, List, [], ◌∷◌, ◌++◌, length, refl, ap, sym, arith, append_assoc, Option, Some, None}
use Rattle.std.proofs.lemmas.List.{append-nil}
use Rattle.ec_ctypes.specs.declared.text.token.Punct.{Punct}
use Rattle.ec_ctypes.specs.declared.text.token.Punct.TheVariants as p
use Rattle.ec_ctypes.specs.declared.tree.expr.BinOp.{BinOp}
use Rattle.ec_ctypes.specs.declared.tree.expr.BinOp.TheVariants as bin
use Rattle.ec_ctypes.specs.trees.Exprs.{ExprData, assign}
use Rattle.ec_language.specs.Productions.{Production, operations, sym as ofs, nest, whole, or_rank, set_by, assignment_rule, productions}
use Rattle.ec_language.specs.Productions as g
use Rattle.ec_language.specs.Grammar.{PlacedTokens, Limits, Counts, in_expression}
use Rattle.ec_grammar.specs.declared.kind.Kind.{Kind}
use Rattle.ec_grammar.specs.declared.kind.Kind.TheVariants as k
use Rattle.ec_grammar.specs.Input.{State, state, ◌>>=◌, pure, and_then, kind_at, kind_next, expect}
use Rattle.ec_grammar.specs.Lists.{separated, separated_from}
use Rattle.ec_grammar.specs.Nested.{Nested}
use Rattle.ec_grammar.specs.Starts.{begins_expression, is_comma}
use Rattle.ec_grammar.specs.ReadExpressions as read
use Rattle.ec_grammar.proofs.exact_lemmas.Follow.{sets}
use Rattle.ec_grammar.proofs.exact_lemmas.Exact.{Reads, then_row, last_row, end_row, shorter}
use Rattle.ec_grammar.proofs.exact_lemmas.Choose.{side, choose, when, choose_if, At, others, lost, row_at}
use Rattle.ec_grammar.proofs.exact_lemmas.Nests.{expect_reads, counted_reads, whole_reads}
use Rattle.ec_grammar.proofs.exact_lemmas.Joins.{rejoined, along_row}
use Rattle.ec_grammar.proofs.exact_lemmas.Lists.{exprs_in}
use Rattle.ec_grammar.proofs.exact_lemmas.Inner.{Reading, ReadsInner}
use Rattle.ec_grammar.proofs.exact_lemmas.Operators.{operators_reads}

module _ (most : Limits) (levels : ℕ) (inner : Nested) (f : ReadsInner most levels inner) where
  set_reads : (x : Punct × Option BinOp) (n : ℕ) → ((l : Kind) → others (lost g.assignment_option (row_at (productions g.assignment_option) 1) (k.Mark x.0) l) (productions g.assignment_option) 1 ≡ true)
      → ((l : Kind) → others (lost g.assignment_operator (row_at (productions g.assignment_operator) n) (k.Mark x.0) l) (productions g.assignment_operator) n ≡ true)
      → ((H : Production (Option BinOp) → Type 0) → H (assignment_rule x) → At (productions g.assignment_operator) n H)
      → (left : ExprData) (st : State) → kind_at st.tokens ≡ k.Mark x.0
      → Reads most levels st.counts (ofs g.assignment_option) ExprData (λ v. set_by left v) st.tokens (read.assigned most inner left (k.Mark x.0) (Some x.1) st)
  set_reads x n t1 t2 pick left st at =
      let part : Reads most levels st.counts (ofs g.assignment_operator) (Option BinOp) (λ y. y) st.tokens (and_then (expect (k.Mark x.0) st) (λ _. pure x.1)) =
      choose g.assignment_operator n (λ y. y) st.tokens _ (k.Mark x.0) (kind_next st.tokens) at refl (t2 (kind_next st.tokens))
      (pick _ (refl, then_row (side refl (λ _. refl)) _ (expect_reads (k.Mark x.0) st) (λ t mid _. end_row refl))) in
      choose g.assignment_option 1 (λ v. set_by left v) st.tokens _ (k.Mark x.0) (kind_next st.tokens) at refl (t1 (kind_next st.tokens)) (
        refl,
        along_row (rejoined (expect (k.Mark x.0) st) (λ _. pure x.1) (λ op. inner.assignment >>= (λ right. pure (assign op left right))))
            (then_row (side refl (λ _. refl)) _ part (λ op mid _. then_row (side refl (λ _. refl)) _ (f.assignment mid) (λ e mid _. end_row refl))),
      )

  assigned_by : (left : ExprData) (j : Kind) (st : State) → kind_at st.tokens ≡ j → Reads most levels st.counts (ofs g.assignment_option) ExprData (λ v. set_by left v) st.tokens (read.assigned most inner left j (read.assignment_operator j) st)
  assigned_by left (k.Mark p.Assign) st at = set_reads (p.Assign, None) 0 (λ l. refl) (λ l. refl) (λ H x. x) left st at
  assigned_by left (k.Mark p.PlusAssign) st at = set_reads (p.PlusAssign, Some bin.Add) 1 (λ l. refl) (λ l. refl) (λ H x. x) left st at
  assigned_by left (k.Mark p.MinusAssign) st at = set_reads (p.MinusAssign, Some bin.Sub) 2 (λ l. refl) (λ l. refl) (λ H x. x) left st at
  assigned_by left (k.Mark p.StarAssign) st at = set_reads (p.StarAssign, Some bin.Mul) 3 (λ l. refl) (λ l. refl) (λ H x. x) left st at
  assigned_by left (k.Mark p.SlashAssign) st at = set_reads (p.SlashAssign, Some bin.Div) 4 (λ l. refl) (λ l. refl) (λ H x. x) left st at
  assigned_by left (k.Mark p.PercentAssign) st at = set_reads (p.PercentAssign, Some bin.Rem) 5 (λ l. refl) (λ l. refl) (λ H x. x) left st at
  assigned_by left (k.Mark p.ShlAssign) st at = set_reads (p.ShlAssign, Some bin.Shl) 6 (λ l. refl) (λ l. refl) (λ H x. x) left st at
  assigned_by left (k.Mark p.ShrAssign) st at = set_reads (p.ShrAssign, Some bin.Shr) 7 (λ l. refl) (λ l. refl) (λ H x. x) left st at
  assigned_by left (k.Mark p.AndAssign) st at = set_reads (p.AndAssign, Some bin.BitAnd) 8 (λ l. refl) (λ l. refl) (λ H x. x) left st at
  assigned_by left (k.Mark p.CaretAssign) st at = set_reads (p.CaretAssign, Some bin.BitXor) 9 (λ l. refl) (λ l. refl) (λ H x. x) left st at
  assigned_by left (k.Mark p.OrAssign) st at = set_reads (p.OrAssign, Some bin.BitOr) 10 (λ l. refl) (λ l. refl) (λ H x. x) left st at
  assigned_by left j st at = choose_if g.assignment_option 0 (λ v. set_by left v) st.tokens sets false (ap sets at) refl ((λ x y. refl), end_row refl)

  pub assignment_reads : Reading most levels (ofs g.assignment) (λ x. x) (read.assignment most inner)
  unfolding read.assignment read.assignment_option
  assignment_reads st = choose g.assignment 0 (λ x. x) st.tokens _ (kind_at st.tokens) (kind_next st.tokens) refl refl refl
      (refl, then_row (side refl (λ _. refl)) _ (operators_reads most levels inner f st) (λ x mid _. last_row (side refl (λ _. refl)) (λ v. refl) (assigned_by x (kind_at mid.tokens) mid refl)))

  pub expression_reads : Reading most levels (whole g.assignment) (λ x. x) (read.expression most inner)
  unfolding read.expression
  expression_reads st = whole_reads (read.assignment most inner) st (assignment_reads (state st.tokens (in_expression st.counts)))

  pub option_reads : Reading most levels (ofs g.expression_option) (λ x. x) (read.expression_option most inner)
  unfolding read.expression_option
  option_reads st = when (begins_expression (kind_at st.tokens)) _ _
      (λ yes. choose_if g.expression_option 1 (λ x. x) st.tokens begins_expression true yes refl (refl, then_row (side refl (λ _. refl)) _ (expression_reads st) (λ e mid _. end_row refl)))
      (λ no. choose_if g.expression_option 0 (λ x. x) st.tokens begins_expression false no refl ((λ x y. refl), end_row refl))

  -- ---- in parentheses and brackets

  pub parenthesized_reads : Reading most levels (ofs g.parenthesized) (λ x. x) (read.parenthesized most inner)
  unfolding read.parenthesized
  parenthesized_reads st = choose g.parenthesized 0 (λ x. x) st.tokens _ (kind_at st.tokens) (kind_next st.tokens) refl refl refl (
    refl,
    then_row (side refl (λ _. refl)) _ (expect_reads (k.Mark p.LeftParen) st) (λ t mid _. then_row (side refl (λ _. refl)) _ (expression_reads mid)
        (λ e mid _. then_row (side refl (λ _. refl)) _ (expect_reads (k.Mark p.RightParen) mid) (λ t mid _. end_row refl))),
  )

  pub index_reads : Reading most levels (ofs g.index_part) (λ x. x) (read.index_part most inner)
  unfolding read.index_part
  index_reads st = choose g.index_part 0 (λ x. x) st.tokens _ (kind_at st.tokens) (kind_next st.tokens) refl refl refl (
    refl,
    then_row (side refl (λ _. refl)) _ (counted_reads operations (k.Mark p.LeftBracket) st) (λ t mid _. then_row (side refl (λ _. refl)) _ (expression_reads mid)
        (λ e mid _. then_row (side refl (λ _. refl)) _ (expect_reads (k.Mark p.RightBracket) mid) (λ t mid _. end_row refl))),
  )

  more_read : (m : ℕ) (found : List ExprData) (w : PlacedTokens) (c : Counts) → length w ≤ m → Reads most levels c (ofs g.more_arguments) (List ExprData) (λ v. found ++ exprs_in v) w (separated_from (read.expression most inner) m found (state w c))
  unfolding separated_from
  more_read zero found [] c le = choose g.more_arguments 0 (λ v. found ++ exprs_in v) [] _ k.End k.End refl refl refl ((λ x y. refl), end_row (sym (append-nil found)))
  more_read zero found (t ∷ w) c le = absurd (omega arith)
  more_read (suc m) found w c le = when (is_comma (kind_at w)) _ _
      (λ yes. choose_if g.more_arguments 1 (λ v. found ++ exprs_in v) w is_comma true yes refl (
        refl,
        then_row (side refl (λ _. refl)) _ (expect_reads (k.Mark p.Comma) (state w c)) (λ t st a. then_row (side refl (λ _. refl)) _ (expression_reads st)
            (λ x mid b. last_row (side refl (λ _. refl)) (λ v. append_assoc found (x ∷ []) (exprs_in v))
            (more_read m (found ++ x ∷ []) mid.tokens mid.counts (let l1 : length st.tokens < length w = shorter refl a in let l2 : length mid.tokens < length st.tokens = shorter refl b in omega arith)))),
      ))
      (λ no. choose_if g.more_arguments 0 (λ v. found ++ exprs_in v) w is_comma false no refl ((λ x y. refl), end_row (sym (append-nil found))))

  arguments_read : Reading most levels (ofs g.arguments) exprs_in (read.arguments most inner)
  unfolding read.arguments separated
  arguments_read st = when (begins_expression (kind_at st.tokens)) _ _
      (λ yes. choose_if g.arguments 1 exprs_in st.tokens begins_expression true yes refl
      (refl, then_row (side refl (λ _. refl)) _ (expression_reads st) (λ x mid _. last_row (side refl (λ _. refl)) (λ v. refl) (more_read (length mid.tokens) (x ∷ []) mid.tokens mid.counts (omega arith)))))
      (λ no. choose_if g.arguments 0 exprs_in st.tokens begins_expression false no refl ((λ x y. refl), end_row refl))

  pub argument_reads : Reading most levels (ofs g.argument_part) exprs_in (read.argument_part most inner)
  unfolding read.argument_part
  argument_reads st = choose g.argument_part 0 exprs_in st.tokens _ (kind_at st.tokens) (kind_next st.tokens) refl refl refl (
    refl,
    then_row (side refl (λ _. refl)) _ (counted_reads operations (k.Mark p.LeftParen) st) (λ t mid _. then_row (side refl (λ _. refl)) _ (arguments_read mid)
        (λ e mid _. then_row (side refl (λ _. refl)) _ (expect_reads (k.Mark p.RightParen) mid) (λ t mid _. end_row refl))),
  )
