-- Expressions, read from the front: one function for each symbol of the grammar. A loop has so many turns at most, and what it has found so far.
use Rattle.std.specs.Prelude.{ℕ, zero, suc, Bool, true, false, List, [], ◌∷◌, length, Option, Some, None, if◌then◌else◌}
use Rattle.ec_ctypes.specs.declared.text.token.Punct.TheVariants as p
use Rattle.ec_ctypes.specs.declared.tree.expr.UnOp.{UnOp}
use Rattle.ec_ctypes.specs.declared.tree.expr.UnOp.TheVariants as un
use Rattle.ec_ctypes.specs.declared.tree.expr.BinOp.{BinOp}
use Rattle.ec_ctypes.specs.declared.tree.expr.BinOp.TheVariants as bin
use Rattle.ec_ctypes.specs.trees.Exprs.{ExprData, integer, character, string, unary, binary, assign, bump, call, call_other, index, member, arrow, cast, size_type, size_expr}
use Rattle.ec_ctypes.specs.views.Exprs.{exprs_of}
use Rattle.ec_language.specs.Productions.{operations, Primary, named, bare_name, text_of, number_of, type_in, character_in, Rank, or_rank, and_rank, bit_or_rank, bit_xor_rank, bit_and_rank, equal_rank, relation_rank, shift_rank, add_rank, multiply_rank}
use Rattle.ec_language.specs.Grammar.{Limits}
use Rattle.ec_grammar.specs.declared.kind.Kind.{Kind}
use Rattle.ec_grammar.specs.declared.kind.Kind.TheVariants as k
use Rattle.ec_grammar.specs.Input.{Parser, ◌>>=◌, ◌>>◌, pure, refuse, peek, peek_next, expect, expect_counted, whole}
use Rattle.ec_grammar.specs.Lists.{separated}
use Rattle.ec_grammar.specs.Nested.{Nested}
use Rattle.ec_grammar.specs.Starts.{begins_type, begins_postfix_part, begins_expression}

-- ---- operators

abbrev pub unary_operator : Kind → Option UnOp
unary_operator (k.Mark p.And) = Some un.Addr
unary_operator (k.Mark p.Star) = Some un.Deref
unary_operator (k.Mark p.Plus) = Some un.Plus
unary_operator (k.Mark p.Minus) = Some un.Minus
unary_operator (k.Mark p.Tilde) = Some un.Flip
unary_operator (k.Mark p.Not) = Some un.Not
unary_operator _ = None

-- of an assignment: `=` has none of its own
abbrev pub assignment_operator : Kind → Option (Option BinOp)
assignment_operator (k.Mark p.Assign) = Some None
assignment_operator (k.Mark p.PlusAssign) = Some (Some bin.Add)
assignment_operator (k.Mark p.MinusAssign) = Some (Some bin.Sub)
assignment_operator (k.Mark p.StarAssign) = Some (Some bin.Mul)
assignment_operator (k.Mark p.SlashAssign) = Some (Some bin.Div)
assignment_operator (k.Mark p.PercentAssign) = Some (Some bin.Rem)
assignment_operator (k.Mark p.ShlAssign) = Some (Some bin.Shl)
assignment_operator (k.Mark p.ShrAssign) = Some (Some bin.Shr)
assignment_operator (k.Mark p.AndAssign) = Some (Some bin.BitAnd)
assignment_operator (k.Mark p.CaretAssign) = Some (Some bin.BitXor)
assignment_operator (k.Mark p.OrAssign) = Some (Some bin.BitOr)
assignment_operator _ = None

abbrev pub binary_operator : Rank → Kind → Option BinOp
binary_operator or_rank (k.Mark p.OrOr) = Some bin.Or
binary_operator and_rank (k.Mark p.AndAnd) = Some bin.And
binary_operator bit_or_rank (k.Mark p.Or) = Some bin.BitOr
binary_operator bit_xor_rank (k.Mark p.Caret) = Some bin.BitXor
binary_operator bit_and_rank (k.Mark p.And) = Some bin.BitAnd
binary_operator equal_rank (k.Mark p.EqualEqual) = Some bin.Eq
binary_operator equal_rank (k.Mark p.NotEqual) = Some bin.Ne
binary_operator relation_rank (k.Mark p.Less) = Some bin.Lt
binary_operator relation_rank (k.Mark p.Greater) = Some bin.Gt
binary_operator relation_rank (k.Mark p.LessEqual) = Some bin.Le
binary_operator relation_rank (k.Mark p.GreaterEqual) = Some bin.Ge
binary_operator shift_rank (k.Mark p.Shl) = Some bin.Shl
binary_operator shift_rank (k.Mark p.Shr) = Some bin.Shr
binary_operator add_rank (k.Mark p.Plus) = Some bin.Add
binary_operator add_rank (k.Mark p.Minus) = Some bin.Sub
binary_operator multiply_rank (k.Mark p.Star) = Some bin.Mul
binary_operator multiply_rank (k.Mark p.Slash) = Some bin.Div
binary_operator multiply_rank (k.Mark p.Percent) = Some bin.Rem
binary_operator _ _ = None

-- a primary expression or what is built on it, and whether it is a bare name
abbrev pub primary_of : ExprData → Primary
primary_of e = record { expression = e; is_name = false }

-- A call of a bare name is a call by that name.
abbrev pub called_by : Primary → List ExprData → ExprData
called_by x es =
    if x.is_name
    then call (bare_name x) (exprs_of es)
    else call_other x.expression (exprs_of es)

module _ (most : Limits) (inner : Nested) where
  -- ---- primary expressions and what stands behind them

  abbrev pub primary_by : Kind → Parser Primary
  primary_by k.Name = do t ← expect k.Name; pure (named (text_of t))
  primary_by k.Integer = do
    t ← expect k.Integer
    pure (primary_of (integer (number_of t) (type_in t.token.tok)))
  primary_by k.Character = do
    t ← expect k.Character
    pure (primary_of (character (character_in t.token.tok)))
  primary_by k.Text = do t ← expect k.Text; pure (primary_of (string (text_of t)))
  primary_by (k.Mark p.LeftParen) = do e ← inner.parenthesized; pure (primary_of e)
  primary_by _ = refuse

  unfoldable pub primary : Parser Primary
  primary = peek >>= primary_by

  abbrev pub postfix_part_by : Primary → Kind → Parser Primary
  postfix_part_by left (k.Mark p.LeftBracket) = do
    i ← inner.index_part
    pure (primary_of (index left.expression i))
  postfix_part_by left (k.Mark p.Dot) = do
    expect_counted most operations (k.Mark p.Dot)
    t ← expect k.Name
    pure (primary_of (member left.expression (text_of t)))
  postfix_part_by left (k.Mark p.Arrow) = do
    expect_counted most operations (k.Mark p.Arrow)
    t ← expect k.Name
    pure (primary_of (arrow left.expression (text_of t)))
  postfix_part_by left (k.Mark p.PlusPlus) = do
    expect_counted most operations (k.Mark p.PlusPlus)
    pure (primary_of (bump false true left.expression))
  postfix_part_by left (k.Mark p.MinusMinus) = do
    expect_counted most operations (k.Mark p.MinusMinus)
    pure (primary_of (bump false false left.expression))
  postfix_part_by left (k.Mark p.LeftParen) = do
    es ← inner.argument_part
    pure (primary_of (called_by left es))
  postfix_part_by left _ = refuse

  unfoldable pub postfix_part : Primary → Parser Primary
  postfix_part left = peek >>= postfix_part_by left

  unfoldable pub postfix_parts_from : ℕ → Primary → Parser Primary
  postfix_parts_from zero left = pure left
  postfix_parts_from (suc m) left = do
    j ← peek
    if begins_postfix_part j then (do x ← postfix_part left; postfix_parts_from m x) else pure left

  unfoldable pub postfix_parts : Primary → Parser Primary
  postfix_parts left = λ i. postfix_parts_from (length i.tokens) left i

  unfoldable pub postfix : Parser ExprData
  postfix = do x ← primary; y ← postfix_parts x; pure y.expression

  -- ---- unary expressions and casts

  abbrev pub applied : Option UnOp → Kind → Parser ExprData
  applied (Some op) j = do expect j; e ← inner.cast_part; pure (unary op e)
  applied None j = postfix

  abbrev pub unary_part_by : Kind → Parser ExprData
  unary_part_by (k.Mark p.PlusPlus) = do
    expect (k.Mark p.PlusPlus)
    e ← inner.unary_part
    pure (bump true true e)
  unary_part_by (k.Mark p.MinusMinus) = do
    expect (k.Mark p.MinusMinus)
    e ← inner.unary_part
    pure (bump true false e)
  unary_part_by k.Sizeof = do expect k.Sizeof; inner.size_operand
  unary_part_by j = applied (unary_operator j) j

  unfoldable pub unary_part : Parser ExprData
  unary_part = peek >>= unary_part_by

  abbrev pub is_type_in_parentheses : Kind → Kind → Bool
  is_type_in_parentheses (k.Mark p.LeftParen) l = begins_type l
  is_type_in_parentheses _ l = false

  unfoldable pub cast_part : Parser ExprData
  cast_part = do
    j ← peek
    l ← peek_next
    if is_type_in_parentheses j l
        then (do t ← inner.type_in_parentheses; e ← inner.cast_part; pure (cast t.0 t.1 e))
        else unary_part

  unfoldable pub size_operand : Parser ExprData
  size_operand = do
    j ← peek
    l ← peek_next
    if is_type_in_parentheses j l
        then (do t ← inner.type_in_parentheses; pure (size_type t.0 t.1))
        else (do e ← unary_part; pure (size_expr e))

  -- ---- binary operators, to the left

  -- Behind an operand of a rank, operators of that rank and further operands.
  abbrev pub operated : Parser ExprData → (ExprData → Parser ExprData) → ExprData → Kind
      → Option BinOp → Parser ExprData
  operated operand more left j (Some op) = do
    expect_counted most operations j
    right ← operand
    more (binary op left right)
  operated operand more left j None = pure left

  unfoldable pub operands_from : Rank → Parser ExprData → ℕ → ExprData → Parser ExprData
  operands_from r operand zero left = pure left
  operands_from r operand (suc m) left = do
    j ← peek
    operated operand (operands_from r operand m) left j (binary_operator r j)

  unfoldable pub operands : Rank → Parser ExprData → ExprData → Parser ExprData
  operands r operand left = λ i. operands_from r operand (length i.tokens) left i

  abbrev pub ranked : Rank → Parser ExprData → Parser ExprData
  ranked r operand = do e ← operand; operands r operand e

  -- the operands of each rank: those of the next tighter rank, with its operators
  unfoldable pub multiply_operand : Parser ExprData
  multiply_operand = cast_part

  unfoldable pub add_operand : Parser ExprData
  add_operand = ranked multiply_rank multiply_operand

  unfoldable pub shift_operand : Parser ExprData
  shift_operand = ranked add_rank add_operand

  unfoldable pub relation_operand : Parser ExprData
  relation_operand = ranked shift_rank shift_operand

  unfoldable pub equal_operand : Parser ExprData
  equal_operand = ranked relation_rank relation_operand

  unfoldable pub bit_and_operand : Parser ExprData
  bit_and_operand = ranked equal_rank equal_operand

  unfoldable pub bit_xor_operand : Parser ExprData
  bit_xor_operand = ranked bit_and_rank bit_and_operand

  unfoldable pub bit_or_operand : Parser ExprData
  bit_or_operand = ranked bit_xor_rank bit_xor_operand

  unfoldable pub and_operand : Parser ExprData
  and_operand = ranked bit_or_rank bit_or_operand

  unfoldable pub or_operand : Parser ExprData
  or_operand = ranked and_rank and_operand

  abbrev pub operand_of : Rank → Parser ExprData
  operand_of or_rank = or_operand
  operand_of and_rank = and_operand
  operand_of bit_or_rank = bit_or_operand
  operand_of bit_xor_rank = bit_xor_operand
  operand_of bit_and_rank = bit_and_operand
  operand_of equal_rank = equal_operand
  operand_of relation_rank = relation_operand
  operand_of shift_rank = shift_operand
  operand_of add_rank = add_operand
  operand_of multiply_rank = multiply_operand

  unfoldable pub operators : Rank → Parser ExprData
  operators r = ranked r (operand_of r)

  -- ---- assignments

  abbrev pub assigned : ExprData → Kind → Option (Option BinOp) → Parser ExprData
  assigned left j (Some op) = do expect j; right ← inner.assignment; pure (assign op left right)
  assigned left j None = pure left

  unfoldable pub assignment_option : ExprData → Parser ExprData
  assignment_option left = do
    j ← peek
    assigned left j (assignment_operator j)

  unfoldable pub assignment : Parser ExprData
  assignment = do e ← operators or_rank; assignment_option e

  unfoldable pub expression : Parser ExprData
  expression = whole assignment

  unfoldable pub expression_option : Parser (Option ExprData)
  expression_option = do
    j ← peek
    if begins_expression j then (do e ← expression; pure (Some e)) else pure None

  -- ---- in parentheses and brackets

  unfoldable pub parenthesized : Parser ExprData
  parenthesized = do
    expect (k.Mark p.LeftParen)
    e ← expression
    expect (k.Mark p.RightParen)
    pure e

  unfoldable pub index_part : Parser ExprData
  index_part = do
    expect_counted most operations (k.Mark p.LeftBracket)
    e ← expression
    expect (k.Mark p.RightBracket)
    pure e

  abbrev pub more_arguments : List ExprData → Parser (List ExprData)
  more_arguments = separated expression

  unfoldable pub arguments : Parser (List ExprData)
  arguments = do
    j ← peek
    if begins_expression j then (do e ← expression; more_arguments (e ∷ [])) else pure []

  unfoldable pub argument_part : Parser (List ExprData)
  argument_part = do
    expect_counted most operations (k.Mark p.LeftParen)
    es ← arguments
    expect (k.Mark p.RightParen)
    pure es
