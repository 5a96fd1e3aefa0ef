-- Binary operators with their ranks.
use Rattle.std.specs.Prelude.{ℕ, Bool, Option, Some, None, if◌then◌else◌}
use denote.Enum.Bare.{sameb}
use Rattle.ec_ctypes.specs.declared.text.token.Punct.TheVariants as p
use Rattle.ec_ctypes.specs.declared.tree.expr.BinOp.{BinOp}
use Rattle.ec_ctypes.specs.declared.tree.expr.BinOp.TheVariants as bin
use Rattle.ec_language.specs.Productions as g
use Rattle.ec_grammar.specs.declared.kind.Kind.{Kind}
use Rattle.ec_grammar.specs.declared.kind.Kind.TheVariants as k
use Rattle.ec_cexpressions.specs.contracts.expressions.ranks.Rank.{the_type}
use Rattle.ec_cexpressions.specs.declared.expressions.ranks.Operator.{Operator}
use Rattle.ec_cexpressions.specs.declared.expressions.ranks.Rank.{Rank}
use Rattle.ec_cexpressions.specs.declared.expressions.ranks.Rank.TheVariants as rank

abbrev pub rank_view : Rank → g.Rank
rank_view rank.Or = g.or_rank
rank_view rank.And = g.and_rank
rank_view rank.BitOr = g.bit_or_rank
rank_view rank.BitXor = g.bit_xor_rank
rank_view rank.BitAnd = g.bit_and_rank
rank_view rank.Equal = g.equal_rank
rank_view rank.Relation = g.relation_rank
rank_view rank.Shift = g.shift_rank
rank_view rank.Add = g.add_rank
rank_view rank.Multiply = g.multiply_rank

-- the next tighter rank
abbrev pub tighter_than : Rank → Option Rank
tighter_than rank.Or = Some rank.And
tighter_than rank.And = Some rank.BitOr
tighter_than rank.BitOr = Some rank.BitXor
tighter_than rank.BitXor = Some rank.BitAnd
tighter_than rank.BitAnd = Some rank.Equal
tighter_than rank.Equal = Some rank.Relation
tighter_than rank.Relation = Some rank.Shift
tighter_than rank.Shift = Some rank.Add
tighter_than rank.Add = Some rank.Multiply
tighter_than rank.Multiply = None

-- how many ranks are tighter
abbrev pub looseness : Rank → ℕ
looseness rank.Or = 9
looseness rank.And = 8
looseness rank.BitOr = 7
looseness rank.BitXor = 6
looseness rank.BitAnd = 5
looseness rank.Equal = 4
looseness rank.Relation = 3
looseness rank.Shift = 2
looseness rank.Add = 1
looseness rank.Multiply = 0

abbrev operator : Rank → BinOp → Option Operator
operator r op = Some (record { rank = r; op = op })

-- the binary operator that a kind is, with its rank
abbrev pub operator_in : Kind → Option Operator
operator_in (k.Mark p.OrOr) = operator rank.Or bin.Or
operator_in (k.Mark p.AndAnd) = operator rank.And bin.And
operator_in (k.Mark p.Or) = operator rank.BitOr bin.BitOr
operator_in (k.Mark p.Caret) = operator rank.BitXor bin.BitXor
operator_in (k.Mark p.And) = operator rank.BitAnd bin.BitAnd
operator_in (k.Mark p.EqualEqual) = operator rank.Equal bin.Eq
operator_in (k.Mark p.NotEqual) = operator rank.Equal bin.Ne
operator_in (k.Mark p.Less) = operator rank.Relation bin.Lt
operator_in (k.Mark p.Greater) = operator rank.Relation bin.Gt
operator_in (k.Mark p.LessEqual) = operator rank.Relation bin.Le
operator_in (k.Mark p.GreaterEqual) = operator rank.Relation bin.Ge
operator_in (k.Mark p.Shl) = operator rank.Shift bin.Shl
operator_in (k.Mark p.Shr) = operator rank.Shift bin.Shr
operator_in (k.Mark p.Plus) = operator rank.Add bin.Add
operator_in (k.Mark p.Minus) = operator rank.Add bin.Sub
operator_in (k.Mark p.Star) = operator rank.Multiply bin.Mul
operator_in (k.Mark p.Slash) = operator rank.Multiply bin.Div
operator_in (k.Mark p.Percent) = operator rank.Multiply bin.Rem
operator_in _ = None

abbrev pub same_rank : Rank → Rank → Bool
same_rank = sameb the_type

-- the operator, if it is of this rank
abbrev pub of_rank : Rank → Option Operator → Option BinOp
of_rank r (Some x) = if same_rank x.rank r then Some x.op else None
of_rank r None = None
