use Rattle.std.proofs.Common.{◌≡◌, ◌+◌, ◌-◌, ◌*◌}
use Rattle.ec_ctypes.specs.views.Exprs.{expr_view}
use Rattle.ec_grammar.specs.ReadDeclarations.{nested}
use Rattle.ec_grammar.specs.ReadExpressions.{operands, operands_from, operand_of}
use Rattle.ec_language.specs.Syntax.{limits}
use Rattle.ec_cexpressions.specs.Ranks.{rank_view, looseness}
use Rattle.ec_cursor.specs.States.{seen}
use Rattle.ec_cexpressions.proofs.expressions.Expressions.+operands.Given as goal

-- the operators of a rank, then those behind the first operand, then the loop, then its operand
abbrev pub decreases-operators : goal.decreases-operators
decreases-operators g l = 4 * looseness l.rank + 3

abbrev pub decreases-operators_behind : goal.decreases-operators_behind
decreases-operators_behind g l = 4 * looseness l.rank + 2

abbrev pub decreases-operands : goal.decreases-operands
decreases-operands g l = 4 * looseness l.rank + 1

abbrev pub decreases-operand : goal.decreases-operand
decreases-operand g l = 4 * looseness l.rank

abbrev pub invariant-operands-loop-turn : goal.invariant-operands-loop-turn
invariant-operands-loop-turn g l =
    operands limits (nested limits l.self.levels) (rank_view l.rank) (operand_of limits (nested limits l.self.levels) (rank_view l.rank)) (expr_view l.fn.left) (seen l.fn.cursor)
    ≡ operands_from limits (nested limits l.self.levels) (rank_view l.rank) (operand_of limits (nested limits l.self.levels) (rank_view l.rank)) (l._turn-end - l._turn) (expr_view l.left) (seen l.cursor)
