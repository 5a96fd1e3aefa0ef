use Rattle.std.proofs.Common.{◌+◌, ◌-◌, ◌∙◌, ap, sym, subst, Ok, Err, rules, arith}
use Rattle.std.proofs.lemmas.Grind.{common_steps}
use Rattle.std.proofs.lemmas.Result.{err_from_is_err_and}
use Rattle.ec_ctypes.specs.trees.Exprs.{ExprData}
use Rattle.ec_ctypes.specs.views.Exprs.{expr_view}
use Rattle.ec_grammar.specs.Input.{Outcome, Reads}
use Rattle.ec_grammar.specs.ReadDeclarations.{nested}
use Rattle.ec_grammar.specs.ReadExpressions.{operands, operands_from, operand_of}
use Rattle.ec_language.specs.Syntax.{limits}
use Rattle.ec_cexpressions.specs.Ranks.{rank_view}
use Rattle.ec_cursor.specs.States.{seen}
use Rattle.ec_cexpressions.proofs.RankSteps.{looser_operand, tightest_operand, behind_looser, looser_failed, behind_tightest, one_operator, stops}
use Rattle.ec_cursor.proofs.Turns.{one_more, no_more}
use Rattle.ec_cexpressions.proofs.expressions.Expressions.+operands.Goals as goal

pub operand-returns-in-Some : goal.operand-returns-in-Some
operand-returns-in-Some g t c =
    let is = looser_operand (nested limits c.args.self.now.levels) c.args.rank c.in-Some.tighter (seen c.args.cursor.now) c.in-Some.ensures in
    subst (λ (o : Outcome ExprData). Reads expr_view o c.operators.result (seen c.operators.new.cursor)) (sym is) c.operators.ensures

pub operand-returns-in-None : goal.operand-returns-in-None
operand-returns-in-None g t c =
    let is = tightest_operand (nested limits c.args.self.now.levels) c.args.rank (seen c.args.cursor.now) c.in-None.ensures in
    subst (λ (o : Outcome ExprData). Reads expr_view o c.cast_part.result (seen c.cast_part.new.cursor)) (sym is) c.cast_part.ensures

pub operands-loop-turn-init : goal.operands-loop-turn-init
unfolding operands
operands-loop-turn-init g t c = first_of (search rules, grind (arith, common_steps))

pub operands-returns-in-None : goal.operands-returns-in-None
unfolding operands_from
operands-returns-in-None g t c =
    let e = one_more (λ n. operands_from limits (nested limits c.args.self.now.levels) (rank_view c.args.rank) (operand_of limits (nested limits c.args.self.now.levels) (rank_view c.args.rank)) n (expr_view c.loop-turn.left) (seen c.loop-turn.cursor)) _ c.loop-turn._turn c.loop-turn-test.true c.loop-turn.invariant in
    first_of (search rules, grind (arith, common_steps))

pub operands-returns-in_err-before-in-Some : goal.operands-returns-in_err-before-in-Some
unfolding operands_from
operands-returns-in_err-before-in-Some g t c =
    let e = one_more (λ n. operands_from limits (nested limits c.args.self.now.levels) (rank_view c.args.rank) (operand_of limits (nested limits c.args.self.now.levels) (rank_view c.args.rank)) n (expr_view c.loop-turn.left) (seen c.loop-turn.cursor)) _ c.loop-turn._turn c.loop-turn-test.true c.loop-turn.invariant in
    first_of (search rules, grind (arith, common_steps))

pub operands-returns-in_err-first-in-Some : goal.operands-returns-in_err-first-in-Some
unfolding operands_from
operands-returns-in_err-first-in-Some g t c =
    let e = one_more (λ n. operands_from limits (nested limits c.args.self.now.levels) (rank_view c.args.rank) (operand_of limits (nested limits c.args.self.now.levels) (rank_view c.args.rank)) n (expr_view c.loop-turn.left) (seen c.loop-turn.cursor)) _ c.loop-turn._turn c.loop-turn-test.true c.loop-turn.invariant in
    first_of (search rules, grind (arith, common_steps))

pub operands-loop-turn-preserved : goal.operands-loop-turn-preserved
unfolding operands_from
operands-loop-turn-preserved g t c =
    let e = one_more (λ n. operands_from limits (nested limits c.args.self.now.levels) (rank_view c.args.rank) (operand_of limits (nested limits c.args.self.now.levels) (rank_view c.args.rank)) n (expr_view c.loop-turn.left) (seen c.loop-turn.cursor)) _ c.loop-turn._turn c.loop-turn-test.true c.loop-turn.invariant in
    let kind = rw c.peek-kind.ensures at c.in-Some.ensures in
    let passed = rw c.in_ok-before-in-Some.ensures.value at c.expect_counted.ensures in
    let counted = rw c.peek-kind.ensures at passed in
    let operand = rw c.in_ok-first-in-Some.ensures.value at c.operand.ensures in
    let made = rw (c.in_ok-first-in-Some.ensures.same, c.in_ok-before-in-Some.ensures.same) at c.in_ok-left-in-Some.ensures in
    e ∙ one_operator (nested limits c.args.self.now.levels) (rank_view c.args.rank) (operand_of limits (nested limits c.args.self.now.levels) (rank_view c.args.rank)) (c.left-turn-end.result - (c.loop-turn._turn + 1)) c.in-Some.op
    (expr_view c.loop-turn.left) (expr_view c.in_ok-first-in-Some.second) counted.0 (seen c.loop-turn.cursor) (seen c.expect_counted.new.self) (seen c.operand.new.cursor) kind counted.1 operand
    ∙ ap (λ (x : ExprData). operands_from limits (nested limits c.args.self.now.levels) (rank_view c.args.rank) (operand_of limits (nested limits c.args.self.now.levels) (rank_view c.args.rank)) (c.left-turn-end.result - (c.loop-turn._turn + 1)) x (seen c.operand.new.cursor)) (sym made)

pub operands-returns : goal.operands-returns
unfolding operands_from
operands-returns g t c =
    let e = no_more (λ n. operands_from limits (nested limits c.args.self.now.levels) (rank_view c.args.rank) (operand_of limits (nested limits c.args.self.now.levels) (rank_view c.args.rank)) n (expr_view c.loop-turn.left) (seen c.loop-turn.cursor)) _ c.loop-turn._turn c.loop-turn-test.false c.loop-turn.invariant in
    first_of (search rules, grind (arith, common_steps))

pub operators-returns-in_err-first : goal.operators-returns-in_err-first
operators-returns-in_err-first g t c =
    let p = err_from_is_err_and c.from_residual.result c.from_residual.ensures.1 in
    rw (p.1, p.2) (λ given. stops (nested limits c.args.self.now.levels) (seen c.args.cursor.now) (Err c.in_err-first.field-0.0) tt (c.in_err-first.ensures given) c.args.rank)

pub operators-returns-in-None : goal.operators-returns-in-None
operators-returns-in-None g t c =
    stops (nested limits c.args.self.now.levels) (seen c.args.cursor.now) (Ok (expr_view c.in_ok-first.first, seen c.cast_part.new.cursor)) (sym (rw c.peek.ensures at c.in-None.ensures)) c.in_ok-first.ensures c.args.rank

pub operators_behind-returns-in_err-left-in-Some : goal.operators_behind-returns-in_err-left-in-Some
operators_behind-returns-in_err-left-in-Some g t c =
    let p = err_from_is_err_and c.from_residual.result c.from_residual.ensures.1 in
    λ before first. rw (p.1, p.2) (λ given. looser_failed (nested limits c.args.self.now.levels) c.args.rank c.in-Some.tighter before c.in_err-left-in-Some.field-0.0 c.in-Some.ensures (c.in_err-left-in-Some.ensures before first given))

pub operators_behind-returns-in_ok-left-in-Some : goal.operators_behind-returns-in_ok-left-in-Some
operators_behind-returns-in_ok-left-in-Some g t c = λ before first.
    let is = behind_looser (nested limits c.args.self.now.levels) c.args.rank c.in-Some.tighter before _ _ c.in-Some.ensures (c.in_ok-left-in-Some.ensures before first) in
    subst (λ (o : Outcome ExprData). Reads expr_view o c.operands.result (seen c.operands.new.cursor)) (sym is) c.operands.ensures

pub operators_behind-returns-in-None : goal.operators_behind-returns-in-None
operators_behind-returns-in-None g t c = λ before first.
    let is = behind_tightest (nested limits c.args.self.now.levels) c.args.rank before _ _ c.in-None.ensures first in
    subst (λ (o : Outcome ExprData). Reads expr_view o c.operands-in-None.result (seen c.operands-in-None.new.cursor)) (sym is) c.operands-in-None.ensures
