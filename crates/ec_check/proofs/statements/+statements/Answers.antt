use Rattle.std.proofs.Common.{◌∙◌, refl, sym, ap}
use Rattle.ec_ctypes.specs.trees.Stmts.{if_stmt}
use Rattle.ec_ctypes.specs.views.Exprs.{expr_view}
use Rattle.ec_ctypes.specs.views.Stmts.{stmt_view, kind_view, stmt_option_view}
use Rattle.ec_typing_defs.specs.Statements.{statement_kind}
use Rattle.ec_scopes.specs.Entries.{place_view}
use Rattle.ec_scopes.specs.Seen.{world_of}
use Rattle.ec_scopes.proofs.Steps.{then_done, done_as}
use Rattle.ec_check.proofs.Seeing.{if_seen, if_parts}
use Rattle.ec_embedded_rules.specs.Around.{around_view}
use Rattle.ec_check.proofs.Loops.{stmts_step}
use Rattle.ec_check.proofs.statements.+statements.Goals as goal

pub statements-loop-s-preserved : goal.statements-loop-s-preserved
statements-loop-s-preserved t c =
    stmts_step (around_view c.args.a) c.args.ss.now c.loop-s.s-index c.s-item.result c.loop-s-test.true c.s-item.is c.loop-s.invariant c.in_ok-statement.ensures

pub statement_kind-returns-in_ok-otherwise-in-If : goal.statement_kind-returns-in_ok-otherwise-in-If
statement_kind-returns-in_ok-otherwise-in-If t c =
    let a = around_view c.args.a in
    let at = place_view c.args.at in
    let w = world_of c.args.checker.now in
    let seen = ap kind_view c.in-If.is ∙ if_seen c.in-If.e c.in-If.s c.in-If.other
    ∙ (λ i. if_stmt (expr_view (sym c.get.ensures i)) (stmt_view (sym c.get-in-If.ensures i)) (stmt_option_view c.in-If.other)) in
    done_as
    ((λ i. if_parts at (expr_view c.get.result.now) (stmt_view c.get-in-If.result.now) (stmt_option_view c.in-If.other) (c.as_body.ensures i) (c.as_body-in-If.ensures i) w)
    ∙ ap (λ k. statement_kind a at k w) (sym seen)) refl refl
    (then_done _ _ c.in_ok-enter-in-If.ensures (then_done _ _
    (then_done _ _ c.in_ok-condition-in-If.ensures (then_done _ _
    (then_done _ _ c.in_ok-enter-in-If-2.ensures (then_done _ _ c.in_ok-statement-in-If.ensures c.leave-in-If.ensures))
    c.in_ok-otherwise-in-If.ensures))
    c.leave-in-If-2.ensures))
