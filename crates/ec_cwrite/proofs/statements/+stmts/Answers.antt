use Rattle.std.proofs.Common.{◌≡◌, [], ◌∷◌, ◌++◌, ◌∙◌, refl, sym, subst, rules, append_assoc}
use Rattle.std.specs.Prelude.{codes}
use Rattle.ec_ctypes.specs.declared.tree.stmt.StmtKind.{the_lemmas}
use Rattle.ec_ctypes.specs.trees.Stmts.{if_stmt}
use Rattle.ec_ctypes.specs.views.Exprs.{expr_view}
use Rattle.ec_ctypes.specs.views.Stmts.{stmt_view, kind_view, stmts_view, stmt_option_view}
use Rattle.ec_writing_defs.specs.Chunks.{blank, line_end}
use Rattle.ec_writing_defs.specs.Expressions.{word, in_parens, expr_chunks}
use Rattle.ec_writing_defs.specs.Programs.{stmt_chunks, kind_chunks, items_chunks, else_chunks}
use Rattle.ec_cwrite.specs.Writes.{Writes}
use Rattle.ec_cwrite.proofs.Lists.{drop_item, each_kept}
use Rattle.ec_cwrite.proofs.Writing.{both}
use Rattle.ec_cwrite.proofs.statements.+stmts.Goals as goal

pub push_kind-returns-in_ok-push_else-in-If : goal.push_kind-returns-in_ok-push_else-in-If
push_kind-returns-in_ok-push_else-in-If t c =
    let e : kind_view c.args.kind.now ≡ if_stmt (expr_view c.get.result.now) (stmt_view c.get-in-If.result.now) (stmt_option_view c.in-If.other) = search (rules, the_lemmas) in
    let front = word (codes "if") ∷ blank ∷ in_parens (expr_chunks (expr_view c.get.result.now)) in
    let rest = stmt_chunks (stmt_view c.get-in-If.result.now) ++ else_chunks (stmt_option_view c.in-If.other) in
    subst (λ v. Writes c.args.out.now c.push_else.new.out (kind_chunks v)) (sym e)
    (subst (λ cs. Writes c.args.out.now c.push_else.new.out cs) (append_assoc front (line_end ∷ []) rest)
    (both c.in_ok-push_if_head-in-If.ensures (both c.in_ok-push_stmt-in-If.ensures c.in_ok-push_else-in-If.ensures)))

pub push_while-returns : goal.push_while-returns
push_while-returns t c = both c.in_ok-push_word.ensures (both c.in_ok-push_condition.ensures (both c.in_ok-push_line_end.ensures c.in_ok-push_stmt.ensures))

pub push_do-returns : goal.push_do-returns
push_do-returns t c = both c.in_ok-push_word.ensures (both c.in_ok-push_line_end.ensures (both c.in_ok-push_stmt.ensures (both c.in_ok-push_word-2.ensures (both c.in_ok-push_condition.ensures c.in_ok-push_semicolon.ensures))))

pub push_for-returns : goal.push_for-returns
push_for-returns t c = both c.in_ok-push_word.ensures (both c.in_ok-push_blank.ensures (both c.in_ok-push_head.ensures (both c.in_ok-push_line_end.ensures c.in_ok-push_stmt.ensures)))

pub push_label-returns : goal.push_label-returns
push_label-returns t c = both c.in_ok-push_word.ensures (both c.in_ok-push_mark.ensures (both c.in_ok-push_line_end.ensures c.in_ok-push_stmt.ensures))

pub push_block_stmt-returns : goal.push_block_stmt-returns
push_block_stmt-returns t c = both c.in_ok-push_block.ensures c.in_ok-push_line_end.ensures

pub push_block-returns : goal.push_block-returns
push_block-returns t c = both c.in_ok-push_mark.ensures (both c.in_ok-push_line_end.ensures (both c.in_ok-push_stmts.ensures c.in_ok-push_mark-2.ensures))

pub push_stmts-loop-stmt-preserved : goal.push_stmts-loop-stmt-preserved
push_stmts-loop-stmt-preserved t c =
    each_kept (λ x. stmt_chunks (stmt_view x)) (λ xs. items_chunks (stmts_view xs)) (λ x xs. refl) c.loop-stmt.stmt-index c.args.stmts.now c.stmt-item.result
    (drop_item c.args.stmts.now c.loop-stmt.stmt-index c.stmt-item.result c.loop-stmt-test.true c.stmt-item.is) c.in_ok-push_stmt.ensures ∙ c.loop-stmt.invariant
