use Rattle.std.proofs.Common.{◌≡◌, ◌∷◌, ◌∙◌, refl, sym, subst, rules}
use Rattle.std.specs.Prelude.{true, false, Some, None}
use Rattle.ec_ctypes.specs.declared.tree.expr.Expr.{the_lemmas}
use Rattle.ec_ctypes.specs.declared.tree.decl.Decl.{out-Decl, the_lemmas as decl_lemmas}
use Rattle.ec_ctypes.specs.declared.tree.decl.Declarator.{the_lemmas as declarator_lemmas}
use Rattle.ec_ctypes.specs.trees.Exprs.{binary, assign, bump, call, call_other, index, member, arrow, cast, size_type, size_expr, decl, declarator}
use Rattle.ec_ctypes.specs.views.Exprs.{expr_view, exprs_view, base_view, decl_view, decls_view, declarator_view, declarators_view, dims_view, init_view, inits_view, init_option_view}
use Rattle.ec_writing_defs.specs.Chunks.{blank}
use Rattle.ec_writing_defs.specs.Expressions.{expr_chunks, dims_chunks, init_chunks, declarator_chunks, decl_chunks, members_chunks}
use Rattle.ec_cwrite.specs.Lists.{comma_chunks, lead_chunks, dim_part}
use Rattle.ec_cwrite.proofs.Remains.{exprs_from, inits_from, declarators_from}
use Rattle.ec_cwrite.specs.Writes.{Writes}
use Rattle.ec_cwrite.proofs.Lists.{each_kept, list_kept, drop_item, at_told, mark_told, dim_told}
use Rattle.ec_cwrite.proofs.Writing.{both}
use Rattle.ec_cwrite.proofs.expressions.+exprs.Goals.{push_dims-in-Some+in_ok-push_length-in-Some, push_dims-in-None+in_ok-push_open_length-in-None}
use Rattle.ec_cwrite.proofs.expressions.+exprs.Goals as goal

pub push_arguments-returns : goal.push_arguments-returns
push_arguments-returns t c = both c.in_ok-push_mark.ensures (both c.in_ok-push_list.ensures c.in_ok-push_mark-2.ensures)

pub push_in_parens-returns : goal.push_in_parens-returns
push_in_parens-returns t c = both c.in_ok-push_mark.ensures (both c.in_ok-push_expr.ensures c.in_ok-push_mark-2.ensures)

pub push_list-loop-at-preserved : goal.push_list-loop-at-preserved
push_list-loop-at-preserved t c =
    list_kept comma_chunks (λ x. expr_chunks (expr_view x)) (λ k xs. exprs_from k (exprs_view xs)) (λ x xs. refl) (λ k x xs. refl) c.loop-at.at c.args.exprs.now c.index-exprs-at.result
    (drop_item c.args.exprs.now c.loop-at.at c.index-exprs-at.result c.loop-at-test.true c.index-exprs-at.is) c.in_ok-push_comma.ensures c.in_ok-push_expr.ensures ∙ c.loop-at.invariant

pub push_inits-loop-at-preserved : goal.push_inits-loop-at-preserved
push_inits-loop-at-preserved t c =
    list_kept comma_chunks (λ x. init_chunks (init_view x)) (λ k xs. inits_from k (inits_view xs)) (λ x xs. refl) (λ k x xs. refl) c.loop-at.at c.args.inits.now c.index-inits-at.result
    (drop_item c.args.inits.now c.loop-at.at c.index-inits-at.result c.loop-at-test.true c.index-inits-at.is) c.in_ok-push_comma.ensures c.in_ok-push_init.ensures ∙ c.loop-at.invariant

pub push_declarators-loop-at-preserved : goal.push_declarators-loop-at-preserved
push_declarators-loop-at-preserved t c =
    list_kept lead_chunks (λ x. declarator_chunks (declarator_view x)) (λ k xs. declarators_from k (declarators_view xs)) (λ x xs. refl) (λ k x xs. refl) c.loop-at.at c.args.items.now c.index-items-at.result
    (drop_item c.args.items.now c.loop-at.at c.index-items-at.result c.loop-at-test.true c.index-items-at.is) c.in_ok-push_lead.ensures c.in_ok-push_declarator.ensures ∙ c.loop-at.invariant

pub push_members-loop-member-preserved : goal.push_members-loop-member-preserved
push_members-loop-member-preserved t c =
    each_kept (λ x. blank ∷ decl_chunks (decl_view x)) (λ xs. members_chunks (decls_view xs)) (λ x xs. refl) c.loop-member.member-index c.args.members.now c.member-item.result
    (drop_item c.args.members.now c.loop-member.member-index c.member-item.result c.loop-member-test.true c.member-item.is) (both c.in_ok-push_blank.ensures c.in_ok-push_decl.ensures) ∙ c.loop-member.invariant

pub push_dims-loop-dim-preserved : goal.push_dims-loop-dim-preserved
push_dims-loop-dim-preserved t c =
    each_kept dim_part (λ xs. dims_chunks (dims_view xs)) (λ x xs. refl) c.loop-dim.dim-index c.args.dims.now c.dim-item.result
    (drop_item c.args.dims.now c.loop-dim.dim-index c.dim-item.result c.loop-dim-test.true c.dim-item.is)
    (elim c.match-dim.branch [
      | push_dims-in-Some+in_ok-push_length-in-Some w ↦ dim_told c.dim-item.result (Some w.in-Some.length) w.in-Some.is w.out-is w.in_ok-push_length-in-Some.ensures
      | push_dims-in-None+in_ok-push_open_length-in-None w ↦ dim_told c.dim-item.result None w.in-None.is w.out-is w.in_ok-push_open_length-in-None.ensures
    ]) ∙ c.loop-dim.invariant

pub push_length-returns : goal.push_length-returns
push_length-returns t c = both c.in_ok-push_mark.ensures (both c.in_ok-push_at.ensures c.in_ok-push_mark-2.ensures)

pub push_type-returns : goal.push_type-returns
push_type-returns t c = both c.in_ok-push_mark.ensures (both c.in_ok-push_base.ensures (both c.in_ok-push_stars_behind.ensures c.in_ok-push_mark-2.ensures))

pub push_struct-returns : goal.push_struct-returns
push_struct-returns t c = both c.in_ok-push_struct_head.ensures (both c.in_ok-push_blank.ensures (both c.in_ok-push_mark.ensures (both c.in_ok-push_members.ensures (both c.in_ok-push_blank-2.ensures c.in_ok-push_mark-2.ensures))))

pub push_decl-returns : goal.push_decl-returns
push_decl-returns t c =
    let e : decl_view c.args.decl.now ≡ decl (base_view (out-Decl c.args.decl.now).base) (declarators_view c.as_slice.result.now) (out-Decl c.args.decl.now).section (out-Decl c.args.decl.now).line = search (rules, decl_lemmas) in
    subst (λ v. Writes c.args.out.now c.push_mark.new.out (decl_chunks v)) (sym e) (both c.in_ok-push_base.ensures (both c.in_ok-push_declarators.ensures c.in_ok-push_mark.ensures))

pub push_declarator-returns : goal.push_declarator-returns
push_declarator-returns t c =
    let e : declarator_view c.args.item.now ≡ declarator c.args.item.now.stars c.as_slice.result.now (dims_view c.as_slice-2.result.now) (init_option_view c.args.item.now.init) = search (rules, declarator_lemmas) in
    subst (λ v. Writes c.args.out.now c.push_initializer.new.out (declarator_chunks v)) (sym e) (both c.in_ok-push_stars.ensures (both (both c.in_ok-push_word.ensures c.in_ok-push_dims.ensures) c.in_ok-push_initializer.ensures))

pub push_braces-returns : goal.push_braces-returns
push_braces-returns t c = both c.in_ok-push_mark.ensures (both c.in_ok-push_inits.ensures c.in_ok-push_mark-2.ensures)

pub push_expr-returns-in_ok-push_at-in-Binary-2 : goal.push_expr-returns-in_ok-push_at-in-Binary-2
push_expr-returns-in_ok-push_at-in-Binary-2 t c =
    let e : expr_view c.args.expr.now ≡ binary c.in-Binary.op (expr_view c.get-in-Binary.result.now) (expr_view c.get-in-Binary-2.result.now) = search (rules, the_lemmas) in
    subst (λ v. Writes c.args.out.now c.push_at-in-Binary-2.new.out (expr_chunks v)) (sym e) (both (at_told (expr_view c.get-in-Binary.result.now) c.rank_height.ensures c.in_ok-push_at-in-Binary.ensures) (both c.in_ok-push_blank-in-Binary.ensures (both (mark_told c.mark_of.ensures c.in_ok-push_mark-in-Binary.ensures) (both c.in_ok-push_blank-in-Binary-2.ensures (at_told (expr_view c.get-in-Binary-2.result.now) c.right_height.ensures c.in_ok-push_at-in-Binary-2.ensures)))))

pub push_expr-returns-in_ok-push_expr-in-Assign : goal.push_expr-returns-in_ok-push_expr-in-Assign
push_expr-returns-in_ok-push_expr-in-Assign t c =
    let e : expr_view c.args.expr.now ≡ assign c.in-Assign.op (expr_view c.get-in-Assign.result.now) (expr_view c.get-in-Assign-2.result.now) = search (rules, the_lemmas) in
    subst (λ v. Writes c.args.out.now c.push_expr.new.out (expr_chunks v)) (sym e) (both c.in_ok-push_at-in-Assign.ensures (both c.in_ok-push_blank-in-Assign.ensures (both (mark_told c.mark_of_assignment.ensures c.in_ok-push_mark-in-Assign.ensures) (both c.in_ok-push_blank-in-Assign-2.ensures (c.in_ok-push_expr-in-Assign.ensures)))))

pub push_expr-returns-in_ok-push_at-in-Bump : goal.push_expr-returns-in_ok-push_at-in-Bump
push_expr-returns-in_ok-push_at-in-Bump t c =
    let e : expr_view c.args.expr.now ≡ bump true c.in-Bump.up (expr_view c.get-then-before.result.now) = search (rules, the_lemmas) in
    subst (λ v. Writes c.args.out.now c.push_at-then-before.new.out (expr_chunks v)) (sym e) (both (mark_told c.mark_of_bump.ensures c.in_ok-push_mark-in-Bump.ensures) (c.in_ok-push_at-in-Bump.ensures))

pub push_expr-returns-in_ok-push_mark-in-Bump-2 : goal.push_expr-returns-in_ok-push_mark-in-Bump-2
push_expr-returns-in_ok-push_mark-in-Bump-2 t c =
    let e : expr_view c.args.expr.now ≡ bump false c.in-Bump.up (expr_view c.get-else-before.result.now) = search (rules, the_lemmas) in
    subst (λ v. Writes c.args.out.now c.push_mark-else-before.new.out (expr_chunks v)) (sym e) (both c.in_ok-push_at-in-Bump-2.ensures (mark_told c.mark_of_bump-else-before.ensures c.in_ok-push_mark-in-Bump-2.ensures))

pub push_expr-returns-in_ok-push_arguments-in-Call : goal.push_expr-returns-in_ok-push_arguments-in-Call
push_expr-returns-in_ok-push_arguments-in-Call t c =
    let e : expr_view c.args.expr.now ≡ call c.as_slice-in-Call.result.now (exprs_view c.as_slice-in-Call-2.result.now) = search (rules, the_lemmas) in
    subst (λ v. Writes c.args.out.now c.push_arguments.new.out (expr_chunks v)) (sym e) (both c.in_ok-push_word-in-Call.ensures (c.in_ok-push_arguments-in-Call.ensures))

pub push_expr-returns-in_ok-push_arguments-in-CallOther : goal.push_expr-returns-in_ok-push_arguments-in-CallOther
push_expr-returns-in_ok-push_arguments-in-CallOther t c =
    let e : expr_view c.args.expr.now ≡ call_other (expr_view c.get-in-CallOther.result.now) (exprs_view c.as_slice-in-CallOther.result.now) = search (rules, the_lemmas) in
    subst (λ v. Writes c.args.out.now c.push_arguments-in-CallOther.new.out (expr_chunks v)) (sym e) (both c.in_ok-push_at-in-CallOther.ensures (c.in_ok-push_arguments-in-CallOther.ensures))

pub push_expr-returns-in_ok-push_mark-in-Index-2 : goal.push_expr-returns-in_ok-push_mark-in-Index-2
push_expr-returns-in_ok-push_mark-in-Index-2 t c =
    let e : expr_view c.args.expr.now ≡ index (expr_view c.get-in-Index.result.now) (expr_view c.get-in-Index-2.result.now) = search (rules, the_lemmas) in
    subst (λ v. Writes c.args.out.now c.push_mark-in-Index-2.new.out (expr_chunks v)) (sym e) (both c.in_ok-push_at-in-Index.ensures (both c.in_ok-push_mark-in-Index.ensures (both c.in_ok-push_expr-in-Index.ensures (c.in_ok-push_mark-in-Index-2.ensures))))

pub push_expr-returns-in_ok-push_word-in-Member : goal.push_expr-returns-in_ok-push_word-in-Member
push_expr-returns-in_ok-push_word-in-Member t c =
    let e : expr_view c.args.expr.now ≡ member (expr_view c.get-in-Member.result.now) c.as_slice-in-Member.result.now = search (rules, the_lemmas) in
    subst (λ v. Writes c.args.out.now c.push_word-in-Member.new.out (expr_chunks v)) (sym e) (both c.in_ok-push_before_dot-in-Member.ensures (both c.in_ok-push_mark-in-Member.ensures (c.in_ok-push_word-in-Member.ensures)))

pub push_expr-returns-in_ok-push_word-in-Arrow : goal.push_expr-returns-in_ok-push_word-in-Arrow
push_expr-returns-in_ok-push_word-in-Arrow t c =
    let e : expr_view c.args.expr.now ≡ arrow (expr_view c.get-in-Arrow.result.now) c.as_slice-in-Arrow.result.now = search (rules, the_lemmas) in
    subst (λ v. Writes c.args.out.now c.push_word-in-Arrow.new.out (expr_chunks v)) (sym e) (both c.in_ok-push_at-in-Arrow.ensures (both c.in_ok-push_mark-in-Arrow.ensures (c.in_ok-push_word-in-Arrow.ensures)))

pub push_expr-returns-in_ok-push_at-in-Cast : goal.push_expr-returns-in_ok-push_at-in-Cast
push_expr-returns-in_ok-push_at-in-Cast t c =
    let e : expr_view c.args.expr.now ≡ cast (base_view c.get-in-Cast.result.now) c.in-Cast.stars (expr_view c.get-in-Cast-2.result.now) = search (rules, the_lemmas) in
    subst (λ v. Writes c.args.out.now c.push_at-in-Cast.new.out (expr_chunks v)) (sym e) (both c.in_ok-push_type-in-Cast.ensures (c.in_ok-push_at-in-Cast.ensures))

pub push_expr-returns-in_ok-push_type-in-SizeType : goal.push_expr-returns-in_ok-push_type-in-SizeType
push_expr-returns-in_ok-push_type-in-SizeType t c =
    let e : expr_view c.args.expr.now ≡ size_type (base_view c.get-in-SizeType.result.now) c.in-SizeType.stars = search (rules, the_lemmas) in
    subst (λ v. Writes c.args.out.now c.push_type-in-SizeType.new.out (expr_chunks v)) (sym e) (both c.in_ok-push_word-in-SizeType.ensures (c.in_ok-push_type-in-SizeType.ensures))

pub push_expr-returns-in_ok-push_at-in-SizeExpr : goal.push_expr-returns-in_ok-push_at-in-SizeExpr
push_expr-returns-in_ok-push_at-in-SizeExpr t c =
    let e : expr_view c.args.expr.now ≡ size_expr (expr_view c.get-in-SizeExpr.result.now) = search (rules, the_lemmas) in
    subst (λ v. Writes c.args.out.now c.push_at-in-SizeExpr.new.out (expr_chunks v)) (sym e) (both c.in_ok-push_word-in-SizeExpr.ensures (both c.in_ok-push_blank-in-SizeExpr.ensures (c.in_ok-push_at-in-SizeExpr.ensures)))
