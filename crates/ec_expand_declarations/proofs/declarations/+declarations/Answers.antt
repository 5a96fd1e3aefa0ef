use Rattle.std.proofs.Common.{◌≡◌, [], ◌+◌, drop, rules, arith, sym, ap, ◌∙◌}
use Rattle.std.proofs.Math.ListN.{drop_of_length-le}
use Rattle.ec_ctypes.proofs.Shapes.{drop_item}
use Rattle.ec_ctypes.specs.declared.tree.decl.Declarator.{out-Declarator, roll-Declarator, the_lemmas as declarator_lemmas}
use Rattle.ec_ctypes.specs.trees.Exprs.{declarator}
use Rattle.ec_ctypes.specs.views.Exprs.{decl_view, decls_view, declarator_view, declarators_view, dims_view, init_option_view}
use Rattle.ec_expansion_defs.specs.Declarations as written
use Rattle.ec_expansion_defs.specs.Declarations.{joined_decls}
use Rattle.ec_expand_declarations.proofs.Members.{exprs_done, inits_done, declarators_done, dims_done, plain_pushed, varchar_step, member_step, members_end, varchars_end}
use Rattle.ec_expand_declarations.proofs.declarations.+declarations.Goals as goal

pub written_exprs-returns : goal.written_exprs-returns
written_exprs-returns t c =
    let r : drop c.loop-expr.expr-index c.as_slice-expr-items.result.now ≡ [] = drop_of_length-le c.as_slice-expr-items.result.now (omega (arith, c.loop-expr-test.false)) in
    exprs_done c.args.line.0 c.loop-expr.list c.args.exprs.now (drop c.loop-expr.expr-index c.as_slice-expr-items.result.now) r c.loop-expr.invariant

pub written_inits-returns : goal.written_inits-returns
written_inits-returns t c =
    let r : drop c.loop-init.init-index c.as_slice-init-items.result.now ≡ [] = drop_of_length-le c.as_slice-init-items.result.now (omega (arith, c.loop-init-test.false)) in
    inits_done c.args.line.0 c.loop-init.list c.args.inits.now (drop c.loop-init.init-index c.as_slice-init-items.result.now) r c.loop-init.invariant

pub written_declarators-returns : goal.written_declarators-returns
written_declarators-returns t c =
    let r : drop c.loop-item.item-index c.as_slice-item-items.result.now ≡ [] = drop_of_length-le c.as_slice-item-items.result.now (omega (arith, c.loop-item-test.false)) in
    declarators_done c.args.line.0 c.loop-item.list c.args.items.now (drop c.loop-item.item-index c.as_slice-item-items.result.now) r c.loop-item.invariant

pub written_dims-returns : goal.written_dims-returns
written_dims-returns t c =
    let r : drop c.loop-dim.dim-index c.as_slice-dim-items.result.now ≡ [] = drop_of_length-le c.as_slice-dim-items.result.now (omega (arith, c.loop-dim-test.false)) in
    dims_done c.args.line.0 c.loop-dim.list c.args.dims.now (drop c.loop-dim.dim-index c.as_slice-dim-items.result.now) r c.loop-dim.invariant

pub written_members-returns : goal.written_members-returns
written_members-returns t c =
    let r : drop c.loop-member.member-index c.as_slice-member-items.result.now ≡ [] = drop_of_length-le c.as_slice-member-items.result.now (omega (arith, c.loop-member-test.false)) in
    members_end c.args.line.0 c.loop-member.list (drop c.loop-member.member-index c.as_slice-member-items.result.now) (written.written_members c.args.line.0 (decls_view c.args.members.now)) r c.loop-member.invariant

pub written_members-loop-member-preserved : goal.written_members-loop-member-preserved
written_members-loop-member-preserved t c =
    member_step c.args.line.0 c.loop-member.list c.push_member.new.list c.member-item.result (drop (c.loop-member.member-index + 1) c.as_slice-member-items.result.now) (drop c.loop-member.member-index c.as_slice-member-items.result.now)
    (written.written_members c.args.line.0 (decls_view c.args.members.now)) c.in_ok-push_member.ensures
    (drop_item c.as_slice-member-items.result.now c.loop-member.member-index c.member-item.result c.loop-member-test.true c.member-item.is) c.loop-member.invariant

pub push_varchars-returns : goal.push_varchars-returns
push_varchars-returns t c =
    let r : drop c.loop-item.item-index c.as_slice-item-items.result.now ≡ [] = drop_of_length-le c.as_slice-item-items.result.now (omega (arith, c.loop-item-test.false)) in
    varchars_end c.args.line.0 c.loop-item.list (drop c.loop-item.item-index c.as_slice-item-items.result.now)
    (joined_decls (decls_view c.args.list.now) (written.varchar_members_of c.args.line.0 (declarators_view c.args.items.now))) r c.loop-item.invariant

pub push_varchars-loop-item-preserved : goal.push_varchars-loop-item-preserved
push_varchars-loop-item-preserved t c =
    varchar_step c.args.line.0 c.loop-item.list c.push.new.self c.in_ok-varchar_decl.field-0 c.item-item.result c.in_ok-item.item
    (drop (c.loop-item.item-index + 1) c.as_slice-item-items.result.now) (drop c.loop-item.item-index c.as_slice-item-items.result.now)
    (joined_decls (decls_view c.args.list.now) (written.varchar_members_of c.args.line.0 (declarators_view c.args.items.now)))
    (search rules) c.in_ok-varchar_decl.ensures c.in_ok-item.ensures
    (drop_item c.as_slice-item-items.result.now c.loop-item.item-index c.item-item.result c.loop-item-test.true c.item-item.is) c.loop-item.invariant

pub written_declarator-returns : goal.written_declarator-returns
written_declarator-returns t c =
    let e : declarator_view c.args.item.now ≡ declarator (out-Declarator c.args.item.now).stars (out-Declarator c.args.item.now).name (dims_view (out-Declarator c.args.item.now).dims) (init_option_view (out-Declarator c.args.item.now).init) = search (rules, declarator_lemmas) in
    let l : declarator_view (roll-Declarator record { stars = c.args.item.now.stars; name = c.in_ok-copy_name.field-0; dims = c.in_ok-written_dims.field-0; init = c.in_ok-written_initializer.field-0 }) ≡ declarator (out-Declarator c.args.item.now).stars c.in_ok-copy_name.field-0 (dims_view c.in_ok-written_dims.field-0) (init_option_view c.in_ok-written_initializer.field-0) = search (rules, declarator_lemmas) in
    l ∙ (λ i. declarator (out-Declarator c.args.item.now).stars (c.in_ok-copy_name.ensures i) (c.in_ok-written_dims.ensures i) (c.in_ok-written_initializer.ensures i))
    ∙ ap (written.written_declarator c.args.line.0) (sym e)

pub push_member-returns-in_ok-push : goal.push_member-returns-in_ok-push
push_member-returns-in_ok-push t c =
    plain_pushed c.args.line.0 c.args.list.now c.push.new.self c.in_ok-without_varchars.field-0 (decl_view c.args.member.now) (search rules) c.in_ok-without_varchars.ensures
    (sym c.is_varchar.ensures ∙ c.if-is_varchar.false)
