use Rattle.std.proofs.Common.{◌∙◌, [], ◌∷◌, ◌++◌, ap, refl}
use Rattle.ec_ctypes.specs.views.Exprs.{expr_view, expr_option_view}
use Rattle.ec_ctypes.specs.views.Stmts.{stmt_view, stmts_view, stmt_option_view}
use Rattle.ec_resolve_forms.specs.declared.resolver.Resolver.{Resolver}
use Rattle.ec_resolving_defs.specs.Statements.{objects_in_all, scoped, statements, with_sizes}
use Rattle.ec_resolving_defs.specs.Storage.{in_block}
use Rattle.ec_scopes.specs.Entries.{place_view}
use Rattle.ec_resolve_statements.specs.Around.{around_view}
use Rattle.ec_resolve_statements.specs.Scopes.{if_parts, while_parts, do_parts, for_loop}
use Rattle.ec_resolve_statements.proofs.Loops.{stmts_step, stmts_done}
use Rattle.ec_resolve_statements.proofs.Scoping.{scoped_reached, block_reached, made_reached}
use Rattle.ec_resolve_statements.proofs.walk.+statements.Goals as goal

pub statements_within-loop-s-preserved : goal.statements_within-loop-s-preserved
statements_within-loop-s-preserved t c =
    stmts_step c.loop-s.resolver (around_view c.args.a) c.args.ss.now c.loop-s.s-index c.s-item.result c.loop-s.statements c.push.new.self c.in_ok-made.made c.loop-s-test.true c.s-item.is
    (c.in_ok-push.ensures.ok ∙ ap (λ s. c.loop-s.statements ++ s ∷ []) c.into_inner.ensures) c.loop-s.invariant c.in_ok-made.ensures

pub statements_within-returns : goal.statements_within-returns
statements_within-returns t c = stmts_done c.loop-s.resolver (around_view c.args.a) c.args.ss.now c.loop-s.s-index c.loop-s.statements c.loop-s-test.false c.loop-s.invariant

pub block_within-returns : goal.block_within-returns
block_within-returns t c =
    let n = objects_in_all (stmts_view c.args.ss.now) in
    let m = scoped (statements (around_view c.args.a) (stmts_view c.args.ss.now)) in
    let old = c.args.resolver.now in
    let mid : Resolver = record { checker = old.checker; storage = c.enter_block.new.self } in
    let last = c.all_scoped.new.resolver in
    let new : Resolver = record { checker = last.checker; storage = c.leave_block-objects.new.self } in
    made_reached (in_block n m) with_sizes old
    (block_reached n c.in_ok-count.count m old mid last new c.in_ok-count.ensures c.in_ok-outer.ensures.inside refl c.in_ok-outer.ensures.outer c.in_ok-statements.ensures c.leave_block-objects.ensures.outer refl c.leave_block-objects.ensures.sizes)
    c.in_ok-made.ensures

pub if_within-returns : goal.if_within-returns
if_within-returns t c =
    let old = c.args.resolver.now in
    let mid : Resolver = record { checker = c.enter.new.self; storage = old.storage } in
    let last = c.if_parts.new.resolver in
    let new : Resolver = record { checker = c.leave.new.self; storage = last.storage } in
    scoped_reached (if_parts (around_view c.args.a) (place_view c.args.at) (expr_view c.args.e.now) (stmt_view c.args.s.now) (stmt_option_view c.args.other.now)) old mid last new
    c.in_ok-enter.ensures refl c.in_ok-made.ensures c.leave.ensures refl

pub while_within-returns : goal.while_within-returns
while_within-returns t c =
    let old = c.args.resolver.now in
    let mid : Resolver = record { checker = c.enter.new.self; storage = old.storage } in
    let last = c.while_parts.new.resolver in
    let new : Resolver = record { checker = c.leave.new.self; storage = last.storage } in
    scoped_reached (while_parts (around_view c.args.a) (place_view c.args.at) (expr_view c.args.e.now) (stmt_view c.args.s.now)) old mid last new
    c.in_ok-enter.ensures refl c.in_ok-made.ensures c.leave.ensures refl

pub do_within-returns : goal.do_within-returns
do_within-returns t c =
    let old = c.args.resolver.now in
    let mid : Resolver = record { checker = c.enter.new.self; storage = old.storage } in
    let last = c.do_parts.new.resolver in
    let new : Resolver = record { checker = c.leave.new.self; storage = last.storage } in
    scoped_reached (do_parts (around_view c.args.a) (place_view c.args.at) (stmt_view c.args.s.now) (expr_view c.args.e.now)) old mid last new
    c.in_ok-enter.ensures refl c.in_ok-made.ensures c.leave.ensures refl

pub for_within-returns : goal.for_within-returns
for_within-returns t c =
    let old = c.args.resolver.now in
    let mid : Resolver = record { checker = c.enter.new.self; storage = old.storage } in
    let last = c.for_loop.new.resolver in
    let new : Resolver = record { checker = c.leave.new.self; storage = last.storage } in
    scoped_reached (for_loop (around_view c.args.a) (place_view c.args.at) (expr_option_view c.args.parts.now.first) (expr_option_view c.args.parts.now.condition) (expr_option_view c.args.parts.now.step) (stmt_view c.args.s.now)) old mid last new
    c.in_ok-enter.ensures refl c.in_ok-made.ensures c.leave.ensures refl
