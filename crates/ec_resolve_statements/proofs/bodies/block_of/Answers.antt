use Rattle.std.proofs.Common.{refl}
use Rattle.ec_ctypes.specs.views.Stmts.{stmts_view}
use Rattle.ec_resolve_forms.specs.declared.resolver.Resolver.{Resolver}
use Rattle.ec_resolving_defs.specs.Statements.{objects_in_all, statements}
use Rattle.ec_resolve_statements.specs.Around.{around_view}
use Rattle.ec_resolve_statements.proofs.Scoping.{block_reached}
use Rattle.ec_resolve_statements.proofs.bodies.block_of.Goals as goal

pub returns : goal.returns
returns c =
    let old = c.args.resolver.now in
    let mid : Resolver = record { checker = old.checker; storage = c.enter_block.new.self } in
    let last = c.statements.new.resolver in
    let new : Resolver = record { checker = last.checker; storage = c.leave_block-objects.new.self } in
    block_reached (objects_in_all (stmts_view c.args.ss.now)) c.in_ok-count.count (statements (around_view c.args.a) (stmts_view c.args.ss.now)) old mid last new
    c.in_ok-count.ensures c.in_ok-outer.ensures.inside refl c.in_ok-outer.ensures.outer c.in_ok-statements.ensures c.leave_block-objects.ensures.outer refl c.leave_block-objects.ensures.sizes
