use Rattle.ec_scopes.specs.Entries.{place_view, type_view}
use Rattle.ec_resolve_statements.proofs.DeclaratorLoops.{items_step}
use Rattle.ec_resolve_statements.proofs.declarations.object_items.Goals as goal

pub loop-item-preserved : goal.loop-item-preserved
loop-item-preserved c =
    items_step c.loop-item.resolver (place_view c.args.at) c.args.is_global c.args.is_varchar (type_view c.args.ty.now) c.args.items.now c.loop-item.item-index c.item-item.result c.loop-item.statements c.add_made.new.statements c.in_ok-made.made c.loop-item-test.true c.item-item.is c.in_ok-add_made.ensures c.loop-item.invariant c.in_ok-made.ensures
