use Rattle.ec_scopes.specs.Entries.{place_view, type_view}
use Rattle.ec_check.proofs.Loops.{objects_step}
use Rattle.ec_check.proofs.declarations.object_items.Goals as goal

pub loop-item-preserved : goal.loop-item-preserved
loop-item-preserved c =
    objects_step (place_view c.args.at) c.args.is_global c.args.is_varchar (type_view c.args.ty.now) c.args.items.now c.loop-item.item-index c.item-item.result c.loop-item-test.true c.item-item.is c.loop-item.invariant c.in_ok-object_item.ensures
