use Rattle.std.proofs.Common.{◌≡◌, ◌++◌, drop}
use Rattle.ec_call_defs.specs.Areas.{contents}
use Rattle.ec_descriptors.specs.Views.{items_view}
use Rattle.ec_descriptors.proofs.items.with_contents.Given as goal

abbrev pub invariant-loop-item : goal.invariant-loop-item
invariant-loop-item l = l.all ++ contents (items_view (drop l.item-index l.items)) ≡ l.fn.params ++ contents (items_view l.items)
