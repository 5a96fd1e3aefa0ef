use Rattle.std.proofs.Common.{◌≡◌, List, ◌++◌}
use Rattle.ec_call_defs.specs.Areas.{raised_to}
use Rattle.ec_descriptors.specs.declared.items.AreaItem.{AreaItem}
use Rattle.ec_descriptors.specs.Views.{items_view}
use Rattle.ec_descriptors.proofs.Counts.{more}
use Rattle.ec_descriptors.proofs.items.raise.Given as goal

abbrev pub invariant-loop-left : goal.invariant-loop-left
invariant-loop-left l =
    (items_view l.items ++ more l.left ≡ raised_to l.count (items_view l.initial.items))
    × ((new : List AreaItem) × (l.items ≡ l.initial.items ++ new))

abbrev pub decreases-loop-left : goal.decreases-loop-left
decreases-loop-left l = l.left
