use Rattle.std.proofs.Common.{◌≡◌, ◌++◌, drop, map}
use Rattle.ec_ctypes.specs.views.Embedded.{set_item_view}
use Rattle.ec_typing_defs.specs.statement_parts.References.{of_all, of_set_item}
use Rattle.ec_embedded_rules.specs.parts.Views.{reference_view}
use Rattle.ec_embedded_rules.proofs.parts.gathering.add_set_items.Given as goal

abbrev pub invariant-loop-item : goal.invariant-loop-item
invariant-loop-item l =
    map reference_view l.all ++ of_all of_set_item (map set_item_view (drop l.item-index l.items))
    ≡ map reference_view l.initial.all ++ of_all of_set_item (map set_item_view l.items)
