-- Descriptors in code, in the words of the definitions.
use Rattle.std.specs.Prelude.{List, ℕ, map}
use Rattle.std.specs.Global.{Vec}
use Rattle.ec_meaning_defs.specs.evaluation.State.{Item}
use Rattle.ec_call_defs.specs.Areas.{Areas}
use Rattle.ec_call_defs.specs.Outcomes.{Text}
use Rattle.ec_descriptors.specs.declared.items.AreaItem.{AreaItem}

abbrev pub item_view : AreaItem → Item
item_view it = record { content = it.content; label = it.label; code = it.code }

abbrev pub items_view : List AreaItem → List Item
items_view its = map item_view its

-- a name and the items under it
abbrev pub area_view : Vec ℕ × List AreaItem → Text × List Item
area_view a = (a.0.items, items_view a.1)

abbrev pub areas_view : List (Vec ℕ × List AreaItem) → Areas
areas_view as' = map area_view as'
