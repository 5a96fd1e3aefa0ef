use Rattle.std.proofs.Common.{drop, map}
use Rattle.ec_ctypes.specs.views.Embedded.{set_item_view}
use Rattle.ec_host_defs.specs.Bound.{each_of, set_places}
use Rattle.ec_params.specs.Scenes.{program_of, denoted_of}
use Rattle.ec_params.proofs.Adding.{Onward}
use Rattle.ec_params.proofs.lists.add_set.Given as goal

abbrev pub invariant-loop-item : goal.invariant-loop-item
invariant-loop-item l = Onward (denoted_of l.scene) l.initial.at l.at l.initial.places l.places (each_of (set_places (program_of l.scene)) (map set_item_view l.items)) (each_of (set_places (program_of l.scene)) (map set_item_view (drop l.item-index l.items)))
