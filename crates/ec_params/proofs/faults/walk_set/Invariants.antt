use Rattle.std.proofs.Common.{drop, map}
use Rattle.ec_ctypes.specs.views.Embedded.{set_item_view}
use Rattle.ec_host_defs.specs.Uses.{each_uses, set_uses}
use Rattle.ec_params.specs.Scenes.{program_of, denoted_of}
use Rattle.ec_params.proofs.Walking.{Onward}
use Rattle.ec_params.proofs.faults.walk_set.Given as goal

abbrev pub invariant-loop-item : goal.invariant-loop-item
invariant-loop-item l = Onward (program_of l.scene) (denoted_of l.scene) (each_uses set_uses (map set_item_view l.items)) (each_uses set_uses (map set_item_view (drop l.item-index l.items))) l.initial.walk l.walk
