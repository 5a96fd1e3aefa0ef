use Rattle.std.proofs.Common.{◌≡◌, ◌++◌, drop, map}
use Rattle.ec_ctypes.specs.views.Embedded.{get_item_view}
use Rattle.ec_expansion_defs.specs.Calls.{kinds_of}
use Rattle.ec_expand_calls.proofs.calls.kinds_got.Given as goal

abbrev pub invariant-loop-item : goal.invariant-loop-item
invariant-loop-item l = l.kinds ++ kinds_of (map get_item_view (drop l.item-index l.item-items)) ≡ kinds_of (map get_item_view l.items)
