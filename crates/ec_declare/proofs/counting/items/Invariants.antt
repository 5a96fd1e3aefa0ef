use Rattle.std.proofs.Common.{◌≡◌, drop, map}
use Rattle.ec_ctypes.specs.views.Exprs.{declarators_view}
use Rattle.ec_declare.specs.Counting.{count_items}
use Rattle.ec_declare.specs.Seen.{count_view}
use Rattle.ec_declare.proofs.counting.items.Given as goal

abbrev pub invariant-loop-item : goal.invariant-loop-item
invariant-loop-item l = count_items l.section (declarators_view (drop l._item-index l.trees)) (count_view l.count) ≡ count_items l.section (declarators_view l.trees) (count_view l.initial.count)
