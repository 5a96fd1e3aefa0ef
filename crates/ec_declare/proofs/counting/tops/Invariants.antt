use Rattle.std.proofs.Common.{◌≡◌, drop, map}
use Rattle.ec_ctypes.specs.views.Units.{top_view}
use Rattle.ec_declare.specs.Counting.{count_tops}
use Rattle.ec_declare.specs.Seen.{count_view}
use Rattle.ec_declare.proofs.counting.tops.Given as goal

abbrev pub invariant-loop-tree : goal.invariant-loop-tree
invariant-loop-tree l = count_tops (map top_view (drop l.tree-index l.trees)) (count_view l.count) ≡ count_tops (map top_view l.trees) (count_view l.initial.count)
