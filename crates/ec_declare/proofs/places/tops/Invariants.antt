use Rattle.std.proofs.Common.{◌≡◌, drop, map}
use Rattle.ec_ctypes.specs.views.Units.{top_view}
use Rattle.ec_declare.specs.Walking.{walk_tops}
use Rattle.ec_declare.specs.Seen.{scan_view}
use Rattle.ec_declare.proofs.places.tops.Given as goal

abbrev pub invariant-loop-tree : goal.invariant-loop-tree
invariant-loop-tree l = walk_tops (map top_view (drop l.tree-index l.trees)) (scan_view l.scan) ≡ walk_tops (map top_view l.trees) (scan_view l.initial.scan)
