use Rattle.std.proofs.Common.{◌≡◌, drop, map}
use Rattle.ec_ctypes.specs.views.Units.{param_view}
use Rattle.ec_declare.specs.Counting.{count_params}
use Rattle.ec_declare.specs.Seen.{count_view}
use Rattle.ec_declare.proofs.counting.params.Given as goal

abbrev pub invariant-loop-tree : goal.invariant-loop-tree
invariant-loop-tree l = count_params (map param_view (drop l.tree-index l.trees)) (count_view l.count) ≡ count_params (map param_view l.trees) (count_view l.initial.count)
