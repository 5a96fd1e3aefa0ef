use Rattle.std.proofs.Common.{◌≡◌, drop, map}
use Rattle.ec_ctypes.specs.views.Stmts.{stmts_view}
use Rattle.ec_declare.specs.Counting.{count_stmts}
use Rattle.ec_declare.specs.Seen.{count_view}
use Rattle.ec_declare.proofs.counting.+counts.Given as goal

abbrev pub invariant-stmts-loop-tree : goal.invariant-stmts-loop-tree
invariant-stmts-loop-tree l = count_stmts (stmts_view (drop l.tree-index l.trees)) (count_view l.count) ≡ count_stmts (stmts_view l.trees) (count_view l.initial.count)
