use Rattle.std.proofs.Common.{◌≡◌, drop, map}
use Rattle.ec_ctypes.specs.views.Stmts.{stmts_view}
use Rattle.ec_declare.specs.Walking.{walk_stmts}
use Rattle.ec_declare.specs.Seen.{scan_view}
use Rattle.ec_declare.proofs.places.+statements.Given as goal

abbrev pub invariant-stmts-loop-tree : goal.invariant-stmts-loop-tree
invariant-stmts-loop-tree l = walk_stmts (stmts_view (drop l.tree-index l.trees)) (scan_view l.scan) ≡ walk_stmts (stmts_view l.trees) (scan_view l.initial.scan)
