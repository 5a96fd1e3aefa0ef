use Rattle.std.proofs.Common.{◌≡◌, drop, map}
use Rattle.ec_ctypes.specs.views.Exprs.{exprs_view, decls_view, declarators_view, dims_view, inits_view}
use Rattle.ec_declare.specs.Walking.{walk_exprs, walk_decls, walk_declarators, walk_dims, walk_inits}
use Rattle.ec_declare.specs.Seen.{scan_view}
use Rattle.ec_declare.proofs.places.+places.Given as goal

abbrev pub invariant-exprs-loop-tree : goal.invariant-exprs-loop-tree
invariant-exprs-loop-tree l = walk_exprs (exprs_view (drop l.tree-index l.trees)) (scan_view l.scan) ≡ walk_exprs (exprs_view l.trees) (scan_view l.initial.scan)

abbrev pub invariant-decls-loop-tree : goal.invariant-decls-loop-tree
invariant-decls-loop-tree l = walk_decls (decls_view (drop l.tree-index l.trees)) (scan_view l.scan) ≡ walk_decls (decls_view l.trees) (scan_view l.initial.scan)

abbrev pub invariant-declarators-loop-tree : goal.invariant-declarators-loop-tree
invariant-declarators-loop-tree l = walk_declarators (declarators_view (drop l.tree-index l.trees)) (scan_view l.scan) ≡ walk_declarators (declarators_view l.trees) (scan_view l.initial.scan)

abbrev pub invariant-dims-loop-tree : goal.invariant-dims-loop-tree
invariant-dims-loop-tree l = walk_dims (dims_view (drop l.tree-index l.trees)) (scan_view l.scan) ≡ walk_dims (dims_view l.trees) (scan_view l.initial.scan)

abbrev pub invariant-inits-loop-tree : goal.invariant-inits-loop-tree
invariant-inits-loop-tree l = walk_inits (inits_view (drop l.tree-index l.trees)) (scan_view l.scan) ≡ walk_inits (inits_view l.trees) (scan_view l.initial.scan)
