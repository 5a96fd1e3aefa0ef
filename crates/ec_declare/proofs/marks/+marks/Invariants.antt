use Rattle.std.proofs.Common.{◌≡◌, drop}
use Rattle.ec_ctypes.specs.views.Stmts.{stmts_view}
use Rattle.ec_host_defs.specs.sections.Places.{later, last_mark_among}
use Rattle.ec_declare.proofs.marks.+marks.Given as goal

abbrev pub invariant-last_mark_among-loop-tree : goal.invariant-last_mark_among-loop-tree
invariant-last_mark_among-loop-tree l = later l.last (last_mark_among (stmts_view (drop l.tree-index l.trees))) ≡ last_mark_among (stmts_view l.trees)
