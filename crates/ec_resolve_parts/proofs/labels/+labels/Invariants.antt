use Rattle.std.proofs.Common.{◌≡◌, drop}
use Rattle.ec_ctypes.specs.views.Stmts.{stmts_view}
use Rattle.ec_typing_defs.specs.Statements.{labels_in_all}
use Rattle.ec_resolve_parts.proofs.labels.+labels.Given as goal

abbrev pub invariant-add_all_labels-loop-s : goal.invariant-add_all_labels-loop-s
invariant-add_all_labels-loop-s l = labels_in_all (stmts_view (drop l.s-index l.ss)) l.labels ≡ labels_in_all (stmts_view l.ss) l.fn.labels
