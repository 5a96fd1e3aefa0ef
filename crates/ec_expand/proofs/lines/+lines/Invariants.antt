use Rattle.std.proofs.Common.{◌≡◌, drop}
use Rattle.ec_ctypes.specs.views.Stmts.{stmts_view}
use Rattle.ec_expansion_defs.specs.Lines as lines
use Rattle.ec_expand.proofs.lines.+lines.Given as goal

abbrev pub invariant-line_after_all-loop-item : goal.invariant-line_after_all-loop-item
invariant-line_after_all-loop-item l = lines.line_after_all l.line (stmts_view (drop l.item-index l.item-items)) ≡ lines.line_after_all l.initial.line (stmts_view l.items)
